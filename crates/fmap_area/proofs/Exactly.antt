-- The tests on an area, or on two, fail exactly when document 01 says.
use Prim.Native.Nat.{ℕ, zero, suc, ◌+◌, ◌-◌, ◌≤◌, ◌<◌}
use native.Mathlib.Omega.{arith}
use native.Mathlib.Decide.{dec_lt}
use mathlib.Core.Path.{◌≡◌, refl, sym, ap, subst, ◌∙◌}
use mathlib.Core.Logic.{◌⊎◌, inl, inr, ◌↔◌}
use mathlib.Core.Bool.{Bool, true, false, cond, not, true≢false}
use mathlib.Core.List.{List, [], ◌∷◌, ◌++◌}
use lib.ListN.{length, take, drop, get_or, length-take, length-drop, take-append-drop, get_or-eq_default}
use lib.Seq.{get_or-drop, take-suc}
use lib.Dec.{leb}
use borrow.Author.Tests.{leb-true, leb-false, le-leb, eqb-true, eq-eqb, not-true}
use Rattle.bytes_read.specs.Tests.{all_true}
use Rattle.bytes_read.specs.Bytes.{eq_bytes}
use Rattle.bytes_read.proofs.Passing.{passes}
use Rattle.bytes_read.proofs.Tested.{or_false}
use Rattle.bytes_read.proofs.SameBytes.{eq_true, eq_refl}
use Rattle.bytes_read.specs.Printable.{is_printable, printable_prefix}
use Rattle.bytes_read.proofs.Printable.{prefix_take}
use Rattle.region.specs.Table.{FirstRowMet}
use Rattle.region.specs.Refusals.{first_failed}
use Rattle.region.proofs.Tables.{Fails, Renders, no_more, both_render, exactly, later_row, said, last_fails, either, one_fails}
use Rattle.cbfs_types.specs.declared.Area.{Area}
use Rattle.fmap_area.specs.Names.{area_name_tests, area_name_fits, area_name_of, area_name_at}
use Rattle.fmap_area.specs.Area.{Disjoint, area_at, end_of, area_has_name, same_name, extent_fits, disjoint, contains, cross, fmap_name, fmap_area_tests}
use Rattle.fmap_area.specs.Area.{contains_map}
use Rattle.fmap_area.specs.Area.{area_tests}
use Rattle.fmap_area.specs.Table.{offset, size, name_byte, AreaNamed, area_rows, SameName, Cross, FmapArea}
use Rattle.fmap_area.proofs.Naming.{within}
use Rattle.fmap_area.proofs.Facts.{fmap-area, no_byte_shared, within as holding}

-- A byte of a name.

printable : (b : ℕ) → is_printable b ≡ true → (0x21 ≤ b) × (b ≤ 0x7E)
printable b e = (leb-true 0x21 b (passes 0 (leb 0x21 b ∷ leb b 0x7E ∷ []) e), leb-true b 0x7E (passes 1 (leb 0x21 b ∷ leb b 0x7E ∷ []) e))

is_printable_lem : (b : ℕ) → (0x21 ≤ b) × (b ≤ 0x7E) → is_printable b ≡ true
is_printable_lem b (h, k) = rw (le-leb 0x21 b h, le-leb b 0x7E k)

not_printable : (b : ℕ) → b ≡ 0 → is_printable b ≡ false
not_printable b e = rw e

-- The bytes of 0x21 to 0x7E at the start, by index.

letters_printed : (f : List ℕ) (j : ℕ) → j < length (printable_prefix f) → is_printable (get_or f j 0) ≡ true
unfolding printable_prefix
letters_printed [] j h = absurd (omega arith)
letters_printed (b ∷ f) j h = go (is_printable b) refl j h (letters_printed f)
  where
    go : (t : Bool) → is_printable b ≡ t → (j : ℕ) → j < length (cond t (b ∷ printable_prefix f) [])
        → ((k : ℕ) → k < length (printable_prefix f) → is_printable (get_or f k 0) ≡ true) → is_printable (get_or (b ∷ f) j 0) ≡ true
    go true e zero l ih = e
    go true e (suc k) l ih = ih k (omega arith)
    go false e k l ih = absurd (omega arith)

printed_length : (n : ℕ) (f : List ℕ) → n < length f → ((j : ℕ) → j < n → is_printable (get_or f j 0) ≡ true) → is_printable (get_or f n 0) ≡ false
    → length (printable_prefix f) ≡ n
unfolding printable_prefix
printed_length n [] h l z = absurd (omega arith)
printed_length zero (b ∷ f) h l z = rw z
printed_length (suc n) (b ∷ f) h l z =
    let y : is_printable b ≡ true = l 0 (omega arith) in
    rw y (ap suc (printed_length n f (omega arith) (λ j k. l (suc j) (omega arith)) z))

-- The name of the area at q.
module _ (i : List ℕ) (q : ℕ) where
  abbrev field : List ℕ
  field = drop (q + 8) i

  nth : (j : ℕ) → get_or field j 0 ≡ name_byte i q j
  nth j = get_or-drop (q + 8) i j 0

  counted : (n : ℕ) → AreaNamed i q n → length (printable_prefix field) ≡ n
  counted n d =
      printed_length n field (omega (arith, d.inside, length-drop (q + 8) i))
      (λ j l. rw (nth j) (is_printable_lem _ (d.letters j l)))
      (rw (nth n) (not_printable _ d.then_zero))

  pub name_fits_lem : (n : ℕ) → AreaNamed i q n → area_name_fits field ≡ true
  unfolding area_name_fits area_name_tests
  name_fits_lem n d =
      let c = counted n d in
      let l : n < length field = omega (arith, d.inside, length-drop (q + 8) i) in
      rw (c, le-leb 1 n d.some_byte, le-leb n 31 d.most, eq-eqb _ 0 (within field n l ∙ nth n ∙ d.then_zero))

  pub fit_named : area_name_fits field ≡ true → (n : ℕ) × AreaNamed i q n
  unfolding area_name_fits area_name_tests
  fit_named e = (
    length (printable_prefix field),
    record {
      some_byte = leb-true 1 (length (printable_prefix field)) (p 0);
      most = leb-true (length (printable_prefix field)) 31 (p 1);
      letters = λ j l. rw (nth j) at (printable (get_or field j 0) (letters_printed field j l));
      then_zero = sym (nth (length (printable_prefix field))) ∙ sym (within field (length (printable_prefix field)) short) ∙ eqb-true _ 0 (p 2);
      inside = omega (arith, short, length-drop (q + 8) i);
    },
  )
    where
      p : (k : ℕ) → get_or (area_name_tests field (printable_prefix field)) k true ≡ true
      p k = passes k (area_name_tests field (printable_prefix field)) e

      short : length (printable_prefix field) < length field
      short = go (dec_lt (length (printable_prefix field)) (length field))
        where
          go : Dec (length (printable_prefix field) < length field) → length (printable_prefix field) < length field
          go (yes h) = h
          go (no g) =
              let z = get_or-eq_default field 1 {n = length (printable_prefix field)} (omega arith) in
              absurd (omega (arith, eqb-true (get_or field (length (printable_prefix field)) 1) 0 (p 2), z))

  -- 33
  pub unfit : Fails (area_name_fits field) (((n : ℕ) × AreaNamed i q n) → ⊥)
  unfit = (λ e x. true≢false (sym (name_fits_lem x.0 x.1) ∙ e), λ h. go (area_name_fits field) refl h)
    where
      go : (b : Bool) → area_name_fits field ≡ b → (((n : ℕ) × AreaNamed i q n) → ⊥) → b ≡ false
      go true e h = absurd (h (fit_named e))
      go false e h = refl

  -- The name is the bytes before the zero.
  pub name_is : (n : ℕ) → AreaNamed i q n → area_name_at i (q + 8) ≡ take n field
  unfolding area_name_of
  name_is n d = rw (name_fits_lem n d) (sym (prefix_take field) ∙ ap (λ (m : ℕ). take m field) (counted n d))

  pub name_length_lem : (n : ℕ) → AreaNamed i q n → length (area_name_at i (q + 8)) ≡ n
  name_length_lem n d = ap length (name_is n d) ∙ length-take n field ∙ omega (arith, d.inside, length-drop (q + 8) i)

-- 33, then 35.

size_none : (l z : ℕ) (o : ℕ) → Fails (all_true (leb 1 z ∷ leb (o + z) l ∷ [])) ((z ≡ 0) ⊎ (l < o + z))
size_none l z o = one_fails (either (said (later_row 1 z) (λ h. omega arith) (λ e. omega arith)) (last_fails (later_row (o + z) l)))

pub area_renders : (i : List ℕ) (l q : ℕ) → Renders (area_tests i l (area_at i q)) (area_rows i l q)
unfolding area_tests area_at extent_fits
area_renders i l q = both_render (unfit i q) (both_render (size_none l (size i q) (offset i q)) no_more)

pub area_exactly : (i : List ℕ) (l q n : ℕ) → (first_failed (area_tests i l (area_at i q)) ≡ n) ↔ FirstRowMet (area_rows i l q) n
area_exactly i l q n = exactly (area_renders i l q) n

-- 34, of two areas whose names are fit.
pub same_name_lem : (i : List ℕ) (q r m n : ℕ) → AreaNamed i q m → AreaNamed i r n → (same_name i (area_at i q) (area_at i r) ≡ true) ↔ SameName i q r
unfolding area_at area_has_name
same_name_lem i q r m n d e = (there, back)
  where
    there : eq_bytes (area_name_at i (r + 8)) (area_name_at i (q + 8)) ≡ true → SameName i q r
    there y =
        let f : area_name_at i (r + 8) ≡ area_name_at i (q + 8) = eq_true _ _ y in
        let l : n ≡ m = sym (name_length_lem i r n e) ∙ ap length f ∙ name_length_lem i q m d in
        (m, d, subst (AreaNamed i r) l e, sym (name_is i q m d) ∙ sym f ∙ name_is i r n e ∙ ap (λ (k : ℕ). take k (drop (r + 8) i)) l)

    back : SameName i q r → eq_bytes (area_name_at i (r + 8)) (area_name_at i (q + 8)) ≡ true
    back (k, a, b, f) =
        let g : area_name_at i (r + 8) ≡ area_name_at i (q + 8) = name_is i r k b ∙ sym f ∙ sym (name_is i q k a) in
        rw g (eq_refl (area_name_at i (q + 8)))

-- 36, of two areas.

abbrev In : Area → ℕ → Type 0
In a b = (a.offset ≤ b) × (b < end_of a)

abbrev Around : Area → Area → Type 0
Around a b = (x : ℕ) → In b x → In a x

abbrev Crossing : Area → Area → Type 0
Crossing a b = ((x : ℕ) × In a x × In b x) × (Around a b → ⊥) × (Around b a → ⊥)

disjoint_fails : (a b : Area) → disjoint a b ≡ false → (b.offset < end_of a) × (a.offset < end_of b)
unfolding disjoint
disjoint_fails a b e = let (x, y) = or_false _ _ e in (leb-false _ _ x, leb-false _ _ y)

contains_fails : (a b : Area) → Fails (contains a b) ((b.offset < a.offset) ⊎ (end_of a < end_of b))
unfolding contains
contains_fails a b = one_fails (either (later_row _ _) (last_fails (later_row _ _)))

cross_true : (a b : Area) → cross a b ≡ true → Crossing a b
unfolding cross
cross_true a b e = go (disjoint_fails a b (not-true _ (p 0))) ((contains_fails a b).0 (not-true _ (p 1))) ((contains_fails b a).0 (not-true _ (p 2)))
  where
    p : (k : ℕ) → get_or (not (disjoint a b) ∷ not (contains a b) ∷ not (contains b a) ∷ []) k true ≡ true
    p k = passes k (not (disjoint a b) ∷ not (contains a b) ∷ not (contains b a) ∷ []) e

    go : (b.offset < end_of a) × (a.offset < end_of b) → (b.offset < a.offset) ⊎ (end_of a < end_of b) → (a.offset < b.offset) ⊎ (end_of b < end_of a)
        → Crossing a b
    go (x, y) (inl f) (inl g) = absurd (omega arith)
    go (x, y) (inr f) (inr g) = absurd (omega arith)
    go (x, y) (inl f) (inr g) = (
      (a.offset, (omega arith, omega arith), (omega arith, omega arith)),
      (λ h. let z = h b.offset (omega arith, omega arith) in omega arith),
      λ h. let z = h (end_of a - 1) (omega arith, omega arith) in omega arith,
    )
    go (x, y) (inr f) (inl g) = (
      (b.offset, (omega arith, omega arith), (omega arith, omega arith)),
      (λ h. let z = h (end_of b - 1) (omega arith, omega arith) in omega arith),
      λ h. let z = h a.offset (omega arith, omega arith) in omega arith,
    )

no_contains : (a b : Area) → (Around a b → ⊥) → contains a b ≡ false
no_contains a b h = go (contains a b) refl
  where
    go : (t : Bool) → contains a b ≡ t → t ≡ false
    go true e = let (x, y) = holding a b e in absurd (h (λ z w. (omega (arith, w.0), omega (arith, w.1))))
    go false e = refl

no_disjoint : (a b : Area) (x : ℕ) → In a x → In b x → disjoint a b ≡ false
no_disjoint a b x h k = go (disjoint a b) refl
  where
    by : Disjoint a b → ⊥
    by (inl e) = omega (arith, h.1, k.0)
    by (inr e) = omega (arith, h.0, k.1)

    go : (t : Bool) → disjoint a b ≡ t → t ≡ false
    go true e = absurd (by (no_byte_shared a b e))
    go false e = refl

crossing_true : (a b : Area) → Crossing a b → cross a b ≡ true
unfolding cross
crossing_true a b ((x, h, k), f, g) = rw (no_disjoint a b x h k, no_contains a b f, no_contains b a g)

pub crosses : (i : List ℕ) (q r : ℕ) → (cross (area_at i q) (area_at i r) ≡ true) ↔ Cross i q r
unfolding area_at
crosses i q r = (cross_true (area_at i q) (area_at i r), crossing_true (area_at i q) (area_at i r))

-- 37, of one area. The map is not empty.

fmap_computed : (r : List ℕ) → area_name_of (0x46 ∷ 0x4D ∷ 0x41 ∷ 0x50 ∷ 0 ∷ r) ≡ 0x46 ∷ 0x4D ∷ 0x41 ∷ 0x50 ∷ []
unfolding area_name_of area_name_fits area_name_tests printable_prefix
fmap_computed r = refl

-- An area that bears a name of four bytes has it.
named_four : (i : List ℕ) (q : ℕ) → length (area_name_at i (q + 8)) ≡ 4 → AreaNamed i q 4
unfolding area_name_of
named_four i q e = go (area_name_fits (drop (q + 8) i)) refl e
  where
    go : (b : Bool) → area_name_fits (drop (q + 8) i) ≡ b → length (cond b (printable_prefix (drop (q + 8) i)) []) ≡ 4 → AreaNamed i q 4
    go true y f = let (n, d) = fit_named i q y in subst (AreaNamed i q) (sym (counted i q n d) ∙ f) d
    go false y f = absurd (omega arith)

fmap_bytes : (i : List ℕ) (q : ℕ) → area_name_at i (q + 8) ≡ fmap_name → take 5 (drop (q + 8) i) ≡ 0x46 ∷ 0x4D ∷ 0x41 ∷ 0x50 ∷ 0 ∷ []
unfolding fmap_name
fmap_bytes i q e =
    let d = named_four i q (ap length e) in
    let l : 4 < length (drop (q + 8) i) = omega (arith, d.inside, length-drop (q + 8) i) in
    let b : take 4 (drop (q + 8) i) ≡ 0x46 ∷ 0x4D ∷ 0x41 ∷ 0x50 ∷ [] = sym (name_is i q 4 d) ∙ e in
    let z : get_or (drop (q + 8) i) 4 0 ≡ 0 = nth i q 4 ∙ d.then_zero in
    take-suc (drop (q + 8) i) 4 0 l ∙ rw (b, z)

fmap_name_lem : (i : List ℕ) (q : ℕ) → take 5 (drop (q + 8) i) ≡ 0x46 ∷ 0x4D ∷ 0x41 ∷ 0x50 ∷ 0 ∷ [] → area_name_at i (q + 8) ≡ fmap_name
unfolding fmap_name
fmap_name_lem i q e =
    ap area_name_of (sym (take-append-drop 5 (drop (q + 8) i)) ∙ ap (λ (h : List ℕ). h ++ drop 5 (drop (q + 8) i)) e) ∙ fmap_computed (drop 5 (drop (q + 8) i))

pub contains-map : (i : List ℕ) (p e q : ℕ) → p < e → (contains_map i p e (area_at i q) ≡ true) ↔ FmapArea i p e q
unfolding area_at contains_map fmap_area_tests area_has_name
contains-map i p e q h = (there, back)
  where
    there : contains_map i p e (area_at i q) ≡ true → FmapArea i p e q
    there y = let o = fmap-area i p e (area_at i q) y in (fmap_bytes i q o.name, λ b f g. (omega (arith, o.from), omega (arith, o.end)))

    back : FmapArea i p e q → contains_map i p e (area_at i q) ≡ true
    back (n, w) =
        let f = w p (omega arith) h in
        let l = w (e - 1) (omega arith) (omega arith) in
        rw (fmap_name_lem i q n, eq_refl fmap_name, le-leb (offset i q) p f.0, le-leb e (offset i q + size i q) (omega (arith, l.1)))

-- Laws of the judge: how it is reached test by test, and the three by which the walks know it. What it accepts begins with the magic; its
-- span is positive and lies in the part; and it answers the same on any part that agrees on the span.
use Prim.Native.Nat.{ℕ, zero, suc, ◌+◌, ◌-◌, ◌%◌, ◌≤◌, ◌<◌, min}
use native.Mathlib.Nat.{min-le_left}
use native.Mathlib.Omega.{arith}
use mathlib.Core.Path.{◌≡◌, refl, sym, ap, subst, ◌∙◌}
use mathlib.Core.List.{List, [], ◌∷◌, ◌++◌}
use mathlib.Core.Bool.{Bool, true, false, cond, ◌&&◌, true≢false, false≢true}
use Rattle.std.specs.Prelude.{Option, Some, None}
use Rattle.std.proofs.lemmas.Option.{same_Some, none-some}
use lib.ListN.{length, get_or, take, drop, length-take, length-drop}
use lib.Seq.{take-take, get_or-take, get_or-drop, ext_get_or}
use lib.Dec.{ltb, eqb}
use borrow.Author.Tests.{leb-true, le-leb, ltb-true, eq-eqb, ne_eqb, eqb-true}
use Rattle.bytes_read.specs.Number.{be, le}
use Rattle.bytes_read.proofs.Numbers.{be_same, le_same, le_tells}
use Rattle.bytes_read.specs.Bytes.{part_of, eq_bytes}
use Rattle.bytes_read.proofs.SameBytes.{eq_length, eq_true, eq_refl}
use Rattle.bytes_read.proofs.Splice.{part_in}
use Rattle.bytes_read.specs.Tests.{all_true, all}
use Rattle.component.specs.Names.{before_zero, name_fits, field_fits, name_length}
use Rattle.component.specs.Sums.{checksum_of, checksum_matches}
use Rattle.component.specs.Component.{magic, starts_with_magic, len_of, kind_of, offset_of, name_field, Component, span_length, component_of, number_tests}
use Rattle.component.specs.Component.{header_tests}
use Rattle.component.specs.Component.{well_formed, judge_numbers, judge_skipping_sum, judge_after_magic, judge, judged, header_of, name_of, content_of}
use Rattle.cbfs_types.specs.declared.Header.{Header}
use Rattle.bytes_read.proofs.Passing.{fails, passes}
use Rattle.component.proofs.Naming.{before_take, before_le, field_name, length_fit}

-- The magic

pub short_no_magic : (s : List ℕ) → length s < 8 → starts_with_magic s ≡ false
unfolding starts_with_magic magic
short_no_magic s h = eq_length _ _ (λ e. omega (arith, e, length-take 8 s))

pub magic_eight : (s : List ℕ) → starts_with_magic s ≡ starts_with_magic (take 8 s)
unfolding starts_with_magic
magic_eight s = rw (take-take 8 8 s (omega arith))

-- Every byte of a list passes a bound that all of its elements pass; past the end it is 0.
small : (l : List ℕ) → all (λ b. ltb b 256) l ≡ true → (j : ℕ) → get_or l j 0 < 256
small [] e j = omega arith
small (x ∷ l) e j = go (ltb x 256) refl e j (small l)
  where
    go : (b : Bool) → ltb x 256 ≡ b → b && all (λ y. ltb y 256) l ≡ true → (j : ℕ) → (all (λ y. ltb y 256) l ≡ true → (k : ℕ) → get_or l k 0 < 256)
        → get_or (x ∷ l) j 0 < 256
    go true q f zero ih = ltb-true x 256 q
    go true q f (suc k) ih = ih f k
    go false q f j ih = absurd (false≢true f)

-- Eight bytes are the magic exactly if they make the same number.
pub magic_number : (s : List ℕ) → 8 ≤ length s → ((j : ℕ) → get_or s j 0 < 256) → eqb (le 8 s 0) (le 8 magic 0) ≡ starts_with_magic s
unfolding starts_with_magic magic
magic_number s l p = go (eq_bytes (take 8 s) magic) refl
  where
    go : (b : Bool) → eq_bytes (take 8 s) magic ≡ b → eqb (le 8 s 0) (le 8 magic 0) ≡ eq_bytes (take 8 s) magic
    go true e =
        rw e (eq-eqb _ _ (le_same 8 magic s 0 (λ j _ h. sym (get_or-take 8 s j 0 (omega arith)) ∙ ap (λ (x : List ℕ). get_or x j 0) (eq_true (take 8 s) magic e))))
    go false e = rw e (ne_eqb _ _ (λ q. true≢false (sym (ap (λ (x : List ℕ). eq_bytes x magic) (same q) ∙ eq_refl magic) ∙ e)))
      where
        same : le 8 s 0 ≡ le 8 magic 0 → take 8 s ≡ magic
        same q =
            ext_get_or 0 (take 8 s) magic (length-take 8 s ∙ omega arith)
            (λ j h. get_or-take 8 s j 0 (omega (arith, length-take 8 s))
            ∙ le_tells 8 s magic 0 p (small magic refl) q j (omega arith) (omega (arith, length-take 8 s)))

-- The fields, by the tests on the offset o and the length l that were read.

pub unsummed_bad : (s : List ℕ) (o l k : ℕ) → o ≡ offset_of s → l ≡ len_of s → get_or (number_tests s o l) k true ≡ false → None ≡ judged (judge_numbers s)
unfolding judge_numbers
unsummed_bad s o l k eo el h = rw (← eo, ← el, fails k (number_tests s o l) h)

pub unsummed_good : (s : List ℕ) (h : Header) → h.offset ≡ offset_of s → h.len ≡ len_of s → h.kind ≡ kind_of s → h.checksum ≡ checksum_of s
    → h.namelen ≡ name_length (take (h.offset - 24) (drop 24 s)) → all_true (number_tests s h.offset h.len) ≡ true → Some h ≡ judged (judge_numbers s)
unfolding judge_numbers component_of number_tests
unsummed_good s h eo el ek es en t =
    let f : field_fits (take (h.offset - 24) (drop 24 s)) ≡ true = passes 5 (number_tests s h.offset h.len) t in
    let n : h.namelen ≡ length (before_zero (take (h.offset - 24) (drop 24 s))) = en ∙ length_fit (take (h.offset - 24) (drop 24 s)) f in
    rw (← eo, ← el, t, ← ek, ← es, ← n)

pub cond_some : {A : Type 0} (b : Bool) (x y : A) → cond b (Some x) None ≡ Some y → (b ≡ true) × (x ≡ y)
cond_some true x y e = (refl, same_Some _ _ e)
cond_some false x y e = absurd (none-some _ e)

-- The fields are the numbers, then the sum.

every_one : (ts : List Bool) (b : Bool) → all_true (ts ++ (b ∷ [])) ≡ cond (all_true ts) b false
every_one [] true = refl
every_one [] false = refl
every_one (true ∷ ts) b = every_one ts b
every_one (false ∷ ts) b = refl

pub fields_ill : (s : List ℕ) → judge_numbers s ≡ None → judge_after_magic s ≡ None
unfolding judge_after_magic well_formed header_tests judge_numbers
fields_ill s e =
    rw (every_one (number_tests s (offset_of s) (len_of s)) (checksum_matches (take (offset_of s + len_of s) s)))
    (go (all_true (number_tests s (offset_of s) (len_of s))) e)
  where
    go : (b : Bool) → cond b (Some (component_of s)) None ≡ None
        → cond (cond b (checksum_matches (take (offset_of s + len_of s) s)) false) (Some (component_of s)) None ≡ None
    go true q = absurd (none-some _ (sym q))
    go false q = refl

pub fields_summed : (s : List ℕ) (c : Component) → judge_numbers s ≡ Some c → judge_after_magic s ≡ cond (checksum_matches (take (span_length c) s)) (Some c) None
unfolding judge_after_magic well_formed header_tests judge_numbers component_of
fields_summed s c e =
    rw (every_one (number_tests s (offset_of s) (len_of s)) (checksum_matches (take (offset_of s + len_of s) s)))
    (go (all_true (number_tests s (offset_of s) (len_of s))) e)
  where
    go : (b : Bool) → cond b (Some (component_of s)) None ≡ Some c
        → cond (cond b (checksum_matches (take (offset_of s + len_of s) s)) false) (Some (component_of s)) None ≡ cond (checksum_matches (take (span_length c) s))
        (Some c) None
    go true q = ap (λ (x : Component). cond (checksum_matches (take (span_length x) s)) (Some x) None) (same_Some _ _ q)
    go false q = absurd (none-some _ q)

-- What the sum leaves of the component that was found by the numbers.
abbrev pub summed_of : List ℕ → Option Component → Option Component
summed_of s None = None
summed_of s (Some c) = cond (checksum_matches (take (span_length c) s)) (Some c) None

-- From the answer to the component.

pub judged_some : (o : Option Component) (h : Header) → judged o ≡ Some h → (c : Component) × (o ≡ Some c) × (header_of c ≡ h)
judged_some None h e = let z : ◌≡◌ {A = ℕ} 0 1 = cc in absurd (omega arith)
judged_some (Some c) h e = (c, refl, (cc))

pub judged_none : (o : Option Component) → judged o ≡ None → o ≡ None
judged_none None e = refl
judged_none (Some c) e = let z : ◌≡◌ {A = ℕ} 0 1 = cc in absurd (omega arith)

-- What the header's numbers meet.

pub unsummed_read : (s : List ℕ) (c : Component) → judge_numbers s ≡ Some c
    → (40 ≤ offset_of s) × (offset_of s + len_of s ≤ length s) × (field_fits (name_field s) ≡ true) × (component_of s ≡ c)
unfolding judge_numbers number_tests
unsummed_read s c e =
    let w = cond_some (all_true (number_tests s (offset_of s) (len_of s))) (component_of s) c e in
    let t : (k : ℕ) → get_or (number_tests s (offset_of s) (len_of s)) k true ≡ true = λ k. passes k (number_tests s (offset_of s) (len_of s)) w.0 in
    (leb-true _ _ (t 1), leb-true _ _ (t 4), t 5, w.1)

pub unsummed_fits : (s : List ℕ) (c : Component) → judge_numbers s ≡ Some c → (40 ≤ c.offset) × (span_length c ≤ length s)
unfolding component_of
unsummed_fits s c e = let (least, fits, named, read) = unsummed_read s c e in
    subst (λ (x : Component). (40 ≤ x.offset) × (span_length x ≤ length s)) read (least, fits)

-- The same three by what the judge of the numbers answered.

pub unsummed_header : (s : List ℕ) (h : Header) → judged (judge_numbers s) ≡ Some h → (40 ≤ h.offset) × (h.offset + h.len ≤ length s)
unsummed_header s h e = let (c, q, r) = judged_some (judge_numbers s) h e in
    subst (λ (x : Header). (40 ≤ x.offset) × (x.offset + x.len ≤ length s)) r (unsummed_fits s c q)

pub ill_unsummed : (s : List ℕ) → judged (judge_numbers s) ≡ None → judge_after_magic s ≡ None
ill_unsummed s e = fields_ill s (judged_none (judge_numbers s) e)

pub header_summed : (s : List ℕ) (h : Header) (b : Bool) → judged (judge_numbers s) ≡ Some h → checksum_matches (take (h.offset + h.len) s) ≡ b
    → judged (judge_after_magic s) ≡ cond b (Some h) None
header_summed s h b e f = let (c, q, r) = judged_some (judge_numbers s) h e in
    ap judged (fields_summed s c q) ∙ go c r b f
  where
    go : (c : Component) → header_of c ≡ h → (b : Bool) → checksum_matches (take (h.offset + h.len) s) ≡ b
        → judged (cond (checksum_matches (take (span_length c) s)) (Some c) None) ≡ cond b (Some h) None
    go c r true f = rw (ap (λ (x : Header). checksum_matches (take (x.offset + x.len) s)) r ∙ f) (ap Some r)
    go c r false f = rw (ap (λ (x : Header). checksum_matches (take (x.offset + x.len) s)) r ∙ f)

-- The judge is the magic's test, then the fields.

pub judge_fields : (s : List ℕ) → starts_with_magic s ≡ true → judge s ≡ judge_after_magic s
unfolding judge
judge_fields s e = rw e

pub judge_no_magic : (s : List ℕ) → starts_with_magic s ≡ false → judge s ≡ None
unfolding judge
judge_no_magic s e = rw e

-- By document 01's tests alone: the magic's test, then the numbers.

pub unsummed_numbers : (s : List ℕ) → starts_with_magic s ≡ true → judge_skipping_sum s ≡ judge_numbers s
unfolding judge_skipping_sum
unsummed_numbers s e = rw e

pub unsummed_no_magic : (s : List ℕ) → starts_with_magic s ≡ false → judge_skipping_sum s ≡ None
unfolding judge_skipping_sum
unsummed_no_magic s e = rw e

pub unsummed_magic : (s : List ℕ) (c : Component) → judge_skipping_sum s ≡ Some c → starts_with_magic s ≡ true
unsummed_magic s c e = go (starts_with_magic s) refl
  where
    go : (b : Bool) → starts_with_magic s ≡ b → b ≡ true
    go true q = refl
    go false q = absurd (none-some c (sym (unsummed_no_magic s q) ∙ e))

pub unsummed_fits_region : (s : List ℕ) (c : Component) → judge_skipping_sum s ≡ Some c → (40 ≤ c.offset) × (span_length c ≤ length s)
unsummed_fits_region s c e = unsummed_fits s c (sym (unsummed_numbers s (unsummed_magic s c e)) ∙ e)

pub unsummed_of : (s : List ℕ) (c : Component) → judge_skipping_sum s ≡ Some c → checksum_of s ≡ c.checksum
unfolding component_of
unsummed_of s c e = ap (λ (x : Component). x.checksum) (unsummed_read s c (sym (unsummed_numbers s (unsummed_magic s c e)) ∙ e)).3

-- The judge is these, then the sum.
pub judge_unsummed : (s : List ℕ) (o : Option Component) → judge_skipping_sum s ≡ o → judge s ≡ summed_of s o
judge_unsummed s o e = go (starts_with_magic s) refl o e
  where
    fields_of : (o : Option Component) → judge_numbers s ≡ o → judge_after_magic s ≡ summed_of s o
    fields_of None q = fields_ill s q
    fields_of (Some c) q = fields_summed s c q

    go : (b : Bool) → starts_with_magic s ≡ b → (o : Option Component) → judge_skipping_sum s ≡ o → judge s ≡ summed_of s o
    go true m o q = judge_fields s m ∙ fields_of o (sym (unsummed_numbers s m) ∙ q)
    go false m None q = judge_no_magic s m
    go false m (Some c) q = absurd (none-some c (sym (unsummed_no_magic s m) ∙ q))

-- What a judged part is, test by test.
pub record Formed (s : List ℕ) (c : Component) : Type 0 where
  pub magic : starts_with_magic s ≡ true
  pub long : 24 ≤ length s
  pub least : 40 ≤ offset_of s
  pub most : offset_of s ≤ 280
  pub whole : (offset_of s - 24) % 16 ≡ 0
  pub fits : offset_of s + len_of s ≤ length s
  pub named : field_fits (name_field s) ≡ true
  pub summed : checksum_matches (take (offset_of s + len_of s) s) ≡ true
  pub read : component_of s ≡ c

pub formed : (s : List ℕ) (c : Component) → judge s ≡ Some c → Formed s c
unfolding judge judge_after_magic well_formed header_tests number_tests
formed s c e = go (starts_with_magic s) refl e
  where
    go : (b : Bool) → starts_with_magic s ≡ b → cond b (judge_after_magic s) None ≡ Some c → Formed s c
    go false m e' = absurd (none-some _ e')
    go true m e' =
        let w = cond_some (well_formed s) (component_of s) c e' in
        let t : (k : ℕ) → get_or (header_tests s (offset_of s) (len_of s)) k true ≡ true = λ k. passes k (header_tests s (offset_of s) (len_of s)) w.0 in
        record {
          magic = m;
          long = leb-true _ _ (t 0);
          least = leb-true _ _ (t 1);
          most = leb-true _ _ (t 2);
          whole = eqb-true _ _ (t 3);
          fits = leb-true _ _ (t 4);
          named = t 5;
          summed = t 6;
          read = w.1;
        }

pub unformed : (s : List ℕ) (c : Component) → Formed s c → judge s ≡ Some c
unfolding judge judge_after_magic well_formed header_tests number_tests
unformed s c f =
    rw (f.magic, le-leb _ _ f.long, le-leb _ _ f.least, le-leb _ _ f.most, f.whole, le-leb _ _ f.fits, f.named, f.summed) (ap Some f.read)

-- A component has 40 bytes or more, and lies in the part.
pub judge-fits : (s : List ℕ) (c : Component) → judge s ≡ Some c → (40 ≤ c.offset) × (span_length c ≤ length s)
unfolding component_of
judge-fits s c e =
    let f : Formed s c = formed s c e in
    let o : offset_of s ≡ c.offset = ap (λ (x : Component). x.offset) f.read in
    let q : offset_of s + len_of s ≡ span_length c = ap span_length f.read in
    (omega (arith, f.least), omega (arith, f.fits))

pub judge-magic : (s : List ℕ) (c : Component) → judge s ≡ Some c → starts_with_magic s ≡ true
judge-magic s c e = (formed s c e).magic

-- Its numbers are well formed, whatever its sum.
pub judge_by_numbers : (s : List ℕ) (c : Component) → judge s ≡ Some c → judge_numbers s ≡ Some c
judge_by_numbers s c e = go (judge_numbers s) refl (sym (judge_fields s (judge-magic s c e)) ∙ e)
  where
    go : (o : Option Component) → judge_numbers s ≡ o → judge_after_magic s ≡ Some c → o ≡ Some c
    go None q f = absurd (none-some c (sym (fields_ill s q) ∙ f))
    go (Some x) q f = ap Some (cond_some (checksum_matches (take (span_length x) s)) x c (sym (fields_summed s x q) ∙ f)).1

-- Its name is a fit one, and stands after the header; its content is the last len bytes of its span.

pub unsummed_name : (s : List ℕ) (c : Component) → judge_numbers s ≡ Some c
    → (name_fits c.name ≡ true) × (24 + length c.name ≤ c.offset) × (take (length c.name) (drop 24 s) ≡ c.name)
unfolding component_of
unsummed_name s c e = let (least, fits, named, read) = unsummed_read s c e in
    subst (λ (x : Component). (name_fits x.name ≡ true) × (24 + length x.name ≤ x.offset) × (take (length x.name) (drop 24 s) ≡ x.name)) read (
      field_name (name_field s) named,
      omega (arith, least, l, v),
      sym (take-take (length (before_zero (name_field s))) (offset_of s - 24) (drop 24 s) (omega (arith, l, v))) ∙ before_take (name_field s),
    )
  where
    l : length (before_zero (name_field s)) ≤ length (name_field s)
    l = before_le (name_field s)

    v : length (name_field s) ≤ offset_of s - 24
    v = rw length-take (min-le_left _ _)

pub judge_name : (s : List ℕ) (c : Component) → judge s ≡ Some c
    → (name_fits c.name ≡ true) × (24 + length c.name ≤ c.offset) × (take (length c.name) (drop 24 s) ≡ c.name)
judge_name s c e = unsummed_name s c (judge_by_numbers s c e)

pub judge_content : (s : List ℕ) (c : Component) → judge s ≡ Some c → (c.content ≡ take c.len (drop c.offset s)) × (length c.content ≡ c.len)
unfolding component_of
judge_content s c e =
    let f : Formed s c = formed s c e in
    subst (λ (x : Component). (x.content ≡ take x.len (drop x.offset s)) × (length x.content ≡ x.len)) f.read
    (refl, simp (length-take, length-drop) (omega (arith, f.fits)))

-- Two lists agree on the n bytes from p on.
pub window : (n p : ℕ) (u v : List ℕ) → min n (length u - p) ≡ min n (length v - p) → ((j : ℕ) → j < n → p + j < length u → get_or u (p + j) 0 ≡ get_or v (p + j) 0)
    → take n (drop p u) ≡ take n (drop p v)
window n p u v l h = ext_get_or 0 (take n (drop p u)) (take n (drop p v)) (lu ∙ l ∙ sym (lv))
    (λ j k. get_or-take n (drop p u) j 0 (omega (arith, lu)) ∙ get_or-drop p u j 0 ∙ h j (omega (arith, lu)) (omega (arith, lu)) ∙ sym (get_or-drop p v j 0)
    ∙ sym (get_or-take n (drop p v) j 0 (omega (arith, lu))))
  where
    lu : length (take n (drop p u)) ≡ min n (length u - p)
    lu = rw (length-take, length-drop)

    lv : length (take n (drop p v)) ≡ min n (length v - p)
    lv = rw (length-take, length-drop)

-- Two parts that begin with the same n bytes.
module _ (n : ℕ) (s s' : List ℕ) (long : n ≤ length s) (same : take n s' ≡ take n s) where
  same_long : n ≤ length s'
  same_long = omega (arith, sym (length-take n s'), ap length same, length-take n s)

  same_take : (m : ℕ) → m ≤ n → take m s' ≡ take m s
  same_take m h = sym (take-take m n s' h) ∙ ap (take m) same ∙ take-take m n s h

  same_at : (i : ℕ) → i < n → get_or s' i 0 ≡ get_or s i 0
  same_at i h = sym (get_or-take n s' i 0 h) ∙ ap (λ (l : List ℕ). get_or l i 0) same ∙ get_or-take n s i 0 h

  same_be : (w i : ℕ) → i + w ≤ n → be w s' i ≡ be w s i
  same_be w i h = be_same w s s' i (λ j l k. same_at j (omega arith))

  same_part : (i m : ℕ) → i + m ≤ n → take m (drop i s') ≡ take m (drop i s)
  same_part i m h = window m i s' s (omega (arith, same_long)) (λ j k l. same_at (i + j) (omega arith))

  same_magic : 8 ≤ n → starts_with_magic s' ≡ starts_with_magic s
  unfolding starts_with_magic
  same_magic h = rw (same_take 8 h)

  same_field : offset_of s ≤ n → 24 ≤ n → name_field s' ≡ name_field s
  same_field h k = rw (same_be 4 20 (omega arith)) (same_part 24 (offset_of s - 24) (omega arith))

  same_component : offset_of s + len_of s ≤ n → 24 ≤ n → component_of s' ≡ component_of s
  unfolding component_of
  same_component h k =
      rw (
        same_be 4 20 (omega arith),
        same_be 4 8 (omega arith),
        same_be 4 12 (omega arith),
        same_be 4 16 (omega arith),
        same_part (offset_of s) (len_of s) h,
        same_part 24 (offset_of s - 24) (omega arith),
      )

-- A component is judged by the bytes of its span alone.
pub judge_local : (s s' : List ℕ) (c : Component) → judge s ≡ Some c → take (span_length c) s' ≡ take (span_length c) s → judge s' ≡ Some c
unfolding component_of
judge_local s s' c e same =
    let f : Formed s c = formed s c e in
    let b : (40 ≤ c.offset) × (span_length c ≤ length s) = judge-fits s c e in
    let q : offset_of s + len_of s ≡ span_length c = ap span_length f.read in
    let l : span_length c ≤ length s' = same_long (span_length c) s s' b.1 same in
    let o : offset_of s' ≡ offset_of s = same_be (span_length c) s s' b.1 same 4 20 (omega arith) in
    let n : len_of s' ≡ len_of s = same_be (span_length c) s s' b.1 same 4 8 (omega arith) in
    unformed s' c (record {
      magic = same_magic (span_length c) s s' b.1 same (omega arith) ∙ f.magic;
      long = omega arith;
      least = omega (arith, f.least);
      most = omega (arith, f.most);
      whole = rw o f.whole;
      fits = omega arith;
      named = rw (same_field (span_length c) s s' b.1 same (omega arith) (omega arith)) f.named;
      summed = rw (o, n, q, same) (rw q at f.summed);
      read = same_component (span_length c) s s' b.1 same (omega arith) (omega arith) ∙ f.read;
    })

-- The name by what was answered, of the judge or of the numbers alone.

part_named : (s : List ℕ) (o : Option Component) (h : Header) → ((c : Component) → o ≡ Some c → judge_numbers s ≡ Some c)
    → judged o ≡ Some h → part_of s 24 h.namelen ≡ name_of o
part_named s o h n e = let (c, q, r) = judged_some o h e in go c q r
  where
    go : (c : Component) → o ≡ Some c → header_of c ≡ h → part_of s 24 h.namelen ≡ name_of o
    go c q r =
        let f = unsummed_fits s c (n c q) in
        let m = unsummed_name s c (n c q) in
        subst (λ (x : Header). part_of s 24 x.namelen ≡ name_of o) r
        (sym (part_in s 24 (length c.name) (omega (arith, f.1, m.1))) ∙ m.2 ∙ sym (ap name_of q))

pub part_name : (s : List ℕ) (h : Header) → judged (judge s) ≡ Some h → part_of s 24 h.namelen ≡ name_of (judge s)
part_name s h e = part_named s (judge s) h (judge_by_numbers s) e

pub part_unsummed : (s : List ℕ) (h : Header) → judged (judge_numbers s) ≡ Some h → part_of s 24 h.namelen ≡ name_of (judge_numbers s)
part_unsummed s h e = part_named s (judge_numbers s) h (λ c q. q) e

pub part_content : (s : List ℕ) (h : Header) → judged (judge s) ≡ Some h → part_of s h.offset h.len ≡ content_of (judge s)
part_content s h e = let (c, q, r) = judged_some (judge s) h e in go c q r
  where
    go : (c : Component) → judge s ≡ Some c → header_of c ≡ h → part_of s h.offset h.len ≡ content_of (judge s)
    go c q r =
        subst (λ (x : Header). part_of s x.offset x.len ≡ content_of (judge s)) r
        (sym (part_in s c.offset c.len (judge-fits s c q).1) ∙ sym (judge_content s c q).0 ∙ sym (ap content_of q))

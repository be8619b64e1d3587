-- A component stands at the start of a part exactly when document 01 says, with the numbers, the name and the content that it says.
use Prim.Native.Nat.{ℕ, zero, suc, ◌+◌, ◌*◌, ◌-◌, ◌/◌, ◌%◌, ◌≤◌, ◌<◌}
use native.Mathlib.Nat.{div-add-mod', mul-mod_left}
use native.Mathlib.Omega.{arith}
use mathlib.Core.Path.{◌≡◌, refl, sym, ap, subst, ◌∙◌}
use mathlib.Core.Bool.{Bool, true, false, cond, ◌&&◌, false≢true}
use mathlib.Core.List.{List, [], ◌∷◌, ◌++◌}
use mathlib.Core.Logic.{◌⊎◌, inl, inr, ◌↔◌}
use Rattle.std.specs.Prelude.{Option, Some, None}
use Rattle.std.proofs.lemmas.Option.{none-some}
use lib.ListN.{length, take, drop, get_or, length-take, length-drop}
use lib.Seq.{length-take-le, take-take, take-suc, take-add, drop_at, get_or-take, get_or-drop}
use lib.Dec.{leb, eqb}
use borrow.Author.Tests.{leb-true, le-leb, lt-leb, ltb-true, lt-ltb, le-ltb, eqb-true, eq-eqb, ne_eqb}
use Rattle.bytes_read.specs.Tests.{all}
use Rattle.bytes_read.specs.Printable.{is_printable}
use Rattle.bytes_read.proofs.Numbers.{be_same}
use Rattle.bytes_read.proofs.Passing.{passes}
use Rattle.bytes_read.proofs.SameBytes.{eq_true, eq_refl}
use Rattle.component.specs.Names.{is_zero, name_tests, name_fits, before_zero, field_tests, field_fits}
use Rattle.component.specs.Sums.{checksum_of, total, checksum_zeroed, span_sum, checksum_matches}
use Rattle.component.specs.Component.{Component, span_length, magic, starts_with_magic, name_field, component_of, judge_numbers, judge_skipping_sum, judge}
use Rattle.component.specs.Table.{len, offset, checksum, name_byte, counted_byte, sum_of, WellFormedHeader, component}
use Rattle.component.proofs.Naming.{before_take}
use Rattle.component.proofs.Summing.{total-append, total_zeroed}
use Rattle.component.proofs.Judging.{Formed, formed, unformed, unsummed_read, cond_some, summed_of, judge-magic, judge_by_numbers, judge_unsummed}
use Rattle.component.proofs.Judging.{unsummed_numbers, unsummed_fits_region, unsummed_of}

-- A test on every byte, by index.

pub all_at : (t : ℕ → Bool) (l : List ℕ) → all t l ≡ true → (j : ℕ) → j < length l → t (get_or l j 0) ≡ true
all_at t [] e j h = absurd (omega arith)
all_at t (b ∷ l) e j h = go (t b) refl e j h (all_at t l)
  where
    go : (x : Bool) → t b ≡ x → x && all t l ≡ true → (j : ℕ) → j < suc (length l)
        → (all t l ≡ true → (k : ℕ) → k < length l → t (get_or l k 0) ≡ true) → t (get_or (b ∷ l) j 0) ≡ true
    go true q f zero h ih = q
    go true q f (suc k) h ih = ih f k (omega arith)
    go false q f k h ih = absurd (false≢true f)

at_all : (t : ℕ → Bool) (l : List ℕ) → ((j : ℕ) → j < length l → t (get_or l j 0) ≡ true) → all t l ≡ true
at_all t [] h = refl
at_all t (b ∷ l) h =
    let y : t b ≡ true = h 0 (omega arith) in
    rw y (at_all t l (λ j k. h (suc j) (omega arith)))

-- A byte of a name.

pub printable : (b : ℕ) → is_printable b ≡ true → (0x21 ≤ b) × (b ≤ 0x7E)
printable b e = (leb-true 0x21 b (passes 0 (leb 0x21 b ∷ leb b 0x7E ∷ []) e), leb-true b 0x7E (passes 1 (leb 0x21 b ∷ leb b 0x7E ∷ []) e))

is_printable_lem : (b : ℕ) → (0x21 ≤ b) × (b ≤ 0x7E) → is_printable b ≡ true
is_printable_lem b (h, k) = rw (le-leb 0x21 b h, le-leb b 0x7E k)

-- before_zero gives the first n bytes, where none of them is zero and byte n is.
before_first : (n : ℕ) (f : List ℕ) → n < length f → ((j : ℕ) → j < n → get_or f j 0 ≡ 0 → ⊥) → get_or f n 0 ≡ 0 → before_zero f ≡ take n f
unfolding before_zero
before_first n [] h l z = absurd (omega arith)
before_first zero (b ∷ f) h l z = rw (eq-eqb b 0 z)
before_first (suc n) (b ∷ f) h l z =
    let y : eqb b 0 ≡ false = ne_eqb b 0 (l 0 (omega arith)) in
    let ih : before_zero f ≡ take n f = before_first n f (omega arith) (λ j k. l (suc j) (omega arith)) z in
    rw (y, ih)

-- A fit name field f: its name has n bytes, and byte n is the first zero.
record Field (f : List ℕ) (n : ℕ) : Type 0 where
  least : 1 ≤ n
  most : n ≤ 255
  inside : n < length f
  letters : (j : ℕ) → j < n → (0x21 ≤ get_or f j 0) × (get_or f j 0 ≤ 0x7E)
  zeros : (j : ℕ) → n ≤ j → j < length f → get_or f j 0 ≡ 0

fit_field : (f : List ℕ) → field_fits f ≡ true → Field f (length (before_zero f))
unfolding field_fits field_tests name_fits name_tests
fit_field f e =
    let m : List ℕ = before_zero f in
    let name : name_fits m ≡ true = passes 1 (field_tests f m) e in
    let every-letter : all is_printable m ≡ true = passes 2 (name_tests m) name in
    let every-zero : all is_zero (drop (length m) f) ≡ true = passes 2 (field_tests f m) e in
    record {
      least = leb-true _ _ (passes 0 (name_tests m) name);
      most = leb-true _ _ (passes 1 (name_tests m) name);
      inside = ltb-true _ _ (passes 0 (field_tests f m) e);
      letters = λ j l. subst (λ (b : ℕ). (0x21 ≤ b) × (b ≤ 0x7E)) (here j l) (printable (get_or m j 0) (all_at is_printable m every-letter j l));
      zeros = λ j l k. there j l ∙ eqb-true _ 0 (all_at is_zero (drop (length m) f) every-zero (j - length m) (omega (arith, length-drop (length m) f)));
    }
  where
    here : (j : ℕ) → j < length (before_zero f) → get_or (before_zero f) j 0 ≡ get_or f j 0
    here j l = ap (λ (x : List ℕ). get_or x j 0) (sym (before_take f)) ∙ get_or-take (length (before_zero f)) f j 0 l

    there : (j : ℕ) → length (before_zero f) ≤ j → get_or f j 0 ≡ get_or (drop (length (before_zero f)) f) (j - length (before_zero f)) 0
    there j l =
        let q : length (before_zero f) + (j - length (before_zero f)) ≡ j = omega arith in
        sym (get_or-drop (length (before_zero f)) f (j - length (before_zero f)) 0 ∙ ap (λ (k : ℕ). get_or f k 0) q)

field_before : (f : List ℕ) (n : ℕ) → Field f n → before_zero f ≡ take n f
field_before f n d = before_first n f d.inside (λ j l z. omega (arith, (d.letters j l).0, z)) (d.zeros n (omega arith) d.inside)

field_fit : (f : List ℕ) (n : ℕ) → Field f n → field_fits f ≡ true
unfolding field_fits field_tests name_fits name_tests
field_fit f n d =
    let c : length (take n f) ≡ n = length-take-le n f (omega (arith, d.inside)) in
    let a : all is_printable (take n f) ≡ true =
    at_all is_printable (take n f) (λ j l. rw (get_or-take n f j 0 (omega (arith, c))) (is_printable_lem _ (d.letters j (omega (arith, c))))) in
    let z : all is_zero (drop n f) ≡ true =
    at_all is_zero (drop n f) (λ j l. rw (get_or-drop n f j 0) (eq-eqb _ 0 (d.zeros (n + j) (omega arith) (omega (arith, length-drop n f))))) in
    rw (field_before f n d, c, lt-ltb n (length f) d.inside, le-leb 1 n d.least, le-leb n 255 d.most, a, z)

-- offset - 24 is a multiple of 16.

sixteens : (o : ℕ) → 24 ≤ o → (o - 24) % 16 ≡ 0 → (k : ℕ) × (o ≡ 24 + 16 * k)
sixteens o h z = ((o - 24) / 16, omega (arith, div-add-mod' (o - 24) 16))

whole : (o k : ℕ) → o ≡ 24 + 16 * k → (o - 24) % 16 ≡ 0
whole o k e = let q : o - 24 ≡ k * 16 = omega arith in rw q (mul-mod_left k 16)

-- The name field of the part s, where it lies in s.
module _ (s : List ℕ) (long : offset s ≤ length s) where
  field-length : length (name_field s) ≡ offset s - 24
  field-length = rw (length-take, length-drop) (omega arith)

  nth : (j : ℕ) → 24 + j < offset s → get_or (name_field s) j 0 ≡ name_byte s j
  nth j h = get_or-take (offset s - 24) (drop 24 s) j 0 (omega arith) ∙ get_or-drop 24 s j 0

-- The byte behind a name is zero, and a name has 255 bytes at most.
pub numbers_ends : (s : List ℕ) (c : Component) → judge_numbers s ≡ Some c → (get_or s (24 + length c.name) 0 ≡ 0) × (length c.name ≤ 255)
unfolding component_of
numbers_ends s c e = let (least, fits, named, read) = unsummed_read s c e in
    subst (λ (x : Component). (get_or s (24 + length x.name) 0 ≡ 0) × (length x.name ≤ 255)) read
    (ends (omega (arith, fits)) (fit_field (name_field s) named))
  where
    n : ℕ
    n = length (before_zero (name_field s))

    ends : offset s ≤ length s → Field (name_field s) n → (get_or s (24 + n) 0 ≡ 0) × (n ≤ 255)
    ends o d = let l = field-length s o in (sym (nth s o n (omega (arith, d.inside))) ∙ d.zeros n (omega arith) d.inside, d.most)

-- The sum, byte by byte.

counted_here : (s : List ℕ) (j : ℕ) → (j < 16) ⊎ (20 ≤ j) → counted_byte s j ≡ get_or s j 0
counted_here s j (inl h) = rw (lt-leb 16 j h)
counted_here s j (inr h) = rw (le-leb 16 j (omega arith), le-ltb j 20 h)

sum_before : (s : List ℕ) (n : ℕ) → n ≤ 16 → n ≤ length s → sum_of s n ≡ total (take n s)
unfolding sum_of total
sum_before s zero h l = refl
sum_before s (suc n) h l =
    let e = sum_before s n (omega arith) (omega arith) in
    rw (counted_here s n (inl (omega arith)), e, take-suc s n 0 (omega arith), total-append (take n s) (get_or s n 0 ∷ [])) (omega arith)

-- The checksum's own bytes count as zero.
over_checksum : (s : List ℕ) → sum_of s 20 ≡ sum_of s 16
unfolding sum_of
over_checksum s = omega arith

sum_after : (s : List ℕ) (m : ℕ) → 20 + m ≤ length s → sum_of s (20 + m) ≡ total (take 16 s) + total (take m (drop 20 s))
unfolding sum_of total
sum_after s zero l = omega (arith, over_checksum s, sum_before s 16 (omega arith) (omega arith))
sum_after s (suc m) l =
    let n : 20 + suc m ≡ suc (20 + m) = omega arith in
    let k : m < length (drop 20 s) = omega (arith, length-drop 20 s) in
    let c = counted_here s (20 + m) (inr (omega arith)) in
    let t = total-append (take m (drop 20 s)) (get_or (drop 20 s) m 0 ∷ []) in
    rw (n, c, sum_after s m (omega arith), take-suc (drop 20 s) m 0 k, t, get_or-drop 20 s m 0) (omega arith)

-- Of the first n bytes of s.
pub sum_words : (s : List ℕ) (n : ℕ) → 20 ≤ n → n ≤ length s → sum_of s n ≡ total (checksum_zeroed (take n s))
sum_words s n h l =
    let m : 20 + (n - 20) ≡ n = omega arith in
    let c : length (take 20 s) ≡ 20 = length-take-le 20 s (omega arith) in
    let a : take n s ≡ take 20 s ++ take (n - 20) (drop 20 s) = ap (λ (k : ℕ). take k s) (sym m) ∙ take-add 20 (n - 20) s in
    let d : drop 20 (take n s) ≡ take (n - 20) (drop 20 s) = ap (drop 20) a ∙ drop_at (take 20 s) (take (n - 20) (drop 20 s)) 20 c in
    rw (total_zeroed (take n s), take-take 16 n s (omega arith), d, ← sum_after s (n - 20) (omega arith), m)

-- "A field of 0 means none is stated": the field is 0 or the sum.
sum_stated : (s : List ℕ) → checksum_matches s ≡ true → (checksum_of s ≡ 0) ⊎ (checksum_of s ≡ span_sum s)
unfolding checksum_matches
sum_stated s e = go (eqb (checksum_of s) 0) refl e
  where
    go : (b : Bool) → eqb (checksum_of s) 0 ≡ b → cond b true (eqb (checksum_of s) (span_sum s)) ≡ true → (checksum_of s ≡ 0) ⊎ (checksum_of s ≡ span_sum s)
    go true q f = inl (eqb-true _ 0 q)
    go false q f = inr (eqb-true _ _ f)

stated_sum : (s : List ℕ) → (checksum_of s ≡ 0) ⊎ (checksum_of s ≡ span_sum s) → checksum_matches s ≡ true
unfolding checksum_matches
stated_sum s (inl z) = rw (eq-eqb (checksum_of s) 0 z)
stated_sum s (inr q) = go (eqb (checksum_of s) 0)
  where
    go : (b : Bool) → cond b true (eqb (checksum_of s) (span_sum s)) ≡ true
    go true = refl
    go false = eq-eqb (checksum_of s) (span_sum s) q

-- The same of a span that the part s begins with.
module _ (s : List ℕ) (long : 20 ≤ offset s + len s) (fits : offset s + len s ≤ length s) where
  abbrev whole_span : List ℕ
  whole_span = take (offset s + len s) s

  same_checksum : checksum_of whole_span ≡ checksum s
  same_checksum = be_same 4 s whole_span 16 (λ j a b. get_or-take (offset s + len s) s j 0 (omega arith))

  same_sum : span_sum whole_span ≡ sum_of s (offset s + len s) % 4294967296
  unfolding span_sum
  same_sum = rw (sum_words s (offset s + len s) long fits)

  words_sum : checksum_matches whole_span ≡ true → (checksum s ≡ 0) ⊎ (checksum s ≡ sum_of s (offset s + len s) % 4294967296)
  words_sum e = rw (same_checksum, same_sum) at (sum_stated whole_span e)

  sum_fit : (checksum s ≡ 0) ⊎ (checksum s ≡ sum_of s (offset s + len s) % 4294967296) → checksum_matches whole_span ≡ true
  sum_fit e = stated_sum whole_span (rw (same_checksum, same_sum) e)

well_formed_lem : (s : List ℕ) (c : Component) → Formed s c → WellFormedHeader s (length (before_zero (name_field s)))
unfolding starts_with_magic magic
well_formed_lem s c f =
    let o : offset s ≤ length s = omega (arith, f.fits) in
    let l = field-length s o in
    let d = fit_field (name_field s) f.named in
    record {
      magic = eq_true _ _ f.magic;
      header_fits = f.long;
      offset_min = f.least;
      offset_max = f.most;
      multiple = sixteens (offset s) (omega (arith, f.least)) f.whole;
      span_fits = f.fits;
      name_min = d.least;
      name_max = d.most;
      in_field = omega (arith, d.inside, l);
      letters = λ j h. rw (nth s o j (omega (arith, d.inside, l))) at (d.letters j h);
      zeros = λ j h k. sym (nth s o j k) ∙ d.zeros j h (omega (arith, l));
      sum = words_sum s (omega (arith, f.least)) f.fits f.summed;
    }

field_words : (s : List ℕ) (n : ℕ) → WellFormedHeader s n → Field (name_field s) n
field_words s n w =
    let o : offset s ≤ length s = omega (arith, w.span_fits) in
    let l = field-length s o in
    record {
      least = w.name_min;
      most = w.name_max;
      inside = omega (arith, w.in_field, l);
      letters = λ j h. rw (nth s o j (omega (arith, w.in_field))) (w.letters j h);
      zeros = λ j h k. nth s o j (omega (arith, l)) ∙ w.zeros j h (omega (arith, l));
    }

-- Well formed is what document 01's tests accept (`judge_skipping_sum`) and whose checksum is 0 or the sum of the span.
pub well_formed_exactly : (s : List ℕ) (c : Component)
    → (judge s ≡ Some c) ↔ ((judge_skipping_sum s ≡ Some c) × ((c.checksum ≡ 0) ⊎ (c.checksum ≡ span_sum (take (span_length c) s))))
well_formed_exactly s c = (there, λ h. judge_unsummed s (Some c) h.0 ∙ back h.0 h.1)
  where
    stated : judge_skipping_sum s ≡ Some c → checksum_of (take (span_length c) s) ≡ c.checksum
    stated h = let f = unsummed_fits_region s c h in
        be_same 4 s (take (span_length c) s) 16 (λ j a b. get_or-take (span_length c) s j 0 (omega (arith, f))) ∙ unsummed_of s c h

    back : judge_skipping_sum s ≡ Some c → (c.checksum ≡ 0) ⊎ (c.checksum ≡ span_sum (take (span_length c) s)) → summed_of s (Some c) ≡ Some c
    back h w = rw (stated_sum (take (span_length c) s) (rw (stated h) w))

    there : judge s ≡ Some c → (judge_skipping_sum s ≡ Some c) × ((c.checksum ≡ 0) ⊎ (c.checksum ≡ span_sum (take (span_length c) s)))
    there e =
        let h : judge_skipping_sum s ≡ Some c = unsummed_numbers s (judge-magic s c e) ∙ judge_by_numbers s c e in
        (h, rw (stated h) at (sum_stated (take (span_length c) s) (fits_stated h e)))
      where
        fits_stated : judge_skipping_sum s ≡ Some c → judge s ≡ Some c → checksum_matches (take (span_length c) s) ≡ true
        fits_stated h e = (cond_some (checksum_matches (take (span_length c) s)) c c (sym (judge_unsummed s (Some c) h) ∙ e)).0

-- The definition's component is the paper's, for the length of the name.
same_component : (s : List ℕ) (n : ℕ) → n ≤ offset s - 24 → before_zero (name_field s) ≡ take n (name_field s) → component_of s ≡ component s n
unfolding component_of
same_component s n h e = rw (e, take-take n (offset s - 24) (drop 24 s) h)

-- Where the header is well formed, the judge gives the paper's component.
pub judge_words : (s : List ℕ) (n : ℕ) → WellFormedHeader s n → judge s ≡ Some (component s n)
unfolding starts_with_magic magic
judge_words s n w =
    let d = field_words s n w in
    unformed s (component s n) (record {
      magic = rw w.magic (eq_refl magic);
      long = w.header_fits;
      least = w.offset_min;
      most = w.offset_max;
      whole = let (k, e) = w.multiple in whole (offset s) k e;
      fits = w.span_fits;
      named = field_fit (name_field s) n d;
      summed = sum_fit s (omega (arith, w.offset_min)) w.span_fits w.sum;
      read = same_component s n (omega (arith, w.in_field)) (field_before (name_field s) n d);
    })

-- A component stands at the start of s exactly if the header there is well formed, and then it is the paper's.
pub judge_exactly : (s : List ℕ) (c : Component) → (judge s ≡ Some c) ↔ ((n : ℕ) × WellFormedHeader s n × (c ≡ component s n))
judge_exactly s c = (there, back)
  where
    there : judge s ≡ Some c → (n : ℕ) × WellFormedHeader s n × (c ≡ component s n)
    there e =
        let f = formed s c e in
        let w = well_formed_lem s c f in
        let n : ℕ = length (before_zero (name_field s)) in
        (n, w, sym f.read ∙ same_component s n (omega (arith, w.in_field)) (sym (before_take (name_field s))))

    back : (n : ℕ) × WellFormedHeader s n × (c ≡ component s n) → judge s ≡ Some c
    back (n, w, e) = judge_words s n w ∙ ap Some (sym e)

-- No component stands there exactly if the header is well formed for no length of the name.
pub none_exactly : (s : List ℕ) → (judge s ≡ None) ↔ ((n : ℕ) → WellFormedHeader s n → ⊥)
none_exactly s = (λ e n w. none-some _ (sym e ∙ judge_words s n w), back (judge s) refl)
  where
    back : (o : Option Component) → judge s ≡ o → ((n : ℕ) → WellFormedHeader s n → ⊥) → o ≡ None
    back None q h = refl
    back (Some c) q h = let (n, w, e) = (judge_exactly s c).0 q in absurd (h n w)

-- 16 without building the span: the magic at a place of the span stands in the name, in the content, or in the header, from its len to its checksum.
use Prim.Native.Nat.{ℕ, zero, suc, ◌+◌, ◌*◌, ◌-◌, ◌/◌, ◌%◌, ◌≤◌, ◌<◌}
use native.Mathlib.Nat.{div-add-mod', mod-lt, mul-le-mul_right}
use native.Mathlib.Omega.{arith}
use native.Mathlib.Decide.{dec_le, dec_lt}
use mathlib.Core.Path.{◌≡◌, refl, sym, ap, ◌∙◌}
use mathlib.Core.List.{List, [], ◌++◌, append_assoc}
use mathlib.Core.Bool.{Bool, true, false}
use lib.ListN.{length, get_or, drop, replicate, length-append, length-drop, length-replicate, get_or-replicate, get_or-append}
use lib.Seq.{take-append-le, drop-append-le, drop-drop, drop_at, get_or-append-add}
use Rattle.bytes_read.specs.Number.{be_bytes}
use Rattle.component.specs.Component.{magic, starts_with_magic}
use Rattle.walk.specs.Walk.{place_count_below, places, magic_at, next_magic, magic_inside, Place}
use Rattle.walk.proofs.Places.{no_places, below_ge, below_lt, below_unique}
use Rattle.walk.proofs.Picks.{magic-fits, magic_inside_of}
use Rattle.walk.proofs.Searching.{next_end, next_here, next_not, by_places, next_has_magic, magic_end}
use Rattle.edit_decide.specs.Choices.{distance_to_place}
use Rattle.edit_rules.specs.Edit.{field_length, offset_for, header_bytes, field_bytes, span_stating, sum_for, span_bytes, header_for, contains_magic}
use Rattle.edit_rules.proofs.Written.{field_fits_lem, field_most, length_header, length-field}
use Rattle.edit_rules.proofs.Filling.{magic_bytes, magic_first_byte}
use Rattle.edit_rules.proofs.Theorems.{contains_magic_exactly}

-- distance to a place

pub distance_none : (a n : ℕ) → a ≡ 0 → 0 ≡ distance_to_place a n
unfolding distance_to_place
distance_none a n e = rw e (omega arith)

pub distance_at_place : (a n : ℕ) → 0 < a → n % a ≡ 0 → 0 ≡ distance_to_place a n
unfolding distance_to_place
distance_at_place a n pos e = let d = div-add-mod' n a in rw (below_unique a pos n (n / a) (omega arith) (omega arith)) (omega arith)

pub distance_between : (a n : ℕ) → 0 < a → (n % a ≡ 0 → ⊥) → a - n % a ≡ distance_to_place a n
unfolding distance_to_place
distance_between a n pos e =
    let d = div-add-mod' n a in
    let m = mod-lt n pos in
    rw (below_unique a pos n (n / a + 1) (omega arith) (omega arith)) (omega arith)

-- A place at or after n lies whole steps after the first.
pub distance_on : (a n q : ℕ) → 0 < a → Place a q → n ≤ q → (i : ℕ) × (q ≡ n + (distance_to_place a n + i * a))
unfolding distance_to_place
distance_on a n q pos (j, e) h =
    let k : place_count_below a n ≤ j = go (dec_le (place_count_below a n) j) in
    (j - place_count_below a n, by (place_count_below a n) (j - place_count_below a n) ge (omega arith))
  where
    ge : n ≤ place_count_below a n * a
    ge = below_ge a pos n

    go : Dec (place_count_below a n ≤ j) → place_count_below a n ≤ j
    go (yes k) = k
    go (no k) = absurd (omega (arith, below_lt a pos n, mul-le-mul_right {m = suc j} {n = place_count_below a n} a (omega arith)))

    by : (c d : ℕ) → n ≤ c * a → j ≡ c + d → q ≡ n + (c * a - n + d * a)
    by c d g f = let x : q ≡ (c + d) * a = rw f at e in omega arith

pub distance_at : (a n i : ℕ) → 0 < a → Place a (n + (distance_to_place a n + i * a))
unfolding distance_to_place
distance_at a n i pos = (place_count_below a n + i, omega (arith, below_ge a pos n))

-- The search from n on: what it finds, it finds at a step from n; and where it finds nothing, no step finds a magic.
module _ (r : List ℕ) (a : ℕ) (pos : 0 < a) where
  next_at : (n b : ℕ) → next_magic r a n b < b → (i : ℕ) × (next_magic r a n b ≡ n + i * a)
  next_at n b = by_places r a pos b (λ n. next_magic r a n b < b → (i : ℕ) × (next_magic r a n b ≡ n + i * a))
      (λ n h k. absurd (omega (arith, k, next_end r a pos n b h)))
      (λ n h y k. (0, omega (arith, next_here r a pos n b h y)))
      (λ n h y ih k. let e = next_not r a pos n b h y in let (i, q) = ih (rw e at k) in (suc i, omega (arith, e, q))) n

  next_no_magic : (n b : ℕ) → b ≤ next_magic r a n b → (i : ℕ) → n + i * a < b → magic_at r (n + i * a) ≡ false
  next_no_magic n b = by_places r a pos b (λ n. b ≤ next_magic r a n b → (i : ℕ) → n + i * a < b → magic_at r (n + i * a) ≡ false)
      (λ n h k i l. absurd (omega arith))
      (λ n h y k i l. absurd (omega (arith, k, next_here r a pos n b h y)))
      (λ n h y ih k i l. step n h y (ih (rw (next_not r a pos n b h y) at k)) i l) n
    where
      step : (n : ℕ) → n < b → magic_at r n ≡ false → ((i : ℕ) → n + a + i * a < b → magic_at r (n + a + i * a) ≡ false) → (i : ℕ) → n + i * a < b
          → magic_at r (n + i * a) ≡ false
      step n h y ih zero l = let e : n + 0 * a ≡ n = omega arith in rw e y
      step n h y ih (suc i) l = let e : n + suc i * a ≡ n + a + i * a = omega arith in rw e (ih i (omega arith))

-- Every letter is 65 or more.
letter_of_magic : (j : ℕ) → j < 8 → 65 ≤ get_or magic j 0
unfolding magic
letter_of_magic zero h = omega arith
letter_of_magic (suc zero) h = omega arith
letter_of_magic (suc (suc zero)) h = omega arith
letter_of_magic (suc (suc (suc zero))) h = omega arith
letter_of_magic (suc (suc (suc (suc zero)))) h = omega arith
letter_of_magic (suc (suc (suc (suc (suc zero))))) h = omega arith
letter_of_magic (suc (suc (suc (suc (suc (suc zero)))))) h = omega arith
letter_of_magic (suc (suc (suc (suc (suc (suc (suc zero))))))) h = omega arith
letter_of_magic (suc (suc (suc (suc (suc (suc (suc (suc j)))))))) h = absurd (omega arith)

-- A byte that is no letter is in no magic.
pub no_letter_of_magic : (s : List ℕ) (q i : ℕ) → q ≤ i → i < q + 8 → get_or s i 0 < 65 → magic_at s q ≡ false
no_letter_of_magic s q i h k z = go (magic_at s q) refl
  where
    go : (b : Bool) → magic_at s q ≡ b → b ≡ false
    go false e = refl
    go true e =
        let n : q + (i - q) ≡ i = omega arith in
        let c = magic_bytes s q e (i - q) (omega arith) in
        absurd (omega (arith, rw n at c, letter_of_magic (i - q) (omega arith)))

-- What stands in a part stands in the whole.
pub magic_in_part : (u v w : List ℕ) (k q : ℕ) → q ≡ length u + k → k + 8 ≤ length v → magic_at (u ++ (v ++ w)) q ≡ magic_at v k
unfolding magic_at starts_with_magic
magic_in_part u v w k q e h =
    let d : drop q (u ++ (v ++ w)) ≡ drop k (v ++ w) = rw e (sym (drop-drop k (length u) (u ++ (v ++ w))) ∙ ap (drop k) (drop_at u (v ++ w) (length u) refl)) in
    rw (d, drop-append-le k v w (omega arith), take-append-le 8 (drop k v) w (simp length-drop (omega arith)))

-- The bytes of a span, in their parts.
module _ (name : List ℕ) (kind : ℕ) (content : List ℕ) where
  abbrev s : List ℕ
  s = span_bytes name kind content

  abbrev head : List ℕ
  head = header_for name kind content

  in_header : (i : ℕ) → i < 24 → get_or s i 0 ≡ get_or head i 0
  unfolding span_bytes span_stating
  in_header i h =
      get_or-append head (field_bytes name ++ content) 0 i (omega (arith, length_header (length content) kind (sum_for name kind content) (offset_for name)))

  -- The field's zeros.
  in_zeros : (i : ℕ) → 24 + length name ≤ i → i < offset_for name → get_or s i 0 ≡ 0
  unfolding span_bytes span_stating field_bytes
  in_zeros i h k =
      let e : s ≡ (head ++ name) ++ (replicate (field_length (length name) - length name) 0 ++ content) = simp append_assoc in
      let l : length (head ++ name) ≡ 24 + length name = simp (length-append, length_header) (omega arith) in
      let n : i ≡ length (head ++ name) + (i - (24 + length name)) = omega arith in
      rw e (ap (λ (m : ℕ). get_or ((head ++ name) ++ (replicate (field_length (length name) - length name) 0 ++ content)) m 0) n
      ∙ get_or-append-add (head ++ name) (replicate (field_length (length name) - length name) 0 ++ content) (i - (24 + length name)) 0
      ∙ get_or-append (replicate (field_length (length name) - length name) 0) content 0 (i - (24 + length name))
      (rw (length-replicate {A = ℕ}) (omega (arith, field_fits_lem (length name))))
      ∙ get_or-replicate (field_length (length name) - length name) (i - (24 + length name)) 0 0 (omega (arith, field_fits_lem (length name))))

  -- In the name, and in the content.

  in_name_lem : (k : ℕ) → k + 8 ≤ length name → magic_at s (24 + k) ≡ magic_at name k
  unfolding span_bytes span_stating field_bytes
  in_name_lem k h =
      let e : s ≡ head ++ (name ++ (replicate (field_length (length name) - length name) 0 ++ content)) = simp append_assoc in
      rw e (magic_in_part head name (replicate (field_length (length name) - length name) 0 ++ content) k (24 + k)
      (omega (arith, length_header (length content) kind (sum_for name kind content) (offset_for name))) h)

  in_content_lem : (k : ℕ) → magic_at s (offset_for name + k) ≡ magic_at content k
  unfolding span_bytes span_stating magic_at
  in_content_lem k =
      let e : s ≡ (head ++ field_bytes name) ++ content = sym (append_assoc head (field_bytes name) content) in
      let l : length (head ++ field_bytes name) ≡ offset_for name = simp (length-append, length_header, length-field) (omega arith) in
      rw (e, ← drop-drop k (offset_for name) ((head ++ field_bytes name) ++ content), drop_at (head ++ field_bytes name) content (offset_for name) l)

  -- The header's bytes that no magic holds.

  byte_20 : length name ≤ 255 → get_or s 20 0 ≡ 0
  unfolding header_bytes magic be_bytes
  byte_20 h = in_header 20 (omega arith) ∙ small (offset_for name) (omega (arith, field_most (length name) h))
    where
      small : (n : ℕ) → n ≤ 280 → n / 256 / 256 / 256 % 256 ≡ 0
      small n k = omega arith

  byte_21 : length name ≤ 255 → get_or s 21 0 ≡ 0
  unfolding header_bytes magic be_bytes
  byte_21 h = in_header 21 (omega arith) ∙ small (offset_for name) (omega (arith, field_most (length name) h))
    where
      small : (n : ℕ) → n ≤ 280 → n / 256 / 256 % 256 ≡ 0
      small n k = omega arith

  byte_22 : length name ≤ 255 → get_or s 22 0 < 65
  unfolding header_bytes magic be_bytes
  byte_22 h = rw (in_header 22 (omega arith)) (small (offset_for name) (omega (arith, field_most (length name) h)))
    where
      small : (n : ℕ) → n ≤ 280 → n / 256 % 256 < 65
      small n k = omega arith

  byte_23 : get_or s 23 0 ≡ 76 → ⊥
  unfolding header_bytes magic be_bytes field_length
  byte_23 e = odd (length name / 16) (sym (in_header 23 (omega arith)) ∙ e)
    where
      odd : (n : ℕ) → (24 + (n + 1) * 16) % 256 ≡ 76 → ⊥
      odd n z = omega arith

  -- In the header.
  in_head : (q : ℕ) → q + 8 ≤ 24 → magic_at s q ≡ magic_at head q
  unfolding span_bytes span_stating
  in_head q h =
      magic_in_part [] head (field_bytes name ++ content) q q (omega arith)
      (omega (arith, length_header (length content) kind (sum_for name kind content) (offset_for name)))

  -- From byte 13 on up to byte 24 no magic stands.
  late_no_magic : length name ≤ 255 → (q : ℕ) → 12 < q → q < 24 → magic_at s q ≡ false
  late_no_magic h q lo hi = go (dec_le q 20) (dec_le q 21) (dec_le q 22) (magic_at s q) refl
    where
      go : Dec (q ≤ 20) → Dec (q ≤ 21) → Dec (q ≤ 22) → (b : Bool) → magic_at s q ≡ b → magic_at s q ≡ false
      go d₂ d₃ d₄ false e = e
      go (yes m) d₃ d₄ true e = no_letter_of_magic s q 20 m (omega arith) (omega (arith, byte_20 h))
      go (no m) (yes k) d₄ true e = no_letter_of_magic s q 21 k (omega arith) (omega (arith, byte_21 h))
      go (no m) (no k) (yes j) true e = no_letter_of_magic s q 22 j (omega arith) (byte_22 h)
      go (no m) (no k) (no j) true e = let z : q ≡ 23 = omega arith in absurd (byte_23 (rw z at (magic_first_byte s q e)))

  -- From byte 24 up to the content the magic stands in the name or nowhere.
  field_no_magic : (q : ℕ) → 24 ≤ q → q < offset_for name → 24 + length name < q + 8 → magic_at s q ≡ false
  field_no_magic q lo hi k = go (dec_le (24 + length name) q)
    where
      go : Dec (24 + length name ≤ q) → magic_at s q ≡ false
      go (yes h) = no_letter_of_magic s q q (omega arith) (omega arith) (omega (arith, in_zeros q h hi))
      go (no h) =
          no_letter_of_magic s q (24 + length name) (omega arith) k
          (omega (arith, in_zeros (24 + length name) (omega arith) (omega (arith, field_fits_lem (length name)))))

  -- 16, by the parts.

  pub contains_none : (a : ℕ) → a ≡ 0 → contains_magic a s ≡ false
  unfolding contains_magic magic_inside places
  contains_none a e = rw (e, no_places (length s))

  module _ (a : ℕ) (pos : 0 < a) where
    pub contains_in_name : next_magic name a (distance_to_place a 24) (length name) < length name → contains_magic a s ≡ true
    contains_in_name h =
        let (i, e) = next_at name a pos (distance_to_place a 24) (length name) h in
        let c = next_has_magic name a pos (distance_to_place a 24) (length name) h in
        found i e (rw e at c)
      where
        found : (i : ℕ) → next_magic name a (distance_to_place a 24) (length name) ≡ distance_to_place a 24 + i * a
            → magic_at name (distance_to_place a 24 + i * a) ≡ true → contains_magic a s ≡ true
        found i e c =
            (contains_magic_exactly a pos s).1 (
              24 + (distance_to_place a 24 + i * a),
              distance_at a 24 i pos,
              omega arith,
              in_name_lem (distance_to_place a 24 + i * a) (magic-fits name (distance_to_place a 24 + i * a) c) ∙ c,
            )

    pub contains_in_content : next_magic content a (distance_to_place a (offset_for name)) (length content) < length content → contains_magic a s ≡ true
    contains_in_content h =
        let (i, e) = next_at content a pos (distance_to_place a (offset_for name)) (length content) h in
        let c = next_has_magic content a pos (distance_to_place a (offset_for name)) (length content) h in
        found i (rw e at c)
      where
        found : (i : ℕ) → magic_at content (distance_to_place a (offset_for name) + i * a) ≡ true → contains_magic a s ≡ true
        found i c =
            (contains_magic_exactly a pos s).1 (
              offset_for name + (distance_to_place a (offset_for name) + i * a),
              distance_at a (offset_for name) i pos,
              omega arith,
              in_content_lem (distance_to_place a (offset_for name) + i * a) ∙ c,
            )

    pub contains_in_header : next_magic head a (0 + a) 24 < 24 → contains_magic a s ≡ true
    contains_in_header h =
        let (i, e) = next_at head a pos (0 + a) 24 h in
        let c = next_has_magic head a pos (0 + a) 24 h in
        found i (rw e at c)
      where
        found : (i : ℕ) → magic_at head (0 + a + i * a) ≡ true → contains_magic a s ≡ true
        found i c =
            let f = magic-fits head (0 + a + i * a) c in
            let l = length_header (length content) kind (sum_for name kind content) (offset_for name) in
            (contains_magic_exactly a pos s).1 (0 + a + i * a, (suc i, omega arith), omega arith, in_head (0 + a + i * a) (omega arith) ∙ c)

    -- No place of the header, up to byte 12, carries the magic: there is none, or the search has found none.

    none_there : 16 ≤ a → (q : ℕ) → Place a q → 0 < q → q ≤ 12 → magic_at s q ≡ false
    none_there big q (zero, e) lo hi = absurd (omega arith)
    none_there big q (suc j, e) lo hi = absurd (omega arith)

    -- From an alignment of 16 on no byte of the header matters: the magic stands at no place of it above 0, whatever its len, its type and its sum.
    pub header_without_magic : 16 ≤ a → length name ≤ 255 → (q : ℕ) → Place a q → 0 < q → q < 24 → magic_at s q ≡ false
    header_without_magic big short q pl lo hi = go (dec_le q 12)
      where
        go : Dec (q ≤ 12) → magic_at s q ≡ false
        go (yes l) = none_there big q pl lo l
        go (no l) = late_no_magic short q (omega arith) hi

    pub none_found : 24 ≤ next_magic head a (0 + a) 24 → (q : ℕ) → Place a q → 0 < q → q ≤ 12 → magic_at s q ≡ false
    none_found h q (zero, e) lo hi = absurd (omega arith)
    none_found h q (suc j, e) lo hi =
        let z : 0 + a + j * a ≡ q = omega arith in
        in_head q (omega arith) ∙ rw (← z) (next_no_magic head a pos (0 + a) 24 h j (omega arith))

    pub contains_not : length name ≤ 255 → length name ≤ next_magic name a (distance_to_place a 24) (length name)
        → length content ≤ next_magic content a (distance_to_place a (offset_for name)) (length content)
        → ((q : ℕ) → Place a q → 0 < q → q ≤ 12 → magic_at s q ≡ false) → contains_magic a s ≡ false
    unfolding contains_magic
    contains_not short n c h =
        magic_inside_of s a pos 0 (length s) (λ q pl lo hi. go q pl lo (dec_le q 12) (dec_lt q 24) (dec_lt q (offset_for name))
        (dec_le (q + 8) (24 + length name))) (0, omega arith)
      where
        in_name : (q : ℕ) → Place a q → 24 ≤ q → q + 8 ≤ 24 + length name → magic_at s q ≡ false
        in_name q pl l k = let (i, e) = distance_on a 24 q pos pl l in
            rw e (in_name_lem (distance_to_place a 24 + i * a) (omega arith) ∙ next_no_magic name a pos (distance_to_place a 24) (length name) n i
            (omega arith))

        in_content : (q : ℕ) → Place a q → offset_for name ≤ q → magic_at s q ≡ false
        in_content q pl l = let (i, e) = distance_on a (offset_for name) q pos pl l in
            rw e (in_content_lem (distance_to_place a (offset_for name) + i * a) ∙ past i
            (dec_lt (distance_to_place a (offset_for name) + i * a) (length content)))
          where
            past : (i : ℕ) → Dec (distance_to_place a (offset_for name) + i * a < length content)
                → magic_at content (distance_to_place a (offset_for name) + i * a) ≡ false
            past i (yes k) = next_no_magic content a pos (distance_to_place a (offset_for name)) (length content) c i k
            past i (no k) = magic_end content (distance_to_place a (offset_for name) + i * a) (omega arith)

        go : (q : ℕ) → Place a q → 0 < q → Dec (q ≤ 12) → Dec (q < 24) → Dec (q < offset_for name) → Dec (q + 8 ≤ 24 + length name) → magic_at s q ≡ false
        go q pl lo (yes y) d₁ d₂ d₃ = h q pl lo y
        go q pl lo (no y) (yes l) d₂ d₃ = late_no_magic short q (omega arith) l
        go q pl lo (no y) (no l) (yes m) (yes k) = in_name q pl (omega arith) k
        go q pl lo (no y) (no l) (yes m) (no k) = field_no_magic q (omega arith) m (omega arith)
        go q pl lo (no y) (no l) (no m) d₃ = in_content q pl (omega arith)

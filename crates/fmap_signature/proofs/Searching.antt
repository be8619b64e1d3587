-- Laws of the search for signatures, and of the list of those that it finds.
use Prim.Native.Nat.{ℕ, zero, suc, ◌+◌, ◌-◌, ◌*◌, ◌≤◌, ◌<◌}
use native.Mathlib.Omega.{arith}
use native.Mathlib.Decide.{dec_le}
use mathlib.Core.Path.{◌≡◌, refl, sym, ◌∙◌}
use mathlib.Core.Logic.{◌⊎◌, inl, inr}
use mathlib.Core.Bool.{Bool, true, false, true≢false}
use mathlib.Core.List.Memᴰ
use mathlib.Core.List.{List, [], ◌∷◌, Memᴰ}
use lib.ListN.{length, take, drop, length-take, length-drop}
use lib.Seq.{take-take}
use lib.Dec.{eqb}
use Rattle.std.specs.Cmp.Lexicographic.{pointwise}
use Rattle.bytes_read.proofs.SameBytes.{eq_length, eq_pointwise, eq_swap}
use Rattle.fmap_signature.specs.Signatures.{signature, has_signature, signature_at, place_count_from, signatures_at, signatures_from, first_or}

-- What is answered of the eight bytes from p on.
pub signature_eight : (s : List ℕ) (p : ℕ) {b : Bool} → b ≡ pointwise eqb signature (take 8 (take (p + 8 - p) (drop p s))) → b ≡ signature_at s p
unfolding signature_at has_signature
signature_eight s p e =
    let n : p + 8 - p ≡ 8 = omega arith in
    let eight = rw (n, take-take 8 8 (drop p s) (omega arith)) at e in
    eight ∙ eq_pointwise signature (take 8 (drop p s)) ∙ eq_swap signature (take 8 (drop p s))

-- Fewer than eight bytes are no signature.
pub signature_short : (s : List ℕ) → length s < 8 → has_signature s ≡ false
unfolding has_signature signature
signature_short s h = eq_length (take 8 s) signature (λ e. absurd (omega (arith, e, length-take 8 s)))

places-next : (s : List ℕ) (p : ℕ) → p + 8 ≤ length s → place_count_from s p ≡ suc (place_count_from s (p + 64))
unfolding place_count_from
places-next s p h = omega arith

places_end : (s : List ℕ) (p : ℕ) → length s < p + 8 → place_count_from s p ≡ 0
unfolding place_count_from
places_end s p h = omega arith

module _ (s : List ℕ) where
  pub signature_here : (p : ℕ) → p + 8 ≤ length s → signature_at s p ≡ true → signatures_from s p ≡ p ∷ signatures_from s (p + 64)
  unfolding signatures_from signatures_at
  signature_here p h y = rw (places-next s p h, y)

  pub signature_not : (p : ℕ) → p + 8 ≤ length s → signature_at s p ≡ false → signatures_from s p ≡ signatures_from s (p + 64)
  unfolding signatures_from signatures_at
  signature_not p h y = rw (places-next s p h, y)

  pub signature_end : (p : ℕ) → length s < p + 8 → signatures_from s p ≡ []
  unfolding signatures_from signatures_at
  signature_end p h = rw (places_end s p h)

  -- Induction over the places from n on.
  pub by_places : (P : ℕ → Type 0) → ((p : ℕ) → length s < p + 8 → P p) → ((p : ℕ) → p + 8 ≤ length s → signature_at s p ≡ true → P (p + 64) → P p)
      → ((p : ℕ) → p + 8 ≤ length s → signature_at s p ≡ false → P (p + 64) → P p) → (n : ℕ) → P n
  by_places P end here not n = go (length s) n (omega arith)
    where
      by : (p : ℕ) → p + 8 ≤ length s → (b : Bool) → signature_at s p ≡ b → P (p + 64) → P p
      by p h true y ih = here p h y ih
      by p h false y ih = not p h y ih

      go : (d p : ℕ) → length s ≤ p + d → P p
      go zero p h = end p (omega arith)
      go (suc d) p h = at (dec_le (p + 8) (length s)) (go d (p + 64) (omega arith))
        where
          at : Dec (p + 8 ≤ length s) → P (p + 64) → P p
          at (yes l) ih = by p l (signature_at s p) refl ih
          at (no g) ih = end p (omega arith)

  -- A signature is the first one, and the others are those from the next place on; or there is none.

  abbrev pub first : ℕ → ℕ
  first n = first_or (length s) (signatures_from s n)

  pub signature-first : (n : ℕ) → first n < length s → signatures_from s n ≡ first n ∷ signatures_from s (first n + 64)
  signature-first = by_places (λ n. first n < length s → signatures_from s n ≡ first n ∷ signatures_from s (first n + 64))
      (λ p h k. absurd (omega (arith, rw (signature_end p h) at k)))
      (λ p h y ih k. rw (signature_here p h y))
      (λ p h y ih k. rw (signature_not p h y) (ih (rw (signature_not p h y) at k)))

  pub signature_none : (n : ℕ) → length s ≤ first n → signatures_from s n ≡ []
  signature_none = by_places (λ n. length s ≤ first n → signatures_from s n ≡ [])
      (λ p h k. signature_end p h)
      (λ p h y ih k. absurd (omega (arith, rw (signature_here p h y) at k)))
      (λ p h y ih k. rw (signature_not p h y) (ih (rw (signature_not p h y) at k)))

-- The list of signatures from n on has those at n, n + 64 and so on, and nothing else.

module _ (s : List ℕ) where
  signature_long : (p : ℕ) → signature_at s p ≡ true → p + 8 ≤ length s
  unfolding signature_at
  signature_long p y = go (dec_le (p + 8) (length s))
    where
      go : Dec (p + 8 ≤ length s) → p + 8 ≤ length s
      go (yes h) = h
      go (no g) = let e : length (drop p s) < 8 = rw length-drop (omega arith) in absurd (true≢false (sym y ∙ signature_short (drop p s) e))

  pub signature_sound : (n x : ℕ) → Memᴰ x (signatures_from s n) → (j : ℕ) × (x ≡ n + 64 * j) × (signature_at s x ≡ true)
  signature_sound n x = by_places s (λ n. Memᴰ x (signatures_from s n) → (j : ℕ) × (x ≡ n + 64 * j) × (signature_at s x ≡ true))
      (λ p h m. absurd (Memᴰ.not-nil (rw (signature_end s p h) at m)))
      (λ p h y ih m. here p y ih (Memᴰ.cases_cons (rw (signature_here s p h y) at m)))
      (λ p h y ih m. later p (ih (rw (signature_not s p h y) at m))) n
    where
      later : (p : ℕ) → (j : ℕ) × (x ≡ p + 64 + 64 * j) × (signature_at s x ≡ true) → (j : ℕ) × (x ≡ p + 64 * j) × (signature_at s x ≡ true)
      later p (j, e, y) = (suc j, omega arith, y)

      here : (p : ℕ) → signature_at s p ≡ true → (Memᴰ x (signatures_from s (p + 64)) → (j : ℕ) × (x ≡ p + 64 + 64 * j) × (signature_at s x ≡ true))
          → (x ≡ p) ⊎ Memᴰ x (signatures_from s (p + 64)) → (j : ℕ) × (x ≡ p + 64 * j) × (signature_at s x ≡ true)
      here p y ih (inl e) = (0, omega arith, rw e y)
      here p y ih (inr m) = later p (ih m)

  pub signature_complete : (j n : ℕ) → signature_at s (n + 64 * j) ≡ true → Memᴰ (n + 64 * j) (signatures_from s n)
  signature_complete zero n y =
      let z : n + 64 * 0 ≡ n = omega arith in
      let t : signature_at s n ≡ true = rw z at y in
      rw (z, signature_here s n (signature_long n t) t) (Memᴰ.head refl)
  signature_complete (suc j) n y = go (signature_at s n) refl (Memᴰ.cast (sym e) (signature_complete j (n + 64) t))
    where
      e : n + 64 + 64 * j ≡ n + 64 * suc j
      e = omega arith

      t : signature_at s (n + 64 + 64 * j) ≡ true
      t = rw e y

      l : n + 8 ≤ length s
      l = omega (arith, signature_long (n + 64 * suc j) y)

      go : (b : Bool) → signature_at s n ≡ b → Memᴰ (n + 64 * suc j) (signatures_from s (n + 64)) → Memᴰ (n + 64 * suc j) (signatures_from s n)
      go true q m = rw (signature_here s n l q) (Memᴰ.tail m)
      go false q m = rw (signature_not s n l q) m

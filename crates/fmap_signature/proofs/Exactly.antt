-- The signatures that are listed are exactly those that document 01 describes.
use Prim.Native.Nat.{ℕ, ◌+◌, ◌*◌, ◌≤◌, ◌<◌}
use native.Mathlib.Omega.{arith}
use native.Mathlib.Decide.{dec_lt}
use mathlib.Core.Path.{◌≡◌, refl, ap}
use mathlib.Core.Logic.{◌↔◌}
use mathlib.Core.Bool.{true}
use mathlib.Core.List.Memᴰ
use mathlib.Core.List.{List, [], ◌∷◌, Memᴰ}
use lib.ListN.{length, take, drop}
use Rattle.bytes_read.proofs.SameBytes.{eq_true, eq_refl}
use Rattle.fmap_signature.specs.Signatures.{signature, has_signature, signature_at, signatures_from, signatures}
use Rattle.fmap_signature.specs.Table.{SignatureAt}
use Rattle.fmap_signature.proofs.Searching.{first, signature-first, signature_none, signature_sound, signature_complete}

module _ (s : List ℕ) where
  signature_bytes : (p : ℕ) → signature_at s p ≡ true → take 8 (drop p s) ≡ 0x5F ∷ 0x5F ∷ 0x46 ∷ 0x4D ∷ 0x41 ∷ 0x50 ∷ 0x5F ∷ 0x5F ∷ []
  unfolding signature_at has_signature signature
  signature_bytes p y = eq_true _ _ y

  bytes_signature : (p : ℕ) → take 8 (drop p s) ≡ 0x5F ∷ 0x5F ∷ 0x46 ∷ 0x4D ∷ 0x41 ∷ 0x50 ∷ 0x5F ∷ 0x5F ∷ [] → signature_at s p ≡ true
  unfolding signature_at has_signature signature
  bytes_signature p e = rw e (eq_refl signature)

  -- Each place of the list has a signature, and each signature's place is in the list.
  pub listed : (p : ℕ) → Memᴰ p (signatures s) ↔ SignatureAt s p
  listed p = (there, back)
    where
      there : Memᴰ p (signatures s) → SignatureAt s p
      there m = let (k, e, y) = signature_sound s 0 p m in ((k, omega arith), signature_bytes p y)

      back : SignatureAt s p → Memᴰ p (signatures s)
      back ((k, e), b) = let z : 0 + 64 * k ≡ p = omega arith in rw z at (signature_complete s k 0 (rw z (bytes_signature p b)))

  -- None, and two or more.

  pub none_exactly : (length (signatures s) < 1) ↔ ((p : ℕ) → SignatureAt s p → ⊥)
  none_exactly = (λ h p a. there (signatures s) h p ((listed p).1 a), λ h. back (signatures s) (λ p m. h p ((listed p).0 m)))
    where
      there : (ps : List ℕ) → length ps < 1 → (p : ℕ) → Memᴰ p ps → ⊥
      there [] h p m = Memᴰ.not-nil m
      there (q ∷ ps) h p m = omega arith

      back : (ps : List ℕ) → ((p : ℕ) → Memᴰ p ps → ⊥) → length ps < 1
      back [] h = omega arith
      back (q ∷ ps) h = absurd (h q (Memᴰ.head refl))

  pub several_exactly : (1 < length (signatures s)) ↔ ((p : ℕ) × (q : ℕ) × (p < q) × SignatureAt s p × SignatureAt s q)
  several_exactly = (there, back)
    where
      Two : Type 0
      Two = (p : ℕ) × (q : ℕ) × (p < q) × SignatureAt s p × SignatureAt s q

      -- The second stands after the first.
      second : (p : ℕ) → SignatureAt s p → (ps : List ℕ) → signatures_from s (p + 64) ≡ ps → 1 ≤ length ps → Two
      second p a [] e h = absurd (omega arith)
      second p ((k, z), b) (q ∷ ps) e h =
          let (j, x, y) = signature_sound s (p + 64) q (rw e (Memᴰ.head refl)) in
          (p, q, omega arith, ((k, z), b), ((k + 1 + j, omega arith), signature_bytes q y))

      go : Dec (first s 0 < length s) → 1 < length (signatures s) → Two
      go (yes l) h =
          let e = signature-first s 0 l in
          let a = (listed (first s 0)).0 (rw e (Memᴰ.head refl)) in
          second (first s 0) a (signatures_from s (first s 0 + 64)) refl (omega (arith, ap length e))
      go (no g) h = absurd (omega (arith, ap length (signature_none s 0 (omega arith))))

      there : 1 < length (signatures s) → Two
      there h = go (dec_lt (first s 0) (length s)) h

      only : (ps : List ℕ) (p q : ℕ) → p < q → Memᴰ p ps → Memᴰ q ps → 1 < length ps
      only [] p q l m n = absurd (Memᴰ.not-nil m)
      only (x ∷ []) p q l m n = absurd (omega (arith, Memᴰ.eq_of_singleton m, Memᴰ.eq_of_singleton n))
      only (x ∷ y ∷ ps) p q l m n = omega arith

      back : Two → 1 < length (signatures s)
      back (p, q, l, a, b) = only (signatures s) p q l ((listed p).1 a) ((listed q).1 b)

-- Worked values: where signatures stand in runs of bytes, on both sides of each bound (document 01, "Flash map").
use Prim.Native.Nat.{ℕ}
use mathlib.Core.Path.{◌≡◌, refl}
use mathlib.Core.Bool.{true}
use mathlib.Core.List.{List, [], ◌∷◌, ◌++◌, map}
use lib.ListN.{take, replicate}
use Rattle.bytes_read.specs.Bytes.{eq_bytes}
use Rattle.bytes_read.specs.Tests.{all_true}
use Rattle.fmap_signature.specs.Signatures.{signature, has_signature, signature_at, place_count_from, signatures_at, signatures_from, signatures}

-- __FMAP__
abbrev sign : List ℕ
sign = 0x5F ∷ 0x5F ∷ 0x46 ∷ 0x4D ∷ 0x41 ∷ 0x50 ∷ 0x5F ∷ 0x5F ∷ []

-- The bytes after n others.
abbrev after : ℕ → List ℕ → List ℕ
after n s = replicate n 0xFF ++ s

-- Bytes, each with the places of its signatures.
abbrev cases : List (List ℕ × List ℕ)
cases =
    ([], [])
    -- the whole signature, and seven bytes of it
    ∷ (0 ∷ [], sign)
    ∷ ([], take 7 sign)
    ∷ (64 ∷ [], after 64 sign)
    ∷ ([], after 64 (take 7 sign))
    -- off the multiples of 64
    ∷ ([], after 1 sign)
    ∷ ([], after 32 sign)
    ∷ ([], after 63 sign)
    ∷ ([], after 65 sign)
    ∷ (128 ∷ [], after 128 sign)
    -- two, and the second one cut
    ∷ (0 ∷ 64 ∷ [], sign ++ after 56 sign)
    ∷ (0 ∷ [], sign ++ after 56 (take 7 sign))
    ∷ (0 ∷ 128 ∷ [], sign ++ after 120 sign)
    -- one byte is another: the last letter, the first byte, the last byte
    ∷ ([], 0x5F ∷ 0x5F ∷ 0x46 ∷ 0x4D ∷ 0x41 ∷ 0x51 ∷ 0x5F ∷ 0x5F ∷ [])
    ∷ ([], 0x5E ∷ 0x5F ∷ 0x46 ∷ 0x4D ∷ 0x41 ∷ 0x50 ∷ 0x5F ∷ 0x5F ∷ [])
    ∷ ([], 0x5F ∷ 0x5F ∷ 0x46 ∷ 0x4D ∷ 0x41 ∷ 0x50 ∷ 0x5F ∷ 0x60 ∷ [])
    ∷ []

worked : all_true (map (λ ((ps, s) : List ℕ × List ℕ). eq_bytes (signatures s) ps) cases) ≡ true
unfolding eq_bytes signature has_signature signature_at place_count_from signatures_at signatures_from
worked = refl

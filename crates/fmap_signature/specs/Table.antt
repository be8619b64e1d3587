-- For what is promised: where a signature stands, in the words and bytes of document 01 ("Flash map"). No contract uses it.
use Rattle.std.specs.Prelude.{ℕ, ◌*◌, ◌≡◌, List, [], ◌∷◌, take, drop}

-- "The signature is the bytes 5F 5F 46 4D 41 50 5F 5F at a multiple of 64 from the image's start": one stands at p. All eight bytes lie in the image.
abbrev pub SignatureAt : List ℕ → ℕ → Type 0
SignatureAt i p = ((k : ℕ) × (p ≡ 64 * k)) × (take 8 (drop p i) ≡ 0x5F ∷ 0x5F ∷ 0x46 ∷ 0x4D ∷ 0x41 ∷ 0x50 ∷ 0x5F ∷ 0x5F ∷ [])

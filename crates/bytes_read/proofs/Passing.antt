-- Laws of lists of tests, and of tests on every byte as a loop over the indices meets them.
use Prim.Native.Nat.{ℕ, zero, suc, ◌+◌, ◌≤◌, ◌<◌}
use mathlib.Core.Path.{◌≡◌, refl}
use mathlib.Core.Bool.{Bool, true, false, true≢false, false≢true}
use mathlib.Core.List.{List, [], ◌∷◌}
use native.Mathlib.Numerals.{add-one}
use lib.ListN.{length, drop, get_or, drop_of_length-le}
use lib.Seq.{drop-cons}
use Rattle.bytes_read.specs.Tests.{all_true, all}

-- One test that fails is enough.
pub fails : (k : ℕ) (ts : List Bool) → get_or ts k true ≡ false → all_true ts ≡ false
fails zero (false ∷ ts) h = refl
fails zero (true ∷ ts) h = absurd (true≢false h)
fails zero [] h = h
fails (suc k) [] h = h
fails (suc k) (false ∷ ts) h = refl
fails (suc k) (true ∷ ts) h = fails k ts h

-- Each test of those that are all passed is passed.
pub passes : (k : ℕ) (ts : List Bool) → all_true ts ≡ true → get_or ts k true ≡ true
passes zero [] h = refl
passes zero (true ∷ ts) h = refl
passes zero (false ∷ ts) h = h
passes (suc k) [] h = refl
passes (suc k) (true ∷ ts) h = passes k ts h
passes (suc k) (false ∷ ts) h = absurd (false≢true h)

-- A single test.
pub all_true_last : (b : Bool) → all_true (b ∷ []) ≡ b
all_true_last true = refl
all_true_last false = refl

-- all

pub all_here : (t : ℕ → Bool) (f : List ℕ) (i : ℕ) → i < length f → t (get_or f i 0) ≡ true → all t (drop i f) ≡ all t (drop (i + 1) f)
all_here t f i h y = rw (add-one, drop-cons f i 0 h, y)

pub all_not : (t : ℕ → Bool) (f : List ℕ) (i : ℕ) → i < length f → t (get_or f i 0) ≡ false → all t (drop i f) ≡ false
all_not t f i h n = rw (drop-cons f i 0 h, n)

pub all_done : (t : ℕ → Bool) (f : List ℕ) (i : ℕ) → length f ≤ i → all t (drop i f) ≡ true
all_done t f i h = rw (drop_of_length-le f h)

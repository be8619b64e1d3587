-- Lists by a Boolean test, and lists filled up to a width.
use Rattle.std.specs.Prelude.{ℕ, ◌-◌, List, [], ◌∷◌, ◌++◌, Bool, true, cond, not, ◌&&◌, length, replicate}
use Rattle.std.specs.List.{list_any}

-- The test holds of some element.
abbrev pub any : {A : Type 0} → (A → Bool) → List A → Bool
any f xs = list_any f xs

module _ {ℓ} {A : Type ℓ} where
  -- The elements of which the test holds.
  unfoldable pub filter : (A → Bool) → List A → List A
  filter f [] = []
  filter f (x ∷ xs) = let rest = filter f xs in cond (f x) (x ∷ rest) rest

  -- The elements of l and, where they are fewer than w, as many x after them as are missing.
  unfoldable pub padded : ℕ → A → List A → List A
  padded w x l = l ++ replicate (w - length l) x

module _ {A : Type 0} where
  -- The test holds of no element and a later one.
  unfoldable pub no_two : (A → A → Bool) → List A → Bool
  no_two t [] = true
  no_two t (x ∷ xs) = let rest = no_two t xs in not (any (t x) xs) && rest

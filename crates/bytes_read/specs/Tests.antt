-- Lists of tests.
use Rattle.std.specs.Prelude.{ℕ, List, [], ◌∷◌, Bool, true, false}
use Rattle.std.specs.List.{list_all}

-- Each of the tests is passed.
abbrev pub all_true : List Bool → Bool
all_true [] = true
all_true (true ∷ ts) = all_true ts
all_true (false ∷ ts) = false

-- Each byte passes the test.
abbrev pub all : (ℕ → Bool) → List ℕ → Bool
all t bs = list_all t bs

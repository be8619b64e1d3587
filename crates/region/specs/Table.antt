-- For what is promised: document 01's table of refusals, its conditions in the paper's own words, in the order of a call.
-- No contract uses it. It stands beside the tests of Refusals, so that a wrong test shows.
use Rattle.std.specs.Prelude.{ℕ, ◌<◌, ◌≡◌, List, [], ◌∷◌, ◌⊎◌, length}

-- A row of the table: a number, and when it is given if no earlier one is.
pub record Row : Type 1 where
  pub number : ℕ
  pub when : Type 0

abbrev pub row : ℕ → Type 0 → Row
row n c = record { number = n; when = c }

-- "Earlier in this order wins, and none is given otherwise": the number n is that of the first row whose condition holds; 0 where none does.
abbrev pub FirstRowMet : List Row → ℕ → Type 0
FirstRowMet [] n = n ≡ 0
FirstRowMet (x ∷ xs) n = (x.when × (n ≡ x.number)) ⊎ ((x.when → ⊥) × FirstRowMet xs n)

-- "1: L outside 64 to 16,777,216", with which every call begins.
abbrev pub length_row : List ℕ → Row
length_row i = row 1 ((length i < 64) ⊎ (16777216 < length i))

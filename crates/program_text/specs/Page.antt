-- How much of a page is in use after text was put on it. What is then on it is `written` of the crate `bytes_read`.
use Rattle.std.specs.Prelude.{ℕ, ◌+◌, List, [], ◌∷◌, cond, ◌≡◌, refl}
use Rattle.bytes_read.specs.Bytes.{fits}

-- n bytes more where they fit the page; else none.
unfoldable pub used_after : List ℕ → ℕ → ℕ → ℕ
used_after page used n = cond (fits page used n) (used + n) used

-- Two bytes fit a page of three with one in use, and not with two.
worked : (used_after (1 ∷ 2 ∷ 3 ∷ []) 1 2 ≡ 3) × (used_after (1 ∷ 2 ∷ 3 ∷ []) 2 2 ≡ 2)
unfolding used_after
worked = (refl, refl)

-- The strict check over a region's bytes r at the alignment a (document 01, "Components and the two walks"; refusals 12, 13, 11).
use Rattle.std.specs.Prelude.{ℕ, ◌≤◌, ◌<◌, ◌≡◌, List, [], ◌∷◌, map, Bool, true, false, cond, not, ◌&&◌, length, ltb, eqb, Some}
use Rattle.bytes_read.specs.Lists.{any, filter, no_two}
use Rattle.component.specs.Component.{Component}
use Rattle.walk.specs.Walk.{Entry, all_places, magic_at, guarded_pick, plain_listing, Place}
use Rattle.walk_lookup.specs.Lookup.{bears}

-- How many components a region may have (request 6; 256 in document 01).
abbrev pub component_limit : ℕ
component_limit = 1024

-- A listing has a component at the place p.
unfoldable pub lists_place : List Entry → ℕ → Bool
lists_place l p = any (λ t. eqb t.place p) l

-- The place p carries the magic, and the listing does not take it.
unfoldable pub is_untaken : List ℕ → List Entry → ℕ → Bool
is_untaken r l p = magic_at r p && not (lists_place l p)

-- The places with the magic that the plain walk does not take, the lowest first.
unfoldable pub untaken_places : List ℕ → ℕ → List ℕ
untaken_places r a = filter (is_untaken r (plain_listing r a)) (all_places r a)

-- No two names are equal.
abbrev pub distinct_names : List Entry → Bool
distinct_names l = no_two (λ t. bears t.component.name) l

-- The strict check, which is document 01's term, accepts, where at most that many components are allowed.
pub record AcceptedUpTo (most : ℕ) (r : List ℕ) (a : ℕ) : Type 0 where
  -- "every place with the magic is one the plain walk takes"
  pub all_taken : untaken_places r a ≡ []
  -- "there are at most 256 components", 1,024 by request 6
  pub at_most : length (plain_listing r a) ≤ most
  -- "and no two names are equal"
  pub names_are_distinct : distinct_names (plain_listing r a) ≡ true

abbrev pub Accepted : List ℕ → ℕ → Type 0
Accepted r a = AcceptedUpTo component_limit r a

-- A refusal's number and its place, or the places of the components.
pub data Verdict : Type 0 where
  check_refused : ℕ → ℕ → Verdict
  check_accepted : List ℕ → Verdict

abbrev pub component_places : List Entry → List ℕ
component_places l = map (λ t. t.place) l

-- The verdict on the untaken places and the plain listing, at most that many components being allowed. The order is 12, 13, 11.
unfoldable pub verdict_on : ℕ → List ℕ → List Entry → Verdict
verdict_on most (p ∷ ps) l = check_refused 12 p
verdict_on most [] l = cond (ltb most (length l)) (check_refused 13 0) (cond (distinct_names l) (check_accepted (component_places l)) (check_refused 11 0))

-- What the strict check answers.
unfoldable pub verdict : ℕ → List ℕ → ℕ → Verdict
verdict most r a = verdict_on most (untaken_places r a) (plain_listing r a)

-- For what is promised.

-- p is the lowest place with the magic that the plain walk does not take. An alignment of 0 has no places.
pub record LowestUntaken (r : List ℕ) (a : ℕ) (p : ℕ) : Type 0 where
  pub pos : 0 < a
  pub at : Place a p
  pub magic : magic_at r p ≡ true
  pub untaken : lists_place (plain_listing r a) p ≡ false
  pub least : (q : ℕ) → Place a q → magic_at r q ≡ true → lists_place (plain_listing r a) q ≡ false → p ≤ q

-- Every magic at a place is a component's that the guarded walk may take.
abbrev pub EveryMagicTaken : List ℕ → ℕ → Type 0
EveryMagicTaken r a = (p : ℕ) → Place a p → magic_at r p ≡ true → (c : Component) × (guarded_pick r a p ≡ Some c)

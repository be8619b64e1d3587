-- The strict check as a loop from one magic to the next: what holds at each, and what is answered when it ends.
use Prim.Native.Nat.{ℕ, ◌+◌, ◌≤◌, ◌<◌}
use native.Mathlib.Omega.{arith}
use native.Mathlib.Decide.{dec_lt}
use mathlib.Core.Path.{◌≡◌, refl, sym, ap, ◌∙◌}
use mathlib.Core.List.{List, [], ◌∷◌, ◌++◌, append-nil, append_assoc}
use mathlib.Core.Logic.{inl, inr}
use mathlib.Core.Bool.{true}
use Rattle.std.specs.Prelude.{Some, None}
use Rattle.std.proofs.lemmas.Option.{same_Some, none-some}
use lib.ListN.{length, drop, length-append}
use Rattle.component.specs.Component.{Component, span_length, judge}
use Rattle.walk.specs.Walk.{Entry, magic_at, next_magic, next_place, plain_listing, Place, PlaceOrPastEnd}
use Rattle.walk.proofs.Searching.{next_none, next_end, next_has_magic, next_above}
use Rattle.walk.proofs.Steps.{next_place_end}
use Rattle.strict_rules.specs.Strict.{untaken_places, check_refused, verdict_on, verdict}
use Rattle.strict_rules.proofs.Untaken.{untaken_from, lowest, first_untaken, plain_from, untaken_from_lem, list_search, list_end, from_end}
use Rattle.strict_rules.proofs.Untaken.{search_at_place, list_well}
use Rattle.strict_rules.proofs.Untaken.{next_place_behind, first_search, first_ill, first_open, first_inside}

-- The lowest of the untaken places decides.

pub untaken_verdict : (most : ℕ) (r : List ℕ) (a p : ℕ) → first_untaken r a 0 ≡ Some p → verdict most r a ≡ check_refused 12 p
unfolding verdict
untaken_verdict most r a p e = rw (untaken_from_lem r a) (go (untaken_from r a 0) e)
  where
    go : (l : List ℕ) → lowest l ≡ Some p → verdict_on most l (plain_listing r a) ≡ check_refused 12 p
    go [] q = absurd (none-some p (unfold lowest in q))
    go (x ∷ xs) q = unfold verdict_on in ap (λ (n : ℕ). check_refused 12 n) (same_Some x p (unfold lowest in q))

pub none_untaken : (r : List ℕ) (a : ℕ) → first_untaken r a 0 ≡ None → untaken_places r a ≡ []
none_untaken r a e = untaken_from_lem r a ∙ go (untaken_from r a 0) e
  where
    go : (l : List ℕ) → lowest l ≡ None → l ≡ []
    go [] q = refl
    go (x ∷ xs) q = absurd (none-some x (sym (unfold lowest in q)))

-- Before p nothing is untaken, and the plain listing has what is done and what it has from p on. In the region p is a place with the magic.
-- No more is done than there are bytes before p.
pub record Checked (r : List ℕ) (a : ℕ) (done : List Entry) (p : ℕ) : Type 0 where
  pub none_untaken : first_untaken r a 0 ≡ first_untaken r a p
  pub listed : plain_listing r a ≡ done ++ plain_from r a p
  pub found : p < length r → (0 < a) × Place a p × (magic_at r p ≡ true)
  pub counted : length done ≤ p

-- The search from a number to step from.
searched_place : (r : List ℕ) (a n : ℕ) → PlaceOrPastEnd r a n → next_magic r a n (length r) < length r
    → (0 < a) × Place a (next_magic r a n (length r)) × (magic_at r (next_magic r a n (length r)) ≡ true)
searched_place r a n s l = go (dec_lt 0 a) s
  where
    go : Dec (0 < a) → PlaceOrPastEnd r a n → (0 < a) × Place a (next_magic r a n (length r)) × (magic_at r (next_magic r a n (length r)) ≡ true)
    go (yes pos) (inl pl) = (pos, search_at_place r a pos n (length r) pl l, next_has_magic r a pos n (length r) l)
    go (yes pos) (inr h) = absurd (omega (arith, l, next_end r a pos n (length r) h))
    go (no z) s' = absurd (omega (arith, l, next_none r a n (length r) (omega arith)))

pub checked_start : (r : List ℕ) (a p : ℕ) → p ≡ next_magic r a 0 (length r) → Checked r a [] p
checked_start r a p e =
    rw e (record { none_untaken = first_search r a 0; listed = list_search r a 0; found = searched_place r a 0 (inl (0, omega arith)); counted = omega arith })

-- With no magic left, nothing was untaken, and what is done is all.
module _ (r : List ℕ) (a : ℕ) (done : List Entry) (p : ℕ) (inv : Checked r a done p) where
  pub checked_end : length r ≤ p → (untaken_places r a ≡ []) × (plain_listing r a ≡ done)
  unfolding lowest
  checked_end h = (none_untaken r a (inv.none_untaken ∙ ap lowest (from_end r a p h)), inv.listed ∙ rw (list_end r a p h) (append-nil done))

  module _ (inside : p < length r) where
    pos : 0 < a
    pos = (inv.found inside).0

    -- An ill-formed header is untaken.
    pub checked_ill : judge (drop p r) ≡ None → (most : ℕ) → verdict most r a ≡ check_refused 12 p
    checked_ill ill most = untaken_verdict most r a p (inv.none_untaken ∙ first_ill r a pos p (inv.found inside).1 inside (inv.found inside).2 ill)

    module _ (c : Component) (well : judge (drop p r) ≡ Some c) (e : ℕ) (ends : e ≡ p + span_length c) where
      -- A magic inside a span is untaken.
      pub checked_inside : (q : ℕ) → q ≡ next_magic r a (p + a) e → q < e → (most : ℕ) → verdict most r a ≡ check_refused 12 q
      checked_inside q h l most = untaken_verdict most r a q
          (inv.none_untaken ∙ first_inside r a pos p (inv.found inside).1 inside (inv.found inside).2 c well e ends (omega arith) ∙ ap Some (sym h))

      -- The next magic lies behind p.
      pub checked_later : p < next_magic r a (next_place r a e) (length r)
      checked_later =
          next_above r a pos p (next_place r a e) (length r) inside
          (next_place_behind r a pos p (inv.found inside).1 inside (inv.found inside).2 c well e ends).0

      -- Else the component is taken, and the check goes on.
      pub checked_on : e ≤ next_magic r a (p + a) e → (q : ℕ) → q ≡ next_magic r a (next_place r a e) (length r)
          → Checked r a (done ++ (record { place = p; component = c } ∷ [])) q
      checked_on o q h = rw h (record {
        none_untaken =
            inv.none_untaken ∙ first_open r a pos p (inv.found inside).1 inside (inv.found inside).2 c well e ends o ∙ first_search r a (next_place r a e);
        listed = inv.listed
            ∙ ap (λ (l : List Entry). done ++ l) (list_well r a pos p (inv.found inside).1 inside (inv.found inside).2 c well e ends
            ∙ ap (λ (l : List Entry). record { place = p; component = c } ∷ l) (list_search r a (next_place r a e)))
            ∙ sym (append_assoc done (record { place = p; component = c } ∷ []) (plain_from r a (next_magic r a (next_place r a e) (length r))));
        found = searched_place r a (next_place r a e) (next_place_end r a e);
        counted = simp length-append (omega (arith, inv.counted, checked_later));
      })

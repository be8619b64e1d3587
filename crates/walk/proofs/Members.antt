-- Members of listings, of what is kept of them, and what a lookup gives of them.
use Prim.Native.Nat.{ℕ, ◌≤◌, ◌<◌}
use native.Mathlib.Nat.{min-le_right}
use native.Mathlib.Omega.{arith}
use native.Mathlib.Decide.{dec_lt}
use mathlib.Core.Path.{◌≡◌, subst}
use mathlib.Core.List.Memᴰ
use mathlib.Core.List.{List, Memᴰ}
use mathlib.Core.Bool.{Bool}
use Rattle.std.specs.Prelude.{Some}
use lib.ListN.{length, drop}
use Rattle.component.specs.Component.{judge}
use Rattle.walk.specs.Walk.{Entry, entry_end, next_place, next, pick_of, listing, Place}
use Rattle.walk.proofs.Steps.{Listed, mem_listing, rest_none}
use Rattle.walk.proofs.Stepping.{pick_fits, step_no_places}
use Rattle.walk.proofs.Standing.{pick_judged}

-- The number to go on from lies in the region or at its end.
pub next_within : (r : List ℕ) (a : ℕ) (e : Entry) → next r a e ≤ length r
unfolding next_place
next_within r a e = min-le_right _ _

-- What either listing has: g is true for the guarded one.
pub record Given (r : List ℕ) (a : ℕ) (e : Entry) : Type 0 where
  pub pos : 0 < a
  pub at : Place a e.place
  pub inside : e.place < length r
  pub judged : judge (drop e.place r) ≡ Some e.component
  pub fits : entry_end e ≤ length r

pub given : (g : Bool) (r : List ℕ) (a : ℕ) (e : Entry) → Memᴰ e (listing (pick_of g r a) r a) → Given r a e
given g r a e m = go (dec_lt 0 a)
  where
    go : Dec (0 < a) → Given r a e
    go (yes pos) =
        let l : Listed (pick_of g r a) r a pos 0 e = mem_listing (pick_of g r a) r a pos (pick_fits g r a pos) e m in
        record {
          pos = pos;
          at = l.at;
          inside = l.inside;
          judged = pick_judged g r a 0 pos e.place e.component l.taken;
          fits = (pick_fits g r a pos e.place e.component l.taken).1;
        }
    go (no h) =
        absurd (Memᴰ.not-nil (subst (λ (l : List Entry). Memᴰ e l)
        (rest_none (pick_of g r a) r a 0 (step_no_places (pick_of g r a) r a 0 (omega arith))) m))

-- What a step has taken, by the component and by what is answered of it. g is true for the guarded walk.
use Prim.Native.Nat.{ℕ, suc, ◌≤◌, ◌<◌}
use native.Mathlib.Omega.{arith}
use native.Mathlib.Decide.{dec_lt}
use mathlib.Core.Path.{◌≡◌, refl, sym, ◌∙◌}
use mathlib.Core.List.{List}
use mathlib.Core.Bool.{Bool, true, false}
use Rattle.std.specs.Prelude.{Option, Some, None}
use Rattle.std.proofs.lemmas.Option.{none-some}
use lib.ListN.{length, drop}
use Rattle.bytes_read.specs.Bytes.{part_of}
use Rattle.bytes_read.proofs.Splice.{part_in}
use Rattle.component.specs.Component.{Component, judge}
use Rattle.component.proofs.Judging.{judge-fits, judge_name}
use Rattle.walk.specs.Walk.{Entry, entry_end, plain_pick, pick_of, step, next, taken_of, step_answer}
use Rattle.cbfs_types.specs.declared.Taken.{Taken}
use Rattle.walk.proofs.Steps.{First, step_some, next_place_far}
use Rattle.walk.proofs.Picks.{guarded_plain}
use Rattle.walk.proofs.Stepping.{pick_fits, step_no_places}

-- From the answer to the component.

pub answer_some : (r : List ℕ) (a : ℕ) (o : Option Entry) (t : Taken) → step_answer r a o ≡ Some t → (e : Entry) × (o ≡ Some e) × (taken_of r a e ≡ t)
answer_some r a None t e = let z : ◌≡◌ {A = ℕ} 0 1 = cc in absurd (omega arith)
answer_some r a (Some x) t e = (x, refl, (cc))

pub answer_none : (r : List ℕ) (a : ℕ) (o : Option Entry) → step_answer r a o ≡ None → o ≡ None
answer_none r a None e = refl
answer_none r a (Some x) e = let z : ◌≡◌ {A = ℕ} 0 1 = cc in absurd (omega arith)

-- What a step has taken.
pub record Stands (r : List ℕ) (a n : ℕ) (e : Entry) : Type 0 where
  pub pos : 0 < a
  pub from : n ≤ e.place
  pub inside : e.place < length r
  pub judged : judge (drop e.place r) ≡ Some e.component
  pub fits : entry_end e ≤ length r
  pub later : n < next r a e
  pub named : part_of (drop e.place r) 24 (length e.component.name) ≡ e.component.name

module _ (g : Bool) (r : List ℕ) (a n : ℕ) where
  step_pos : (e : Entry) → step (pick_of g r a) r a n ≡ Some e → 0 < a
  step_pos e s = go (dec_lt 0 a)
    where
      go : Dec (0 < a) → 0 < a
      go (yes h) = h
      go (no h) = absurd (none-some e (sym (step_no_places (pick_of g r a) r a n (omega arith)) ∙ s))

  pub pick_judged : 0 < a → (p : ℕ) (c : Component) → pick_of g r a p ≡ Some c → judge (drop p r) ≡ Some c
  unfolding plain_pick
  pick_judged pos p c e = go g e
    where
      go : (b : Bool) → pick_of b r a p ≡ Some c → judge (drop p r) ≡ Some c
      go true e' = (guarded_plain r a pos p c e').0
      go false e' = e'

  pub stands : (e : Entry) → step (pick_of g r a) r a n ≡ Some e → Stands r a n e
  stands e s =
      let pos = step_pos e s in
      let f : First (pick_of g r a) r a pos n e = step_some (pick_of g r a) r a pos n e s in
      let j = pick_judged pos e.place e.component f.taken in
      let b = pick_fits g r a pos e.place e.component f.taken in
      let i = judge-fits (drop e.place r) e.component j in
      let m = judge_name (drop e.place r) e.component j in
      record {
        pos = pos;
        from = omega (arith, f.at);
        inside = f.inside;
        judged = j;
        fits = b.1;
        later = omega (arith, f.at, next_place_far r a pos (entry_end e) (suc e.place) (omega (arith, b.0)) f.inside);
        named = sym (part_in (drop e.place r) 24 (length e.component.name) (omega (arith, i.1, m.1))) ∙ m.2;
      }

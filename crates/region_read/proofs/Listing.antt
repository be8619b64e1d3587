-- A listing of a region is the steps over the image from the region's start to none left, for either walk: w is true for the guarded one.
use Prim.Native.Nat.{ℕ, zero, suc, ◌+◌, ◌-◌, ◌%◌, ◌≤◌, ◌<◌}
use native.Mathlib.Nat.{mul-mod_left, add-sub_cancel_left, add-zero}
use native.Mathlib.Omega.{arith}
use native.Mathlib.Decide.{dec_lt}
use mathlib.Core.Path.{◌≡◌, refl, sym, ap, ◌∙◌}
use mathlib.Core.List.{List, map}
use mathlib.Core.Logic.{inl, inr}
use mathlib.Core.Bool.{Bool, true}
use Rattle.std.specs.Prelude.{Ok, Option, Some, None}
use lib.ListN.{length, drop, length-take, length-drop}
use borrow.Author.Tests.{eq-eqb}
use Rattle.walk.specs.Walk.{Entry, pick_of, step, next, listing_from, listing, entry_end, PlaceOrPastEnd}
use Rattle.walk.proofs.Steps.{rest_none, rest_some, next_place_end}
use Rattle.walk.proofs.Stepping.{pick_fits}
use Rattle.walk.proofs.Standing.{stands}
use Rattle.walk.proofs.Members.{next_within}
use Rattle.region.specs.Region.{region_bytes}
use Rattle.cbfs_types.specs.declared.Region.{Region}
use Rattle.region.proofs.Regions.{bytes_fit}
use Rattle.region_read.specs.RegionRead.{is_step_start, taken_in, step_answer_in, step_by, Walked, walk_ended, walk_stepped}
use Rattle.region_read.proofs.Numbers.{fit_end, fit_place}

module _ (w : Bool) (i : List ℕ) (g : Region) (pos : 0 < g.align) (forward : g.start ≤ g.end) (inside : g.end ≤ length i) where
  long : g.start + length (region_bytes i g) ≡ g.end
  long = omega (arith, ap length (bytes_fit i g forward inside), length-take (g.end - g.start) (drop g.start i), length-drop g.start i)

  -- Every number that a step gives is one to step from.
  fit_number : (n : ℕ) → n ≤ length (region_bytes i g) → PlaceOrPastEnd (region_bytes i g) g.align n → is_step_start g (g.start + n) ≡ true
  fit_number n h (inr k) = sym (fit_end g (g.start + n) (omega arith) (omega (arith, long)))
  fit_number n h (inl (k, e)) = go (dec_lt (g.start + n) g.end)
    where
      go : Dec (g.start + n < g.end) → is_step_start g (g.start + n) ≡ true
      go (yes l) = sym (fit_place g (g.start + n) (omega arith) (omega arith) (λ q. omega arith))
          ∙ eq-eqb ((g.start + n - g.start) % g.align) 0 (rw (add-sub_cancel_left g.start n, e) (mul-mod_left k g.align))
      go (no l) = sym (fit_end g (g.start + n) (omega arith) (omega (arith, long)))

  step_there : (n : ℕ) → is_step_start g (g.start + n) ≡ true
      → step_by (pick_of w (region_bytes i g) g.align) i g (g.start + n) ≡ Ok (step_answer_in i g
      (step (pick_of w (region_bytes i g) g.align) (region_bytes i g) g.align n))
  unfolding step_by
  step_there n f = rw (f, add-sub_cancel_left g.start n)

  -- What is to be shown of the steps from n on, n counted from the region's start.
  abbrev From : ℕ → Type 0
  From n = n ≤ length (region_bytes i g) → PlaceOrPastEnd (region_bytes i g) g.align n
      → Walked (step_by (pick_of w (region_bytes i g) g.align) i g) (g.start + n)
      (map (taken_in i g) (listing_from (pick_of w (region_bytes i g) g.align) (region_bytes i g) g.align n))

  walked_one : (n : ℕ) → ((m : ℕ) → n < m → From m) → From n
  walked_one n ih l s = by (step (pick_of w (region_bytes i g) g.align) (region_bytes i g) g.align n) refl
    where
      by : (o : Option Entry) → step (pick_of w (region_bytes i g) g.align) (region_bytes i g) g.align n ≡ o
          → Walked (step_by (pick_of w (region_bytes i g) g.align) i g) (g.start + n)
          (map (taken_in i g) (listing_from (pick_of w (region_bytes i g) g.align) (region_bytes i g) g.align n))
      by None e =
          rw (rest_none (pick_of w (region_bytes i g) g.align) (region_bytes i g) g.align n e)
          (walk_ended (step_there n (fit_number n l s) ∙ ap (λ o. Ok (step_answer_in i g o)) e))
      by (Some t) e =
          let k = stands w (region_bytes i g) g.align n t e in
          rw (rest_some (pick_of w (region_bytes i g) g.align) (region_bytes i g) g.align pos (pick_fits w (region_bytes i g) g.align pos) n t e)
          (walk_stepped (step_there n (fit_number n l s) ∙ ap (λ o. Ok (step_answer_in i g o)) e)
          (ih (next (region_bytes i g) g.align t) k.later (next_within (region_bytes i g) g.align t)
          (next_place_end (region_bytes i g) g.align (entry_end t))))

  walked_from : (d n : ℕ) → length (region_bytes i g) < n + d → From n
  walked_from zero n h = λ l s. absurd (omega arith)
  walked_from (suc d) n h = walked_one n (λ m lt. walked_from d m (omega arith))

  pub listing_walked : Walked (step_by (pick_of w (region_bytes i g) g.align) i g) g.start
      (map (taken_in i g) (listing (pick_of w (region_bytes i g) g.align) (region_bytes i g) g.align))
  listing_walked = rw add-zero at (walked_from (suc (length (region_bytes i g))) 0 (omega arith) (omega arith) (inl (0, omega arith)))

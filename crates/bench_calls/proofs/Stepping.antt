-- The steps of a listing, counted one by one.
use Rattle.std.specs.Prelude.{Option, Some, None, Result, Ok, Err}
use Prim.Native.Nat.{ℕ, zero, suc, ◌+◌, ◌≤◌, ◌<◌}
use native.Mathlib.Nat.{zero-add}
use native.Mathlib.Omega.{arith}
use mathlib.Core.Path.{◌≡◌, refl, ◌∙◌}
use mathlib.Core.List.{List, ◌∷◌, map}
use mathlib.Core.Bool.{Bool}
use lib.ListN.{length, length-map}
use Rattle.walk.specs.Walk.{Entry, Pick, pick_of, next, step, follow, steps, listing_from}
use Rattle.cbfs_types.specs.declared.Taken.{Taken}
use Rattle.region.specs.Region.{region_bytes}
use Rattle.cbfs_types.specs.declared.Region.{Region}
use Rattle.cbfs_types.specs.declared.Refusal.{Refusal}
use Rattle.master_header.specs.Master.{master}
use Rattle.master_header.proofs.Facts.{Known, known}
use Rattle.region_read.specs.RegionRead.{taken_in, step_in, Walked, walk_ended, walk_stepped}
use Rattle.region_read.proofs.Listing.{listing_walked}
use Rattle.image_claims.proofs.Images.{bytes_length}
use Rattle.bench_calls.specs.Calls.{listed, count_of}

-- A listing has no more components than bytes.
steps_few : (pick : Pick) (r : List ℕ) (a k n : ℕ) → length (steps pick r a k n) ≤ k
unfolding steps follow
steps_few pick r a zero n = omega arith
steps_few pick r a (suc k) n = go (step pick r a n) (λ m. steps_few pick r a k m)
  where
    go : (o : Option Entry) → ((m : ℕ) → length (steps pick r a k m) ≤ k) → length (follow (λ m. steps pick r a k m) (next r a) o) ≤ suc k
    go None ih = omega arith
    go (Some t) ih = omega (arith, ih (next r a t))

-- n components are counted, the steps from `from` on give the rest, and all together are as many as `total`.
pub record Counting (call : ℕ → Result (Option Taken) Refusal) (total from n : ℕ) : Type 0 where
  pub rest : List Taken
  pub walked : Walked call from rest
  pub sum : n + length rest ≡ total

module _ {call : ℕ → (Result (Option Taken) Refusal)} {total from n : ℕ} where
  -- A step that takes a component leaves one less to count.
  pub count_on : (t : Taken) → call from ≡ Ok (Some t) → Counting call total from n → (n < total) × Counting call total t.next (n + 1)
  count_on t e c = go c.rest c.walked c.sum
    where
      go : (ts : List Taken) → Walked call from ts → n + length ts ≡ total → (n < total) × Counting call total t.next (n + 1)
      go ts (walk_ended q) s = let z : ◌≡◌ {A = ℕ} 0 1 = cc in absurd (omega arith)
      go (u ∷ us) (walk_stepped q w) s = let same : u ≡ t = cc in (omega arith, record { rest = us; walked = rw same at w; sum = omega arith })

  -- Where none is left, all are counted.
  pub count_end : call from ≡ (Ok None) → Counting call total from n → n ≡ total
  count_end e c = go c.rest c.walked c.sum
    where
      go : (ts : List Taken) → Walked call from ts → n + length ts ≡ total → n ≡ total
      go ts (walk_ended q) s = omega arith
      go ts (walk_stepped q w) s = let z : ◌≡◌ {A = ℕ} 0 1 = cc in absurd (omega arith)

  -- No step is refused.
  pub count_unrefused : (r : Refusal) → call from ≡ Err r → Counting call total from n → ⊥
  count_unrefused r e c = go c.rest c.walked
    where
      go : (ts : List Taken) → Walked call from ts → ⊥
      go ts (walk_ended q) = let z : ◌≡◌ {A = ℕ} 0 1 = cc in omega arith
      go ts (walk_stepped q w) = let z : ◌≡◌ {A = ℕ} 0 1 = cc in omega arith

-- An image i that is read, and its region g.
module _ (w : Bool) (i : List ℕ) (g : Region) (read : master i ≡ Ok g) where
  facts : Known i g
  facts = known i g read

  -- At the region's start nothing is counted.
  pub count_start : Counting (step_in w i g) (count_of w i) g.start 0
  count_start = record {
    rest = map (taken_in i g) (listed w i g);
    walked = listing_walked w i g (omega (arith, facts.least)) facts.forward facts.inside;
    sum = rw read (zero-add _ ∙ length-map (listed w i g) (taken_in i g));
  }

  pub count_few : count_of w i ≤ 16777216
  unfolding listing_from
  count_few =
      rw read (omega (
        arith,
        facts.short,
        facts.inside,
        bytes_length i g read i refl,
        steps_few (pick_of w (region_bytes i g) g.align) (region_bytes i g) g.align (length (region_bytes i g)) 0,
      ))

-- A step of the guarded walk by the candidate that was answered, t.
use Prim.Native.Nat.{ℕ, ◌+◌, ◌*◌, ◌-◌, ◌≤◌, ◌<◌, min}
use native.Mathlib.Omega.{arith}
use mathlib.Core.Path.{◌≡◌, sym, ap, subst, ◌∙◌}
use mathlib.Core.List.{List}
use mathlib.Core.Bool.{Bool, true, false}
use Rattle.std.specs.Prelude.{Some}
use lib.ListN.{length, take, drop, length-drop}
use Rattle.bytes_read.proofs.Splice.{rest}
use Rattle.component.specs.Sums.{checksum_matches}
use Rattle.walk.specs.Walk.{Entry, next_magic, place_count_below, pick_skipping_sum, guarded_pick, step, next_place, taken_of, step_answer, entry_end}
use Rattle.walk.specs.Walk.{PlaceOrPastEnd}
use Rattle.cbfs_types.specs.declared.Taken.{Taken}
use Rattle.walk.proofs.Places.{below-add}
use Rattle.walk.proofs.Searching.{behind}
use Rattle.walk.proofs.Steps.{first_place}
use Rattle.walk.proofs.Standing.{answer_some}
use Rattle.walk.proofs.Stepping.{places, found_first, found_fits, sum_right, sum_wrong}

-- The number to go on from inside the part from p on.

part_next : (r : List ℕ) (a p n : ℕ) → next_place (take (length r - p) (drop p r)) a n ≡ min (place_count_below a n * a) (length r - p)
unfolding next_place
part_next r a p n = rw (rest, length-drop)

pub part_within : (r : List ℕ) (a p n : ℕ) → next_place (take (length r - p) (drop p r)) a n ≤ length r - p
part_within r a p n = omega (arith, part_next r a p n)

-- Behind a span up to e in which no later place carries the magic, the search goes on from there.
pub behind_part : (r : List ℕ) (a p e : ℕ) → 0 < a → p < e → e ≤ length r → e ≤ next_magic r a (p + a) e
    → next_magic r a (p + next_place (take (length r - p) (drop p r)) a (e - p)) (length r) ≡ next_magic r a (p + a) (length r)
behind_part r a p e pos l h q = sym (behind r a pos p e (length r) _ l h q (part_next r a p (e - p)))

module _ (r : List ℕ) (a n : ℕ) (t : Taken) (s : step_answer r a (step (pick_skipping_sum true r a) r a n) ≡ Some t) where
  pub answered : (e : Entry) × (step (pick_skipping_sum true r a) r a n ≡ Some e) × (taken_of r a e ≡ t)
  answered = answer_some r a (step (pick_skipping_sum true r a) r a n) t s

  pub inside : t.place + (t.header.offset + t.header.len) ≤ length r
  inside = let (e, o, q) = answered in
      subst (λ (x : Taken). x.place + (x.header.offset + x.header.len) ≤ length r) q (found_fits r a n e o).1

  -- By its sum.

  abbrev pub summed : Bool → Type 0
  summed b = checksum_matches (take (t.header.offset + t.header.len) (drop t.place r)) ≡ b

  same_sum : (e : Entry) → taken_of r a e ≡ t → (b : Bool) → summed b → checksum_matches (take (e.component.offset + e.component.len) (drop e.place r)) ≡ b
  same_sum e q b k = subst (λ (x : Taken). checksum_matches (take (x.header.offset + x.header.len) (drop x.place r)) ≡ b) (sym q) k

  pub right : summed true → Some t ≡ step_answer r a (step (guarded_pick r a) r a n)
  right k = let (e, o, q) = answered in sym (ap (step_answer r a) (sum_right r a n e o (same_sum e q true k)) ∙ ap Some q)

  -- From a number to step from, the walk goes on behind a wrong sum where it would go on behind the component.
  pub wrong_next : PlaceOrPastEnd r a n → summed false → step (guarded_pick r a) r a n ≡ step (guarded_pick r a) r a t.next
  unfolding next_place
  wrong_next stop k = let (e, o, q) = answered in sum_wrong r a n e o (same_sum e q false k) ∙ ap (step (guarded_pick r a) r a) (there e o q)
    where
      there : (e : Entry) → step (pick_skipping_sum true r a) r a n ≡ Some e → taken_of r a e ≡ t
          → e.place + min (place_count_below a (entry_end e - e.place) * a) (length r - e.place) ≡ t.next
      there e o q =
          let pos = places r a n e o in
          let (i, p) = first_place (pick_skipping_sum true r a) r a pos n e stop (found_first r a n e o) in
          let f = found_fits r a n e o in
          let z : entry_end e - e.place ≡ e.component.offset + e.component.len = omega arith in
          let y : entry_end e ≡ i * a + (e.component.offset + e.component.len) = omega (arith, p) in
          let b : place_count_below a (entry_end e) * a ≡ e.place + place_count_below a (entry_end e - e.place) * a =
          ap (λ (m : ℕ). m * a) (ap (place_count_below a) y ∙ below-add a pos i (e.component.offset + e.component.len)) ∙ rw z (omega (arith, p)) in
          let w : e.place + min (place_count_below a (entry_end e - e.place) * a) (length r - e.place) ≡ next_place r a (entry_end e) = omega (arith, b, f) in
          w ∙ ap (λ (x : Taken). x.next) q

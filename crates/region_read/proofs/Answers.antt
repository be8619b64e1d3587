-- From a region's bytes to the image: the answer about a component.
use Prim.Native.Nat.{ℕ, ◌+◌, ◌-◌, ◌≤◌, ◌<◌}
use native.Mathlib.Omega.{arith}
use mathlib.Core.Path.{◌≡◌, refl, sym, ap, subst, ◌∙◌}
use mathlib.Core.Bool.{Bool, true, false}
use mathlib.Core.List.{List, [], Memᴰ}
use Rattle.std.specs.Prelude.{Option, Some, None, Ok, Err}
use lib.ListN.{length, drop}
use Rattle.bytes_read.specs.Bytes.{part_of}
use Rattle.component.specs.Component.{Component, judged, header_of, content_of}
use Rattle.component.proofs.Judging.{part_content}
use Rattle.walk.specs.Walk.{Entry, pick_of, step, next, listing, taken_of, step_answer}
use Rattle.walk_lookup.specs.Lookup.{LookupResult, lookup_refused, lookup_gives, bearer_answer}
use Rattle.cbfs_types.specs.declared.Taken.{Taken}
use Rattle.walk.proofs.Standing.{stands, answer_some}
use Rattle.walk.proofs.Members.{given, next_within}
use Rattle.walk_lookup.proofs.Answers.{found_some}
use Rattle.region.specs.Region.{region_bytes, refusal_by}
use Rattle.cbfs_types.specs.declared.Region.{Region}
use Rattle.cbfs_types.specs.declared.Refusal.{Refusal}
use Rattle.region.proofs.Regions.{bytes_inside}
use Rattle.region_read.specs.RegionRead.{is_step_start, step_answer_in, step_by, find_answer_in, content_found}

-- t with its numbers counted from s.
abbrev pub shifted : ℕ → Taken → Taken
shifted s t = record { place = s + t.place; header = t.header; next = s + t.next }

module _ (i : List ℕ) (g : Region) where
  -- The sums do not pass the image's end.
  sums : (e : Entry) → e.place < length (region_bytes i g) → (g.start + e.place ≤ length i) × (g.start + next (region_bytes i g) g.align e ≤ length i)
  sums e h =
      let b = bytes_inside i g e.place h in
      (omega (arith, b), omega (arith, b, next_within (region_bytes i g) g.align e))

  -- A step of either walk, from n counted from the region's start.

  module _ (w : Bool) (n : ℕ) where
    pub step_sums : (t : Taken) → step_answer (region_bytes i g) g.align (step (pick_of w (region_bytes i g) g.align) (region_bytes i g) g.align n)
        ≡ Some t
        → (g.start + t.place ≤ length i) × (g.start + t.next ≤ length i)
    step_sums t s = let (e, o, q) =
        answer_some (region_bytes i g) g.align (step (pick_of w (region_bytes i g) g.align) (region_bytes i g) g.align n) t s in go e o q
      where
        go : (e : Entry) → step (pick_of w (region_bytes i g) g.align) (region_bytes i g) g.align n ≡ Some e → taken_of (region_bytes i g) g.align e ≡ t
            → (g.start + t.place ≤ length i) × (g.start + t.next ≤ length i)
        go e o q =
            subst (λ (x : Taken). (g.start + x.place ≤ length i) × (g.start + x.next ≤ length i)) q
            (sums e (stands w (region_bytes i g) g.align n e o).inside)

  -- A step's answer, from the region's bytes to the image.

  pub step_answer_took : (o : Option Entry) (t : Taken) {u : Taken} → step_answer (region_bytes i g) g.align o ≡ Some t → u ≡ shifted g.start t
      → Some u ≡ step_answer_in i g o
  step_answer_took None t s r = let z : ◌≡◌ {A = ℕ} 0 1 = cc in absurd (omega arith)
  step_answer_took (Some e) t s r = let q : taken_of (region_bytes i g) g.align e ≡ t = cc in rw (r, ← q)

  pub step_answer_none : (o : Option Entry) → step_answer (region_bytes i g) g.align o ≡ None → None ≡ step_answer_in i g o
  step_answer_none None s = refl
  step_answer_none (Some e) s = let z : ◌≡◌ {A = ℕ} 0 1 = cc in absurd (omega arith)

  -- A lookup's answer, from the region's bytes to the image.

  pub found_at : (o : LookupResult) (t : Taken) {u : Taken} → bearer_answer (region_bytes i g) g.align o ≡ Ok t → u ≡ shifted g.start t
      → Ok u ≡ find_answer_in i g o
  found_at (lookup_refused n) t s r = let z : ◌≡◌ {A = ℕ} 0 1 = cc in absurd (omega arith)
  found_at (lookup_gives e) t s r = let q : taken_of (region_bytes i g) g.align e ≡ t = cc in rw (r, ← q)

  pub found_refused : (o : LookupResult) (x : Refusal) → bearer_answer (region_bytes i g) g.align o ≡ Err x → Err x ≡ find_answer_in i g o
  found_refused (lookup_refused m) x s = sym s
  found_refused (lookup_gives e) x s = let z : ◌≡◌ {A = ℕ} 0 1 = cc in absurd (omega arith)

  pub content_refused : (o : LookupResult) (x : Refusal) → bearer_answer (region_bytes i g) g.align o ≡ Err x → [] ≡ content_found o
  content_refused (lookup_refused m) n s = refl
  content_refused (lookup_gives e) n s = let z : ◌≡◌ {A = ℕ} 0 1 = cc in absurd (omega arith)

  -- What was looked up is one of the listing.
  module _ (w : Bool) (o : LookupResult) (from : (e : Entry) → o ≡ lookup_gives e
      → Memᴰ e (listing (pick_of w (region_bytes i g) g.align) (region_bytes i g) g.align)) (t : Taken)
      (s : bearer_answer (region_bytes i g) g.align o ≡ Ok t) where
    pub found_sums : (g.start + t.place ≤ length i) × (g.start + t.next ≤ length i)
    found_sums = let (e, q, k) = found_some (region_bytes i g) g.align o t s in go e q k
      where
        go : (e : Entry) → o ≡ lookup_gives e → taken_of (region_bytes i g) g.align e ≡ t → (g.start + t.place ≤ length i) × (g.start + t.next ≤ length i)
        go e q k =
            subst (λ (x : Taken). (g.start + x.place ≤ length i) × (g.start + x.next ≤ length i)) k
            (sums e (given w (region_bytes i g) g.align e (from e q)).inside)

    pub found_content : part_of (drop t.place (region_bytes i g)) t.header.offset t.header.len ≡ content_found o
    found_content = let (e, q, k) = found_some (region_bytes i g) g.align o t s in go e q k
      where
        go : (e : Entry) → o ≡ lookup_gives e → taken_of (region_bytes i g) g.align e ≡ t
            → part_of (drop t.place (region_bytes i g)) t.header.offset t.header.len ≡ content_found o
        go e q k =
            let j = (given w (region_bytes i g) g.align e (from e q)).judged in
            subst (λ (x : Taken). part_of (drop x.place (region_bytes i g)) x.header.offset x.header.len ≡ content_found o) k
            (part_content (drop e.place (region_bytes i g)) (header_of e.component) (ap judged j) ∙ ap content_of j ∙ sym (ap content_found q))

  -- The step's answer by the test of its number.

  pub refused_nine : (pick : ℕ → Option Component) (n : ℕ) {b : Bool} {x : Refusal} → b ≡ is_step_start g n → b ≡ false → x ≡ refusal_by 9
      → Err x ≡ step_by pick i g n
  unfolding step_by
  refused_nine pick n e f r = rw (← e, f, r)

  pub step_fit : (pick : ℕ → Option Component) (n : ℕ) {b : Bool} {x : Option Taken} → b ≡ is_step_start g n → b ≡ true
      → x ≡ step_answer_in i g (step pick (region_bytes i g) g.align (n - g.start)) → Ok x ≡ step_by pick i g n
  unfolding step_by
  step_fit pick n e f r = rw (← e, f, r)

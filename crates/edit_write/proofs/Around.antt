-- What an edit leaves of the image: every byte outside the region as it was, and the image as long; the region's bytes are the edit's.
use Prim.Native.Nat.{ℕ, ◌+◌, ◌-◌, ◌≤◌, ◌<◌}
use native.Mathlib.Omega.{arith}
use native.Mathlib.Decide.{dec_lt}
use mathlib.Core.Path.{◌≡◌, refl, sym, ap, ◌∙◌}
use mathlib.Core.List.{List, [], ◌∷◌, append-nil}
use lib.ListN.{length, get_or, drop, get_or-eq_default}
use lib.Seq.{take_at, get_or-take, get_or-drop}
use Rattle.bytes_read.specs.Bytes.{splice}
use Rattle.region.specs.Region.{region_bytes}
use Rattle.cbfs_types.specs.declared.Region.{Region}
use Rattle.cbfs_types.specs.declared.Refusal.{Refusal}
use Rattle.region.proofs.Regions.{bytes_inside, bytes_fit}
use Rattle.strict_rules.specs.Strict.{component_limit}
use Rattle.edit_rules.specs.Edit.{AllBytes, Run, slot_filled, Decision, refuse, write, add_decision, replace_decision, remove_decision, RegionEditAnswer}
use Rattle.edit_rules.specs.Edit.{edit_refused}
use Rattle.edit_rules.specs.Edit.{edit_done, RegionEdit, carried_out, add, replace, remove}
use Rattle.edit_slots.specs.SlotsByPlaces.{run}
use Rattle.edit_decide.specs.Choices.{kind_of_name}
use Rattle.edit_write.specs.EditWrite.{edit_answer, edit_result_in, add_in, replace_in, remove_in}
use Rattle.edit_rules.proofs.Written.{length_span, filled_length, filled_before, filled_after, filled_part}
use Rattle.edit_decide.proofs.Choices.{add_ready, replace_ready, remove_ready}
use Rattle.std.specs.Prelude.{Ok, Err}
use Rattle.edit_rules.proofs.Outcomes.{Replaced, Removed}
use Rattle.edit_rules.proofs.Theorems.{replace_done, remove_done}
use Rattle.edit_write.proofs.Writing.{region_same, splice_nothing}

-- The image i' is i with y for its region's bytes.
pub record Around (i : List ℕ) (g : Region) (y i' : List ℕ) : Type 0 where
  pub same_length : length i' ≡ length i
  pub before : (j : ℕ) → j < g.start → get_or i' j 0 ≡ get_or i j 0
  pub after : (j : ℕ) → g.end ≤ j → get_or i' j 0 ≡ get_or i j 0
  pub region : region_bytes i' g ≡ y

-- A write as a run that is filled wholly.
spliced : (i : List ℕ) (s : ℕ) (y : List ℕ) → splice i s y ≡ slot_filled i (run s (s + length y)) y
unfolding slot_filled
spliced i s y =
    let z : s + length y - s - length y ≡ 0 = omega arith in
    rw z (ap (splice i s) (sym (append-nil y)))

around : (i : List ℕ) (g : Region) (y : List ℕ) → length y ≡ length (region_bytes i g) → Around i g y (splice i g.start y)
around i g [] h = rw (splice_nothing i g.start) (record { same_length = refl; before = λ j k. refl; after = λ j k. refl; region = none (region_bytes i g) h })
  where
    none : (l : List ℕ) → 0 ≡ length l → l ≡ []
    none [] e = refl
    none (x ∷ xs) e = absurd (omega (arith, e))
around i g (v ∷ vs) h = rw (spliced i g.start (v ∷ vs)) (record {
  same_length = long;
  before = λ j k. filled_before i x (v ∷ vs) (omega arith) inside j k;
  after = λ j k. filled_after i x (v ∷ vs) (omega arith) inside j (omega (arith, f.0));
  region =
      bytes_fit i' g (omega (arith, f.0)) (omega (arith, long, f.1))
      ∙ rw (filled_part i x (v ∷ vs) (omega arith) inside) (take_at (v ∷ vs) _ (g.end - g.start) (omega (arith, f.0)));
})
  where
    x : Run
    x = run g.start (g.start + length (v ∷ vs))

    i' : List ℕ
    i' = slot_filled i (run g.start (g.start + length (v ∷ vs))) (v ∷ vs)

    f : (g.start + length (region_bytes i g) ≡ g.end) × (g.end ≤ length i)
    f = bytes_inside i g 0 (omega arith)

    inside : g.start + length (v ∷ vs) ≤ length i
    inside = omega (arith, f.0, f.1)

    long : length (slot_filled i (run g.start (g.start + length (v ∷ vs))) (v ∷ vs)) ≡ length i
    long = filled_length i (run g.start (g.start + length (v ∷ vs))) (v ∷ vs) (omega arith) inside

-- The region's bytes stay as many.
carried_long : (r : List ℕ) (d : Decision) → ((x : Run) (b : List ℕ) → d ≡ write x b → (x.from + length b ≤ x.to) × (x.to ≤ length r))
    → length (carried_out r d).bytes ≡ length r
unfolding carried_out
carried_long r (refuse n p) h = refl
carried_long r (write x b) h = let k = h x b refl in filled_length r x b k.0 k.1

-- The region's bytes are bytes where the image's are.
part_bytes : (i : List ℕ) (g : Region) → AllBytes i → AllBytes (region_bytes i g)
part_bytes i g h j = go (dec_lt j (length (region_bytes i g)))
  where
    go : Dec (j < length (region_bytes i g)) → get_or (region_bytes i g) j 0 < 256
    go (no n) = rw (get_or-eq_default (region_bytes i g) 0 {n = j} (omega arith)) (omega arith)
    go (yes l) =
        let f = bytes_inside i g j l in
        let e : get_or (region_bytes i g) j 0 ≡ get_or i (g.start + j) 0 = ap (λ (x : List ℕ). get_or x j 0) (bytes_fit i g (omega (arith, f.0)) f.1)
        ∙ get_or-take (g.end - g.start) (drop g.start i) j 0 (omega (arith, f.0)) ∙ get_or-drop g.start i j 0 in
        rw e (h (g.start + j))

-- A refused edit changes no byte of the image; one that is done reports a place of the region.

refused_same : (i : List ℕ) (g : Region) (d : Decision) (x : Refusal) → (edit_result_in i g (carried_out (region_bytes i g) d)).answer ≡ Err x
    → (edit_result_in i g (carried_out (region_bytes i g) d)).image ≡ i
unfolding carried_out
refused_same i g (refuse n p) x e = sym (region_same i g)
refused_same i g (write y b) x e = let z : ◌≡◌ {A = ℕ} 0 1 = cc in absurd (omega arith)

pub done_place : (i : List ℕ) (g : Region) (o : RegionEdit) (q : ℕ) → (edit_result_in i g o).answer ≡ Ok q
    → (p : ℕ) × (g.start + p ≡ q) × (o.answer ≡ edit_done p)
done_place i g o q e = go o.answer refl e
  where
    go : (y : RegionEditAnswer) → o.answer ≡ y → edit_answer g.start y ≡ Ok q → (p : ℕ) × (g.start + p ≡ q) × (o.answer ≡ edit_done p)
    go (edit_refused n p) h f = let z : ◌≡◌ {A = ℕ} 0 1 = cc in absurd (omega arith)
    go (edit_done p) h f = (p, (cc), h)

module _ (i : List ℕ) (g : Region) where
  abbrev r : List ℕ
  r = region_bytes i g

  pub add_around : (name : List ℕ) (kind : ℕ) (content : List ℕ)
      → Around i g (add component_limit r g.align name kind content).bytes (add_in i g name kind content).image
  unfolding add
  add_around name kind content = around i g _ (carried_long r (add_decision component_limit r g.align name kind content) (λ x b q.
      let w = add_ready r g.align name kind content x b q in (omega (arith, w.1.fits, ap length w.0, length_span name kind content), w.1.inside)))

  pub replace_around : (name content : List ℕ) → Around i g (replace component_limit r g.align name content).bytes (replace_in i g name content).image
  unfolding replace
  replace_around name content = around i g _ (carried_long r (replace_decision component_limit r g.align name content) (λ x b q.
      let w = replace_ready r g.align name content x b q in
      (omega (arith, w.1.fits, ap length w.0, length_span name (kind_of_name r g.align name) content), w.1.inside)))

  pub remove_around : (name : List ℕ) → Around i g (remove component_limit r g.align name).bytes (remove_in i g name).image
  unfolding remove
  remove_around name = around i g _ (carried_long r (remove_decision component_limit r g.align name) (λ x b q.
      let w = remove_ready r g.align name x b q in (omega (arith, w.1, ap length w.0), w.2)))

  -- A refused edit changes no byte of the image.

  pub add_same : (name : List ℕ) (kind : ℕ) (content : List ℕ) (x : Refusal) → (add_in i g name kind content).answer ≡ Err x
      → (add_in i g name kind content).image ≡ i
  unfolding add
  add_same name kind content x e = refused_same i g (add_decision component_limit r g.align name kind content) x e

  pub replace_same : (name content : List ℕ) (x : Refusal) → (replace_in i g name content).answer ≡ Err x → (replace_in i g name content).image ≡ i
  unfolding replace
  replace_same name content x e = refused_same i g (replace_decision component_limit r g.align name content) x e

  pub remove_same : (name : List ℕ) (x : Refusal) → (remove_in i g name).answer ≡ Err x → (remove_in i g name).image ≡ i
  unfolding remove
  remove_same name x e = refused_same i g (remove_decision component_limit r g.align name) x e

  -- What an edit that is done at q promises of the image's region afterwards; p is the place in the region.

  pub replace_promise : 8 ≤ g.align → AllBytes i → (name content : List ℕ) (q : ℕ) → (replace_in i g name content).answer ≡ Ok q
      → (p : ℕ) × (g.start + p ≡ q) × Replaced r g.align name content p (region_bytes (replace_in i g name content).image g)
  replace_promise big bs name content q e =
      let (p, h, d) = done_place i g (replace component_limit r g.align name content) q e in
      (p, h, rw (replace_around name content).region (replace_done r g.align big (part_bytes i g bs) name content p d))

  pub remove_promise : 8 ≤ g.align → (name : List ℕ) (q : ℕ) → (remove_in i g name).answer ≡ Ok q
      → (p : ℕ) × (g.start + p ≡ q) × Removed r g.align name p (region_bytes (remove_in i g name).image g)
  remove_promise big name q e =
      let (p, h, d) = done_place i g (remove component_limit r g.align name) q e in
      (p, h, rw (remove_around name).region (remove_done r g.align big name p d))

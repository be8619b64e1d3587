-- From a decision to the image: what the write asks for, what is answered, and the image afterwards.
use Prim.Native.Nat.{ℕ, ◌+◌, ◌-◌, ◌≤◌, ◌<◌}
use native.Mathlib.Nat.{sub-zero}
use native.Mathlib.Omega.{arith}
use mathlib.Core.Path.{◌≡◌, sym, ap, subst, ◌∙◌}
use mathlib.Core.List.{List, [], ◌++◌}
use lib.ListN.{length, replicate}
use Rattle.bytes_read.specs.Bytes.{splice}
use Rattle.region.specs.Region.{region_bytes}
use Rattle.cbfs_types.specs.declared.Region.{Region}
use Rattle.region.proofs.Regions.{bytes_inside}
use Rattle.strict_rules.specs.Strict.{component_limit}
use Rattle.edit_rules.specs.Edit.{Run, offset_for, span_bytes, Decision, write, add_decision, replace_decision, remove_decision, carried_out, add}
use Rattle.edit_rules.specs.Edit.{replace, remove}
use Rattle.edit_slots.specs.SlotsByPlaces.{slot_from}
use Rattle.edit_decide.specs.Choices.{kind_of_name, choice}
use Rattle.edit_write.specs.EditWrite.{EditResult, edit_result_in, add_in, replace_in, remove_in}
use Rattle.edit_slots.specs.declared.Slot.{Slot}
use Rattle.std.specs.Prelude.{Ok}
use Rattle.edit_rules.proofs.Written.{length_span}
use Rattle.edit_decide.proofs.Choices.{Ready, choice_write, add_ready, replace_ready, remove_ready}
use Rattle.edit_write.proofs.Writing.{edit_done_lem}

-- A slot z that a component is written to, and the result o.
pub record WritesComponent (i : List ℕ) (g : Region) (name content : List ℕ) (z : Slot) (o : EditResult) : Type 0 where
  pub short : length name ≤ 255
  pub len-fits : length content ≤ 0xFFFFFFFF
  pub fits : z.start + (offset_for name + length content) ≤ z.end
  pub inside : g.start + z.end ≤ length i
  pub answer : Ok (g.start + z.start) ≡ o.answer
  pub bytes : splice i (g.start + z.start)
      (span_bytes name z.kind content ++ replicate (z.end - z.start - length (span_bytes name z.kind content)) 255) ≡ o.image

-- A slot z that is cleared.
pub record ErasesSlot (i : List ℕ) (g : Region) (z : Slot) (o : EditResult) : Type 0 where
  pub order : z.start ≤ z.end
  pub inside : g.start + z.end ≤ length i
  pub answer : Ok (g.start + z.start) ≡ o.answer
  pub bytes : splice i (g.start + z.start) (replicate (z.end - z.start) 255) ≡ o.image

module _ (i : List ℕ) (g : Region) where
  abbrev r : List ℕ
  r = region_bytes i g

  puts : (name : List ℕ) (kind : ℕ) (content : List ℕ) (d : Decision) (x : Run) (b : List ℕ) → d ≡ write x b → span_bytes name kind content ≡ b
      → Ready r name content x
      → WritesComponent i g name content (slot_from x kind) (edit_result_in i g (carried_out r d))
  puts name kind content d x b q e w =
      let l = length_span name kind content in
      let f : x.from + length b ≤ x.to = omega (arith, w.fits, ap length e) in
      let p = bytes_inside i g x.from (omega (arith, w.fits, w.inside)) in
      let u = edit_done_lem i g d x b q f (omega (arith, w.fits)) w.inside in
      record { short = w.short; len-fits = w.len-fits; fits = w.fits; inside = omega (arith, w.inside, p.0, p.1); answer = u.0; bytes = rw e u.1 }

  pub add_writes : (name : List ℕ) (kind : ℕ) (content : List ℕ) (z : Slot)
      → choice g.start kind (add_decision component_limit r g.align name kind content) ≡ Ok z
      → WritesComponent i g name content z (add_in i g name kind content)
  unfolding add
  add_writes name kind content z e =
      let (x, b, q, w) = choice_write g.start kind (add_decision component_limit r g.align name kind content) z e in
      let y = add_ready r g.align name kind content x b q in
      subst (λ (u : Slot). WritesComponent i g name content u (edit_result_in i g (carried_out r (add_decision component_limit r g.align name kind content)))) w
      (puts name kind content (add_decision component_limit r g.align name kind content) x b q y.0 y.1)

  pub replace_writes : (name content : List ℕ) (z : Slot)
      → choice g.start (kind_of_name r g.align name) (replace_decision component_limit r g.align name content) ≡ Ok z
      → WritesComponent i g name content z (replace_in i g name content)
  unfolding replace
  replace_writes name content z e =
      let (x, b, q, w) = choice_write g.start (kind_of_name r g.align name) (replace_decision component_limit r g.align name content) z e in
      let y = replace_ready r g.align name content x b q in
      subst (λ (u : Slot). WritesComponent i g name content u (edit_result_in i g (carried_out r (replace_decision component_limit r g.align name content)))) w
      (puts name (kind_of_name r g.align name) content (replace_decision component_limit r g.align name content) x b q y.0 y.1)

  pub remove_erases : (name : List ℕ) (z : Slot) → choice g.start (kind_of_name r g.align name) (remove_decision component_limit r g.align name) ≡ Ok z
      → ErasesSlot i g z (remove_in i g name)
  unfolding remove
  remove_erases name z e =
      let (x, b, q, w) = choice_write g.start (kind_of_name r g.align name) (remove_decision component_limit r g.align name) z e in
      let y = remove_ready r g.align name x b q in
      subst (λ (u : Slot). ErasesSlot i g u (edit_result_in i g (carried_out r (remove_decision component_limit r g.align name)))) w
      (go x b q y.0 y.1 y.2)
    where
      go : (x : Run) (b : List ℕ) → remove_decision component_limit r g.align name ≡ write x b → [] ≡ b → x.from < x.to → x.to ≤ length r
          → ErasesSlot i g (slot_from x (kind_of_name r g.align name)) (edit_result_in i g (carried_out r (remove_decision component_limit r g.align name)))
      go x b q n h k =
          let p = bytes_inside i g x.from (omega arith) in
          let u = edit_done_lem i g (remove_decision component_limit r g.align name) x b q (omega (arith, ap length n)) h k in
          record { order = omega arith; inside = omega (arith, p.0, p.1); answer = u.0; bytes = empty b n u.1 }
        where
          empty : (b : List ℕ) → [] ≡ b → {y : List ℕ} → splice i (g.start + x.from) (b ++ replicate (x.to - x.from - length b) 255) ≡ y
              → splice i (g.start + x.from) (replicate (x.to - x.from) 255) ≡ y
          empty b n u = ap (λ (m : ℕ). splice i (g.start + x.from) (replicate m 255)) (sym (sub-zero (x.to - x.from))) ∙ rw (← n) at u

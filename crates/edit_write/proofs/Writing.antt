-- A slot written in order, and what that leaves of the region and of the image.
use Prim.Native.Nat.{ℕ, ◌+◌, ◌-◌, ◌≤◌, ◌<◌}
use native.Mathlib.Nat.{add-zero, add_assoc}
use native.Mathlib.Omega.{arith}
use mathlib.Core.Bool.{Bool, true, false, cond}
use mathlib.Core.Path.{◌≡◌, refl, sym, ap, ◌∙◌}
use mathlib.Core.List.{List, [], ◌++◌, append_assoc}
use lib.ListN.{length, take, drop, replicate, length-append, length-take, length-drop, length-replicate, take-append-drop}
use lib.Seq.{take-take, take-add, drop-drop, drop-append-le}
use borrow.Author.Tests.{leb-true}
use Rattle.bytes_read.specs.Bytes.{fits, part_of, splice, written}
use Rattle.region.specs.Region.{region_bytes}
use Rattle.cbfs_types.specs.declared.Region.{Region}
use Rattle.bytes_read.proofs.Splice.{splice-length, splice_all}
use Rattle.edit_header.proofs.Headers.{written-fits}
use Rattle.cbfs_types.specs.declared.Refusal.{Refusal}
use Rattle.region.proofs.Regions.{bytes_inside, bytes_fit}
use lib.Dec.{eqb}
use Rattle.edit_rules.specs.Edit.{header_for, field_bytes, span_stating, span_bytes, field_length, Run, slot_filled, Decision, refuse, write, carried_out}
use Rattle.edit_decide.specs.Choices.{choice}
use Rattle.edit_write.specs.EditWrite.{edit_result_in}
use Rattle.std.specs.Prelude.{Ok, Err}
use Rattle.edit_decide.proofs.Choices.{choice_refuse}

pub filled_whole : (d : List ℕ) (v : ℕ) {x : List ℕ} → x ≡ written d 0 (replicate (length d) v) → x ≡ replicate (length d) v
filled_whole d v e =
    let l : length (replicate (length d) v) ≡ length d = length-replicate {A = ℕ} (length d) v in
    e ∙ written-fits d 0 (replicate (length d) v) (omega arith) ∙ splice_all d (replicate (length d) v) l

-- The parts of a span, as they are written.

pub span_parts : (name : List ℕ) (kind : ℕ) (content ones : List ℕ)
    → (((header_for name kind content ++ name) ++ replicate (field_length (length name) - length name) 0) ++ content) ++ ones ≡ span_bytes name kind content
    ++ ones
unfolding span_bytes span_stating field_bytes
span_parts name kind content ones = simp append_assoc

-- A part put back as it was leaves all as it was.
splice_same : (i : List ℕ) (s n : ℕ) → s + n ≤ length i → splice i s (take n (drop s i)) ≡ i
unfolding splice
splice_same i s n h =
    let l : length (take n (drop s i)) ≡ n = simp (length-take, length-drop) (omega arith) in
    rw (l, ← drop-drop n s i, take-append-drop n (drop s i), take-append-drop s i)

pub splice_nothing : (i : List ℕ) (s : ℕ) → splice i s [] ≡ i
unfolding splice
splice_nothing i s = rw (add-zero s, take-append-drop s i)

pub region_same : (i : List ℕ) (g : Region) → i ≡ splice i g.start (region_bytes i g)
unfolding region_bytes part_of
region_same i g = go (fits i g.start (g.end - g.start)) refl
  where
    go : (b : Bool) → fits i g.start (g.end - g.start) ≡ b → i ≡ splice i g.start (cond b (take (g.end - g.start) (drop g.start i)) [])
    go true e = sym (splice_same i g.start (g.end - g.start) (leb-true _ _ e))
    go false e = sym (splice_nothing i g.start)

-- A write in a part is a write in the whole.
module _ (i : List ℕ) (s n from : ℕ) (ys r : List ℕ) (e : take n (drop s i) ≡ r) (h : s + n ≤ length i) (k : from + length ys ≤ n) where
  part_long : length r ≡ n
  part_long = ap length (sym e) ∙ simp (length-take, length-drop) (omega arith)

  kept_long : length (splice r from ys) ≡ n
  kept_long = splice-length r from ys (omega (arith, part_long)) ∙ part_long

  front : take (s + from) i ≡ take s i ++ take from r
  front = take-add s from i ∙ ap (λ (x : List ℕ). take s i ++ x) (sym (take-take from n (drop s i) (omega arith)) ∙ ap (take from) e)

  rest_is : drop s i ≡ r ++ drop (s + n) i
  rest_is = sym (take-append-drop n (drop s i)) ∙ rw (e, drop-drop n s i)

  back : drop (s + from + length ys) i ≡ drop (from + length ys) r ++ drop (s + n) i
  back = ap (λ (m : ℕ). drop m i) (add_assoc s from (length ys)) ∙ sym (drop-drop (from + length ys) s i) ∙ ap (drop (from + length ys)) rest_is
      ∙ drop-append-le (from + length ys) r (drop (s + n) i) (omega (arith, part_long))

  splice_within : splice i s (splice r from ys) ≡ splice i (s + from) ys
  unfolding splice
  splice_within = rw (kept_long, front, back) (simp append_assoc)

-- An edit of the region, put back into the image: a refused one leaves all as it was, and one that is done is a write in the image.

pub edit_refused_lem : (i : List ℕ) (g : Region) (d : Decision) (k : ℕ) (x : Refusal) → choice g.start k d ≡ Err x
    → (Err x ≡ (edit_result_in i g (carried_out (region_bytes i g) d)).answer) × (i ≡ (edit_result_in i g (carried_out (region_bytes i g) d)).image)
unfolding carried_out
edit_refused_lem i g d k x e = let (n, p, q, w) = choice_refuse g.start k d x e in go n p q w
  where
    go : (n p : ℕ) → d ≡ refuse n p → record { number = n; place = cond (eqb n 12) (g.start + p) 0 } ≡ x
        → (Err x ≡ (edit_result_in i g (carried_out (region_bytes i g) d)).answer) × (i ≡ (edit_result_in i g (carried_out (region_bytes i g) d)).image)
    go n p q w = (rw (q, ← w), rw q (region_same i g))

pub edit_done_lem : (i : List ℕ) (g : Region) (d : Decision) (x : Run) (b : List ℕ) → d ≡ write x b → x.from + length b ≤ x.to → x.from < x.to
    → x.to ≤ length (region_bytes i g)
    → (Ok (g.start + x.from) ≡ (edit_result_in i g (carried_out (region_bytes i g) d)).answer)
    × (splice i (g.start + x.from) (b ++ replicate (x.to - x.from - length b) 255) ≡ (edit_result_in i g (carried_out (region_bytes i g) d)).image)
unfolding carried_out slot_filled
edit_done_lem i g d x b q h lt k = (
  rw q,
  rw q (sym (splice_within i g.start (length (region_bytes i g)) x.from (b ++ replicate (x.to - x.from - length b) 255) (region_bytes i g) part
      (omega (arith, f.0, f.1)) long)),
)
  where
    f : (g.start + length (region_bytes i g) ≡ g.end) × (g.end ≤ length i)
    f = bytes_inside i g x.from (omega arith)

    part : take (length (region_bytes i g)) (drop g.start i) ≡ region_bytes i g
    part = let n : length (region_bytes i g) ≡ g.end - g.start = omega (arith, f.0) in
        ap (λ (m : ℕ). take m (drop g.start i)) n ∙ sym (bytes_fit i g (omega (arith, f.0)) f.1)

    long : x.from + length (b ++ replicate (x.to - x.from - length b) 255) ≤ length (region_bytes i g)
    long = simp (length-append, length-replicate) (omega arith)

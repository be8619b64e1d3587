use Rattle.std.proofs.Common.{◌≡◌, ℕ, ◌+◌, ◌*◌, ◌/◌, ◌≤◌, List, length, take, refl, sym, ap, ◌∙◌, arith}
use native.Mathlib.Nat.{zero-add}
use Rattle.bytes_read.specs.Number.{le}
use Rattle.bytes_read.proofs.Numbers.{le_join, le_within}
use Rattle.strict_check.specs.StrictCheck.{hash_step, digest_from, digest_of}
use Rattle.strict_check.proofs.Names.{digest_front, digest_front_two, digest_end}
use Rattle.strict_check.proofs.digest.Goals as goal
use Rattle.strict_check.proofs.digest.Goals.{in-Some-split_first_chunk, in_default-split_first_chunk}

-- a word of the first n bytes w, and one that is read in its halves
word_at : (s : List ℕ) (n k : ℕ) {w : List ℕ} → w ≡ take n s → k + 8 ≤ n → le 8 w k ≡ le 8 s k
word_at s n k e l = rw e (le_within 8 s 0 n k l ∙ ap (le 8 s) (zero-add k))

halves_at : (s : List ℕ) (k : ℕ) {w : List ℕ} {x y : ℕ} → w ≡ take 16 s → k + 8 ≤ 16 → x ≡ le 4 w k → y ≡ le 4 w (k + 4) → x + y * 4294967296 ≡ le 8 s k
halves_at s k {w} e l p q = le_join 4 w k p q ∙ word_at s 16 k e l

two-words : (h : ℕ) {w v w' v' : ℕ} → w ≡ w' → v ≡ v' → hash_step (hash_step h w) v ≡ hash_step (hash_step h w') v'
two-words h e f = rw (e, f)

on : {h h' : ℕ} {t t' : List ℕ} → h ≡ h' → t ≡ t' → digest_from (length t / 8) h t 0 ≡ digest_from (length t' / 8) h' t' 0
on e f = rw (e, f)

pub loop-w-preserved : goal.loop-w-preserved
loop-w-preserved c =
    let s = c.loop-w.rest.now in
    let cut = c.in-Some.ensures.cases in
    let first = halves_at s 0 cut.0 (omega arith) c.le32.ensures.value c.le32-in-Some.ensures.value in
    let second = halves_at s 8 cut.0 (omega arith) c.le32-in-Some-2.ensures.value c.le32-in-Some-3.ensures.value in
    let h = c.hash_two_steps-h.ensures ∙ two-words c.loop-w.h first second in
    c.loop-w.invariant ∙ digest_front_two s c.loop-w.h (c.in-Some.ensures.variant.0 refl) ∙ on (sym h) (sym cut.1)

pub returns : goal.returns
returns c =
    let s = c.loop-w.rest.now in
    let h = c.loop-w.h in
    let whole : digest_of c.args.s.now ≡ hash_step c.match-split_first_chunk-2.h (le 8 c.match-split_first_chunk-2.rest.now 0) =
    elim c.match-split_first_chunk-2.branch [
      | in-Some-split_first_chunk w ↦
          let cut = w.in-Some-split_first_chunk.ensures.cases in
          let word = w.hash_step-h.ensures ∙ ap (hash_step h) (w.le64.ensures.value ∙ word_at s 8 0 cut.0 (omega arith)) in
          let short = c.in_default.ensures.cases in
          rw (w.h-is, w.rest-is) (c.loop-w.invariant ∙ digest_front s h (w.in-Some-split_first_chunk.ensures.variant.0 refl) ∙ on (sym word) (sym cut.1)
          ∙ digest_end w.in-Some-split_first_chunk.after.now (length w.in-Some-split_first_chunk.after.now) 0 w.hash_step-h.result
          (omega (arith, short, cut.2)))
      | in_default-split_first_chunk w ↦
          rw (w.h-is, w.rest-is) (c.loop-w.invariant ∙ digest_end s (length s) 0 h w.in_default-split_first_chunk.ensures.cases)
    ] in
    c.hash_step.ensures ∙ ap (hash_step c.match-split_first_chunk-2.h) c.le64-2.ensures.value ∙ sym whole

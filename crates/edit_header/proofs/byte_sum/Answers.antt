use Rattle.std.proofs.Common.{◌≡◌, ◌/◌, ◌%◌, List, [], ◌∷◌, ℕ, ap, ◌∙◌, arith}
use native.Mathlib.Nat.{div-div-eq-div-mul}
use Rattle.bytes_read.specs.Number.{be_bytes}
use Rattle.component.specs.Sums.{total}
use Rattle.edit_header.proofs.Headers.{byte_sum_is}
use Rattle.edit_header.proofs.byte_sum.Goals as goal

bytes : (v : ℕ) {s : List ℕ} → s ≡ v / 16777216 % 256 ∷ v / 65536 % 256 ∷ v / 256 % 256 ∷ v % 256 ∷ [] → s ≡ be_bytes 4 v
unfolding be_bytes
bytes v e = rw e (simp div-div-eq-div-mul)

pub returns : goal.returns
returns c =
    let v = c.args.v in
    let sum = c.sum.ensures.value ∙ ap (λ (s : List ℕ). total s % 4294967296) (bytes v c.to_be_bytes.ensures) in
    (omega (arith, sum, byte_sum_is v), omega (arith, sum, byte_sum_is v))

-- "Edits write the sum" (document 02, request 5), for a whole image: what add and replace have written states the sum of its bytes, no bit of which is
-- lost, and which is never 0.
use Rattle.std.specs.Prelude.{Ok}
use Prim.Native.Nat.{ℕ, ◌+◌, ◌^◌, ◌≤◌, ◌<◌}
use native.Mathlib.Omega.{arith}
use mathlib.Core.Path.{◌≡◌, sym, ap, ◌∙◌}
use mathlib.Core.List.{List}
use lib.ListN.{length, take, drop, length-drop}
use lib.Seq.{length-take-le, get_or-take, get_or-drop, ext_get_or}
use Rattle.bytes_read.proofs.Numbers.{be_same}
use Rattle.component.specs.Sums.{total, checksum_zeroed, checksum_of}
use Rattle.component.specs.Table.{checksum, sum_of}
use Rattle.component.proofs.Exactly.{sum_words}
use Rattle.cbfs_types.specs.declared.Region.{Region}
use Rattle.master_header.proofs.Facts.{known}
use Rattle.edit_rules.specs.Edit.{offset_for, span_bytes, AllBytes, BytesAt}
use Rattle.edit_rules.proofs.Written.{length_span}
use Rattle.edit_rules.proofs.Sums.{sum_exact}
use Rattle.image_edit.specs.ImageEdit.{image_add, image_replace}
use Rattle.image_claims.specs.EditsDone.{AddDone, ReplaceDone, StatesSum}
use Rattle.image_claims.proofs.Edits.{add_done_image, replace_done_image}

-- What stands in an image is a part of it.
stands : (i : List ℕ) (p : ℕ) (s : List ℕ) → BytesAt i p s → take (length s) (drop p i) ≡ s
stands i p s (h, at) =
    let l : length (take (length s) (drop p i)) ≡ length s = length-take-le (length s) (drop p i) (omega (arith, length-drop p i)) in
    ext_get_or 0 (take (length s) (drop p i)) s l (λ k b. get_or-take (length s) (drop p i) k 0 (omega arith) ∙ get_or-drop p i k 0 ∙ at k (omega arith))

states : (i : List ℕ) (p : ℕ) (name : List ℕ) (kind : ℕ) (content : List ℕ) → length i ≤ 16777216 → AllBytes name → AllBytes content
    → BytesAt i p (span_bytes name kind content) → StatesSum i p (offset_for name + length content)
states i p name kind content l bn bc put =
    let s = span_bytes name kind content in
    let n = length_span name kind content in
    let x = sum_exact name kind content bn bc (omega (arith, put.0)) in
    let same : checksum (drop p i) ≡ checksum_of s = be_same 4 s (drop p i) 16 (λ j a b. get_or-drop p i j 0 ∙ put.1 j (omega arith)) in
    let sum : sum_of (drop p i) (length s) ≡ total (checksum_zeroed s) =
    sum_words (drop p i) (length s) (omega arith) (omega (arith, put.0, length-drop p i)) ∙ ap (λ (y : List ℕ). total (checksum_zeroed y)) (stands i p s put) in
    record { exact = same ∙ x.0 ∙ sym sum ∙ ap (sum_of (drop p i)) n; stated = omega (arith, same, x.1) }

pub add_states : (i name : List ℕ) (kind : ℕ) (content : List ℕ) (p : ℕ) → kind < 256 ^ 4 → AllBytes name → AllBytes content
    → (image_add i name kind content).answer ≡ Ok p → StatesSum (image_add i name kind content).image p (offset_for name + length content)
add_states i name kind content p typed bn bc e = let (g, a, d) = add_done_image i name kind content p typed e in go g d
  where
    go : (g : Region) → AddDone i g name kind content p (image_add i name kind content).image
        → StatesSum (image_add i name kind content).image p (offset_for name + length content)
    go g d = states (image_add i name kind content).image p name kind content (known _ g d.leaves.read).short bn bc d.written

pub replace_states : (i name content : List ℕ) (p : ℕ) → AllBytes i → AllBytes name → AllBytes content → (image_replace i name content).answer ≡ Ok p
    → StatesSum (image_replace i name content).image p (offset_for name + length content)
replace_states i name content p bs bn bc e = let (g, a, d) = replace_done_image i name content p bs e in go g d
  where
    go : (g : Region) → ReplaceDone i g name content p (image_replace i name content).image
        → StatesSum (image_replace i name content).image p (offset_for name + length content)
    go g d = states (image_replace i name content).image p name d.kind content (known _ g d.leaves.read).short bn bc d.written

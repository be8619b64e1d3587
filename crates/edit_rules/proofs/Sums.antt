-- The sum that is written, in an image of at most 16,777,216 bytes: it is that of all bytes, no bit of it is lost, and it is never 0, which would state none.
use Prim.Native.Nat.{ℕ, ◌%◌, ◌≤◌, ◌<◌}
use native.Mathlib.Omega.{arith}
use mathlib.Core.Path.{◌≡◌, sym, ◌∙◌}
use mathlib.Core.List.{List}
use lib.ListN.{length}
use Rattle.bytes_read.specs.Number.{be_bytes}
use Rattle.component.specs.Sums.{total, checksum_zeroed, span_sum, checksum_of}
use Rattle.component.proofs.Summing.{total_most}
use Rattle.edit_rules.specs.Edit.{offset_for, sum_for, span_bytes, AllBytes}
use Rattle.edit_rules.proofs.Written.{field_fits_lem, length_span, by_parts, span_total, sum_written, sum_read}

byte_sum_most : (v : ℕ) → total (be_bytes 4 v) ≤ 1020
unfolding total be_bytes
byte_sum_most v = omega arith

module _ (name : List ℕ) (kind : ℕ) (content : List ℕ) where
  by_parts_lem : total (checksum_zeroed (span_bytes name kind content)) ≡ by_parts name kind content
  unfolding span_bytes
  by_parts_lem = span_total (sum_for name kind content) name kind content

  pub sum_exact : AllBytes name → AllBytes content → length (span_bytes name kind content) ≤ 16777216
      → (checksum_of (span_bytes name kind content) ≡ total (checksum_zeroed (span_bytes name kind content)))
      × (590 ≤ checksum_of (span_bytes name kind content))
  unfolding span_sum
  sum_exact bn bc l = (e, omega (arith, e, by_parts_lem))
    where
      small : (n : ℕ) → n < 4294967296 → n % 4294967296 ≡ n
      small n h = omega arith

      below : total (checksum_zeroed (span_bytes name kind content)) < 4294967296
      below = omega (
        arith,
        by_parts_lem,
        total_most name bn,
        total_most content bc,
        byte_sum_most (length content),
        byte_sum_most kind,
        byte_sum_most (offset_for name),
        field_fits_lem (length name),
        length_span name kind content,
      )

      e : checksum_of (span_bytes name kind content) ≡ total (checksum_zeroed (span_bytes name kind content))
      e = sum_read name kind content ∙ sym (sum_written name kind content) ∙ small (total (checksum_zeroed (span_bytes name kind content))) below

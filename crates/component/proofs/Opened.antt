-- One name for all that the judge of a component is made of: what a worked value opens to compute it.
use Prim.Native.Nat.{ℕ}
use Rattle.bytes_read.specs.Number.{be, be_bytes}
use Rattle.bytes_read.specs.Bytes.{eq_bytes}
use Rattle.component.specs.Names.{name_tests, name_fits, before_zero, field_tests, field_fits}
use Rattle.component.specs.Sums.{total, span_sum, checksum_matches}
use Rattle.component.specs.Component.{magic, starts_with_magic, component_of, number_tests, header_tests, well_formed, judge_after_magic, judge, judge_numbers}
use Rattle.component.specs.Component.{judge_skipping_sum}

unfoldable pub judge_definitions : ℕ
unfolding be be_bytes eq_bytes name_tests name_fits before_zero field_tests field_fits magic starts_with_magic total span_sum checksum_matches component_of number_tests
    header_tests well_formed judge_after_magic judge judge_numbers judge_skipping_sum
judge_definitions = 0

-- The tests that a segment's type chooses.
use Prim.Native.Nat.{ℕ}
use mathlib.Core.Path.{◌≡◌}
use mathlib.Core.Logic.{◌⊎◌, inl, inr}
use Rattle.load_segment.specs.LoadSegment.{load_tests}
use Rattle.load_payload.specs.Payload.{code_type, data_type, bss_type, params_type, bss_tests, params_tests, type_tests}
use Rattle.cbfs_types.specs.declared.Segment.{Segment}

module _ (at l : ℕ) (x : Segment) where
  pub load_type_tests : (x.kind ≡ data_type) ⊎ (x.kind ≡ code_type) → type_tests at l x ≡ load_tests at l x
  unfolding type_tests
  load_type_tests (inl e) = rw e
  load_type_tests (inr e) = rw e

  pub bss_type_tests : x.kind ≡ bss_type → type_tests at l x ≡ bss_tests x
  unfolding type_tests
  bss_type_tests e = rw e

  pub params_type_tests : x.kind ≡ params_type → type_tests at l x ≡ params_tests at l x
  unfolding type_tests
  params_type_tests e = rw e

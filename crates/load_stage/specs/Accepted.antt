-- What is known of every stage plan that is not refused, sentence by sentence of document 01, "Load plans".
-- i is the image, t the component that the guarded lookup gives, and s its content.
use Rattle.std.specs.Prelude.{ℕ, ◌+◌, ◌^◌, ◌≤◌, ◌≡◌, List}
use Rattle.cbfs_types.specs.declared.Taken.{Taken}
use Rattle.load_segment.specs.LoadSegment.{content_place}
use Rattle.load_segment.specs.Accepted.{ContentInside, Source}
use Rattle.load_stage.specs.Stage.{entry_point, binary_at, stage_plan}
use Rattle.cbfs_types.specs.declared.StagePlan.{StagePlan}

-- A stage plan p that is given.
pub record AcceptedStage (i s : List ℕ) (t : Taken) (p : StagePlan) : Type 0 where
  pub kind : t.header.kind ≡ 0x10
  pub content : ContentInside i s t
  -- It reports the header's compression, entry, load, len and memlen. "The binary follows."
  pub reported : p ≡ stage_plan (entry_point s) (binary_at s (content_place t))
  -- "len must fit what remains."
  pub source : Source i s t p.source p.len
  -- "The zeroed range is memlen bytes from load": it does not pass 2^64.
  pub range : p.load + p.memlen ≤ 2 ^ 64
  -- Uncompressed bytes are no more than the memory for them.
  pub memory : p.compression ≡ 0 → p.len ≤ p.memlen
  -- "compression above 2" is refused.
  pub compressed : p.compression ≤ 2

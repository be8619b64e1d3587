-- What is known of the source of every plan that is not refused (document 01, "Load plans").
-- i is the image, t the component that the guarded lookup gives, and s its content.
use Rattle.std.specs.Prelude.{ℕ, ◌+◌, ◌≤◌, ◌≡◌, List, length}
use Rattle.bytes_read.specs.Bytes.{part_of}
use Rattle.cbfs_types.specs.declared.Taken.{Taken}
use Rattle.load_segment.specs.LoadSegment.{content_place}

-- The content is a part of the image.
pub record ContentInside (i s : List ℕ) (t : Taken) : Type 0 where
  pub part : s ≡ part_of i (content_place t) (length s)
  pub within : content_place t + length s ≤ length i

-- The n bytes from the place p on lie in the content, and so in the image.
pub record Source (i s : List ℕ) (t : Taken) (p n : ℕ) : Type 0 where
  pub from : content_place t ≤ p
  pub to : p + n ≤ content_place t + length s
  pub within : p + n ≤ length i

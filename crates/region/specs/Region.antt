-- A region's bytes, and refusals as the calls answer them (document 01, "Master header" and "Refusal numbers").
use Rattle.std.specs.Prelude.{ℕ, ◌+◌, ◌-◌, List, cond, eqb, Result, Ok, Err}
use Rattle.bytes_read.specs.Bytes.{part_of}
use Rattle.cbfs_types.specs.declared.Region.{Region}
use Rattle.cbfs_types.specs.declared.Refusal.{Refusal}

-- The region's bytes; none where its numbers do not fit the image.
unfoldable pub region_bytes : List ℕ → Region → List ℕ
region_bytes i g = part_of i g.start (g.end - g.start)

-- A refusal by its number. It reports place 0.
abbrev pub refusal_by : ℕ → Refusal
refusal_by n = record { number = n; place = 0 }

-- A refusal of a call over a region that begins at s, by its number and the place that it is about, counted from there. Only 12 reports it.
abbrev pub refusal_in : ℕ → ℕ → ℕ → Refusal
refusal_in s n p = record { number = n; place = cond (eqb n 12) (s + p) 0 }

-- What a call answers by the number of the first test that fails: the value where the number is 0, else the refusal.
abbrev pub unless_refused : {A : Type 0} → ℕ → A → Result A Refusal
unless_refused n x = cond (eqb n 0) (Ok x) (Err (refusal_by n))

-- What a call answers that goes on from another's value: the other's refusal comes first.
abbrev pub and_then : {A B : Type 0} → Result A Refusal → (A → Result B Refusal) → Result B Refusal
and_then (Ok x) call = call x
and_then (Err r) call = Err r

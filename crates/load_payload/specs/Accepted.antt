-- What is known of every payload plan that is not refused, sentence by sentence of document 01, "Load plans".
-- i is the image, t the component that the guarded lookup gives, and s its content.
use Rattle.std.specs.Prelude.{ℕ, suc, ◌+◌, ◌*◌, ◌^◌, ◌≤◌, ◌<◌, ◌≡◌, ◌⊎◌, List, length, get_or}
use Rattle.cbfs_types.specs.declared.Taken.{Taken}
use Rattle.load_segment.specs.Accepted.{ContentInside, Source}
use Rattle.cbfs_types.specs.declared.Segment.{Segment}
use Rattle.load_payload.specs.Payload.{type_at, code_type, data_type, bss_type, params_type, entry_type, origin, segment_at, segment_limit, unused_segment}
use Rattle.cbfs_types.specs.declared.PayloadPlan.{PayloadPlan}

-- The k-th segment of a plan, counted from 0.
abbrev pub segment_of : PayloadPlan → ℕ → Segment
segment_of p k = get_or p.segments k unused_segment

-- The types that are loaded, those that have a source, and those that have a target.

abbrev pub Loaded : Segment → Type 0
Loaded x = (x.kind ≡ data_type) ⊎ (x.kind ≡ code_type)

abbrev pub HasSource : Segment → Type 0
HasSource x = (x.kind ≡ params_type) ⊎ Loaded x

abbrev pub HasTarget : Segment → Type 0
HasTarget x = (x.kind ≡ bss_type) ⊎ Loaded x

-- The address b is one of the segment's target.
abbrev pub Target : Segment → ℕ → Type 0
Target x b = (x.load ≤ b) × (b < x.load + x.memlen)

-- A payload plan p that is given.
pub record AcceptedPayload (i s : List ℕ) (t : Taken) (p : PayloadPlan) : Type 0 where
  pub kind : t.header.kind ≡ 0x20
  pub content : ContentInside i s t
  -- "in the payload's order": the segments are those of the records, each of which lies in the content.
  pub ordered : (k : ℕ) → k < p.count → (segment_of p k ≡ segment_at s (origin t) (28 * k)) × (28 * k + 28 ≤ length s)
  -- "The list ends with the first ENTRY; a plan holds up to 16 segments, ENTRY included": the count is the number of records up to the first ENTRY.
  pub counted : (n : ℕ) × (p.count ≡ suc n) × (p.count ≤ segment_limit) × (type_at s (28 * n) ≡ entry_type)
      × ((m : ℕ) → m < n → type_at s (28 * m) ≡ entry_type → ⊥)
  -- "There are five segment types."
  pub types : (k : ℕ) → k < p.count → HasSource (segment_of p k) ⊎ (((segment_of p k).kind ≡ bss_type) ⊎ ((segment_of p k).kind ≡ entry_type))
  -- "The source bytes must lie in the component's content."
  pub sources : (k : ℕ) → k < p.count → HasSource (segment_of p k) → Source i s t (segment_of p k).source (segment_of p k).len
  -- No target passes 2^64.
  pub targets : (k : ℕ) → k < p.count → HasTarget (segment_of p k) → (segment_of p k).load + (segment_of p k).memlen ≤ 2 ^ 64
  -- "Targets of CODE, DATA and BSS don't overlap": no two segments share a byte of a target.
  pub disjoint : (j k : ℕ) → j < p.count → k < p.count → (b : ℕ) → Target (segment_of p j) b → Target (segment_of p k) b → j ≡ k
  -- Uncompressed bytes are no more than the memory for them.
  pub memory : (k : ℕ) → k < p.count → Loaded (segment_of p k) → (segment_of p k).compression ≡ 0 → (segment_of p k).len ≤ (segment_of p k).memlen
  -- "compression above 2 (not BSS, ENTRY)" is refused; those two, which have no source, report 0.
  pub compressed : (k : ℕ) → k < p.count → HasSource (segment_of p k) → (segment_of p k).compression ≤ 2
  -- "Fields a type doesn't use, and unused segments, are 0." ENTRY uses load_addr, and has no target.
  pub sourceless : (k : ℕ) → k < p.count → (HasSource (segment_of p k) → ⊥)
      → ((segment_of p k).compression ≡ 0) × ((segment_of p k).source ≡ 0) × ((segment_of p k).len ≡ 0)
  pub targetless : (k : ℕ) → k < p.count → (HasTarget (segment_of p k) → ⊥)
      → ((segment_of p k).memlen ≡ 0) × (((segment_of p k).kind ≡ entry_type → ⊥) → (segment_of p k).load ≡ 0)
  pub past : (k : ℕ) → p.count ≤ k → segment_of p k ≡ unused_segment

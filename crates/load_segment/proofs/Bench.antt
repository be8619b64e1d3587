-- Components and images for worked plans.
use Prim.Native.Nat.{ℕ}
use mathlib.Core.List.{List, [], ◌∷◌, ◌++◌}
use lib.ListN.{length, replicate}
use Rattle.std.specs.Prelude.{Result, Ok, Err}
use Rattle.bytes_read.specs.Number.{be_bytes}
use Rattle.component.specs.Component.{magic}
use Rattle.cbfs_types.specs.declared.Refusal.{Refusal}
use Rattle.cbfs_types.specs.declared.Taken.{Taken}
use Rattle.cbfs_types.specs.declared.Region.{Region}

-- A component at place 100 with its content at 140, of type k.
abbrev pub component : ℕ → Taken
component k = record { place = 100; header = record { offset = 40; len = 0; kind = k; checksum = 0; namelen = 1 }; next = 0 }

-- A component of type k with the content s; its name is the byte c.
abbrev pub named : ℕ → ℕ → List ℕ → List ℕ
named c k s = magic ++ (be_bytes 4 (length s) ++ (be_bytes 4 k ++ (replicate 4 0 ++ (be_bytes 4 40 ++ (c ∷ replicate 15 0) ++ s))))

-- A whole image with such a component, named p, at 64. The region begins at 64, and its places are 64 apart.
abbrev pub image : ℕ → List ℕ → List ℕ
image k s = replicate 64 0xFF ++ (named 0x70 k s ++ replicate 64 0xFF)

-- One that has two of the name, at 64 and at 128; their contents are empty.
abbrev pub twice : ℕ → List ℕ
twice k = replicate 64 0xFF ++ (named 0x70 k [] ++ (replicate 24 0xFF ++ named 0x70 k []))

abbrev pub region : ℕ → Region
region n = record { start = 64; end = n; align = 64 }

-- The number of a refusal, and 0 of a plan of either kind.
abbrev pub number : {A : Type 0} → Result A Refusal → ℕ
number (Ok p) = 0
number (Err r) = r.number

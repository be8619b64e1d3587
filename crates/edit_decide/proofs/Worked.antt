-- Worked values: below an alignment of 16 the bytes of a header may spell LARCHIVE, at byte 8 by len and type, at byte 12 by type and checksum. From 16
-- on none do.
use Prim.Native.Nat.{ℕ}
use mathlib.Core.Path.{◌≡◌, refl}
use mathlib.Core.List.{[], ◌∷◌}
use Rattle.walk.specs.Walk.{place_count_below, magic_at, seek, next_magic}
use Rattle.edit_rules.specs.Edit.{header_bytes}
use Rattle.component.proofs.Opened.{judge_definitions}

-- LARC and HIVE, as numbers.

abbrev larc : ℕ
larc = 0x4C415243

abbrev hive : ℕ
hive = 0x48495645

-- The first place above 0 with the magic in such a header, or 24.
abbrev found : ℕ → ℕ → ℕ → ℕ → ℕ
found len kind sum align = next_magic (header_bytes len kind sum 40) align align 24

spelt : found larc hive 0 8 ∷ found larc hive 0 4 ∷ found larc hive 0 12 ∷ found 0 larc hive 12 ∷ found 0 larc hive 6 ∷ found 0 larc hive 8 ∷ []
    ≡ 8 ∷ 8 ∷ 24 ∷ 12 ∷ 12 ∷ 24 ∷ []
unfolding judge_definitions place_count_below magic_at seek next_magic header_bytes
spelt = refl

clear : found larc hive 0 16 ∷ found 0 larc hive 16 ∷ found 0 0 larc 16 ∷ found larc hive 0 64 ∷ [] ≡ 24 ∷ 24 ∷ 24 ∷ 24 ∷ []
unfolding judge_definitions place_count_below magic_at seek next_magic header_bytes
clear = refl

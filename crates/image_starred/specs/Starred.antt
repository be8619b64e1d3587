-- Document 01's starred cases ("Bench image A"), in its order: each line is a call's definition at its arguments, and the answer that the paper gives.
use Rattle.std.specs.Prelude.{Some, Ok, Err, ℕ, ◌-◌, ◌^◌, ◌≡◌, List, [], ◌∷◌, ◌++◌, replicate}
use Rattle.bytes_read.specs.Number.{be_bytes, le_bytes}
use Rattle.bench_image.specs.BenchImage.{larchive, cal, log, head, image, region_a, region500, region_twice, image_a}
use Rattle.cbfs_types.specs.declared.Taken.{Taken}
use Rattle.region.specs.Region.{refusal_by}
use Rattle.cbfs_types.specs.declared.Region.{Region}
use Rattle.master_header.specs.Master.{master}
use Rattle.edit_rules.specs.Edit.{span_bytes}
use Rattle.load_payload.specs.Payload.{code_type, bss_type, entry_type, unused_segment}
use Rattle.cbfs_types.specs.declared.StagePlan.{StagePlan}
use Rattle.cbfs_types.specs.declared.PayloadPlan.{PayloadPlan}
use Rattle.region_read.specs.RegionRead.{Walked}
use Rattle.image_walk.specs.ImageWalk.{plain_step, guarded_step}
use Rattle.image_find.specs.ImageFind.{plain_find, guarded_find, name_at}
use Rattle.image_edit.specs.ImageEdit.{image_add, image_replace}
use Rattle.image_load.specs.ImageLoad.{image_stage, image_payload}

-- The type of bench image A's components.
abbrev pub table_type : ℕ
table_type = 0xFFFFFFFF

-- Bench image A; and A with another bootblocksize, align, offset or P.

abbrev pub A : List ℕ
A = image_a

abbrev pub a_address : ℕ → List ℕ
a_address p = image region_a 1024 64 0 p

abbrev pub a_bootblock : ℕ → List ℕ
a_bootblock boot = image region_a boot 64 0 0xFFFFFFDC

abbrev pub a_align : ℕ → List ℕ
a_align align = image region_a 1024 align 0 0xFFFFFFDC

abbrev pub a_offset : ℕ → List ℕ
a_offset offset = image region_a 1024 64 offset 0xFFFFFFDC

-- A with cal/12's len made 500, and with its name made cal/13.

abbrev pub a_500 : List ℕ
a_500 = image region500 1024 64 0 0xFFFFFFDC

abbrev pub a_twice : List ℕ
a_twice = image region_twice 1024 64 0 0xFFFFFFDC

-- A component whose span has 1052 bytes, at 0, with align 1024.
abbrev pub wide_image : List ℕ
wide_image = image (head 1012 0 (cal 0x32) ++ replicate 1012 0) 1024 1024 0 0xFFFFFFDC

abbrev pub region_bounds : ℕ → ℕ → ℕ → Region
region_bounds s e a = record { start = s; end = e; align = a }

-- A component as a step or a lookup reports it: its place, offset, len, type, checksum and the length of its name, and the number to go on from.
abbrev pub taken : ℕ → ℕ → ℕ → ℕ → ℕ → ℕ → ℕ → Taken
taken p offset len kind sum named next =
    record { place = p; header = record { offset = offset; len = len; kind = kind; checksum = sum; namelen = named }; next = next }

-- A component named boot alone at 0, of this type and content: its content begins at 40.

unfoldable pub boot : List ℕ
boot = 98 ∷ 111 ∷ 111 ∷ 116 ∷ []

abbrev pub image_with_boot : ℕ → List ℕ → List ℕ
image_with_boot kind content = image (span_bytes boot kind content) 1024 64 0 0xFFFFFFDC

-- A payload: CODE of 4 bytes at 0x1000 for 0x100, BSS of 16 bytes at b, ENTRY at 0x1000. The 4 bytes stand after the records, at 124.
abbrev pub payload_bytes : ℕ → List ℕ
payload_bytes b =
    le_bytes 4 code_type ++ (be_bytes 4 0 ++ (be_bytes 4 124 ++ (be_bytes 8 0x1000 ++ (be_bytes 4 4 ++ (be_bytes 4 0x100
    ++ (le_bytes 4 bss_type ++ (be_bytes 4 0 ++ (be_bytes 4 0 ++ (be_bytes 8 b ++ (be_bytes 4 0 ++ (be_bytes 4 16
    ++ (le_bytes 4 entry_type ++ (be_bytes 4 0 ++ (be_bytes 4 0 ++ (be_bytes 8 0x1000 ++ (be_bytes 4 0 ++ (be_bytes 4 0 ++ replicate 4 0)))))))))))))))))

-- Its plan.
abbrev pub expected_payload_plan : ℕ → PayloadPlan
expected_payload_plan b = record {
  count = 3;
  segments = record { kind = code_type; compression = 0; source = 124; load = 0x1000; len = 4; memlen = 0x100 }
      ∷ record { kind = bss_type; compression = 0; source = 0; load = b; len = 0; memlen = 16 }
      ∷ record { kind = entry_type; compression = 0; source = 0; load = 0x1000; len = 0; memlen = 0 }
      ∷ replicate 13 unused_segment;
}

-- A stage of 4 bytes with load and entry 2^64 - 16, for m bytes; and its plan.

abbrev pub stage_bytes : ℕ → List ℕ
stage_bytes m = le_bytes 4 0 ++ (le_bytes 8 (2 ^ 64 - 16) ++ (le_bytes 8 (2 ^ 64 - 16) ++ (le_bytes 4 4 ++ (le_bytes 4 m ++ replicate 4 0))))

abbrev pub expected_stage_plan : ℕ → StagePlan
expected_stage_plan m = record { compression = 0; entry = 2 ^ 64 - 16; load = 2 ^ 64 - 16; source = 68; len = 4; memlen = m }

-- LARCHIVE from byte n of the content on.
unfoldable pub magic_from : ℕ → List ℕ
magic_from n = replicate n 0 ++ larchive

infixr 5 ◌and◌
-- Every statement of a list holds.
pub data All : List (Type 0) → Type 1 where
  nothing_more : All []
  ◌and◌ : {x : Type 0} {xs : List (Type 0)} → x → All xs → All (x ∷ xs)

-- ★ P 0xFFFFFFDC read, 0xFFFFFFDD: 2. ★ bootblocksize 36 read, 35: 6.
abbrev pub addresses : List (Type 0)
addresses =
    (master (a_address 0xFFFFFFDC) ≡ Ok (region_bounds 0 3072 64))
    ∷ (master (a_address 0xFFFFFFDD) ≡ Err (refusal_by 2))
    ∷ (master (a_bootblock 36) ≡ Ok (region_bounds 0 4060 64))
    ∷ (master (a_bootblock 35) ≡ Err (refusal_by 6))
    ∷ []

-- ★ align 16 read; 8, 48 and 131,072: 7. Empty region: an empty listing.
abbrev pub aligns : List (Type 0)
aligns =
    (master (a_align 16) ≡ Ok (region_bounds 0 3072 16))
    ∷ (master (a_align 8) ≡ Err (refusal_by 7))
    ∷ (master (a_align 48) ≡ Err (refusal_by 7))
    ∷ (master (a_align 131072) ≡ Err (refusal_by 7))
    ∷ Walked (plain_step (a_offset 3072)) 3072 []
    ∷ Walked (guarded_step (a_offset 3072)) 3072 []
    ∷ []

-- ★ Span of 1052 at 0 with align 1024: next place 2048.
abbrev pub spans : List (Type 0)
spans =
    (plain_step wide_image 0 ≡ Ok (Some (taken 0 40 1012 table_type 0 6 2048)))
    ∷ (guarded_step wide_image 0 ≡ Ok (Some (taken 0 40 1012 table_type 0 6 2048)))
    ∷ []

-- ★ Name of 15 bytes: offset 40; of 16: offset 56; of 255: 280. By request 5 what is added states its sum.
abbrev pub offsets : List (Type 0)
offsets =
    (plain_find (image_add A (replicate 15 0x78) 0x50 []).image (replicate 15 0x78) ≡ Ok (taken 256 40 0 0x50 2510 15 320))
    ∷ (plain_find (image_add A (replicate 16 0x78) 0x50 []).image (replicate 16 0x78) ≡ Ok (taken 256 56 0 0x50 2646 16 320))
    ∷ (plain_find (image_add A (replicate 255 0x78) 0x50 []).image (replicate 255 0x78) ≡ Ok (taken 256 280 0 0x50 31295 255 576))
    ∷ []

-- ★ A with cal/12's len made 500: plain listing loses cal/13; guarded lists only cal/13, at 192.
abbrev pub overrun : List (Type 0)
overrun =
    Walked (plain_step a_500) 0 (taken 0 40 500 table_type 0 6 576 ∷ [])
    ∷ Walked (guarded_step a_500) 0 (taken 192 40 24 table_type 0 6 256 ∷ [])
    ∷ (name_at a_500 192 ≡ cal 0x33)
    ∷ []

-- ★ A with cal/12's name made cal/13: plain lookup gives place 0, guarded refuses 11.
abbrev pub twice : List (Type 0)
twice =
    (plain_find a_twice (cal 0x33) ≡ Ok (taken 0 40 100 table_type 0 6 192))
    ∷ (guarded_find a_twice (cal 0x33) ≡ Err (refusal_by 11))
    ∷ []

-- ★ Replace cal/12 by 152 bytes fits, 153: 17.
abbrev pub replacing : List (Type 0)
replacing =
    ((image_replace A (cal 0x32) (replicate 152 0)).answer ≡ Ok 0)
    ∷ ((image_replace A (cal 0x32) (replicate 153 0)).answer ≡ Err (refusal_by 17))
    ∷ []

-- ★ Add log of 2776 bytes goes to 256; 2777: 17.
abbrev pub growing : List (Type 0)
growing =
    ((image_add A log 0x50 (replicate 2776 0)).answer ≡ Ok 256)
    ∷ ((image_add A log 0x50 (replicate 2777 0)).answer ≡ Err (refusal_by 17))
    ∷ []

-- ★ Add log with LARCHIVE at content byte 24: 16; at byte 25 accepted.
abbrev pub magic_in : List (Type 0)
magic_in =
    ((image_add A log 0x50 (magic_from 24)).answer ≡ Err (refusal_by 16))
    ∷ ((image_add A log 0x50 (magic_from 25)).answer ≡ Ok 256)
    ∷ []

-- ★ CODE at 0x1000 for 0x100: BSS of 16 bytes at 0x1100 accepted, at 0x10FF: 26. Load 2^64 - 16 for 16 bytes accepted, for 17: 25.
abbrev pub plans : List (Type 0)
plans =
    (image_payload (image_with_boot 0x20 (payload_bytes 0x1100)) boot ≡ Ok (expected_payload_plan 0x1100))
    ∷ (image_payload (image_with_boot 0x20 (payload_bytes 0x10FF)) boot ≡ Err (refusal_by 26))
    ∷ (image_stage (image_with_boot 0x10 (stage_bytes 16)) boot ≡ Ok (expected_stage_plan 16))
    ∷ (image_stage (image_with_boot 0x10 (stage_bytes 17)) boot ≡ Err (refusal_by 25))
    ∷ []

-- All of them, in the order of the paper.
abbrev pub starred : List (Type 0)
starred = addresses ++ (aligns ++ (spans ++ (offsets ++ (overrun ++ (twice ++ (replacing ++ (growing ++ (magic_in ++ plans))))))))

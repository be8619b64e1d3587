-- Demand 3 at work: bench image A's region (document 01), and the same with cal/12's len made 500, a table that runs into the next one.
use Prim.Native.Nat.{ℕ, ◌+◌, ◌-◌, ◌≤◌, ◌<◌}
use native.Mathlib.Omega.{arith}
use native.Mathlib.Decide.{dec_lt}
use mathlib.Core.Path.{◌≡◌, refl, sym, ap, ◌∙◌}
use mathlib.Core.List.{List, [], ◌∷◌, ◌++◌}
use mathlib.Core.Bool.{Bool, true, false, true≢false}
use lib.ListN.{length, get_or, replicate}
use lib.Seq.{get_or-append-add}
use lib.Dec.{lit≤, eqb}
use borrow.Author.Tests.{lt-ltb, le-leb}
use Rattle.bytes_read.specs.Number.{be_bytes}
use Rattle.bench_image.specs.BenchImage.{larchive, cal, head, slot0, slot192, region, region_a, region500, region_twice, region_summed}
use Rattle.bytes_read.specs.Bytes.{eq_bytes}
use Rattle.bytes_read.specs.Lists.{filter, no_two}
use Rattle.walk.specs.Walk.{Entry, place_count_below, places, magic_at, magic_inside, plain_pick, unless, guarded_pick, or_else, first, step, next_place}
use Rattle.walk.specs.Walk.{follow, steps}
use Rattle.walk.specs.Walk.{listing_from, plain_listing, guarded_listing}
use Rattle.walk_lookup.specs.Lookup.{bears, only_or_refused, lookup_gives, guarded_lookup}
use Rattle.strict_rules.specs.Strict.{component_limit, lists_place, is_untaken, untaken_places, Accepted, check_refused, check_accepted, verdict_on, verdict}
use Rattle.strict_rules.specs.Slots.{first_start, in_slots_of, in_slots, CorruptedRegion, CorruptionContainedInRegion}
use Rattle.strict_rules.proofs.Verdicts.{accepted_exactly}
use Rattle.strict_rules.proofs.Accepting.{corrupting}
use Rattle.component.proofs.Opened.{judge_definitions}

-- A component of bench image A, stating a sum.
unfoldable stating : ℕ → ℕ → ℕ → ℕ → Entry
stating sum p d n = record { place = p; component = record { offset = 40; len = n; kind = 0xFFFFFFFF; checksum = sum; name = cal d; content = replicate n 0 } }

abbrev entry : ℕ → ℕ → ℕ → Entry
entry = stating 0

-- What is computed below.
unfoldable opened : ℕ
unfolding judge_definitions larchive cal head slot0 slot192 region stating filter place_count_below places magic_at magic_inside plain_pick guarded_pick unless
    or_else first step
    next_place follow steps listing_from bears lists_place is_untaken untaken_places no_two verdict_on verdict
opened = 0

listed_a : guarded_listing region_a 64 ≡ entry 0 0x32 100 ∷ entry 192 0x33 24 ∷ []
unfolding opened
listed_a = refl

verdict_a : verdict component_limit region_a 64 ≡ check_accepted (0 ∷ 192 ∷ [])
unfolding opened
verdict_a = refl

accepted_a : Accepted region_a 64
accepted_a = ((accepted_exactly region_a 64 (0 ∷ 192 ∷ [])).0 verdict_a).0

-- The plain walk loses cal/13, and the strict check refuses with its place.
verdict_500 : verdict component_limit region500 64 ≡ check_refused 12 192
unfolding opened
verdict_500 = refl

-- Request 5: with the sums stated, 2200 and 2125, A is accepted. A sum one off, of either component, is 12 at its place.
verdict_sums :
    verdict component_limit region_summed 64
    ∷ verdict component_limit (region 100 2199 (cal 0x32) 2125) 64
    ∷ verdict component_limit (region 100 2201 (cal 0x32) 2125) 64
    ∷ verdict component_limit (region 100 2200 (cal 0x32) 2126) 64
    ∷ []
    ≡ check_accepted (0 ∷ 192 ∷ []) ∷ check_refused 12 0 ∷ check_refused 12 0 ∷ check_refused 12 192 ∷ []
unfolding opened
verdict_sums = refl

-- With cal/12's len made 500 the sum of its 540 bytes is 90150. Where that is stated, the plain walk takes it and loses cal/13: 12 at 192. Where another
-- sum is, it takes cal/13 and not cal/12: 12 at 0.
verdict_500_sums : verdict component_limit (region 500 90150 (cal 0x32) 0) 64 ∷ verdict component_limit (region 500 90151 (cal 0x32) 0) 64 ∷ []
    ≡ check_refused 12 192 ∷ check_refused 12 0 ∷ []
unfolding opened
verdict_500_sums = refl

-- Neither walk lists a component with a wrong sum; both go on to the next one.
listed_sums : guarded_listing region_summed 64 ∷ guarded_listing (region 100 2199 (cal 0x32) 2125) 64 ∷ plain_listing (region 100 2199 (cal 0x32) 2125) 64 ∷ []
    ≡ (stating 2200 0 0x32 100 ∷ stating 2125 192 0x33 24 ∷ []) ∷ (stating 2125 192 0x33 24 ∷ []) ∷ (stating 2125 192 0x33 24 ∷ []) ∷ []
unfolding opened
listed_sums = refl

-- The order 12, 13, 11: where 12 and 13 would both be given, 12 is; where 13 and 11, 13 is; 11 by itself. One component is allowed, or none.
verdict_order : verdict 0 region500 64 ∷ verdict 1 region_twice 64 ∷ verdict 2 region_twice 64 ∷ verdict 1 region_a 64 ∷ []
    ≡ check_refused 12 192 ∷ check_refused 13 0 ∷ check_refused 11 0 ∷ check_refused 13 0 ∷ []
unfolding opened
verdict_order = refl

-- 1,024 components are allowed, and 1,025 are not: with names that are all alike, 11 is given for 1,024, and 13, which comes first, for 1,025.
limits : verdict_on component_limit [] (replicate 1024 (entry 0 0x32 0)) ∷ verdict_on component_limit [] (replicate 1025 (entry 0 0x32 0)) ∷ []
    ≡ check_refused 11 0 ∷ check_refused 13 0 ∷ []
unfolding verdict_on no_two bears eq_bytes cal stating
limits = refl

-- With document 01's limit, 256 were allowed, and 257 were not.
limits_before : verdict_on 256 [] (replicate 256 (entry 0 0x32 0)) ∷ verdict_on 256 [] (replicate 257 (entry 0 0x32 0)) ∷ [] ≡ check_refused 11 0
    ∷ check_refused 13 0 ∷ []
unfolding verdict_on no_two bears eq_bytes cal stating
limits_before = refl

-- The guarded walk lists only cal/13, at 192.
listed_500 : guarded_listing region500 64 ≡ entry 192 0x33 24 ∷ []
unfolding opened
listed_500 = refl

-- This corrupts the slot at 0 and nothing else.

abbrev first_slot : ℕ → Bool
first_slot p = eqb p 0

length_a : length region_a ≡ 3072
unfolding be_bytes larchive cal head slot0 slot192 region
length_a = refl

length_500 : length region500 ≡ 3072
unfolding be_bytes larchive cal head slot0 slot192 region
length_500 = refl

slots_a : (in_slots first_slot region_a 64 191 ≡ true) × (in_slots first_slot region_a 64 192 ≡ false) × (in_slots (λ p. eqb p 192) region_a 64 191 ≡ false)
    × (in_slots (λ p. eqb p 192) region_a 64 3071 ≡ true)
unfolding in_slots_of first_start stating
slots_a = (rw listed_a, rw listed_a, rw listed_a, rw (listed_a, length_a))

in_first_slot : (i : ℕ) → i < 192 → in_slots first_slot region_a 64 i ≡ true
unfolding in_slots_of first_start stating
in_first_slot i h = rw (listed_a, lt-ltb i 192 h, le-leb 0 i (omega arith))

past : (xs ys : List ℕ) (i : ℕ) → length xs ≡ 192 → 192 ≤ i → get_or (xs ++ ys) i 0 ≡ get_or ys (i - 192) 0
past xs ys i l h =
    let e : i ≡ length xs + (i - 192) = omega arith in
    ap (λ (n : ℕ). get_or (xs ++ ys) n 0) e ∙ get_or-append-add xs ys (i - 192) 0

length_slot : (len : ℕ) → length (slot0 len 0 (cal 0x32)) ≡ 192
unfolding be_bytes larchive cal head slot0
length_slot len = refl

same_past : (i : ℕ) → 192 ≤ i → get_or region500 i 0 ≡ get_or region_a i 0
unfolding region
same_past i h = past (slot0 500 0 (cal 0x32)) (slot192 0) i (length_slot 500) h ∙ sym (past (slot0 100 0 (cal 0x32)) (slot192 0) i (length_slot 100) h)

corrupted_500 : CorruptedRegion first_slot region_a 64 region500
corrupted_500 = record { same_length = length_500 ∙ sym length_a; other_bytes = λ i e. go i e (dec_lt i 192) }
  where
    go : (i : ℕ) → in_slots first_slot region_a 64 i ≡ false → Dec (i < 192) → get_or region500 i 0 ≡ get_or region_a i 0
    go i e (yes h) = absurd (true≢false (sym (in_first_slot i h) ∙ e))
    go i e (no n) = same_past i (omega arith)

kept_500 : CorruptionContainedInRegion first_slot region_a 64 region500
kept_500 = corrupting region_a 64 (lit≤ tt) accepted_a first_slot region500 corrupted_500

-- So cal/13 is found as before.
found_500 : guarded_lookup region500 64 (cal 0x33) ≡ lookup_gives (entry 192 0x33 24)
unfolding filter bears eq_bytes cal stating only_or_refused
found_500 = rw listed_500

-- Worked values: one component, byte for byte as document 01 describes it; headers, name fields and sums on both sides of each bound.
use Prim.Native.Nat.{ℕ, ◌+◌, ◌-◌, ◌≤◌, ◌<◌}
use native.Mathlib.Omega.{arith}
use mathlib.Core.Path.{◌≡◌, refl, ◌∙◌}
use mathlib.Core.Logic.{inr}
use mathlib.Core.List.{List, [], ◌∷◌, ◌++◌, map}
use mathlib.Core.Bool.{Bool, true, false}
use Rattle.std.specs.Prelude.{Option, Some, None}
use lib.ListN.{take, drop, get_or, replicate}
use lib.Seq.{get_or-take, get_or-drop}
use borrow.Author.Tests.{eqb-true}
use Rattle.bytes_read.specs.Number.{be_bytes}
use Rattle.bytes_read.specs.Tests.{all_true}
use Rattle.bytes_read.specs.Printable.{is_printable}
use Rattle.component.specs.Names.{is_zero, name_fits}
use Rattle.component.specs.Sums.{span_sum}
use Rattle.component.specs.Component.{Component, judge, judge_skipping_sum}
use Rattle.component.specs.Table.{name_byte, sum_of, WellFormedHeader}
use Rattle.component.proofs.Exactly.{all_at, printable, judge_exactly}
use Rattle.component.proofs.Opened.{judge_definitions}

-- LARCHIVE, letter by letter.
abbrev larchive : List ℕ
larchive = 0x4C ∷ 0x41 ∷ 0x52 ∷ 0x43 ∷ 0x48 ∷ 0x49 ∷ 0x56 ∷ 0x45 ∷ []

-- cal/12 with a content of two bytes, and what follows it: LARCHIVE, len 2, type 0x50, the checksum, offset 40, the name field, the content.
abbrev stating : ℕ → ℕ → ℕ → ℕ → List ℕ
stating a b c d =
    larchive
    ++ (0 ∷ 0 ∷ 0 ∷ 2
    ∷ 0 ∷ 0 ∷ 0 ∷ 0x50
    ∷ a ∷ b ∷ c ∷ d
    ∷ 0 ∷ 0 ∷ 0 ∷ 40
    ∷ 0x63 ∷ 0x61 ∷ 0x6C ∷ 0x2F ∷ 0x31 ∷ 0x32
    ∷ (replicate 10 0 ++ (7 ∷ 9 ∷ 0xFF ∷ [])))

abbrev cal12 : ℕ → Component
cal12 sum = record { offset = 40; len = 2; kind = 0x50; checksum = sum; name = 0x63 ∷ 0x61 ∷ 0x6C ∷ 0x2F ∷ 0x31 ∷ 0x32 ∷ []; content = 7 ∷ 9 ∷ [] }

-- The bytes of its span but the checksum's make 1178, which is 0x049A. It states that, or nothing.
part : List ℕ
part = stating 0 0 0x04 0x9A

judged_part : judge part ∷ judge (stating 0 0 0 0) ∷ [] ≡ Some (cal12 1178) ∷ Some (cal12 0) ∷ []
unfolding judge_definitions part
judged_part = refl

-- A sum one off, or wrong in any of its bytes, is ill formed; by document 01's tests alone the header is well formed.
wrong_sums :
    map judge (stating 0 0 0x04 0x9B ∷ stating 0 0 0x04 0x99 ∷ stating 0 0 0x05 0x9A ∷ stating 0 1 0x04 0x9A ∷ stating 1 0 0x04 0x9A ∷ stating 0 0 0 0x9A ∷ [])
    ≡ None ∷ None ∷ None ∷ None ∷ None ∷ None ∷ []
unfolding judge_definitions
wrong_sums = refl

unsummed_part : judge_skipping_sum (stating 0 0 0x04 0x9B) ∷ judge_skipping_sum (stating 1 2 3 4) ∷ [] ≡ Some (cal12 1179) ∷ Some (cal12 0x01020304) ∷ []
unfolding judge_definitions
unsummed_part = refl

-- In the papers' words: the header is well formed, with a name of six bytes and the right sum.
words_of_part : WellFormedHeader part 6
unfolding judge_definitions part sum_of
words_of_part = record {
  magic = refl;
  header_fits = omega arith;
  offset_min = omega arith;
  offset_max = omega arith;
  multiple = (1, refl);
  span_fits = omega arith;
  name_min = omega arith;
  name_max = omega arith;
  in_field = omega arith;
  letters = printed;
  zeros = padded;
  sum = inr refl;
}
  where
    byte : (p w j : ℕ) → j < w → get_or (take w (drop p part)) j 0 ≡ get_or part (p + j) 0
    byte p w j h = get_or-take w (drop p part) j 0 h ∙ get_or-drop p part j 0

    printed : (j : ℕ) → j < 6 → (0x21 ≤ name_byte part j) × (name_byte part j ≤ 0x7E)
    printed j h =
        let field : List ℕ = take 6 (drop 24 part) in
        rw (byte 24 6 j h) at (printable (get_or field j 0) (all_at is_printable field refl j h))

    padded : (j : ℕ) → 6 ≤ j → 24 + j < 40 → name_byte part j ≡ 0
    padded j h k =
        let rest : List ℕ = take 10 (drop 30 part) in
        let q : 30 + (j - 6) ≡ 24 + j = omega arith in
        let z : get_or rest (j - 6) 0 ≡ 0 = eqb-true _ 0 (all_at is_zero rest refl (j - 6) (omega arith)) in
        rw (byte 30 10 (j - 6) (omega arith), q) at z

-- So the judge finds it.
found_part : judge part ≡ Some (cal12 1178)
unfolding judge_definitions part
found_part = (judge_exactly part (cal12 1178)).1 (6, words_of_part, refl)

-- A part that begins with the bytes m: len, type, checksum, offset, and what follows.
abbrev headers : List ℕ → ℕ → ℕ → ℕ → ℕ → List ℕ → List ℕ
headers m len kind sum offset rest = m ++ (be_bytes 4 len ++ (be_bytes 4 kind ++ (be_bytes 4 sum ++ (be_bytes 4 offset ++ rest))))

-- The same with type 0x50 and no sum.
abbrev with : List ℕ → ℕ → ℕ → List ℕ → List ℕ
with m len offset rest = headers m len 0x50 0 offset rest

-- The component of bench image A whose name ends with the letter d, with a content of n zeros, stating a sum.
abbrev cal : ℕ → ℕ → ℕ → List ℕ
cal d n sum = headers larchive n 0xFFFFFFFF sum 40 (0x63 ∷ 0x61 ∷ 0x6C ∷ 0x2F ∷ 0x31 ∷ d ∷ (replicate 10 0 ++ replicate n 0))

-- The component a, with a content of n bytes 0xFF, stating a sum.
abbrev ones : ℕ → ℕ → List ℕ
ones n sum = headers larchive n 0x50 sum 40 (0x61 ∷ (replicate 15 0 ++ replicate n 0xFF))

-- The letter a, n times, and m zeros.
abbrev named : ℕ → ℕ → List ℕ
named n m = replicate n 0x61 ++ replicate m 0

-- Parts, each with whether a component stands there.
abbrev cases : List (Bool × List ℕ)
cases =
    -- the magic; another last letter; seven bytes of it
    (true, with larchive 0 40 (named 1 15))
    ∷ (false, with (0x4C ∷ 0x41 ∷ 0x52 ∷ 0x43 ∷ 0x48 ∷ 0x49 ∷ 0x56 ∷ 0x46 ∷ []) 0 40 (named 1 15))
    ∷ (false, 0x4C ∷ 0x41 ∷ 0x52 ∷ 0x43 ∷ 0x48 ∷ 0x49 ∷ 0x56 ∷ [])
    -- a header that is cut short
    ∷ (false, larchive ++ replicate 15 0)
    -- offset: 24, 39 and 40; 41, 48 and 56; 280, 281 and 296
    ∷ (false, with larchive 0 24 (named 1 15))
    ∷ (false, with larchive 0 39 (named 1 15))
    ∷ (false, with larchive 0 41 (named 1 16))
    ∷ (false, with larchive 0 48 (named 1 23))
    ∷ (true, with larchive 0 56 (named 1 31))
    ∷ (true, with larchive 0 280 (named 1 255))
    ∷ (false, with larchive 0 281 (named 1 256))
    ∷ (false, with larchive 0 296 (named 1 271))
    -- offset + len: up to the part's end, and one byte past it, also where the sum passes 2^32
    ∷ (true, with larchive 3 40 (named 1 15 ++ replicate 3 7))
    ∷ (false, with larchive 4 40 (named 1 15 ++ replicate 3 7))
    ∷ (false, with larchive 0xFFFFFFFF 40 (named 1 15))
    -- the name field: 15 bytes and a zero, 16 and none; 255 and a zero; no name; a byte after the zero, the last one too
    ∷ (true, with larchive 0 40 (named 15 1))
    ∷ (false, with larchive 0 40 (named 16 0))
    ∷ (true, with larchive 0 280 (named 255 1))
    ∷ (false, with larchive 0 280 (named 256 0))
    ∷ (false, with larchive 0 40 (named 0 16))
    ∷ (false, with larchive 0 40 (named 1 1 ++ (0x61 ∷ replicate 13 0)))
    ∷ (false, with larchive 0 40 (named 1 14 ++ (1 ∷ [])))
    -- its bytes: 0x21 and 0x7E, 0x20 and 0x7F, and above 0x7F
    ∷ (true, with larchive 0 40 (0x21 ∷ 0x7E ∷ replicate 14 0))
    ∷ (false, with larchive 0 40 (0x61 ∷ 0x20 ∷ replicate 14 0))
    ∷ (false, with larchive 0 40 (0x61 ∷ 0x7F ∷ replicate 14 0))
    ∷ (false, with larchive 0 40 (0xE1 ∷ replicate 15 0))
    -- bench image A: cal/12 has the sum 2200, cal/13 2125; 0 says none; and one off
    ∷ (true, cal 0x32 100 2200)
    ∷ (true, cal 0x33 24 2125)
    ∷ (true, cal 0x32 100 0)
    ∷ (false, cal 0x32 100 2199)
    ∷ (false, cal 0x32 100 2201)
    ∷ (false, cal 0x33 24 2124)
    ∷ (false, cal 0x33 24 2126)
    -- a sum above 2^16, and its lowest 16 bits; an empty content; bytes behind the span do not count
    ∷ (true, ones 300 77352)
    ∷ (false, ones 300 11816)
    ∷ (true, ones 0 807)
    ∷ (false, ones 0 806)
    ∷ (true, ones 0 807 ++ (1 ∷ 2 ∷ []))
    ∷ []

abbrev same : Bool → Option Component → Bool
same true (Some c) = true
same false None = true
same true None = false
same false (Some c) = false

abbrev agrees : Bool × List ℕ → Bool
agrees (b, s) = same b (judge s)

worked : all_true (map agrees cases) ≡ true
unfolding judge_definitions
worked = refl

-- A sum has 32 bits, and the checksum's own bytes do not count, nor does any byte past the end.
sums : map span_sum ((4294967294 ∷ 1 ∷ []) ∷ (4294967295 ∷ 1 ∷ []) ∷ (replicate 15 1 ++ (2 ∷ 9 ∷ 9 ∷ 9 ∷ 9 ∷ 5 ∷ [])) ∷ [] ∷ replicate 18 1 ∷ [])
    ≡ 4294967295 ∷ 0 ∷ 22 ∷ 0 ∷ 16 ∷ []
unfolding judge_definitions
sums = refl

-- A fit name by itself: 1 to 255 bytes of 0x21 to 0x7E.
names : map name_fits ([] ∷ named 1 0 ∷ named 255 0 ∷ named 256 0 ∷ (0x21 ∷ []) ∷ (0x7E ∷ []) ∷ (0x20 ∷ []) ∷ (0x7F ∷ []) ∷ (0x61 ∷ 0 ∷ []) ∷ [])
    ≡ false ∷ true ∷ true ∷ false ∷ true ∷ true ∷ false ∷ false ∷ false ∷ []
unfolding judge_definitions
names = refl

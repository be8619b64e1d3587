-- A header and its sum, as they are written.
use Prim.Native.Nat.{ℕ, ◌+◌, ◌/◌, ◌%◌, ◌≤◌}
use native.Mathlib.Omega.{arith}
use mathlib.Core.Path.{◌≡◌, ap, ◌∙◌}
use mathlib.Core.List.{List, ◌++◌, append_assoc}
use lib.ListN.{length, replicate}
use borrow.Author.Tests.{le-leb}
use Rattle.bytes_read.specs.Bytes.{splice, written}
use Rattle.bytes_read.specs.Number.{be_bytes}
use Rattle.bytes_read.proofs.Splice.{Wrote, first, next, splice-length, splice_all}
use Rattle.component.specs.Sums.{total}
use Rattle.component.specs.Component.{magic}
use Rattle.edit_rules.specs.Edit.{offset_for, header_bytes, sum_for, header_for}
use Rattle.edit_rules.proofs.Written.{length_header, span_sum_lem}

-- A write that fits.
pub written-fits : (d : List ℕ) (at : ℕ) (ys : List ℕ) → at + length ys ≤ length d → written d at ys ≡ splice d at ys
unfolding written
written-fits d at ys h = rw (le-leb (at + length ys) (length d) h)

-- A run of writes, each from where the last one ended.

pub begun : (d : List ℕ) (p : List ℕ) (m : ℕ) {x : List ℕ} → x ≡ written d 0 p → length p ≡ m → m ≤ length d → Wrote d 0 p m x
begun d p m e l h = first d 0 p m (e ∙ written-fits d 0 p (omega arith)) (omega arith) h

pub more : {d x y : List ℕ} {at m : ℕ} {p : List ℕ} (m' : ℕ) (ys : List ℕ) (n : ℕ)
    → Wrote d at p m x → y ≡ written x m' ys → m ≡ m' → m' + length ys ≡ n → n ≤ length d → Wrote d at (p ++ ys) n y
more {d} {x} {y} {at} {m} {p} m' ys n w v e l h =
    let lx : length x ≡ length d = ap length w.bytes ∙ splice-length d at p (omega (arith, w.ends, w.fits)) in
    next m' ys n w (v ∙ written-fits x m' ys (omega arith)) e l h

pub header_parts : (len kind sum offset : ℕ)
    → (((magic ++ be_bytes 4 len) ++ be_bytes 4 kind) ++ be_bytes 4 sum) ++ be_bytes 4 offset ≡ header_bytes len kind sum offset
unfolding header_bytes
header_parts len kind sum offset = simp append_assoc

-- A header that is written over 24 zeros, by numbers with the four bytes of its fields.
pub header_whole : (name : List ℕ) (kind : ℕ) (content : List ℕ) (l u o : ℕ) → be_bytes 4 l ≡ be_bytes 4 (length content)
    → u ≡ sum_for name kind content → be_bytes 4 o ≡ be_bytes 4 (offset_for name) → splice (replicate 24 0) 0 (header_bytes l kind u o)
    ≡ header_for name kind content
unfolding header_bytes
header_whole name kind content l u o e s f =
    splice_all (replicate 24 0) (header_bytes l kind u o) (length_header l kind u o) ∙ same
  where
    same : header_bytes l kind u o ≡ header_for name kind content
    same = rw (e, s, f)

-- The lowest 32 bits of a number have its four bytes.
pub low_bytes : (n : ℕ) → be_bytes 4 (n % 4294967296) ≡ be_bytes 4 n
unfolding be_bytes
low_bytes n = rw (d3 n, d2 n, d1 n, d0 n)
  where
    d3 : (n : ℕ) → n % 4294967296 / 256 / 256 / 256 % 256 ≡ n / 256 / 256 / 256 % 256
    d3 n = omega arith

    d2 : (n : ℕ) → n % 4294967296 / 256 / 256 % 256 ≡ n / 256 / 256 % 256
    d2 n = omega arith

    d1 : (n : ℕ) → n % 4294967296 / 256 % 256 ≡ n / 256 % 256
    d1 n = omega arith

    d0 : (n : ℕ) → n % 4294967296 % 256 ≡ n % 256
    d0 n = omega arith

-- The sum of a number's four bytes.
pub byte_sum_is : (v : ℕ) → v / 256 / 256 / 256 % 256 + v / 256 / 256 % 256 + v / 256 % 256 + v % 256 ≡ total (be_bytes 4 v)
unfolding total be_bytes
byte_sum_is v = omega arith

-- The sum of a component, by what was summed.
pub sum_by : (name : List ℕ) (kind : ℕ) (content : List ℕ) (l k o n c : ℕ)
    → l ≡ total (be_bytes 4 (length content)) → k ≡ total (be_bytes 4 kind) → o ≡ total (be_bytes 4 (offset_for name)) → n ≡ total name % 4294967296
    → c ≡ total content % 4294967296 → ((590 + l + k + o + n) % 4294967296 + c) % 4294967296 ≡ sum_for name kind content
unfolding sum_for
sum_by name kind content l k o n c el ek eo en ec =
    rw (span_sum_lem 0 name kind content, ← el, ← ek, ← eo, en, ec) (low (590 + l + k + o) (total name) (total content))
  where
    low : (x y z : ℕ) → ((x + y % 4294967296) % 4294967296 + z % 4294967296) % 4294967296 ≡ (x + (y + z)) % 4294967296
    low x y z = omega arith

-- What the master header gives: what a refusal is, and what an image that is not refused by 1 to 8 is known to have.
use Prim.Native.Nat.{ℕ, ◌+◌, ◌-◌, ◌^◌, ◌%◌, ◌≤◌}
use native.Mathlib.Omega.{arith}
use mathlib.Core.Path.{◌≡◌, refl, subst}
use mathlib.Core.Bool.{true}
use mathlib.Core.List.{List, [], ◌∷◌}
use lib.ListN.{length, get_or}
use lib.Dec.{leb, eqb}
use lib.Count.{ones}
use borrow.Author.Tests.{leb-true, eqb-true}
use Rattle.region.specs.Region.{refusal_by}
use Rattle.std.specs.Prelude.{Ok, Err}
use Rattle.bytes_read.proofs.Numbers.{be_same, le_same}
use Rattle.bytes_read.proofs.Passing.{passes}
use Rattle.region.specs.Refusals.{test, length_fits}
use Rattle.region.proofs.Orders.{all_passed}
use Rattle.region.proofs.Answered.{value_given, refusal_given}
use Rattle.cbfs_types.specs.declared.Refusal.{Refusal}
use Rattle.cbfs_types.specs.declared.Region.{Region}
use Rattle.master_header.specs.Master.{address, field, romsize, bootblocksize, align, offset, header_at, address_fits, bootblock_fits, align_fits, offset_fits}
use Rattle.master_header.specs.Master.{master_tests, refusal_number, region_of, master}
use Rattle.master_header.proofs.Power.{one_bit}
use Rattle.master_header.proofs.Refusing.{length_bounds, header_inside}

pub read_some : (i : List ℕ) (g : Region) → master i ≡ Ok g → (refusal_number i ≡ 0) × (region_of i ≡ g)
unfolding master
read_some i g e = value_given (region_of i) (refusal_number i) e

-- A refusal has the number of the first test that fails, which is not 0, and reports place 0.

pub refused_by : (i : List ℕ) (r : Refusal) → master i ≡ Err r → (refusal_number i ≡ 0 → ⊥) × (r ≡ refusal_by (refusal_number i))
unfolding master
refused_by i r e = refusal_given (region_of i) (refusal_number i) e

pub refused_number : (i : List ℕ) (r : Refusal) → master i ≡ Err r → r.number ≡ 0 → ⊥
refused_number i r e z = let f = refused_by i r e in f.0 (rw f.1 at z)

pub refused_place : (i : List ℕ) (r : Refusal) → master i ≡ Err r → r ≡ refusal_by r.number
refused_place i r e = rw (refused_by i r e).1

-- The region of an image that is read.
pub record Known (i : List ℕ) (g : Region) : Type 0 where
  pub long : 64 ≤ length i
  pub short : length i ≤ 16777216
  pub forward : g.start ≤ g.end
  pub inside : g.end ≤ length i
  pub whole : g.start % g.align ≡ 0
  pub one : ones g.align ≡ 1
  pub least : 16 ≤ g.align
  pub most : g.align ≤ 65536
  -- The region ends before the header, whose 32 bytes end before P.
  pub before : g.end ≤ header_at i
  pub header : header_at i + 36 ≤ length i

pub known : (i : List ℕ) (g : Region) → master i ≡ Ok g → Known i g
unfolding master_tests refusal_number bootblock_fits align_fits offset_fits
known i g e = subst (Known i) r.1 (record {
  long = (length_bounds i (p 0)).0;
  short = (length_bounds i (p 0)).1;
  forward = leb-true _ _ (o 1);
  inside = omega (arith, s);
  whole = eqb-true _ _ (o 0);
  one = eqb-true _ _ (a 0);
  least = leb-true _ _ (a 1);
  most = leb-true _ _ (a 2);
  before = omega (arith, s, leb-true (length i - bootblocksize i) (header_at i) (b 1));
  header = (header_inside i (p 1)).1;
})
  where
    r : (refusal_number i ≡ 0) × (region_of i ≡ g)
    r = read_some i g e

    p : (k : ℕ) → (get_or (master_tests i) k (test 1 true)).passed ≡ true
    p = all_passed (master_tests i) refl r.0

    s : romsize i ≡ length i
    s = eqb-true _ _ (p 4)

    b : (k : ℕ) → get_or (leb (bootblocksize i) (romsize i) ∷ leb (length i - bootblocksize i) (header_at i) ∷ []) k true ≡ true
    b k = passes k (leb (bootblocksize i) (romsize i) ∷ leb (length i - bootblocksize i) (header_at i) ∷ []) (p 5)

    a : (k : ℕ) → get_or (eqb (ones (align i)) 1 ∷ leb 16 (align i) ∷ leb (align i) 65536 ∷ []) k true ≡ true
    a k = passes k (eqb (ones (align i)) 1 ∷ leb 16 (align i) ∷ leb (align i) 65536 ∷ []) (p 6)

    o : (k : ℕ) → get_or (eqb (offset i % align i) 0 ∷ leb (offset i) (romsize i - bootblocksize i) ∷ []) k true ≡ true
    o k = passes k (eqb (offset i % align i) 0 ∷ leb (offset i) (romsize i - bootblocksize i) ∷ []) (p 7)

-- An align that is read is a power of two, 2^4 to 2^16.
pub align_power : (i : List ℕ) (g : Region) → master i ≡ Ok g → (k : ℕ) × (g.align ≡ 2 ^ k)
align_power i g e = one_bit g.align (known i g e).one

-- An image that has the same bytes from the region's end on has the same region: the header and P stand there.
module _ (i i' : List ℕ) (g : Region) (read : master i ≡ Ok g) (alike : length i' ≡ length i) (same : (j : ℕ) → g.end ≤ j → get_or i' j 0 ≡ get_or i j 0) where
  facts : Known i g
  facts = known i g read

  same_address : address i' ≡ address i
  same_address = rw alike (le_same 4 i i' (length i - 4) (λ j l k. same j (omega (arith, facts.before, facts.header))))

  same_header : header_at i' ≡ header_at i
  unfolding header_at
  same_header = rw (same_address, alike)

  same_field : (k : ℕ) → field i' k ≡ field i k
  same_field k = rw same_header (be_same 4 i i' (header_at i + k) (λ j l m. same j (omega (arith, facts.before))))

  pub same_region : master i' ≡ Ok g
  unfolding master refusal_number master_tests length_fits address_fits bootblock_fits
  same_region = rw (same_field 0, same_field 4, same_field 8, same_field 12, same_field 16, same_field 20, same_header, same_address, alike) read

-- What an answer says, for stages and payloads alike: A is either kind of plan.
use Prim.Native.Nat.{ℕ, ◌+◌, ◌≤◌}
use mathlib.Core.Path.{◌≡◌, refl, sym, subst}
use mathlib.Core.Bool.{true}
use mathlib.Core.List.{List}
use lib.ListN.{length}
use Rattle.std.specs.Prelude.{Result, Ok, Err}
use Rattle.bytes_read.specs.Bytes.{part_of}
use Rattle.region.specs.Region.{unless_refused, and_then}
use Rattle.region.proofs.Answered.{refusal_given}
use Rattle.cbfs_types.specs.declared.Refusal.{Refusal}
use Rattle.cbfs_types.specs.declared.Region.{Region}
use Rattle.cbfs_types.specs.declared.Taken.{Taken}
use Rattle.region_read.specs.RegionRead.{find_in, content_found_in}
use Rattle.load_segment.specs.LoadSegment.{content_place}
use Rattle.load_segment.proofs.Finding.{located, Refuses, lookup_refuses}

module _ {A : Type 0} where
  -- By the number n of the first test that fails, in place of the plan p.
  pub refused : (n : ℕ) (p : A) (r : Refusal) → unless_refused n p ≡ Err r → Refuses r
  refused n p r e = let (z, f) = refusal_given p n e in subst Refuses (sym f) (z, refl)

  -- By the lookup of a name.
  module _ (i : List ℕ) (g : Region) (name : List ℕ) (plan : Taken → Result A Refusal) where
    pub found_plan : (p : A) → and_then (find_in true i g name) plan ≡ Ok p → (t : Taken) × (find_in true i g name ≡ Ok t) × (plan t ≡ Ok p)
    found_plan p h = go (find_in true i g name) refl h
      where
        go : (f : Result Taken Refusal) → find_in true i g name ≡ f → and_then f plan ≡ Ok p → (t : Taken) × (find_in true i g name ≡ Ok t) × (plan t ≡ Ok p)
        go (Ok t) q z = (t, q, z)
        go (Err r) q z = absurd (cc)

    pub refused_plan : ((t : Taken) (r : Refusal) → plan t ≡ Err r → Refuses r) → (r : Refusal) → and_then (find_in true i g name) plan ≡ Err r → Refuses r
    refused_plan each r h = go (find_in true i g name) refl h
      where
        go : (f : Result Taken Refusal) → find_in true i g name ≡ f → and_then f plan ≡ Err r → Refuses r
        go (Ok t) q z = each t r z
        go (Err s) q z = let y : s ≡ r = cc in subst Refuses y (lookup_refuses i g name s q)

-- The content of what the lookup found is the part of the image that its numbers give, and lies in the image.

pub found_content : (i : List ℕ) (g : Region) (name : List ℕ) (t : Taken) → find_in true i g name ≡ Ok t
    → content_found_in true i g name ≡ part_of i (content_place t) t.header.len
found_content i g name t e = sym (located i g true name t e).content

pub found_inside : (i : List ℕ) (g : Region) (name : List ℕ) (t : Taken) → find_in true i g name ≡ Ok t → content_place t + t.header.len ≤ length i
found_inside i g name t e = (located i g true name t e).within

pub ruleset found = (found_content, found_inside)

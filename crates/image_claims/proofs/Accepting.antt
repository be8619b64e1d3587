-- What the strict check's answer says of a whole image.
use Rattle.std.specs.Prelude.{Result, Ok, Err}
use Rattle.cbfs_types.specs.declared.Refusal.{Refusal}
use Prim.Native.Nat.{ℕ, ◌+◌}
use native.Mathlib.Omega.{arith}
use mathlib.Core.Path.{◌≡◌, refl}
use mathlib.Core.List.{List, map}
use mathlib.Core.Logic.{◌↔◌}
use mathlib.Core.Bool.{Bool}
use lib.ListN.{length, length-map}
use Rattle.walk.specs.Walk.{plain_listing, guarded_listing}
use Rattle.region.specs.Region.{region_bytes}
use Rattle.cbfs_types.specs.declared.Region.{Region}
use Rattle.cbfs_types.specs.declared.Directory.{Directory}
use Rattle.master_header.specs.Master.{master}
use Rattle.bytes_read.specs.Lists.{padded}
use Rattle.strict_rules.specs.Strict.{component_limit, Verdict, check_refused, check_accepted, component_places, verdict}
use Rattle.strict_check.specs.StrictCheck.{directory_answer}
use Rattle.strict_rules.proofs.Verdicts.{accepted_exactly}
use Rattle.strict_rules.proofs.Accepting.{walks_agree}
use Rattle.image_walk.specs.ImageWalk.{strict_check, strict_check_up_to}
use Rattle.image_claims.specs.Corruption.{AcceptedImage, AcceptedImageUpTo, CorruptedImage, CorruptionContainedInImage}
use Rattle.image_claims.proofs.Corruption.{corruption_contained}

-- The strict check gives a directory exactly if the image has a region and every place with the magic in it is one the plain walk takes, there
-- are at most as many components as are allowed, and no two names are equal.
pub check_accepts : (most : ℕ) (i : List ℕ) → ((d : Directory) × (strict_check_up_to most i ≡ Ok d)) ↔ ((g : Region) × AcceptedImageUpTo most i g)
check_accepts most i = (
  λ z. go (master i) refl z.0 z.1,
  λ h. (
    record {
      count = length (component_places (plain_listing (region_bytes i h.0) h.0.align));
      places = padded most 0 (map (λ p. h.0.start + p) (component_places (plain_listing (region_bytes i h.0) h.0.align)));
    },
    rw (h.1.read, (accepted_exactly (region_bytes i h.0) h.0.align (component_places (plain_listing (region_bytes i h.0) h.0.align))).1 (h.1.acc, refl)),
  ),
)
  where
    by : (g : Region) → master i ≡ Ok g → (v : Verdict) → verdict most (region_bytes i g) g.align ≡ v → (d : Directory) → directory_answer most g.start v ≡ Ok d
        → (h : Region) × AcceptedImageUpTo most i h
    by g m (check_accepted ps) q d z = (g, record { read = m; acc = ((accepted_exactly (region_bytes i g) g.align ps).0 q).0 })
    by g m (check_refused n p) q d z = let y : ◌≡◌ {A = ℕ} 0 1 = cc in absurd (omega arith)

    go : (m : Result Region Refusal) → master i ≡ m → (d : Directory) → strict_check_up_to most i ≡ Ok d → (g : Region) × AcceptedImageUpTo most i g
    go (Ok g) e d z = by g e (verdict most (region_bytes i g) g.align) refl d (rw e at z)
    go (Err r) e d z = let y : Err r ≡ Ok d = rw e at z in let x : ◌≡◌ {A = ℕ} 0 1 = cc in absurd (omega arith)

-- 1,024 are allowed.
pub strict_check_accepts : (i : List ℕ) → ((d : Directory) × (strict_check i ≡ Ok d)) ↔ ((g : Region) × AcceptedImageUpTo 1024 i g)
strict_check_accepts i = check_accepts 1024 i

-- Then its directory has the plain listing's places, counted from the image's start, and zeros after them; its count is the listing's length.
pub strict_check_directory : (i : List ℕ) (g : Region) → AcceptedImage i g
    → strict_check i ≡ Ok (record {
      count = length (plain_listing (region_bytes i g) g.align);
      places = padded component_limit 0 (map (λ p. g.start + p) (component_places (plain_listing (region_bytes i g) g.align)));
    })
strict_check_directory i g a =
    rw (a.read, (accepted_exactly (region_bytes i g) g.align _).1 (a.acc, refl), length-map (plain_listing (region_bytes i g) g.align) (λ t. t.place))

-- On accepted images both walks agree.
pub walks_agree_image : (i : List ℕ) (g : Region) → AcceptedImage i g → plain_listing (region_bytes i g) g.align ≡ guarded_listing (region_bytes i g) g.align
walks_agree_image i g a = walks_agree (region_bytes i g) g.align a.acc

-- Demand 3: take any image that the strict check accepts, and corrupt any set of its slots.
pub corruption_contained_accepted : (i : List ℕ) (d : Directory) → strict_check i ≡ Ok d
    → (g : Region) × AcceptedImage i g × ((set : ℕ → Bool) (i' : List ℕ) → CorruptedImage set i g i' → CorruptionContainedInImage set i g i')
corruption_contained_accepted i d z = let (g, a) = (strict_check_accepts i).0 (d, z) in (g, a, λ set i' sp. corruption_contained i g a.read a.acc set i' sp)

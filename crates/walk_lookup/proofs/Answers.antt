-- What a lookup gives: one of its walk's listing, as the answer has it.
use Prim.Native.Nat.{ℕ}
use native.Mathlib.Omega.{arith}
use mathlib.Core.Path.{◌≡◌, refl}
use mathlib.Core.List.{List, [], ◌∷◌, Memᴰ}
use mathlib.Core.Bool.{Bool, true, false}
use Rattle.bytes_read.specs.Lists.{filter}
use Rattle.bytes_read.proofs.Tested.{mem_filter}
use Rattle.walk.specs.Walk.{Entry, pick_of, listing, plain_listing, guarded_listing, taken_of}
use Rattle.walk_lookup.specs.Lookup.{LookupResult, lookup_refused, lookup_gives, bears, first_or_refused, only_or_refused, lookup_of, bearer_answer}
use Rattle.cbfs_types.specs.declared.Taken.{Taken}
use Rattle.std.specs.Prelude.{Ok}

-- The first of a list is one of it.
pub first_member : (l : List Entry) (e : Entry) → first_or_refused l ≡ lookup_gives e → Memᴰ e l
unfolding first_or_refused
first_member [] e q = let z : ◌≡◌ {A = ℕ} 0 1 = cc in absurd (omega arith)
first_member (x ∷ l) e q = Memᴰ.head {x = x} (cc)

-- The only one of a list is one of it.
pub only_member : (l : List Entry) (e : Entry) → only_or_refused l ≡ lookup_gives e → Memᴰ e l
unfolding only_or_refused
only_member [] e q = let z : ◌≡◌ {A = ℕ} 0 1 = cc in absurd (omega arith)
only_member (x ∷ []) e q = Memᴰ.head {x = x} (cc)
only_member (x ∷ y ∷ l) e q = let z : ◌≡◌ {A = ℕ} 0 1 = cc in absurd (omega arith)

-- What a lookup gives is one of its walk's listing, and bears the name.
pub lookup_member : (w : Bool) (r : List ℕ) (a : ℕ) (name : List ℕ) (e : Entry) → lookup_of w r a name ≡ lookup_gives e
    → Memᴰ e (listing (pick_of w r a) r a) × (bears name e ≡ true)
lookup_member true r a name e q = mem_filter (bears name) (guarded_listing r a) e (only_member (filter (bears name) (guarded_listing r a)) e q)
lookup_member false r a name e q = mem_filter (bears name) (plain_listing r a) e (first_member (filter (bears name) (plain_listing r a)) e q)

-- From a lookup's answer to the component.

pub found_some : (r : List ℕ) (a : ℕ) (o : LookupResult) (t : Taken) → bearer_answer r a o ≡ Ok t → (e : Entry) × (o ≡ lookup_gives e) × (taken_of r a e ≡ t)
found_some r a (lookup_refused n) t q = let z : ◌≡◌ {A = ℕ} 0 1 = cc in absurd (omega arith)
found_some r a (lookup_gives e) t q = (e, refl, (cc))

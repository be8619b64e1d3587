-- What is answered and what is refused are distinguished, for the calls that are timed: a count or a place is below 2^32, and every refusal is at or above it.
use Rattle.std.specs.Prelude.{Result, Ok, Err}
use Prim.Native.Nat.{ℕ, ◌^◌, ◌≤◌, ◌<◌}
use native.Mathlib.Omega.{arith}
use mathlib.Core.Path.{◌≡◌, refl, ap, ◌∙◌}
use mathlib.Core.List.{List, [], ◌∷◌}
use mathlib.Core.Bool.{Bool, true, false}
use Rattle.bytes_read.specs.Lists.{filter}
use Rattle.walk.specs.Walk.{Entry, plain_listing, guarded_listing}
use Rattle.walk_lookup.specs.Lookup.{LookupResult, lookup_refused, lookup_gives, bears, first_or_refused, only_or_refused, lookup_of}
use Rattle.cbfs_types.specs.declared.Taken.{Taken}
use Rattle.walk.proofs.Members.{given}
use Rattle.walk_lookup.proofs.Answers.{lookup_member}
use Rattle.region.specs.Region.{region_bytes, refusal_by}
use Rattle.cbfs_types.specs.declared.Region.{Region}
use Rattle.cbfs_types.specs.declared.Refusal.{Refusal}
use Rattle.cbfs_types.specs.declared.Directory.{Directory}
use Rattle.region.proofs.Regions.{bytes_inside}
use Rattle.master_header.specs.Master.{master}
use Rattle.master_header.proofs.Facts.{known, refused_number}
use Rattle.region_read.specs.RegionRead.{taken_in, find_answer_in}
use Rattle.image_walk.specs.ImageWalk.{strict_check}
use Rattle.image_find.specs.ImageFind.{image_find}
use Rattle.edit_rules.specs.Edit.{AllBytes}
use Rattle.image_edit.specs.ImageEdit.{image_add, image_replace, image_remove}
use Rattle.image_claims.proofs.Images.{bytes_length}
use Rattle.image_claims.proofs.Edits.{add_done_image, replace_done_image, remove_done_image}
use Rattle.image_claims.proofs.Refusing.{strict_refusal, add_refusal, replace_refusal, remove_refusal}
use Rattle.image_claims.proofs.Accepting.{strict_check_accepts, strict_check_directory}
use Rattle.bench_calls.specs.Calls.{encoded_refusal, count_of, place_found, strict_count, add_place, replace_place, remove_place}
use Rattle.bench_calls.proofs.Stepping.{count_few}

-- A refusal has a number that is not 0.
above : (r : Refusal) → (r.number ≡ 0 → ⊥) → 2 ^ 32 ≤ encoded_refusal r
above r h = omega arith

-- The counts.

pub count_answered : (w : Bool) (i : List ℕ) (g : Region) → master i ≡ Ok g → count_of w i < 2 ^ 32
count_answered w i g e = omega (arith, count_few w i g e)

pub count_refused : (w : Bool) (i : List ℕ) (r : Refusal) → master i ≡ Err r → 2 ^ 32 ≤ count_of w i
count_refused w i r e = rw e (above r (refused_number i r e))

-- The lookups.

answer_refused : (w : Bool) (r : List ℕ) (a : ℕ) (name : List ℕ) (n : ℕ) → lookup_of w r a name ≡ lookup_refused n → n ≡ 0 → ⊥
unfolding first_or_refused only_or_refused
answer_refused true r a name n e z = go (filter (bears name) (guarded_listing r a)) e
  where
    go : (l : List Entry) → only_or_refused l ≡ lookup_refused n → ⊥
    go [] q = let y : 10 ≡ n = cc in omega arith
    go (t ∷ []) q = let y : ◌≡◌ {A = ℕ} 0 1 = cc in omega arith
    go (t ∷ u ∷ us) q = let y : 11 ≡ n = cc in omega arith
answer_refused false r a name n e z = go (filter (bears name) (plain_listing r a)) e
  where
    go : (l : List Entry) → first_or_refused l ≡ lookup_refused n → ⊥
    go [] q = let y : 10 ≡ n = cc in omega arith
    go (t ∷ ts) q = let y : ◌≡◌ {A = ℕ} 0 1 = cc in omega arith

pub place_answered : (w : Bool) (i name : List ℕ) (t : Taken) → image_find w i name ≡ Ok t → place_found w i name < 2 ^ 32
place_answered w i name t f = rw f (go (master i) refl f)
  where
    by : (g : Region) → master i ≡ Ok g → (o : LookupResult) → lookup_of w (region_bytes i g) g.align name ≡ o → find_answer_in i g o ≡ Ok t
        → t.place < 2 ^ 32
    by g e (lookup_refused n) q h = let z : ◌≡◌ {A = ℕ} 0 1 = cc in absurd (omega arith)
    by g e (lookup_gives x) q h =
        let z : taken_in i g x ≡ t = cc in
        let inside = (given w (region_bytes i g) g.align x (lookup_member w (region_bytes i g) g.align name x q).0).inside in
        omega (arith, ap (λ (u : Taken). u.place) z, inside, bytes_inside i g x.place inside, (known i g e).short)

    go : (m : Result Region Refusal) → master i ≡ m → image_find w i name ≡ Ok t → t.place < 2 ^ 32
    go (Ok g) e h = by g e (lookup_of w (region_bytes i g) g.align name) refl (rw e at h)
    go (Err r) e h = let y : Err r ≡ Ok t = rw e at h in let z : ◌≡◌ {A = ℕ} 0 1 = cc in absurd (omega arith)

pub place_refused : (w : Bool) (i name : List ℕ) (r : Refusal) → image_find w i name ≡ Err r → 2 ^ 32 ≤ place_found w i name
place_refused w i name r f = rw f (above r (go (master i) refl f))
  where
    by : (g : Region) (o : LookupResult) → lookup_of w (region_bytes i g) g.align name ≡ o → find_answer_in i g o ≡ Err r → r.number ≡ 0 → ⊥
    by g (lookup_refused n) q h z =
        let y : refusal_by n ≡ r = cc in
        answer_refused w (region_bytes i g) g.align name n q (ap (λ (x : Refusal). x.number) y ∙ z)
    by g (lookup_gives x) q h z = let y : ◌≡◌ {A = ℕ} 0 1 = cc in omega arith

    go : (m : Result Region Refusal) → master i ≡ m → image_find w i name ≡ Err r → r.number ≡ 0 → ⊥
    go (Ok g) e h z = by g (lookup_of w (region_bytes i g) g.align name) refl (rw e at h) z
    go (Err x) e h z =
        let y : Err x ≡ Err r = rw e at h in
        let s : x ≡ r = cc in
        refused_number i x e (ap (λ (v : Refusal). v.number) s ∙ z)

-- The strict check.

pub strict_answered : (i : List ℕ) (d : Directory) → strict_check i ≡ Ok d → strict_count i < 2 ^ 32
strict_answered i d z =
    let (g, a) = (strict_check_accepts i).0 (d, z) in
    rw (strict_check_directory i g a) (omega (arith, a.acc.at_most))

pub strict_refused : (i : List ℕ) (r : Refusal) → strict_check i ≡ Err r → 2 ^ 32 ≤ strict_count i
strict_refused i r f = rw f (above r (strict_refusal i r f).some_number)

-- The edits. A type has 32 bits, and the numbers of a lent image are bytes.

pub add_answered : (i name : List ℕ) (kind : ℕ) (content : List ℕ) (p : ℕ) → kind < 256 ^ 4 → (image_add i name kind content).answer ≡ Ok p
    → add_place i name kind content < 2 ^ 32
add_answered i name kind content p typed f =
    let (g, a, d) = add_done_image i name kind content p typed f in
    let (q, at, place, free) = d.free in
    let k = known i g a.read in
    let h : p < 2 ^ 32 = omega (arith, at, free.0, bytes_length i g a.read i refl, k.short, k.inside, k.forward) in
    rw f h

pub add_refused : (i name : List ℕ) (kind : ℕ) (content : List ℕ) (r : Refusal) → (image_add i name kind content).answer ≡ Err r
    → 2 ^ 32 ≤ add_place i name kind content
add_refused i name kind content r f = rw f (above r (add_refusal i name kind content r f).some_number)

-- A component that is replaced or removed was found at its place.
found_answered : (i name : List ℕ) (p : ℕ) (t : Taken) → image_find true i name ≡ Ok t → t.place ≡ p → p < 2 ^ 32
found_answered i name p t f e = let h : t.place < 2 ^ 32 = rw f at (place_answered true i name t f) in omega arith

pub replace_answered : (i name content : List ℕ) (p : ℕ) → AllBytes i → (image_replace i name content).answer ≡ Ok p → replace_place i name content < 2 ^ 32
replace_answered i name content p bytes f =
    let (g, a, d) = replace_done_image i name content p bytes f in
    let (t, found, at, kind) = d.was in
    rw f (found_answered i name p t found at)

pub replace_refused : (i name content : List ℕ) (r : Refusal) → (image_replace i name content).answer ≡ Err r → 2 ^ 32 ≤ replace_place i name content
replace_refused i name content r f = rw f (above r (replace_refusal i name content r f).some_number)

pub remove_answered : (i name : List ℕ) (p : ℕ) → (image_remove i name).answer ≡ Ok p → remove_place i name < 2 ^ 32
remove_answered i name p f =
    let (g, a, d) = remove_done_image i name p f in
    let (t, found, at) = d.was in
    rw f (found_answered i name p t found at)

pub remove_refused : (i name : List ℕ) (r : Refusal) → (image_remove i name).answer ≡ Err r → 2 ^ 32 ≤ remove_place i name
remove_refused i name r f = rw f (above r (remove_refusal i name r f).some_number)

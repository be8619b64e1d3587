-- The places that refusals report: a refusal fits one number, since its place is below 2^32.
use Rattle.std.specs.Prelude.{Result, Ok, Err}
use Prim.Native.Nat.{ℕ, ◌<◌}
use native.Mathlib.Omega.{arith}
use mathlib.Core.Path.{◌≡◌, refl, ap, ◌∙◌}
use mathlib.Core.List.{List, [], ◌∷◌}
use mathlib.Core.Bool.{Bool, true, false}
use lib.ListN.{length}
use lib.Dec.{eqb}
use borrow.Author.Tests.{eqb-true, eqb-false}
use Rattle.region.specs.Region.{region_bytes, refusal_by}
use Rattle.cbfs_types.specs.declared.Region.{Region}
use Rattle.cbfs_types.specs.declared.Refusal.{Refusal}
use Rattle.region.proofs.Regions.{bytes_inside}
use Rattle.master_header.specs.Master.{master}
use Rattle.master_header.specs.Table.{region}
use Rattle.master_header.proofs.Facts.{known, refused_place}
use Rattle.master_header.proofs.Exactly.{master_read}
use Rattle.edit_write.specs.EditWrite.{EditResult, add_in, replace_in, remove_in}
use Rattle.image_walk.specs.ImageWalk.{strict_check, image_step}
use Rattle.image_find.specs.ImageFind.{image_find}
use Rattle.image_edit.specs.ImageEdit.{edit_on, image_add, image_replace, image_remove}
use Rattle.image_claims.specs.Table.{RefusalPlace, RefusalHas}
use Rattle.image_load.specs.ImageLoad.{image_stage, image_payload}
use Rattle.fmap_signature.specs.Signatures.{signatures, signature_answer}
use Rattle.fmap.specs.Fmap.{fmap, map_at}
use Rattle.region.proofs.Answered.{refusal_given}
use Rattle.fmap.proofs.Exactly.{fmap_refused}
use Rattle.image_claims.proofs.Plans.{stage_refused, payload_refused}
use Rattle.image_claims.proofs.Refusing.{step_refusal, find_refusal, strict_refusal, add_refusal, replace_refusal, remove_refusal}

-- The master header's refusals report place 0.
pub header_place_lem : (i : List ℕ) (r : Refusal) → master i ≡ Err r → r.place ≡ 0
header_place_lem i r e = ap (λ (x : Refusal). x.place) (refused_place i r e)

module _ (i : List ℕ) where
  -- The place q of the number n, where q is 0 on an image whose master header is refused.
  small : (n q : ℕ) → RefusalPlace i n q → ((x : Refusal) → master i ≡ Err x → q ≡ 0) → q < 4294967296
  small n q s early = go (master i) refl (eqb n 12) refl
    where
      go : (m : Result Region Refusal) → master i ≡ m → (b : Bool) → eqb n 12 ≡ b → q < 4294967296
      go (Err x) e b h = omega (arith, early x e)
      go (Ok g) e false h = omega (arith, s.1 (eqb-false n 12 h))
      go (Ok g) e true h =
          let (p, at, untaken, low) = s.0 (eqb-true n 12 h) in
          let here : p < length (region_bytes i (region i)) = omega (arith, untaken.1.0) in
          omega (arith, at, here, bytes_inside i (region i) p here, (known i (region i) (master_read i g e).1).short)

  -- A refusal of a call that returns the master header's refusals.
  said : (r : Refusal) → RefusalHas i r → ((x : Refusal) → master i ≡ Err x → x ≡ r) → r.place < 4294967296
  said r s same = small r.number r.place s.place (λ x e. header_place_lem i r (e ∙ ap Err (same x e)))

  pub check_small : (r : Refusal) → strict_check i ≡ Err r → r.place < 4294967296
  check_small r f = said r (strict_refusal i r f) (λ x e. let q : Err x ≡ Err r = rw e at f in cc)

  -- The other calls report place 0.

  pub stage_small : (name : List ℕ) (r : Refusal) → image_stage i name ≡ Err r → r.place < 4294967296
  stage_small name r f = omega (arith, ap (λ (x : Refusal). x.place) (stage_refused i name r f).1)

  pub payload_small : (name : List ℕ) (r : Refusal) → image_payload i name ≡ Err r → r.place < 4294967296
  payload_small name r f = omega (arith, ap (λ (x : Refusal). x.place) (payload_refused i name r f).1)

  pub header_small : (r : Refusal) → master i ≡ Err r → r.place < 4294967296
  header_small r f = omega (arith, header_place_lem i r f)

  pub step_small : (w : Bool) (from : ℕ) (r : Refusal) → image_step w i from ≡ Err r → r.place < 4294967296
  step_small w from r f = said r (step_refusal i w from r f) (λ x e. let q : Err x ≡ Err r = rw e at f in cc)

  pub lookup_small : (w : Bool) (name : List ℕ) (r : Refusal) → image_find w i name ≡ Err r → r.place < 4294967296
  lookup_small w name r f = said r (find_refusal i w name r f).0 (λ x e. let q : Err x ≡ Err r = rw e at f in cc)

  -- An edit: `call` is its outcome over the region.
  edit_small : (call : Region → EditResult) (r : Refusal) → (edit_on i (master i) call).answer ≡ Err r → RefusalHas i r → r.place < 4294967296
  edit_small call r f s = said r s (λ x e. let q : Err x ≡ Err r = rw e at f in cc)

  pub add_small : (name : List ℕ) (kind : ℕ) (content : List ℕ) (r : Refusal) → (image_add i name kind content).answer ≡ Err r → r.place < 4294967296
  add_small name kind content r f = edit_small (λ g. add_in i g name kind content) r f (add_refusal i name kind content r f)

  pub replace_small : (name content : List ℕ) (r : Refusal) → (image_replace i name content).answer ≡ Err r → r.place < 4294967296
  replace_small name content r f = edit_small (λ g. replace_in i g name content) r f (replace_refusal i name content r f)

  pub remove_small : (name : List ℕ) (r : Refusal) → (image_remove i name).answer ≡ Err r → r.place < 4294967296
  remove_small name r f = edit_small (λ g. remove_in i g name) r f (remove_refusal i name r f)

  -- A flash map's refusals report place 0.

  pub map_small : (r : Refusal) → fmap i ≡ Err r → r.place < 4294967296
  map_small r f = omega (arith, (fmap_refused i r f).1)

  pub map_at_small : (at l : ℕ) (r : Refusal) → map_at i at l ≡ Err r → r.place < 4294967296
  unfolding map_at
  map_at_small at l r f = omega (arith, ap (λ (x : Refusal). x.place) (refusal_given _ _ f).1)

  pub signatures_small : (r : Refusal) → signature_answer (signatures i) ≡ Err r → r.place < 4294967296
  signatures_small r f = go (signatures i) f
    where
      go : (l : List ℕ) → signature_answer l ≡ Err r → r.place < 4294967296
      go [] q = let same : refusal_by 27 ≡ r = cc in omega (arith, ap (λ (x : Refusal). x.place) same)
      go (p ∷ []) q = let z : ◌≡◌ {A = ℕ} 0 1 = cc in absurd (omega arith)
      go (p ∷ s ∷ ps) q = let same : refusal_by 28 ≡ r = cc in omega (arith, ap (λ (x : Refusal). x.place) same)

-- The edits of a whole image, over the definitions that the contracts of `add`, `replace` and `remove` cite (the order, demands 1 and 2).
use Rattle.std.specs.Prelude.{Result, Ok, Err}
use Prim.Native.Nat.{ℕ, ◌^◌, ◌<◌}
use native.Mathlib.Omega.{arith}
use mathlib.Core.Path.{◌≡◌, refl}
use mathlib.Core.List.{List}
use lib.ListN.{length}
use Rattle.walk.specs.Walk.{plain_listing}
use Rattle.region.specs.Region.{region_bytes}
use Rattle.cbfs_types.specs.declared.Region.{Region}
use Rattle.cbfs_types.specs.declared.Refusal.{Refusal}
use Rattle.master_header.specs.Master.{master}
use Rattle.strict_rules.specs.Strict.{component_limit, verdict}
use Rattle.edit_rules.specs.Edit.{AllBytes, Decision, carried_out, after_check, replace_after_check, remove_after_check, slot_of, replace, remove}
use Rattle.edit_rules.proofs.Decisions.{does, check_write}
use Rattle.edit_write.specs.EditWrite.{EditResult, edit_result_in, add_in, replace_in, remove_in}
use Rattle.edit_write.proofs.Around.{done_place, add_same, replace_same, remove_same}
use Rattle.image_edit.specs.ImageEdit.{edit_on, image_add, image_replace, image_remove}
use Rattle.image_claims.specs.Corruption.{AcceptedImage}
use Rattle.image_claims.specs.EditsDone.{AddDone, ReplaceDone, RemoveDone}
use Rattle.image_claims.proofs.EditsDone.{add_there, replace_there, remove_there}

-- A refused edit changes no byte of the image.

refused_same : (i : List ℕ) (call : Region → EditResult) → ((g : Region) (x : Refusal) → (call g).answer ≡ Err x → (call g).image ≡ i)
    → (x : Refusal) → (edit_on i (master i) call).answer ≡ Err x → (edit_on i (master i) call).image ≡ i
refused_same i call h x e = go (master i) e
  where
    go : (m : Result Region Refusal) → (edit_on i m call).answer ≡ Err x → (edit_on i m call).image ≡ i
    go (Ok g) f = h g x f
    go (Err y) f = refl

pub add_refused_same : (i name : List ℕ) (kind : ℕ) (content : List ℕ) (x : Refusal) → (image_add i name kind content).answer ≡ Err x
    → (image_add i name kind content).image ≡ i
add_refused_same i name kind content = refused_same i (λ g. add_in i g name kind content) (λ g. add_same i g name kind content)

pub replace_refused_same : (i name content : List ℕ) (x : Refusal) → (image_replace i name content).answer ≡ Err x
    → (image_replace i name content).image ≡ i
replace_refused_same i name content = refused_same i (λ g. replace_in i g name content) (λ g. replace_same i g name content)

pub remove_refused_same : (i name : List ℕ) (x : Refusal) → (image_remove i name).answer ≡ Err x → (image_remove i name).image ≡ i
remove_refused_same i name = refused_same i (λ g. remove_in i g name) (λ g. remove_same i g name)

-- The outcome of an edit that is done.

when_done : (i : List ℕ) (call : Region → EditResult) (q : ℕ) (P : Region → List ℕ → Type 0)
    → ((g : Region) → master i ≡ Ok g → (call g).answer ≡ Ok q → P g (call g).image)
    → (edit_on i (master i) call).answer ≡ Ok q → (g : Region) × P g (edit_on i (master i) call).image
when_done i call q P h e = go (master i) refl e
  where
    go : (m : Result Region Refusal) → master i ≡ m → (edit_on i m call).answer ≡ Ok q → (g : Region) × P g (edit_on i m call).image
    go (Ok g) r f = (g, h g r f)
    go (Err y) r f = let z : ◌≡◌ {A = ℕ} 0 1 = cc in absurd (omega arith)

pub add_done_image : (i name : List ℕ) (kind : ℕ) (content : List ℕ) (p : ℕ) → kind < 256 ^ 4 → (image_add i name kind content).answer ≡ Ok p
    → (g : Region) × AcceptedImage i g × AddDone i g name kind content p (image_add i name kind content).image
add_done_image i name kind content p typed e =
    let (g, h) =
    when_done i (λ g. add_in i g name kind content) p (λ g i'. AcceptedImage i g × AddDone i g name kind content p i')
    (λ g read f. add_there i g read name kind content typed p f) e in
    (g, h.0, h.1)

-- Replace and remove, like add, are done on accepted images only.
module _ (i : List ℕ) (g : Region) (read : master i ≡ Ok g) where
  done_accepted : (d : Decision) (q : ℕ)
      → (edit_result_in i g (carried_out (region_bytes i g) (after_check (verdict component_limit (region_bytes i g) g.align) d))).answer ≡ Ok q
      → AcceptedImage i g
  done_accepted d q e =
      let (p, h, c) = done_place i g (carried_out (region_bytes i g) (after_check (verdict component_limit (region_bytes i g) g.align) d)) q e in
      let w = does (region_bytes i g) (after_check (verdict component_limit (region_bytes i g) g.align) d) p c in
      record { read = read; acc = (check_write (region_bytes i g) g.align d w.run w.bytes w.writes).0 }

  replace_accepted : (name content : List ℕ) (q : ℕ) → (replace_in i g name content).answer ≡ Ok q → AcceptedImage i g
  unfolding replace
  replace_accepted name content q e =
      done_accepted (replace_after_check g.align name content (slot_of (length (region_bytes i g)) name (plain_listing (region_bytes i g) g.align))) q e

  remove_accepted : (name : List ℕ) (q : ℕ) → (remove_in i g name).answer ≡ Ok q → AcceptedImage i g
  unfolding remove
  remove_accepted name q e = done_accepted (remove_after_check (slot_of (length (region_bytes i g)) name (plain_listing (region_bytes i g) g.align))) q e

-- The numbers of a lent image are bytes.
pub replace_done_image : (i name content : List ℕ) (p : ℕ) → AllBytes i → (image_replace i name content).answer ≡ Ok p
    → (g : Region) × AcceptedImage i g × ReplaceDone i g name content p (image_replace i name content).image
replace_done_image i name content p bs e =
    let (g, h) = when_done i (λ g. replace_in i g name content) p (λ g i'. AcceptedImage i g × ReplaceDone i g name content p i')
    (λ g read f. (replace_accepted i g read name content p f, replace_there i g read bs name content p f)) e in
    (g, h.0, h.1)

pub remove_done_image : (i name : List ℕ) (p : ℕ) → (image_remove i name).answer ≡ Ok p
    → (g : Region) × AcceptedImage i g × RemoveDone i g name p (image_remove i name).image
remove_done_image i name p e =
    let (g, h) = when_done i (λ g. remove_in i g name) p (λ g i'. AcceptedImage i g × RemoveDone i g name p i')
    (λ g read f. (remove_accepted i g read name p f, remove_there i g read name p f)) e in
    (g, h.0, h.1)

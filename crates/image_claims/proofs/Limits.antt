-- Request 6, on whole images: "an image accepted before is accepted now with the same count and places", and an edit that was done is done now.
-- First for any two limits m ≤ n, then for 256 and 1,024.
use Rattle.std.specs.Prelude.{Result, Ok, Err}
use Rattle.cbfs_types.specs.declared.Refusal.{Refusal}
use Prim.Native.Nat.{ℕ, ◌+◌, ◌≤◌}
use native.Mathlib.Omega.{arith}
use mathlib.Core.Path.{◌≡◌, refl, ap}
use mathlib.Core.Logic.{◌⊎◌, ◌↔◌, inl, inr}
use mathlib.Core.List.{List, map, ◌++◌}
use lib.ListN.{length, length-map}
use Rattle.bytes_read.proofs.Padding.{padded_longer, length-padded}
use Rattle.walk.specs.Walk.{plain_listing}
use Rattle.region.specs.Table.{Row, FirstRowMet}
use Rattle.region.specs.Region.{region_bytes}
use Rattle.cbfs_types.specs.declared.Region.{Region}
use Rattle.region.proofs.Tables.{given_later, given_split}
use Rattle.master_header.specs.Table.{align, master_rows}
use Rattle.master_header.specs.Master.{master}
use Rattle.strict_rules.specs.Strict.{Verdict, check_refused, check_accepted, verdict}
use Rattle.strict_rules.specs.Table.{check_rows}
use Rattle.strict_rules.proofs.Verdicts.{more_allowed, accepted_exactly}
use Rattle.strict_check.specs.StrictCheck.{directory_answer}
use Rattle.cbfs_types.specs.declared.Directory.{Directory}
use Rattle.edit_rules.specs.Edit.{Decision, carried_out, add_decision, replace_decision, remove_decision, add, replace, remove}
use Rattle.edit_rules.specs.Table.{add_rows}
use Rattle.edit_rules.proofs.Limits.{SameBut13}
use Rattle.edit_rules.proofs.Limits as Decided
use Rattle.edit_write.specs.EditWrite.{EditResult, edit_result_in}
use Rattle.image_walk.specs.ImageWalk.{strict_check, strict_check_up_to}
use Rattle.image_edit.specs.ImageEdit.{edit_on, image_add, image_replace, image_remove, image_add_up_to, image_replace_up_to, image_remove_up_to}
use Rattle.image_claims.specs.Table.{image_region_bytes, answer_number}
use Rattle.image_claims.specs.Limits.{SameDirectoryPadded, SameAnswerPadded, TooMany, AddAtLimit}
use Rattle.image_claims.proofs.Refusing.{strict_exactly, add_exactly}

-- An edit of the image, by its decision for the region.
abbrev decided : List ℕ → (Region → Decision) → EditResult
decided i d = edit_on i (master i) (λ g. edit_result_in i g (carried_out (region_bytes i g) (d g)))

module _ {m n : ℕ} (more : m ≤ n) where
  directory_longer : (s : ℕ) (ps : List ℕ) → length ps ≤ m
      → SameAnswerPadded m n (directory_answer m s (check_accepted ps)) (directory_answer n s (check_accepted ps))
  directory_longer s ps h =
      let qs : List ℕ = map (λ p. s + p) ps in
      let fits : length qs ≤ m = rw (length-map ps (λ p. s + p)) h in
      (_, refl, record { count = refl; long = length-padded m 0 qs fits; places = padded_longer m 0 n qs fits more })

  -- The answer under n is that under m, a directory with zeros after it.
  abbrev Longer : List ℕ → Type 0
  Longer i = SameAnswerPadded m n (strict_check_up_to m i) (strict_check_up_to n i)

  -- The strict check says the same, in more places, unless it said 13.
  pub check_more : (i : List ℕ) → (answer_number (strict_check_up_to m i) ≡ 13) ⊎ Longer i
  check_more i = go (master i) refl
    where
      -- Of the bytes r of a region that begins at s.
      by : (r : List ℕ) (a s : ℕ) (v : Verdict) → verdict m r a ≡ v → (verdict m r a ≡ check_refused 13 0) ⊎ (verdict n r a ≡ verdict m r a)
          → (answer_number (directory_answer m s (verdict m r a)) ≡ 13)
          ⊎ SameAnswerPadded m n (directory_answer m s (verdict m r a)) (directory_answer n s (verdict n r a))
      by r a s v e (inl q) = inl (rw q)
      by r a s (check_refused k p) e (inr q) = inr (rw (q, e))
      by r a s (check_accepted ps) e (inr q) =
          let (f, l) = (accepted_exactly r a ps).0 e in
          let few : length ps ≤ m = omega (arith, f.at_most, ap length l, length-map (plain_listing r a) (λ t. t.place)) in
          inr (rw (q, e) (directory_longer s ps few))

      go : (x : Result Region Refusal) → master i ≡ x → (answer_number (strict_check_up_to m i) ≡ 13) ⊎ Longer i
      go (Ok g) e =
          rw e (by (region_bytes i g) g.align g.start (verdict m (region_bytes i g) g.align) refl (more_allowed more (region_bytes i g) g.align))
      go (Err x) e = inr (rw e)

  -- "An image accepted before is accepted now with the same count and places."
  pub accepted_more : (i : List ℕ) (d : Directory) → strict_check_up_to m i ≡ Ok d
      → (d' : Directory) × (strict_check_up_to n i ≡ Ok d') × SameDirectoryPadded m n d d'
  accepted_more i d z = go (check_more i)
    where
      go : (answer_number (strict_check_up_to m i) ≡ 13) ⊎ Longer i → (d' : Directory) × (strict_check_up_to n i ≡ Ok d') × SameDirectoryPadded m n d d'
      go (inl t) = absurd (omega (arith, t, ap answer_number z))
      go (inr s) = rw z at s

  -- An edit, by its decision for the region: it is the same, answer and image, unless it was refused by 13.
  edit_more : (i : List ℕ) (before now : Region → Decision) → ((g : Region) → SameBut13 (before g) (now g))
      → (answer_number (decided i before).answer ≡ 13) ⊎ (decided i now ≡ decided i before)
  unfolding carried_out
  edit_more i before now h = go (master i) refl
    where
      by : (g : Region) → SameBut13 (before g) (now g) → let old = edit_result_in i g (carried_out (region_bytes i g) (before g)) in
          (answer_number old.answer ≡ 13) ⊎ (edit_result_in i g (carried_out (region_bytes i g) (now g)) ≡ old)
      by g (inl e) = inl (rw e)
      by g (inr e) = inr (rw e)

      go : (x : Result Region Refusal) → master i ≡ x → (answer_number (decided i before).answer ≡ 13) ⊎ (decided i now ≡ decided i before)
      go (Ok g) e = rw e (by g (h g))
      go (Err y) e = inr (rw e)

  pub add_more : (i name : List ℕ) (kind : ℕ) (content : List ℕ)
      → (answer_number (image_add_up_to m i name kind content).answer ≡ 13) ⊎ (image_add_up_to n i name kind content ≡ image_add_up_to m i name kind content)
  unfolding add
  add_more i name kind content =
      edit_more i (λ g. add_decision m (region_bytes i g) g.align name kind content) (λ g. add_decision n (region_bytes i g) g.align name kind content)
      (λ g. Decided.add_more more (region_bytes i g) g.align name kind content)

  pub replace_more : (i name content : List ℕ)
      → (answer_number (image_replace_up_to m i name content).answer ≡ 13) ⊎ (image_replace_up_to n i name content ≡ image_replace_up_to m i name content)
  unfolding replace
  replace_more i name content =
      edit_more i (λ g. replace_decision m (region_bytes i g) g.align name content) (λ g. replace_decision n (region_bytes i g) g.align name content)
      (λ g. Decided.replace_more more (region_bytes i g) g.align name content)

  pub remove_more : (i name : List ℕ) → (answer_number (image_remove_up_to m i name).answer ≡ 13) ⊎ (image_remove_up_to n i name ≡ image_remove_up_to m i name)
  unfolding remove
  remove_more i name = edit_more i (λ g. remove_decision m (region_bytes i g) g.align name) (λ g. remove_decision n (region_bytes i g) g.align name)
      (λ g. Decided.remove_more more (region_bytes i g) g.align name)

  -- So what was done is done now, with the same answer and the same bytes.

  when_done : {before now : EditResult} (p : ℕ) → (answer_number before.answer ≡ 13) ⊎ (now ≡ before) → before.answer ≡ Ok p → now ≡ before
  when_done p (inl t) e = absurd (omega (arith, t, ap answer_number e))
  when_done p (inr s) e = s

  pub add_done_more : (i name : List ℕ) (kind : ℕ) (content : List ℕ) (p : ℕ) → (image_add_up_to m i name kind content).answer ≡ Ok p
      → image_add_up_to n i name kind content ≡ image_add_up_to m i name kind content
  add_done_more i name kind content p e = when_done p (add_more i name kind content) e

  pub replace_done_more : (i name content : List ℕ) (p : ℕ) → (image_replace_up_to m i name content).answer ≡ Ok p
      → image_replace_up_to n i name content ≡ image_replace_up_to m i name content
  replace_done_more i name content p e = when_done p (replace_more i name content) e

  pub remove_done_more : (i name : List ℕ) (p : ℕ) → (image_remove_up_to m i name).answer ≡ Ok p → image_remove_up_to n i name ≡ image_remove_up_to m i name
  remove_done_more i name p e = when_done p (remove_more i name) e

-- 256 before, 1,024 now, which is the library's limit: `strict_check`, `image_add`, `image_replace` and `image_remove` are what its calls answer.

raised : 256 ≤ 1024
raised = omega arith

pub accepted_256 : (i : List ℕ) (d : Directory) → strict_check_up_to 256 i ≡ Ok d
    → (d' : Directory) × (strict_check i ≡ Ok d') × SameDirectoryPadded 256 1024 d d'
accepted_256 i d e = accepted_more raised i d e

pub add_done_256 : (i name : List ℕ) (kind : ℕ) (content : List ℕ) (p : ℕ) → (image_add_up_to 256 i name kind content).answer ≡ Ok p
    → image_add i name kind content ≡ image_add_up_to 256 i name kind content
add_done_256 i name kind content p e = add_done_more raised i name kind content p e

pub replace_done_256 : (i name content : List ℕ) (p : ℕ) → (image_replace_up_to 256 i name content).answer ≡ Ok p
    → image_replace i name content ≡ image_replace_up_to 256 i name content
replace_done_256 i name content p e = replace_done_more raised i name content p e

pub remove_done_256 : (i name : List ℕ) (p : ℕ) → (image_remove_up_to 256 i name).answer ≡ Ok p → image_remove i name ≡ image_remove_up_to 256 i name
remove_done_256 i name p e = remove_done_more raised i name p e

-- When 13 is given.

module _ (i : List ℕ) where
  abbrev checked : List Row
  checked = check_rows 1024 (image_region_bytes i) (align i)

  -- The strict check refuses by 13 exactly where there are more than 1,024 components, and none of 1 to 8 and 12 applies.
  pub check_13_exactly : (answer_number (strict_check i) ≡ 13) ↔ TooMany i
  check_13_exactly = (λ e. there (given_split (master_rows i) checked 13 refl ((strict_exactly i 13).0 e)), back)
    where
      there : FirstRowMet (master_rows i) 0 × FirstRowMet checked 13 → TooMany i
      there (z, inl g) = absurd (omega (arith, g.1))
      there (z, inr (u, inl g)) = ((z, λ p q. u (p, q)), g.0)
      there (z, inr (u, inr (m, inl g))) = absurd (omega (arith, g.1))
      there (z, inr (u, inr (m, inr g))) = absurd (omega (arith, g.1))

      back : TooMany i → answer_number (strict_check i) ≡ 13
      back ((z, u), m) = (strict_exactly i 13).1 (given_later (master_rows i) checked 13 refl z (inr ((λ q. u q.0 q.1), inl (m, refl))))

  -- An add is refused by 13 exactly there, and where there are 1,024 and the name is fit and not in use.
  module _ (name : List ℕ) (kind : ℕ) (content : List ℕ) where
    abbrev rows : List Row
    rows = checked ++ add_rows 1024 (image_region_bytes i) (align i) name kind content

    pub add_13_exactly : (answer_number (image_add i name kind content).answer ≡ 13) ↔ (TooMany i ⊎ AddAtLimit i name)
    add_13_exactly =
        let exact = add_exactly i name kind content 13 in
        (λ e. there (given_split (master_rows i) rows 13 refl (exact.0 e)), λ h. exact.1 (back h))
      where
        there : FirstRowMet (master_rows i) 0 × FirstRowMet rows 13 → TooMany i ⊎ AddAtLimit i name
        there (z, inl g) = absurd (omega (arith, g.1))
        there (z, inr (u, inl g)) = inl ((z, λ p q. u (p, q)), g.0)
        there (z, inr (u, inr (m, inl g))) = absurd (omega (arith, g.1))
        there (z, inr (u, inr (m, inr (t, inl g)))) = absurd (omega (arith, g.1))
        there (z, inr (u, inr (m, inr (t, inr (f, inl g))))) = absurd (omega (arith, g.1))
        there (z, inr (u, inr (m, inr (t, inr (f, inr (b, inl g)))))) = inr ((z, λ p q. u (p, q)), omega (arith, m, g.0), t, f, λ e k. b (e, k))
        there (z, inr (u, inr (m, inr (t, inr (f, inr (b, inr (l, inl g))))))) = absurd (omega (arith, g.1))
        there (z, inr (u, inr (m, inr (t, inr (f, inr (b, inr (l, inr (h, inl g)))))))) = absurd (omega (arith, g.1))
        there (z, inr (u, inr (m, inr (t, inr (f, inr (b, inr (l, inr (h, inr g)))))))) = absurd (omega (arith, g.1))

        back : TooMany i ⊎ AddAtLimit i name → FirstRowMet (master_rows i ++ rows) 13
        back (inl ((z, u), m)) = given_later (master_rows i) rows 13 refl z (inr ((λ q. u q.0 q.1), inl (m, refl)))
        back (inr ((z, u), c, t, f, b)) = given_later (master_rows i) rows 13 refl z (inr (
          (λ q. u q.0 q.1),
          inr ((λ k. omega (arith, c, k)), inr (t, inr (f, inr ((λ q. b q.0 q.1), inl (omega (arith, c), refl))))),
        ))

-- Where more components are allowed, an edit is decided as before, unless it was refused by 13.
use Prim.Native.Nat.{ℕ, ◌≤◌}
use native.Mathlib.Omega.{arith}
use mathlib.Core.Path.{◌≡◌, refl}
use mathlib.Core.Logic.{◌⊎◌, inl, inr}
use mathlib.Core.List.{List}
use mathlib.Core.Bool.{Bool, true, false}
use lib.ListN.{length}
use lib.Dec.{ltb}
use borrow.Author.Tests.{lt-ltb, ltb-true}
use Rattle.bytes_read.specs.Lists.{any}
use Rattle.component.specs.Names.{name_fits}
use Rattle.walk.specs.Walk.{Entry, plain_listing}
use Rattle.walk_lookup.specs.Lookup.{bears}
use Rattle.strict_rules.specs.Strict.{Verdict, check_refused, check_accepted, verdict}
use Rattle.strict_rules.proofs.Verdicts.{more_allowed}
use Rattle.edit_rules.specs.Edit.{Decision, refuse, after_check, span_bytes, slot_of, add_after_check, replace_after_check, remove_after_check, add_decision}
use Rattle.edit_rules.specs.Edit.{replace_decision, remove_decision}

-- The one was 13, or the other is the same.
abbrev pub SameBut13 : Decision → Decision → Type 0
SameBut13 before now = (before ≡ refuse 13 0) ⊎ (now ≡ before)

module _ {m n : ℕ} (more : m ≤ n) (r : List ℕ) (a : ℕ) where
  -- After the strict check, where the edit's own decision is the same but for 13.
  after_check_more : (d e : Decision) → SameBut13 d e → SameBut13 (after_check (verdict m r a) d) (after_check (verdict n r a) e)
  after_check_more d e s = go (more_allowed more r a) (verdict m r a) refl s
    where
      go : (verdict m r a ≡ check_refused 13 0) ⊎ (verdict n r a ≡ verdict m r a) → (v : Verdict) → verdict m r a ≡ v → SameBut13 d e
          → SameBut13 (after_check (verdict m r a) d) (after_check (verdict n r a) e)
      go (inl q) v f t = inl (rw q)
      go (inr q) (check_refused k p) f t = inr (rw (q, f))
      go (inr q) (check_accepted ps) f (inl t) = inl (rw f t)
      go (inr q) (check_accepted ps) f (inr t) = inr (rw (q, f) t)

  adding_more : (name s : List ℕ) (l : List Entry) → SameBut13 (add_after_check m r a name s l) (add_after_check n r a name s l)
  unfolding add_after_check
  adding_more name s l = go (name_fits name) refl (any (bears name) l) refl (ltb (length l) m) refl
    where
      go : (b : Bool) → name_fits name ≡ b → (c : Bool) → any (bears name) l ≡ c → (d : Bool) → ltb (length l) m ≡ d
          → SameBut13 (add_after_check m r a name s l) (add_after_check n r a name s l)
      go false p c q d e = inr (rw p)
      go true p true q d e = inr (rw (p, q))
      go true p false q false e = inl (rw (p, q, e))
      go true p false q true e = inr (rw (p, q, e, lt-ltb (length l) n (omega (arith, ltb-true (length l) m e))))

  pub add_more : (name : List ℕ) (kind : ℕ) (content : List ℕ) → SameBut13 (add_decision m r a name kind content) (add_decision n r a name kind content)
  add_more name kind content = let s = span_bytes name kind content in
      after_check_more (add_after_check m r a name s (plain_listing r a)) (add_after_check n r a name s (plain_listing r a))
      (adding_more name s (plain_listing r a))

  pub replace_more : (name content : List ℕ) → SameBut13 (replace_decision m r a name content) (replace_decision n r a name content)
  replace_more name content = let d = replace_after_check a name content (slot_of (length r) name (plain_listing r a)) in after_check_more d d (inr refl)

  pub remove_more : (name : List ℕ) → SameBut13 (remove_decision m r a name) (remove_decision n r a name)
  remove_more name = let d = remove_after_check (slot_of (length r) name (plain_listing r a)) in after_check_more d d (inr refl)

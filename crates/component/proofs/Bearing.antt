-- The name of a component, compared with the bytes of its field.
use Prim.Native.Nat.{ℕ, ◌+◌, ◌<◌}
use native.Mathlib.Omega.{arith}
use mathlib.Core.Path.{◌≡◌, refl, sym, ap, subst, ◌∙◌}
use mathlib.Core.List.{List}
use mathlib.Core.Bool.{Bool, true, false, true≢false}
use Rattle.std.specs.Prelude.{Option, Some, None}
use lib.ListN.{length, get_or}
use lib.Dec.{eqb}
use borrow.Author.Tests.{eqb-true, eq-eqb}
use Rattle.bytes_read.specs.Bytes.{part_of, eq_bytes}
use Rattle.bytes_read.proofs.SameBytes.{eq_true, eq_refl}
use Rattle.component.specs.Component.{Component, judge_numbers, judged, header_of, name_of, bears_name}
use Rattle.cbfs_types.specs.declared.Header.{Header}
use Rattle.component.proofs.Judging.{judged_some, judged_none, part_unsummed}
use Rattle.component.proofs.Exactly.{numbers_ends}

module _ (s name : List ℕ) where
  -- A component that bears the name has it in its field, and a zero behind it.
  has_name_lem : (c : Component) → judge_numbers s ≡ Some c → eq_bytes c.name name ≡ true → (part_of s 24 (length name) ≡ name) × (get_or s (24 + length name) 0 ≡ 0)
  has_name_lem c e b =
      let q = eq_true c.name name b in (
        subst (λ (x : List ℕ). part_of s 24 (length x) ≡ x) q (part_unsummed s (header_of c) (ap judged e) ∙ ap name_of e),
        subst (λ (x : List ℕ). get_or s (24 + length x) 0 ≡ 0) q (numbers_ends s c e).0,
      )

  -- So where a fact that it brings does not hold, none does.
  has_no_name : ((c : Component) → judge_numbers s ≡ Some c → eq_bytes c.name name ≡ true → ⊥) → false ≡ bears_name name (judge_numbers s)
  has_no_name h = go (judge_numbers s) refl
    where
      by : (c : Component) → judge_numbers s ≡ Some c → (b : Bool) → eq_bytes c.name name ≡ b → false ≡ b
      by c e false q = refl
      by c e true q = absurd (h c e q)

      go : (o : Option Component) → judge_numbers s ≡ o → false ≡ bears_name name o
      go None e = refl
      go (Some c) e = by c e (eq_bytes c.name name) refl

  pub too_long : 255 < length name → false ≡ bears_name name (judge_numbers s)
  too_long h = has_no_name (λ c e b. omega (arith, h, ap length (eq_true c.name name b), (numbers_ends s c e).1))

  pub other_field : eq_bytes (part_of s 24 (length name)) name ≡ false → false ≡ bears_name name (judge_numbers s)
  other_field h = has_no_name (λ c e b. true≢false (sym (eq_refl name) ∙ ap (λ (x : List ℕ). eq_bytes x name) (sym (has_name_lem c e b).0) ∙ h))

  pub longer_name : (get_or s (24 + length name) 0 ≡ 0 → ⊥) → false ≡ bears_name name (judge_numbers s)
  longer_name h = has_no_name (λ c e b. h (has_name_lem c e b).1)

  pub ill_named : judged (judge_numbers s) ≡ None → false ≡ bears_name name (judge_numbers s)
  ill_named e = rw (judged_none (judge_numbers s) e)

  -- Where the field begins with the name, the lengths decide.
  pub as_long : eq_bytes (part_of s 24 (length name)) name ≡ true → (h : Header) → judged (judge_numbers s) ≡ Some h
      → eqb h.namelen (length name) ≡ bears_name name (judge_numbers s)
  as_long p h e = let (c, q, r) = judged_some (judge_numbers s) h e in go c q r (eqb h.namelen (length name)) refl
    where
      go : (c : Component) → judge_numbers s ≡ Some c → header_of c ≡ h → (b : Bool) → eqb h.namelen (length name) ≡ b → b ≡ bears_name name (judge_numbers s)
      go c q r true l =
          let k : part_of s 24 (length name) ≡ c.name = ap (part_of s 24) (sym (eqb-true h.namelen (length name) l)) ∙ part_unsummed s h e ∙ ap name_of q in
          rw (q, ← k) (sym p)
      go c q r false l = has_no_name (λ d f b. differ d f b)
        where
          differ : (d : Component) → judge_numbers s ≡ Some d → eq_bytes d.name name ≡ true → ⊥
          differ d f b =
              let m : header_of d ≡ h = (cc) in
              let n : h.namelen ≡ length name = sym (ap (λ (x : Header). x.namelen) m) ∙ ap length (eq_true d.name name b) in
              true≢false (sym (eq-eqb h.namelen (length name) n) ∙ l)

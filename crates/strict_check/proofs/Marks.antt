-- Marks of digests: what a digest that is marked leaves, and what an unmarked one says.
use Prim.Native.Nat.{ℕ, zero, suc, ◌+◌, ◌-◌, ◌≤◌, ◌<◌}
use native.Mathlib.Omega.{arith}
use native.Mathlib.Decide.{dec_lt}
use mathlib.Core.Path.{◌≡◌, refl, sym, ◌∙◌}
use mathlib.Core.Logic.{◌⊎◌, inl, inr}
use mathlib.Core.List.{List}
use mathlib.Core.Bool.{Bool, true, false, true≢false}
use lib.ListN.{length, take, drop, get_or, set}
use lib.Seq.{get_or-set_same, get_or-set_other}
use lib.Dec.{eqb}
use borrow.Author.Tests.{eq-eqb, ne_eqb, eqb-true, eqb-false}
use Rattle.strict_check.specs.StrictCheck.{mark_byte, mark_value, MayBeMarked, Marked, AllMarked}
use Rattle.strict_check.proofs.Names.{among, any_on, any_end}

module _ (l : List ℕ) (d : ℕ) where
  abbrev was : ℕ
  was = get_or l (mark_byte d) 0

  -- The mark is there already.
  pub marked_same : was ≡ mark_value d → Marked l l d true
  marked_same e = record { unmarked = λ f. absurd (true≢false f); here = inl e; kept = λ x m. m }

  module _ (long : length l ≡ 2048) where
    now : (x : ℕ) → get_or (set l (mark_byte d) x) (mark_byte d) 0 ≡ x
    now x = get_or-set_same l (mark_byte d) x 0 (omega (arith, long))

    -- What was marked stays, where the byte x that is written serves all that the old one served.
    kept : (x : ℕ) → ((e : ℕ) → (was ≡ mark_value e) ⊎ (was ≡ 255) → (x ≡ mark_value e) ⊎ (x ≡ 255)) → (e : ℕ) → MayBeMarked l e
        → MayBeMarked (set l (mark_byte d) x) e
    kept x h e m = go (eqb (mark_byte e) (mark_byte d)) refl m
      where
        go : (b : Bool) → eqb (mark_byte e) (mark_byte d) ≡ b → MayBeMarked l e → MayBeMarked (set l (mark_byte d) x) e
        go true q n = let s = eqb-true (mark_byte e) (mark_byte d) q in rw (s, now x) (h e (rw s at n))
        go false q n = rw (get_or-set_other l (mark_byte d) (mark_byte e) x 0 (eqb-false (mark_byte e) (mark_byte d) q)) n

    -- Nothing was marked in that byte.
    pub marked_first : was ≡ 0 → Marked l (set l (mark_byte d) (mark_value d)) d false
    marked_first z = record { unmarked = λ f. none d; here = inl (now (mark_value d)); kept = kept (mark_value d) (λ e m. absurd (none e m)) }
      where
        none : (e : ℕ) → (was ≡ mark_value e) ⊎ (was ≡ 255) → ⊥
        none e (inl q) = omega (arith, z, q)
        none e (inr q) = omega (arith, z, q)

    -- Another digest was, or several.
    pub marked_several : (was ≡ mark_value d → ⊥) → Marked l (set l (mark_byte d) 255) d (eqb was 255)
    marked_several other = record { unmarked = none; here = inr (now 255); kept = kept 255 (λ e m. inr refl) }
      where
        none : eqb was 255 ≡ false → (was ≡ mark_value d) ⊎ (was ≡ 255) → ⊥
        none f (inl q) = other q
        none f (inr q) = true≢false (sym (eq-eqb was 255 q) ∙ f)

-- All from i on are marked, where those after it were and it is now.
pub all_marked : {before after : List ℕ} {b : Bool} (digests : List ℕ) (i n : ℕ) → Marked before after (get_or digests i 0) b → AllMarked before digests
    (i + 1) n
    → AllMarked after digests i n
all_marked {after = after} digests i n s h k l m = go (dec_lt i k)
  where
    go : Dec (i < k) → MayBeMarked after (get_or digests k 0)
    go (yes q) = s.kept (get_or digests k 0) (h k (omega arith) m)
    go (no q) = let e : k ≡ i = omega arith in rw e s.here

-- A digest that is not marked is none of those that are marked.
pub none_marked : (marks digests : List ℕ) (asked n : ℕ) → n ≤ length digests → (MayBeMarked marks asked → ⊥)
    → (d i : ℕ) → i + d ≡ n → AllMarked marks digests i n
    → among asked (take (n - i) (drop i digests)) ≡ false
none_marked marks digests asked n l none zero i e h = any_end (λ x. eqb x asked) digests i n (omega arith)
none_marked marks digests asked n l none (suc d) i e h =
    let other : eqb (get_or digests i 0) asked ≡ false = ne_eqb (get_or digests i 0) asked (λ q. none (rw q at (h i (omega arith) (omega arith)))) in
    any_on (λ x. eqb x asked) digests i n (omega arith) l other
    ∙ none_marked marks digests asked n l none d (i + 1) (omega arith) (λ k j m. h k (omega arith) m)

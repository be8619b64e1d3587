-- Refusals 12, 13 and 11 are given exactly when document 01's table says.
use Prim.Native.Nat.{ℕ, ◌≤◌, ◌<◌}
use native.Mathlib.Omega.{arith}
use mathlib.Core.Path.{◌≡◌, refl, sym, ◌∙◌}
use mathlib.Core.Bool.{Bool, true, false, true≢false}
use mathlib.Core.List.{List, [], Memᴰ}
use mathlib.Core.Logic.{◌⊎◌, inl, inr, ◌↔◌}
use lib.ListN.{take, drop}
use Rattle.bytes_read.proofs.SameBytes.{eq_true, eq_refl}
use Rattle.bytes_read.proofs.Tested.{filter_empty}
use Rattle.component.specs.Component.{magic, starts_with_magic}
use Rattle.region.specs.Table.{FirstRowMet}
use Rattle.region.proofs.Tables.{given_exactly}
use Rattle.walk.specs.Walk.{Entry, all_places, magic_at, plain_listing}
use Rattle.walk.proofs.Picks.{magic-fits}
use Rattle.walk_lookup.specs.Lookup.{TwoSameName}
use Rattle.strict_rules.specs.Strict.{lists_place, is_untaken, untaken_places, Verdict, check_refused, check_accepted, verdict, LowestUntaken}
use Rattle.strict_rules.specs.Table.{Magic, Untaken, check_rows, verdict_number}
use Rattle.strict_rules.proofs.Picked.{place_listed}
use Rattle.strict_rules.proofs.Untaken.{untaken_true}
use Rattle.strict_rules.proofs.Accepting.{mem_takes, takes_mem}
use Rattle.strict_rules.proofs.Verdicts.{refused_13, accepts, no_other, refused_12_lowest, refused_11_same_name}

-- The definitions in the paper's words.

pub magic_words : (s : List ℕ) (p : ℕ) → (magic_at s p ≡ true) ↔ Magic s p
unfolding magic_at starts_with_magic magic
magic_words s p = (λ c. (magic-fits s p c, eq_true (take 8 (drop p s)) magic c), λ m. rw m.1 (eq_refl magic))

taken_words : (l : List Entry) (p : ℕ) → (lists_place l p ≡ false) ↔ ((t : Entry) → Memᴰ t l → t.place ≡ p → ⊥)
taken_words l p = (λ e t m q. true≢false (sym (mem_takes l t m) ∙ rw (← q) at e), λ h. go h (lists_place l p) refl)
  where
    go : ((t : Entry) → Memᴰ t l → t.place ≡ p → ⊥) → (b : Bool) → lists_place l p ≡ b → b ≡ false
    go h true e = let (t, m, q) = takes_mem l p e in absurd (h t m q)
    go h false e = refl

module _ (most : ℕ) (r : List ℕ) (a : ℕ) (pos : 0 < a) where
  none_untaken : untaken_places r a ≡ [] → (p : ℕ) × Untaken r a p → ⊥
  unfolding untaken_places
  none_untaken e (p, u) = true≢false (
      sym (untaken_true r (plain_listing r a) p ((magic_words r p).1 u.1) ((taken_words (plain_listing r a) p).1 u.2))
      ∙ filter_empty (is_untaken r (plain_listing r a)) (all_places r a) e p (place_listed r a pos p u.0 (omega (arith, u.1.0)))
      )

  untaken : (p : ℕ) → LowestUntaken r a p → Untaken r a p
  untaken p s = (s.at, (magic_words r p).0 s.magic, (taken_words (plain_listing r a) p).0 s.untaken)

  given : FirstRowMet (check_rows most r a) (verdict_number (verdict most r a))
  given = go (verdict most r a) refl
    where
      two : (ps : List ℕ) → verdict most r a ≡ check_accepted ps → TwoSameName (plain_listing r a) → ⊥
      two ps v w =
          let h = (accepts most r a ps).0 v in
          let z : check_accepted ps ≡ check_refused 11 0 = sym v ∙ (refused_11_same_name most r a).1 (h.0, h.1, w) in
          let y : ◌≡◌ {A = ℕ} 0 1 = cc in
          omega arith

      by : (n p : ℕ) → verdict most r a ≡ check_refused n p → (n ≡ 12) ⊎ ((n ≡ 13) × (p ≡ 0)) ⊎ ((n ≡ 11) × (p ≡ 0)) → FirstRowMet (check_rows most r a) n
      by n p v (inl e) = inl ((p, untaken p ((refused_12_lowest most r a p).0 (rw e at v))), e)
      by n p v (inr (inl (e, f))) = let h = (refused_13 most r a).0 (rw (e, f) at v) in inr (none_untaken h.0, inl (h.1, e))
      by n p v (inr (inr (e, f))) =
          let h = (refused_11_same_name most r a).0 (rw (e, f) at v) in
          inr (none_untaken h.0, inr (λ x. omega (arith, h.1), inl (h.2, e)))

      go : (v : Verdict) → verdict most r a ≡ v → FirstRowMet (check_rows most r a) (verdict_number v)
      go (check_refused n p) v = by n p v (no_other most r a n p v)
      go (check_accepted ps) v = let h = (accepts most r a ps).0 v in inr (none_untaken h.0, inr (λ x. omega (arith, h.1), inr (two ps v, refl)))

  -- The strict check's number, 0 where it accepts; and what the place of 12 is: the lowest such place.

  pub check_exactly : (n : ℕ) → (verdict_number (verdict most r a) ≡ n) ↔ FirstRowMet (check_rows most r a) n
  check_exactly = given_exactly (check_rows most r a) (verdict_number (verdict most r a)) given

  pub lowest_untaken : (p : ℕ) → verdict most r a ≡ check_refused 12 p → Untaken r a p × ((q : ℕ) → Untaken r a q → p ≤ q)
  lowest_untaken p v =
      let s = (refused_12_lowest most r a p).0 v in
      (untaken p s, λ q u. s.least q u.0 ((magic_words r q).1 u.1) ((taken_words (plain_listing r a) q).1 u.2))

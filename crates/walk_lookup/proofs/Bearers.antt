-- The bearers of a name in a listing: the first, the only one, two, none.
use Prim.Native.Nat.{ℕ, ◌≤◌}
use native.Mathlib.Omega.{arith}
use mathlib.Core.Path.{◌≡◌, refl, sym, ap, ◌∙◌}
use mathlib.Core.List.{List, [], ◌∷◌, ◌++◌, Memᴰ}
use mathlib.Core.Logic.{◌↔◌}
use mathlib.Core.Bool.{true, false, true≢false}
use lib.ListN.{length}
use Rattle.bytes_read.specs.Lists.{filter}
use Rattle.bytes_read.proofs.SameBytes.{eq_true, eq_refl}
use Rattle.bytes_read.proofs.Tested.{FirstFiltered, first_filtered, filtered_more, filter_empty}
use Rattle.walk.specs.Walk.{Entry}
use Rattle.walk_lookup.specs.Lookup.{lookup_refused, lookup_gives, bears, first_or_refused, only_or_refused, NoBearer, FirstBearer, OnlyBearer, TwoBearers}

-- To bear a name is to have it, byte for byte.

pub bears_name_lem : (name : List ℕ) (e : Entry) → bears name e ≡ true → e.component.name ≡ name
unfolding bears
bears_name_lem name e b = eq_true e.component.name name b

pub name_bears : (name : List ℕ) (e : Entry) → e.component.name ≡ name → bears name e ≡ true
unfolding bears
name_bears name e q = rw q (eq_refl name)

-- By the test: no component has the name, and the first that does.

no_bearer : (name : List ℕ) (l : List Entry) → ((x : Entry) → Memᴰ x l → bears name x ≡ false) → NoBearer l name
no_bearer name l h t (m, e) = true≢false (sym (name_bears name t e) ∙ h t m)

abbrev first_of : (name : List ℕ) (l : List Entry) (e : Entry) (ts : List Entry) → FirstFiltered (bears name) l e ts → FirstBearer name l e
first_of name l e ts f =
    record { before = f.before; after = f.after; split = f.split; named = bears_name_lem name e f.passed; none_before = no_bearer name f.before f.none }

pub first_bearer : (name : List ℕ) (l : List Entry) (e : Entry) → first_or_refused (filter (bears name) l) ≡ lookup_gives e → FirstBearer name l e
unfolding first_or_refused
first_bearer name l e q = go (filter (bears name) l) refl q
  where
    go : (k : List Entry) → filter (bears name) l ≡ k → first_or_refused k ≡ lookup_gives e → FirstBearer name l e
    go [] p g = let z : ◌≡◌ {A = ℕ} 0 1 = cc in absurd (omega arith)
    go (t ∷ ts) p g =
        let s : t ≡ e = cc in
        let f = first_filtered (bears name) l e ts (rw s at p) in
        first_of name l e ts f

-- Guarded lookup: the only bearer, 10 where no component has the name, 11 where two do.

pub only_bearer : (name : List ℕ) (l : List Entry) (e : Entry) → only_or_refused (filter (bears name) l) ≡ lookup_gives e → OnlyBearer name l e
unfolding only_or_refused
only_bearer name l e q = go (filter (bears name) l) refl q
  where
    go : (k : List Entry) → filter (bears name) l ≡ k → only_or_refused k ≡ lookup_gives e → OnlyBearer name l e
    go [] p g = let z : ◌≡◌ {A = ℕ} 0 1 = cc in absurd (omega arith)
    go (t ∷ []) p g =
        let s : t ≡ e = cc in
        let f = first_filtered (bears name) l e [] (rw s at p) in
        record { first = first_of name l e [] f; none_after = no_bearer name f.after (filter_empty (bears name) f.after f.others) }
    go (t ∷ u ∷ us) p g = let z : ◌≡◌ {A = ℕ} 0 1 = cc in absurd (omega arith)

pub two_bearers : (name : List ℕ) (l : List Entry) → (only_or_refused (filter (bears name) l) ≡ lookup_refused 11) ↔ TwoBearers name l
unfolding only_or_refused
two_bearers name l = (λ e. there (filter (bears name) l) refl e, λ w. back w (filter (bears name) l) refl)
  where
    there : (k : List Entry) → filter (bears name) l ≡ k → only_or_refused k ≡ lookup_refused 11 → TwoBearers name l
    there [] p g = let z : lookup_refused 10 ≡ lookup_refused 11 = g in let q : ◌≡◌ {A = ℕ} 10 11 = cc in absurd (omega arith)
    there (t ∷ []) p g = let z : ◌≡◌ {A = ℕ} 0 1 = cc in absurd (omega arith)
    there (t ∷ u ∷ us) p g =
        let f = first_filtered (bears name) l t (u ∷ us) p in
        let h = first_filtered (bears name) f.after u us f.others in (
          record {
            before = f.before;
            one = t;
            between = h.before;
            other = u;
            after = h.after;
            split = f.split ∙ ap (λ (ys : List Entry). f.before ++ (t ∷ ys)) h.split;
            same = bears_name_lem name t f.passed ∙ sym (bears_name_lem name u h.passed);
          },
          bears_name_lem name t f.passed,
        )

    many : (w : TwoBearers name l) → 2 ≤ length (filter (bears name) l)
    many (w, e) = rw w.split (omega (
      arith,
      filtered_more (bears name) w.before w.one (w.between ++ (w.other ∷ w.after)) (name_bears name w.one e),
      filtered_more (bears name) w.between w.other w.after (name_bears name w.other (sym w.same ∙ e)),
    ))

    back : TwoBearers name l → (k : List Entry) → filter (bears name) l ≡ k → only_or_refused k ≡ lookup_refused 11
    back w [] p = absurd (omega (arith, many w, ap length p))
    back w (t ∷ []) p = absurd (omega (arith, many w, ap length p))
    back w (t ∷ u ∷ us) p = refl

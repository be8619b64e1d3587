-- From the pass over a region's bytes to the directory that is answered.
use Prim.Native.Nat.{ℕ, zero, suc, ◌≤◌, ◌<◌}
use native.Mathlib.Nat.{le_of_suc-le-suc}
use native.Mathlib.Omega.{arith}
use mathlib.Core.Path.{◌≡◌, refl, sym, ap, subst, ◌∙◌}
use mathlib.Core.Bool.{true, false}
use mathlib.Core.List.{List, [], ◌∷◌, ◌++◌, Memᴰ}
use lib.ListN.{length, take, drop, get_or, length-map, length-append, get_or-append}
use lib.Seq.{take_at}
use Rattle.walk.specs.Walk.{Entry, plain_listing}
use Rattle.walk.proofs.Members.{given}
use Rattle.strict_rules.specs.Strict.{component_limit, distinct_names, component_places, Verdict, check_refused, check_accepted, untaken_places, verdict}
use Rattle.strict_check.specs.StrictCheck.{zero_places, directory_answer, check_summary, stored_places, IsStored, NameDigests, entry_place, entry_digest}
use Rattle.strict_check.specs.StrictCheck.{store_all, Scanned}
use Rattle.strict_check.specs.StrictCheck.{distinct_names_at}
use Rattle.std.specs.Prelude.{Result, Ok, Err}
use Rattle.cbfs_types.specs.declared.Refusal.{Refusal}
use Rattle.region.specs.Region.{refusal_in}
use Rattle.strict_rules.proofs.Verdicts.{refused_13, refused_11, accepts, accepted_exactly}
use Rattle.strict_check.proofs.Names.{digests_listed, distinct_listed}
use Rattle.strict_check.proofs.Directories.{fill_over, shifted_to, shifted_padded}

-- Where every component of a listing stands below m, so do the places one by one.
place_below : (m : ℕ) (l : List Entry) → ((e : Entry) → Memᴰ e l → e.place < m) → (k : ℕ) → k < length l → get_or (component_places l) k 0 < m
place_below m [] h k q = absurd (omega arith)
place_below m (e ∷ l) h zero q = h e (Memᴰ.head refl)
place_below m (e ∷ l) h (suc k) q = place_below m l (λ x t. h x (Memᴰ.tail t)) k (le_of_suc-le-suc q)

-- s is the region's start, d what the lent array held, d' what it holds after the pass; e and e' the same of the array of digests.
pub passed_at : {r r' : List ℕ} {a : ℕ} {d d' e e' : List ℕ} {p : Result ℕ ℕ} → r ≡ r' → Scanned r a d d' e e' p → Scanned r' a d d' e e' p
passed_at {a = a} {d = d} {d' = d'} {e = e} {e' = e'} {p = p} q y = subst (λ (x : List ℕ). Scanned x a d d' e e' p) q y

-- Of n components, where none is untaken.
module _ {r : List ℕ} {a : ℕ} {d d' e e' : List ℕ} {p : Result ℕ ℕ} (scanned : Scanned r a d d' e e' p) (n : ℕ) (is : p ≡ Ok n) (most : ℕ) where
  says : (untaken_places r a ≡ []) × (n ≡ length (plain_listing r a))
      × (d' ≡ store_all entry_place d 0 (plain_listing r a)) × (e' ≡ store_all entry_digest e 0 (plain_listing r a))
  says = scanned.none_untaken n is

  pub refused_many : most < n → verdict most r a ≡ check_refused 13 0
  refused_many m = (refused_13 most r a).1 (says.0, omega (arith, m, says.1))

  module _ (few : n ≤ most) (long : most ≤ length d) where
    counted : n ≡ length (component_places (plain_listing r a))
    counted = says.1 ∙ sym (length-map (plain_listing r a) (λ t. t.place))

    places_are : d' ≡ component_places (plain_listing r a) ++ drop (length (component_places (plain_listing r a))) d
    places_are =
        says.2 ∙ fill_over entry_place d (plain_listing r a) (omega (arith, few, long, says.1))
        ∙ ap (λ (m : ℕ). component_places (plain_listing r a) ++ drop m d) (sym (length-map (plain_listing r a) (λ t. t.place)))

    in_use : take n d' ≡ component_places (plain_listing r a)
    in_use = rw places_are (take_at (component_places (plain_listing r a)) _ n (sym counted))

    pub digests_are : most ≤ length e → NameDigests r d' n e'
    digests_are wide =
        digests_listed r a n _ _ says.1 places_are (says.3 ∙ fill_over entry_digest e (plain_listing r a) (omega (arith, few, wide, says.1)))

    pub distinct_said : distinct_names_at r (take n d') ≡ distinct_names (plain_listing r a)
    distinct_said = ap (distinct_names_at r) in_use ∙ distinct_listed r a

    pub refused_same_name : distinct_names (plain_listing r a) ≡ false → verdict most r a ≡ check_refused 11 0
    refused_same_name t = (refused_11 most r a).1 (says.0, omega (arith, few, says.1), t)

    module _ (t : distinct_names (plain_listing r a) ≡ true) where
      fine : verdict most r a ≡ check_accepted (component_places (plain_listing r a))
      fine = (accepts most r a (component_places (plain_listing r a))).1 (says.0, omega (arith, few, says.1), t, refl)

      pub accepted_counted : (s : ℕ) → Ok n ≡ check_summary s (verdict most r a)
      accepted_counted s = rw fine (ap Ok counted)

      pub accepted_stored : IsStored d d' (verdict most r a)
      accepted_stored = rw fine places_are

-- A refusal.

pub refused_so : (s n p : ℕ) {v : Verdict} {x : Refusal} → v ≡ check_refused n p → x ≡ refusal_in s n p → Err x ≡ check_summary s v
refused_so s n p e f = rw (e, f)

pub refused_keeps : (d d' : List ℕ) (n p : ℕ) {v : Verdict} → v ≡ check_refused n p → length d' ≡ length d → IsStored d d' v
refused_keeps d d' n p e l = rw e l

-- The answer of `check_into`, its places and the directory.

pub check_into_fine : (r : List ℕ) (a s n : ℕ) → Ok n ≡ check_summary s (verdict component_limit r a)
    → (verdict component_limit r a ≡ check_accepted (component_places (plain_listing r a))) × (n ≡ length (component_places (plain_listing r a)))
check_into_fine r a s n e = go (verdict component_limit r a) refl e
  where
    go : (v : Verdict) → verdict component_limit r a ≡ v → Ok n ≡ check_summary s v
        → (v ≡ check_accepted (component_places (plain_listing r a))) × (n ≡ length (component_places (plain_listing r a)))
    go (check_refused m p) w z = let y : ◌≡◌ {A = ℕ} 0 1 = cc in absurd (omega arith)
    go (check_accepted ps) w z = let f = (accepted_exactly r a ps).0 w in let y : n ≡ length ps = cc in (ap check_accepted f.1, y ∙ ap length f.1)

-- The places that `check_into` stores over zeros, and the same counted from s: the directory's.
module _ (r : List ℕ) (a s n : ℕ) where
  pub count_fits_lem : (v : Verdict) → Ok n ≡ check_summary s v → n ≤ length (stored_places (zero_places component_limit) v)
  count_fits_lem (check_refused m p) e = let y : ◌≡◌ {A = ℕ} 0 1 = cc in absurd (omega arith)
  count_fits_lem (check_accepted ps) e = let y : n ≡ length ps = cc in simp length-append (omega (arith, y))

  pub place_inside : (v : Verdict) → verdict component_limit r a ≡ v → Ok n ≡ check_summary s v → (k : ℕ) → k < n
      → get_or (stored_places (zero_places component_limit) v) k 0 < length r
  place_inside (check_refused m p) e z k h = let y : ◌≡◌ {A = ℕ} 0 1 = cc in absurd (omega arith)
  place_inside (check_accepted ps) e z k h =
      let y : n ≡ length ps = cc in
      let q = ((accepted_exactly r a ps).0 e).1 in
      let m : k < length (plain_listing r a) = omega (arith, h, y, ap length q, length-map (plain_listing r a) (λ t. t.place)) in
      let g : get_or (ps ++ drop (length ps) (zero_places component_limit)) k 0 ≡ get_or (component_places (plain_listing r a)) k 0
      = get_or-append ps _ 0 k (omega (arith, h, y)) ∙ ap (λ (x : List ℕ). get_or x k 0) q in
      omega (arith, g, place_below (length r) (plain_listing r a) (λ t m. (given false r a t m).inside) k m)

  -- The directory of so many places stored over zeros.
  pub directory_from_start : (v : Verdict) → Ok n ≡ check_summary s v
      → Ok (record { count = n; places = shifted_to s (stored_places (zero_places component_limit) v) n }) ≡ directory_answer component_limit s v
  directory_from_start (check_refused m p) e = let y : ◌≡◌ {A = ℕ} 0 1 = cc in absurd (omega arith)
  directory_from_start (check_accepted ps) e =
      let y : n ≡ length ps = cc in
      rw y (ap (λ (x : List ℕ). Ok (record { count = length ps; places = x })) (shifted_padded component_limit s ps))

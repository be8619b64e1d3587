-- The pass over a region, from one magic to the next: what is known at a place, and what follows from the judge's answer there.
use Prim.Native.Nat.{ℕ, ◌+◌, ◌≤◌, ◌<◌}
use native.Mathlib.Nat.{zero-add}
use native.Mathlib.Omega.{arith}
use mathlib.Core.Path.{◌≡◌, refl, sym, ap, ◌∙◌}
use mathlib.Core.List.{List, [], ◌∷◌, ◌++◌}
use Rattle.std.specs.Prelude.{Ok, Err, Some, None}
use lib.ListN.{length, drop, set, length-append, length-set}
use Rattle.bytes_read.specs.Bytes.{part_of}
use Rattle.component.specs.Component.{Component, span_length, judge, judged, header_of, name_of}
use Rattle.cbfs_types.specs.declared.Header.{Header}
use Rattle.component.proofs.Judging.{judged_some, judged_none, part_name}
use Rattle.walk.specs.Walk.{Entry, next_magic, next_place, plain_listing}
use Rattle.walk.proofs.Stepping.{header_fits}
use Rattle.strict_rules.specs.Strict.{untaken_places, check_refused, verdict}
use Rattle.strict_check.specs.StrictCheck.{digest_of, entry_place, entry_digest, store_all, Scanned}
use Rattle.strict_check.proofs.Checking.{Checked, checked_start, checked_ill, checked_inside, checked_on, checked_later, checked_end}
use Rattle.strict_check.proofs.Directories.{fill_snoc}

-- d, which held d₀, holds what f says of the entries.

abbrev Stored : (Entry → ℕ) → List ℕ → List ℕ → List Entry → Type 0
Stored f d₀ d l = (d ≡ store_all f d₀ 0 l) × (length d ≡ length d₀)

store_next : (f : Entry → ℕ) (d₀ d d' : List ℕ) (l : List Entry) (t : Entry) (n v : ℕ) → Stored f d₀ d l → n ≡ length l → v ≡ f t → d' ≡ set d n v
    → Stored f d₀ d' (l ++ (t ∷ []))
store_next f d₀ d d' l t n v s c q e = (
  e ∙ rw (s.0, c, q) (ap (λ (x : ℕ). set (store_all f d₀ 0 l) x (f t)) (sym (zero-add (length l)))) ∙ sym (fill_snoc f d₀ 0 l t),
  ap length e ∙ length-set d n v ∙ s.1,
)

-- Before p all is taken: n components. Their places are stored in d, which held d₀, and the digests of their names in e, which held e₀.
pub record Scanning (r : List ℕ) (a : ℕ) (d₀ d e₀ e : List ℕ) (n p : ℕ) : Type 0 where
  pub done : List Entry
  pub checked : Checked r a done p
  pub count : n ≡ length done
  pub stored : Stored entry_place d₀ d done
  pub digested : Stored entry_digest e₀ e done

-- The answer of the pass.

pub untaken_at : {r : List ℕ} {a : ℕ} {d d' e e' : List ℕ} {p : ℕ} → ((most : ℕ) → verdict most r a ≡ check_refused 12 p) × (p < length r)
    → Scanned r a d d' e e' (Err p)
untaken_at {r} {a} {d} {d'} {e} {e'} {p} h = record {
  untaken = λ q s. let y : p ≡ q = cc in rw (← y) h;
  none_untaken = λ n s. let z : ◌≡◌ {A = ℕ} 0 1 = cc in absurd (omega arith);
}

pub none_untaken_lem : {r : List ℕ} {a : ℕ} {d d' e e' : List ℕ} {n : ℕ} → (untaken_places r a ≡ []) × (n ≡ length (plain_listing r a))
    × (d' ≡ store_all entry_place d 0 (plain_listing r a)) × (e' ≡ store_all entry_digest e 0 (plain_listing r a)) → Scanned r a d d' e e' (Ok n)
none_untaken_lem {r} {a} {d} {d'} {e} {e'} {n} h = record {
  untaken = λ q s. let z : ◌≡◌ {A = ℕ} 0 1 = cc in absurd (omega arith);
  none_untaken = λ m s. let y : n ≡ m = cc in rw (← y) h;
}

pub scan_start : (r : List ℕ) (a : ℕ) (d e : List ℕ) (p : ℕ) → p ≡ next_magic r a 0 (length r) → Scanning r a d d e e 0 p
unfolding store_all
scan_start r a d e p q = record { done = []; checked = checked_start r a p q; count = refl; stored = (refl, refl); digested = (refl, refl) }

module _ {r : List ℕ} {a : ℕ} {d₀ d e₀ e : List ℕ} {n p : ℕ} (inv : Scanning r a d₀ d e₀ e n p) where
  pub scan_at_most : n ≤ p
  scan_at_most = omega (arith, inv.count, inv.checked.counted)

  pub scan_end : length r ≤ p → (untaken_places r a ≡ []) × (n ≡ length (plain_listing r a))
      × (d ≡ store_all entry_place d₀ 0 (plain_listing r a)) × (e ≡ store_all entry_digest e₀ 0 (plain_listing r a))
  scan_end h =
      let q = checked_end r a inv.done p inv.checked h in
      rw q.1 (q.0, inv.count, inv.stored.0, inv.digested.0)

  module _ (inside : p < length r) where
    pub scan_ill : judged (judge (drop p r)) ≡ None → (most : ℕ) → verdict most r a ≡ check_refused 12 p
    scan_ill s = checked_ill r a inv.done p inv.checked inside (judged_none (judge (drop p r)) s)

    module _ {h : Header} (said : judged (judge (drop p r)) ≡ Some h) where
      ends : (c : Component) → header_of c ≡ h → p + (h.offset + h.len) ≡ p + span_length c
      ends c q = ap (λ (x : Header). p + (x.offset + x.len)) (sym q)

      pub scan_inside : (q : ℕ) → q ≡ next_magic r a (p + a) (p + (h.offset + h.len)) → q < p + (h.offset + h.len)
          → ((most : ℕ) → verdict most r a ≡ check_refused 12 q) × (q < length r)
      scan_inside q f l = let (c, j, e) = judged_some (judge (drop p r)) h said in
          (checked_inside r a inv.done p inv.checked inside c j (p + (h.offset + h.len)) (ends c e) q f l, omega (arith, l, (header_fits r p h said).1))

      pub scan_on : (q m p' : ℕ) (d' e' : List ℕ) → q ≡ next_magic r a (p + a) (p + (h.offset + h.len)) → p + (h.offset + h.len) ≤ q
          → m ≡ next_place r a (p + (h.offset + h.len)) → p' ≡ next_magic r a m (length r)
          → d' ≡ set d n p → e' ≡ set e n (digest_of (part_of (drop p r) 24 h.namelen)) → Scanning r a d₀ d' e₀ e' (n + 1) p'
      scan_on q m p' d' e' f l g k s z = let (c, j, y) = judged_some (judge (drop p r)) h said in go c j y
        where
          go : (c : Component) → judge (drop p r) ≡ Some c → header_of c ≡ h → Scanning r a d₀ d' e₀ e' (n + 1) p'
          go c j y =
              let t : Entry = record { place = p; component = c } in
              let end : ℕ = p + (h.offset + h.len) in
              let next = k ∙ ap (λ (x : ℕ). next_magic r a x (length r)) g in
              let name = part_name (drop p r) h said ∙ ap name_of j in
              record {
                done = inv.done ++ (t ∷ []);
                checked = checked_on r a inv.done p inv.checked inside c j end (ends c y) (omega (arith, f, l)) p' next;
                count = simp length-append (omega (arith, inv.count));
                stored = store_next entry_place d₀ d d' inv.done t n p inv.stored inv.count refl s;
                digested = store_next entry_digest e₀ e e' inv.done t n _ inv.digested inv.count (ap digest_of name) z;
              }

      -- The pass goes on behind p.
      pub scan_later : (m p' : ℕ) → m ≡ next_place r a (p + (h.offset + h.len)) → p' ≡ next_magic r a m (length r) → p < p'
      scan_later m p' g k =
          let (c, j, e) = judged_some (judge (drop p r)) h said in
          let q : p' ≡ next_magic r a (next_place r a (p + (h.offset + h.len))) (length r) = k ∙ ap (λ (x : ℕ). next_magic r a x (length r)) g in
          omega (arith, q, checked_later r a inv.done p inv.checked inside c j (p + (h.offset + h.len)) (ends c e))

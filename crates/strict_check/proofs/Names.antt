-- Names distinguished: the components at a run of places are looked at one by one, their digests first.
use Prim.Native.Nat.{ℕ, zero, suc, ◌+◌, ◌-◌, ◌*◌, ◌/◌, ◌%◌, ◌≤◌, ◌<◌}
use native.Mathlib.Nat.{sub-zero, mod-eq_of_lt, div-eq_of_lt, add-mul-div_right, add-mul-mod_self_right}
use native.Mathlib.Numerals.{add-one}
use native.Mathlib.Omega.{arith}
use mathlib.Core.Path.{◌≡◌, refl, sym, ap, ◌∙◌}
use mathlib.Core.List.{List, [], ◌∷◌, ◌++◌, map, Memᴰ}
use mathlib.Core.Bool.{Bool, true, false, not, ◌&&◌, ◌||◌, true≢false}
use Rattle.std.specs.Prelude.{Option, Some, None}
use lib.ListN.{length, take, drop, get_or, length-append, length-map, length-drop}
use lib.Dec.{eqb}
use borrow.Author.Tests.{eq-eqb, ne_eqb}
use lib.Seq.{drop-cons, get_or-drop}
use Rattle.bytes_read.specs.Number.{le}
use Rattle.bytes_read.specs.Bytes.{eq_bytes}
use Rattle.bytes_read.proofs.SameBytes.{eq_true}
use Rattle.component.specs.Component.{Component, judge_numbers, name_of, bears_name}
use Rattle.component.proofs.Judging.{judge_by_numbers}
use Rattle.bytes_read.specs.Lists.{any, no_two}
use Rattle.walk.specs.Walk.{Entry, plain_listing}
use Rattle.walk_lookup.specs.Lookup.{bears}
use Rattle.walk.proofs.Members.{given}
use Rattle.strict_rules.specs.Strict.{distinct_names, component_places}
use Rattle.strict_check.specs.StrictCheck.{name_by_numbers, hash_step, digest_from, digest_of, entry_digest, NameDigests, has_name, distinct_names_at}

-- A window of a list, from k up to n.

pub window_cons : (ps : List ℕ) (k n : ℕ) → k < n → n ≤ length ps → take (n - k) (drop k ps) ≡ get_or ps k 0 ∷ take (n - (k + 1)) (drop (k + 1) ps)
window_cons ps k n h l =
    let e : n - k ≡ suc (n - (k + 1)) = omega arith in
    rw (e, drop-cons ps k 0 (omega arith), add-one k)

pub window_end : (ps : List ℕ) (k n : ℕ) → n ≤ k → take (n - k) (drop k ps) ≡ []
window_end ps k n h = let e : n - k ≡ 0 = omega arith in rw e

-- Does one of them bear the name?

pub any_here : (f : ℕ → Bool) (ps : List ℕ) (k n : ℕ) → k < n → n ≤ length ps → f (get_or ps k 0) ≡ true → any f (take (n - k) (drop k ps)) ≡ true
any_here f ps k n h l y = rw (window_cons ps k n h l, y)

pub any_on : (f : ℕ → Bool) (ps : List ℕ) (k n : ℕ) → k < n → n ≤ length ps → f (get_or ps k 0) ≡ false
    → any f (take (n - k) (drop k ps)) ≡ any f (take (n - (k + 1)) (drop (k + 1) ps))
any_on f ps k n h l y = rw (window_cons ps k n h l, y)

pub any_end : (f : ℕ → Bool) (ps : List ℕ) (k n : ℕ) → n ≤ k → any f (take (n - k) (drop k ps)) ≡ false
any_end f ps k n h = rw (window_end ps k n h)

-- The same where the search goes on after it has found one: b says whether it has.

abbrev pub among : ℕ → List ℕ → Bool
among asked l = any (λ d. eqb d asked) l

module _ (asked : ℕ) (l : List ℕ) (k n : ℕ) (b : Bool) where
  pub found_here : k < n → n ≤ length l → get_or l k 0 ≡ asked → (b || among asked (take (n - k) (drop k l))) ≡ true
  found_here h m e = rw (any_here (λ d. eqb d asked) l k n h m (eq-eqb (get_or l k 0) asked e)) (go b)
    where
      go : (x : Bool) → (x || true) ≡ true
      go true = refl
      go false = refl

  pub found_on : k < n → n ≤ length l → (get_or l k 0 ≡ asked → ⊥)
      → (b || among asked (take (n - k) (drop k l))) ≡ (b || among asked (take (n - (k + 1)) (drop (k + 1) l)))
  found_on h m e = rw (any_on (λ d. eqb d asked) l k n h m (ne_eqb (get_or l k 0) asked e))

  pub found_end : n ≤ k → (b || among asked (take (n - k) (drop k l))) ≡ b
  found_end h = rw (any_end (λ d. eqb d asked) l k n h) (go b)
    where
      go : (x : Bool) → (x || false) ≡ x
      go true = refl
      go false = refl

-- Where no second test passes, and the first passes only where the second does, the first does not pass either.
pub any_less : (f g : ℕ → Bool) (ps ds : List ℕ) (n : ℕ) → n ≤ length ps → n ≤ length ds
    → ((j : ℕ) → j < n → g (get_or ds j 0) ≡ false → f (get_or ps j 0) ≡ false)
    → (d k : ℕ) → k + d ≡ n → any g (take (n - k) (drop k ds)) ≡ false → any f (take (n - k) (drop k ps)) ≡ false
any_less f g ps ds n l m h zero k e q = any_end f ps k n (omega arith)
any_less f g ps ds n l m h (suc d) k e q = go (g (get_or ds k 0)) refl (any_less f g ps ds n l m h d (k + 1) (omega arith))
  where
    go : (b : Bool) → g (get_or ds k 0) ≡ b → (any g (take (n - (k + 1)) (drop (k + 1) ds)) ≡ false → any f (take (n - (k + 1)) (drop (k + 1) ps)) ≡ false)
        → any f (take (n - k) (drop k ps)) ≡ false
    go true y ih = absurd (true≢false (sym (any_here g ds k n (omega arith) m y) ∙ q))
    go false y ih = any_on f ps k n (omega arith) l (h k (omega arith) y) ∙ ih (sym (any_on g ds k n (omega arith) m y) ∙ q)

-- Are their names distinct?

no_two_tail : (t : ℕ → ℕ → Bool) (x : ℕ) (l : List ℕ) → no_two t l ≡ false → no_two t (x ∷ l) ≡ false
unfolding no_two
no_two_tail t x l e = rw e (go (not (any (t x) l)))
  where
    go : (b : Bool) → (b && false) ≡ false
    go true = refl
    go false = refl

pub distinct_not : (r ps : List ℕ) (i n : ℕ) → i < n → n ≤ length ps
    → any (has_name r (name_by_numbers r (get_or ps i 0))) (take (n - (i + 1)) (drop (i + 1) ps)) ≡ true → distinct_names_at r (take (n - i) (drop i ps))
    ≡ false
unfolding no_two
distinct_not r ps i n h l y = rw (window_cons ps i n h l, y)

pub distinct_on : (r ps : List ℕ) (i n : ℕ) → i < n → n ≤ length ps
    → any (has_name r (name_by_numbers r (get_or ps i 0))) (take (n - (i + 1)) (drop (i + 1) ps)) ≡ false
    → distinct_names_at r (take (n - i) (drop i ps)) ≡ distinct_names_at r (take (n - (i + 1)) (drop (i + 1) ps))
unfolding no_two
distinct_on r ps i n h l y = rw (window_cons ps i n h l, y)

pub distinct_end : (r ps : List ℕ) (i n : ℕ) → n ≤ i → distinct_names_at r (take (n - i) (drop i ps)) ≡ true
unfolding no_two
distinct_end r ps i n h = rw (window_end ps i n h)

-- Where two from i on have the same name, two of all have.
pub distinct_before : (r ps : List ℕ) (n : ℕ) → n ≤ length ps → (i : ℕ) → i ≤ n → distinct_names_at r (take (n - i) (drop i ps)) ≡ false
    → distinct_names_at r (take n ps) ≡ false
distinct_before r ps n l zero h e = rw sub-zero at e
distinct_before r ps n l (suc i) h e =
    let two = no_two_tail (λ p. has_name r (name_by_numbers r p)) (get_or ps i 0) _ e in
    distinct_before r ps n l i (omega arith) (rw (window_cons ps i n h l, add-one i) two)

-- The names at the places are distinct exactly if those of the listing are.

-- Components whose headers' numbers stand at their places. Where the listing has a component, they do.
abbrev pub Judged : List ℕ → List Entry → Type 0
Judged r l = (e : Entry) → Memᴰ e l → judge_numbers (drop e.place r) ≡ Some e.component

pub listed : (r : List ℕ) (a : ℕ) → Judged r (plain_listing r a)
listed r a e m = judge_by_numbers (drop e.place r) e.component (given false r a e m).judged

pub same_any : (r name : List ℕ) (l : List Entry) → Judged r l → any (has_name r name) (component_places l) ≡ any (bears name) l
unfolding has_name bears
same_any r name [] j = refl
same_any r name (e ∷ l) j = rw (j e (Memᴰ.head refl), same_any r name l (λ x m. j x (Memᴰ.tail m)))

same_distinct : (r : List ℕ) (l : List Entry) → Judged r l → distinct_names_at r (component_places l) ≡ distinct_names l
unfolding no_two
same_distinct r [] j = refl
same_distinct r (e ∷ l) j =
    let k : Judged r l = λ x m. j x (Memᴰ.tail m) in
    rw (j e (Memᴰ.head refl), same_any r e.component.name l k, same_distinct r l k)

pub distinct_listed : (r : List ℕ) (a : ℕ) → distinct_names_at r (component_places (plain_listing r a)) ≡ distinct_names (plain_listing r a)
distinct_listed r a = same_distinct r (plain_listing r a) (listed r a)

-- The digest, word by word: m bytes are left from i on.

pub digest_on : (s : List ℕ) (m i h : ℕ) → 8 ≤ m → digest_from (m / 8) h s i ≡ digest_from ((m - 8) / 8) (hash_step h (le 8 s i)) s (i + 8)
unfolding digest_from
digest_on s m i h l = let e : m / 8 ≡ suc ((m - 8) / 8) = omega arith in rw e

-- Counted from a later byte on.

le_drop : (w : ℕ) (s : List ℕ) (k i : ℕ) → le w s (k + i) ≡ le w (drop k s) i
unfolding le
le_drop zero s k i = refl
le_drop (suc w) s k i =
    let e : k + i + 1 ≡ k + (i + 1) = omega arith in
    rw (e, le_drop w s k (i + 1), get_or-drop k s i 0)

digest_drop : (n h : ℕ) (s : List ℕ) (k i : ℕ) → digest_from n h s (k + i) ≡ digest_from n h (drop k s) i
unfolding digest_from
digest_drop zero h s k i = ap (hash_step h) (le_drop 8 s k i)
digest_drop (suc n) h s k i =
    let e : k + i + 8 ≡ k + (i + 8) = omega arith in
    rw (e, le_drop 8 s k i) (digest_drop n (hash_step h (le 8 (drop k s) i)) s k (i + 8))

pub digest_end : (s : List ℕ) (m i h : ℕ) → m < 8 → digest_from (m / 8) h s i ≡ hash_step h (le 8 s i)
unfolding digest_from
digest_end s m i h l = let e : m / 8 ≡ 0 = omega arith in rw e

-- Two words at a step.

pub digest_two : (s : List ℕ) (m i h : ℕ) → 16 ≤ m
    → digest_from (m / 8) h s i ≡ digest_from ((m - 16) / 8) (hash_step (hash_step h (le 8 s i)) (le 8 s (i + 8))) s (i + 16)
digest_two s m i h l =
    let e : m - 8 - 8 ≡ m - 16 = omega arith in
    let f : i + 8 + 8 ≡ i + 16 = omega arith in
    digest_on s m i h (omega arith) ∙ digest_on s (m - 8) (i + 8) (hash_step h (le 8 s i)) (omega arith) ∙ rw (e, f)

-- One word taken off the front, and two.

pub digest_front : (s : List ℕ) (h : ℕ) → 8 ≤ length s
    → digest_from (length s / 8) h s 0 ≡ digest_from (length (drop 8 s) / 8) (hash_step h (le 8 s 0)) (drop 8 s) 0
digest_front s h l = digest_on s (length s) 0 h l ∙ rw (length-drop 8 s) (digest_drop ((length s - 8) / 8) (hash_step h (le 8 s 0)) s 8 0)

pub digest_front_two : (s : List ℕ) (h : ℕ) → 16 ≤ length s
    → digest_from (length s / 8) h s 0 ≡ digest_from (length (drop 16 s) / 8) (hash_step (hash_step h (le 8 s 0)) (le 8 s 8)) (drop 16 s) 0
digest_front_two s h l =
    digest_two s (length s) 0 h l ∙ rw (length-drop 16 s) (digest_drop ((length s - 16) / 8) (hash_step (hash_step h (le 8 s 0)) (le 8 s 8)) s 16 0)

-- The remainder may be left until after the second word.
pub hash_twice : (h a b c d : ℕ)
    → (h * 923521 + (a * 31 + b) * 961 + c * 31 + d) % 4294967296 ≡ ((h * 961 + a * 31 + b) % 4294967296 * 961 + c * 31 + d) % 4294967296
hash_twice h a b c d =
    let x = h * 961 + a * 31 + b in
    let y = x % 4294967296 * 961 + c * 31 + d in
    let e : h * 923521 + (a * 31 + b) * 961 + c * 31 + d ≡ y + x / 4294967296 * 961 * 4294967296 = omega arith in
    ap (λ (n : ℕ). n % 4294967296) e ∙ add-mul-mod_self_right y (x / 4294967296 * 961) 4294967296

-- A word as its two halves.
pub hash_halves : (h a b : ℕ) → a < 4294967296 → hash_step h (a + b * 4294967296) ≡ (h * 961 + a * 31 + b) % 4294967296
hash_halves h a b l =
    let low : (a + b * 4294967296) % 4294967296 ≡ a = add-mul-mod_self_right a b 4294967296 ∙ mod-eq_of_lt l in
    let high : (a + b * 4294967296) / 4294967296 ≡ b = add-mul-div_right a b (omega arith) ∙ rw (div-eq_of_lt l) (omega arith) in
    rw (low, high)

-- The digests of a listing's names are those of the names at its places.
digests_at : (r x y : List ℕ) (l : List Entry) → Judged r l → (k : ℕ) → k < length l
    → get_or (map entry_digest l ++ x) k 0 ≡ digest_of (name_by_numbers r (get_or (component_places l ++ y) k 0))
digests_at r x y [] j k h = absurd (omega arith)
digests_at r x y (e ∷ l) j zero h = rw (j e (Memᴰ.head refl))
digests_at r x y (e ∷ l) j (suc k) h = digests_at r x y l (λ t m. j t (Memᴰ.tail m)) k (omega arith)

pub digests_listed : (r : List ℕ) (a n : ℕ) {d e : List ℕ} (x y : List ℕ) → n ≡ length (plain_listing r a)
    → d ≡ component_places (plain_listing r a) ++ y → e ≡ map entry_digest (plain_listing r a) ++ x → NameDigests r d n e
digests_listed r a n x y q p s =
    let l = plain_listing r a in
    rw (q, p, s) (record {
      stored = simp (length-append, length-map) (omega arith);
      taken = simp (length-append, length-map) (omega arith);
      each = digests_at r x y l (listed r a);
    })

-- Equal names have equal digests: where the digests differ, the names do.
pub named_not : (r name : List ℕ) (p : ℕ) → (digest_of (name_by_numbers r p) ≡ digest_of name → ⊥) → has_name r name p ≡ false
unfolding has_name
named_not r name p h = go (judge_numbers (drop p r)) h
  where
    by : (c : Component) → (digest_of c.name ≡ digest_of name → ⊥) → (b : Bool) → eq_bytes c.name name ≡ b → b ≡ false
    by c k true e = absurd (k (ap digest_of (eq_true c.name name e)))
    by c k false e = refl

    go : (o : Option Component) → (digest_of (name_of o) ≡ digest_of name → ⊥) → bears_name name o ≡ false
    go None k = refl
    go (Some c) k = by c k (eq_bytes c.name name) refl

-- Where no digest from k up to n agrees, no name does.
pub none_shared : (r places l name : List ℕ) (k n asked : ℕ) → k ≤ n → NameDigests r places n l → asked ≡ digest_of name
    → any (λ d. eqb d asked) (take (n - k) (drop k l)) ≡ false → any (has_name r name) (take (n - k) (drop k places)) ≡ false
none_shared r places l name k n asked h d e =
    any_less (has_name r name) (λ x. eqb x asked) places l n d.stored d.taken
    (λ j b q. named_not r name (get_or places j 0) (λ z. true≢false (sym (eq-eqb (get_or l j 0) asked (d.each j b ∙ z ∙ sym e)) ∙ q))) (n - k) k (omega arith)

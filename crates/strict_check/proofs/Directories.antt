-- Laws of the directory: places stored, and places counted from a start.
use Prim.Native.Nat.{ℕ, zero, suc, ◌+◌, ◌-◌, ◌≤◌, ◌<◌}
use native.Mathlib.Nat.{sub-zero, zero-sub, add-zero}
use native.Mathlib.Numerals.{add-one}
use native.Mathlib.Omega.{arith}
use mathlib.Core.Path.{◌≡◌, refl, sym, ap, ◌∙◌}
use mathlib.Core.List.{List, [], ◌∷◌, ◌++◌, map, map-append, append_assoc}
use lib.ListN.{length, take, drop, get_or, set, replicate, length-replicate, length-map, length-append}
use lib.Seq.{take-suc, drop-cons, set_at, get_or_at, length-take-le, take_at, drop-append_seam}
use Rattle.bytes_read.specs.Lists.{padded}
use Rattle.walk.specs.Walk.{Entry}
use Rattle.strict_check.specs.StrictCheck.{zero_places, store_all}

-- What f says of a listing that has room is stored one after the other.

filled : (f : Entry → ℕ) (ps d : List ℕ) (n : ℕ) (l : List Entry) → length ps ≡ n → length l ≤ length d
    → store_all f (ps ++ d) n l ≡ ps ++ (map f l ++ drop (length l) d)
unfolding store_all
filled f ps d n [] e h = refl
filled f ps [] n (t ∷ l) e h = absurd (omega arith)
filled f ps (x ∷ d) n (t ∷ l) e h =
    let s : set (ps ++ (x ∷ d)) n (f t) ≡ (ps ++ (f t ∷ [])) ++ d = set_at ps x d (f t) n e ∙ sym (append_assoc ps (f t ∷ []) d) in
    let longer : length (ps ++ (f t ∷ [])) ≡ n + 1 = simp length-append (omega arith) in
    rw s (filled f (ps ++ (f t ∷ [])) d (n + 1) l longer (omega arith) ∙ append_assoc ps (f t ∷ []) (map f l ++ drop (length l) d))

pub fill_over : (f : Entry → ℕ) (d : List ℕ) (l : List Entry) → length l ≤ length d → store_all f d 0 l ≡ map f l ++ drop (length l) d
fill_over f d l h = filled f [] d 0 l refl h

-- One more is stored after those that are.
pub fill_snoc : (f : Entry → ℕ) (d : List ℕ) (n : ℕ) (l : List Entry) (t : Entry) → store_all f d n (l ++ (t ∷ [])) ≡ set (store_all f d n l) (n + length l)
    (f t)
unfolding store_all
fill_snoc f d n [] t = rw add-zero
fill_snoc f d n (x ∷ l) t = fill_snoc f (set d n (f x)) (n + 1) l t ∙ ap (λ (k : ℕ). set (store_all f (set d n (f x)) (n + 1) l) k (f t)) (omega arith)

-- The first places counted from s.

abbrev pub shifted_to : ℕ → List ℕ → ℕ → List ℕ
shifted_to s d i = map (λ p. s + p) (take i d) ++ drop i d

long : (s : ℕ) (d : List ℕ) (i : ℕ) → i ≤ length d → length (map (λ p. s + p) (take i d)) ≡ i
long s d i h = length-map (take i d) (λ p. s + p) ∙ length-take-le i d h

-- The number at i is still as it was.
pub shifted_at : (s : ℕ) (d : List ℕ) (i : ℕ) → i < length d → get_or (shifted_to s d i) i 0 ≡ get_or d i 0
shifted_at s d i h = rw (drop-cons d i 0 h) (get_or_at (map (λ p. s + p) (take i d)) (get_or d i 0) (drop (suc i) d) 0 i (long s d i (omega arith)))

pub shifted_next : (s : ℕ) (d : List ℕ) (i : ℕ) → i < length d → set (shifted_to s d i) i (s + get_or d i 0) ≡ shifted_to s d (i + 1)
shifted_next s d i h =
    let m = map (λ p. s + p) (take i d) in
    let u : set (m ++ drop i d) i (s + get_or d i 0) ≡ m ++ ((s + get_or d i 0) ∷ drop (suc i) d) =
    rw (drop-cons d i 0 h) (set_at m (get_or d i 0) (drop (suc i) d) (s + get_or d i 0) i (long s d i (omega arith))) in
    u ∙ sym (rw (add-one i, take-suc d i 0 h, map-append (λ p. s + p) (take i d) (get_or d i 0 ∷ []))
    (append_assoc m ((s + get_or d i 0) ∷ []) (drop (suc i) d)))

-- The directory of a listing, counted from s: its places stored over zeros.

zeros_left : (w n : ℕ) → drop {A = ℕ} n (replicate w 0) ≡ replicate (w - n) 0
zeros_left w zero = rw sub-zero
zeros_left zero (suc n) = rw zero-sub
zeros_left (suc w) (suc n) = let e : suc w - suc n ≡ w - n = omega arith in rw e (zeros_left w n)

pub shifted_padded : (most s : ℕ) (ps : List ℕ) → shifted_to s (ps ++ drop (length ps) (zero_places most)) (length ps) ≡ padded most 0 (map (λ p. s + p) ps)
unfolding zero_places padded
shifted_padded most s ps =
    let zeros : List ℕ = drop (length ps) (replicate most 0) in
    rw (take_at ps zeros (length ps) refl, drop-append_seam ps zeros, zeros_left most (length ps), length-map)

-- An array of that width, cleared.
pub zeroed_zeros : (most : ℕ) → replicate (length (zero_places most)) 0 ≡ zero_places most
unfolding zero_places
zeroed_zeros most = ap (λ (n : ℕ). replicate {A = ℕ} n 0) (length-replicate {A = ℕ} most 0)

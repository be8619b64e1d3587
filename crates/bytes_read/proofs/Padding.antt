-- Laws of a list that is filled up to a width.
use Prim.Native.Nat.{ℕ, suc, ◌-◌, ◌≤◌, ◌<◌, ◌+◌}
use native.Mathlib.Nat.{sub-zero}
use native.Mathlib.Omega.{arith}
use native.Mathlib.Decide.{dec_lt}
use mathlib.Core.Path.{◌≡◌, refl, sym, ◌∙◌}
use mathlib.Core.List.{List, [], ◌∷◌, ◌++◌, append_assoc}
use lib.ListN.{length, take, drop, get_or, set, replicate, length-append, length-replicate, get_or-append, get_or-eq_default, get_or-replicate}
use lib.ListN.{replicate-append-replicate}
use lib.Seq.{set_at, take_at, drop-append_seam, get_or-append-add}
use Rattle.bytes_read.specs.Lists.{padded}

module _ {A : Type 0} (w : ℕ) (x : A) where
  -- All of it is filling at first.
  pub padded_none : {u : A} → u ≡ x → replicate w u ≡ padded w x []
  unfolding padded
  padded_none e = rw (e, sub-zero w)

  -- An element is stored after those that are there.
  pub padded-set : (l : List A) (a : A) → length l < w → set (padded w x l) (length l) a ≡ padded w x (l ++ (a ∷ []))
  unfolding padded
  padded-set l a h = go (w - suc (length l)) (omega arith) (simp length-append (omega arith))
    where
      go : (m : ℕ) → w - length l ≡ suc m → w - length (l ++ (a ∷ [])) ≡ m
          → set (l ++ replicate (w - length l) x) (length l) a ≡ (l ++ (a ∷ [])) ++ replicate (w - length (l ++ (a ∷ []))) x
      go m e f = rw (e, f) (set_at l x (replicate m x) a (length l) refl ∙ sym (append_assoc l (a ∷ []) (replicate m x)))

  -- The elements come first, and the filling after them.

  pub padded-take : (l : List A) (n : ℕ) → length l ≡ n → take n (padded w x l) ≡ l
  unfolding padded
  padded-take l n e = take_at l (replicate (w - length l) x) n e

  pub padded-drop : (l : List A) → drop (length l) (padded w x l) ≡ replicate (w - length l) x
  unfolding padded
  padded-drop l = drop-append_seam l (replicate (w - length l) x)

  pub padded_nth : (l : List A) (k : ℕ) → k < length l → get_or (padded w x l) k x ≡ get_or l k x
  unfolding padded
  padded_nth l k h = get_or-append l (replicate (w - length l) x) x k h

  filling : (n k : ℕ) → get_or (replicate n x) k x ≡ x
  filling n k = go (dec_lt k n)
    where
      go : Dec (k < n) → get_or (replicate n x) k x ≡ x
      go (yes h) = get_or-replicate n k x x h
      go (no g) = get_or-eq_default (replicate n x) x (rw (length-replicate {A = A}) (omega arith))

  pub padded_past : (l : List A) (k : ℕ) → length l ≤ k → get_or (padded w x l) k x ≡ x
  unfolding padded
  padded_past l k h = go (k - length l) (omega arith)
    where
      go : (j : ℕ) → k ≡ length l + j → get_or (l ++ replicate (w - length l) x) k x ≡ x
      go j e = rw e (get_or-append-add l (replicate (w - length l) x) j x ∙ filling (w - length l) j)

  pub length-padded : (l : List A) → length l ≤ w → length (padded w x l) ≡ w
  unfolding padded
  length-padded l h = simp length-append (rw (length-replicate {A = A} (w - length l) x) (omega arith))

  -- Filled up further: as many x more.
  pub padded_longer : (v : ℕ) (l : List A) → length l ≤ w → w ≤ v → padded v x l ≡ padded w x l ++ replicate (v - w) x
  unfolding padded
  padded_longer v l h k =
      let e : v - length l ≡ w - length l + (v - w) = omega arith in
      rw (e, ← replicate-append-replicate (w - length l) (v - w) x) (sym (append_assoc l (replicate (w - length l) x) (replicate (v - w) x)))

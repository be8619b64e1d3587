-- Laws of the search for the next place with the magic.
use Prim.Native.Nat.{ℕ, zero, suc, ◌+◌, ◌*◌, ◌-◌, ◌≤◌, ◌<◌, min}
use native.Mathlib.Nat.{sub-zero, zero-add, mul-le-mul_right}
use native.Mathlib.Omega.{arith}
use native.Mathlib.Decide.{dec_lt, dec_le}
use mathlib.Core.Path.{◌≡◌, refl, sym, ap, ◌∙◌}
use mathlib.Core.List.{List}
use mathlib.Core.Bool.{Bool, true, false, cond, ◌||◌, true≢false}
use lib.ListN.{length, take, drop, length-drop}
use lib.Dec.{ltb}
use borrow.Author.Tests.{lt-ltb, le-ltb}
use Rattle.component.specs.Component.{starts_with_magic}
use Rattle.component.proofs.Judging.{short_no_magic, magic_eight}
use Rattle.bytes_read.proofs.Splice.{rest}
use Rattle.bytes_read.specs.Lists.{any}
use Rattle.walk.specs.Walk.{place_count_below, places, magic_at, seek, next_magic, magic_inside}
use Rattle.walk.proofs.Places.{no_places, below_lt, below_next, below_end, below_zero}

-- Fewer than eight bytes from the end no place carries the magic.
pub magic_end : (r : List ℕ) (p : ℕ) → length r < p + 8 → magic_at r p ≡ false
unfolding magic_at
magic_end r p h = short_no_magic (drop p r) (rw length-drop (omega arith))

-- What was answered on the eight bytes from p on.
pub magic_eight_bytes : (r : List ℕ) (p : ℕ) {b : Bool} → b ≡ starts_with_magic (take (p + 8 - p) (drop p r)) → magic_at r p ≡ b
unfolding magic_at
magic_eight_bytes r p e = let n : p + 8 - p ≡ 8 = omega arith in magic_eight (drop p r) ∙ sym (rw n at e)

-- What was answered on all bytes from p on.
pub magic_rest : (r : List ℕ) (p : ℕ) {b : Bool} → b ≡ starts_with_magic (take (length r - p) (drop p r)) → magic_at r p ≡ b
unfolding magic_at
magic_rest r p e = sym (rw rest at e)

-- No place carries the magic from min b (length r - 7) on, up to b.
pub no_magic_past : (r : List ℕ) (b s : ℕ) → s ≡ min b (length r - 7) → (x : ℕ) → s ≤ x → x < b → magic_at r x ≡ false
no_magic_past r b s e x h l = magic_end r x (omega (arith, e))

pub next_none : (r : List ℕ) (a n b : ℕ) → a ≡ 0 → next_magic r a n b ≡ b
unfolding next_magic seek
next_none r a n b e = rw (e, no_places (b - n))

module _ (r : List ℕ) (a : ℕ) (pos : 0 < a) where
  pub next_end : (n b : ℕ) → b ≤ n → next_magic r a n b ≡ b
  unfolding next_magic seek
  next_end n b h = rw (below_end a pos b n h)

  pub next_here : (n b : ℕ) → n < b → magic_at r n ≡ true → next_magic r a n b ≡ n
  unfolding next_magic seek
  next_here n b h y = rw (below_next a pos b n h, y)

  pub next_not : (n b : ℕ) → n < b → magic_at r n ≡ false → next_magic r a n b ≡ next_magic r a (n + a) b
  unfolding next_magic seek
  next_not n b h y = rw (below_next a pos b n h, y)

  -- Induction over the places from n on, up to b.
  pub by_places : (b : ℕ) (P : ℕ → Type 0) → ((n : ℕ) → b ≤ n → P n) → ((n : ℕ) → n < b → magic_at r n ≡ true → P n)
      → ((n : ℕ) → n < b → magic_at r n ≡ false → P (n + a) → P n) → (n : ℕ) → P n
  by_places b P end here not n = go b n (omega arith)
    where
      by : (n : ℕ) → n < b → (t : Bool) → magic_at r n ≡ t → P (n + a) → P n
      by n h true y ih = here n h y
      by n h false y ih = not n h y ih

      go : (d n : ℕ) → b ≤ n + d → P n
      go zero n h = end n (omega arith)
      go (suc d) n h = at (dec_lt n b) (go d (n + a) (omega arith))
        where
          at : Dec (n < b) → P (n + a) → P n
          at (yes l) ih = by n l (magic_at r n) refl ih
          at (no g) ih = end n (omega arith)

  pub next_le : (n b : ℕ) → next_magic r a n b ≤ b
  next_le n b =
      by_places b (λ n. next_magic r a n b ≤ b) (λ n h. rw (next_end n b h) (omega arith)) (λ n h y. rw (next_here n b h y) (omega arith))
      (λ n h y ih. rw (next_not n b h y) ih) n

  -- What lies below n and below b lies below what is found.
  pub next_above : (x n b : ℕ) → x < b → x < n → x < next_magic r a n b
  next_above x n b hb = by_places b (λ n. x < n → x < next_magic r a n b)
      (λ n h k. rw (next_end n b h) hb) (λ n h y k. rw (next_here n b h y) k) (λ n h y ih k. rw (next_not n b h y) (ih (omega arith))) n

  pub next_has_magic : (n b : ℕ) → next_magic r a n b < b → magic_at r (next_magic r a n b) ≡ true
  next_has_magic n b = by_places b (λ n. next_magic r a n b < b → magic_at r (next_magic r a n b) ≡ true)
      (λ n h k. absurd (omega (arith, k, next_end n b h))) (λ n h y k. rw (next_here n b h y) y)
      (λ n h y ih k. rw (next_not n b h y) (ih (rw (next_not n b h y) at k))) n

  -- What is the same from one place to the next where no magic is carried is the same up to what is found.

  pub over_no_magic : {A : Type 0} (F : ℕ → A) (b : ℕ) → ((n : ℕ) → n < b → magic_at r n ≡ false → F n ≡ F (n + a)) → (n : ℕ) → next_magic r a n b < b
      → F n ≡ F (next_magic r a n b)
  over_no_magic F b same = by_places b (λ n. next_magic r a n b < b → F n ≡ F (next_magic r a n b))
      (λ n h k. absurd (omega (arith, k, next_end n b h)))
      (λ n h y k. ap F (sym (next_here n b h y)))
      (λ n h y ih k. same n h y ∙ ih (rw (next_not n b h y) at k) ∙ ap F (sym (next_not n b h y)))

  -- The same where nothing is found, if it is the same from the end on.
  pub no_magic_all : {A : Type 0} (F : ℕ → A) (b : ℕ) → ((n : ℕ) → n < b → magic_at r n ≡ false → F n ≡ F (n + a)) → ((n : ℕ) → b ≤ n → F n ≡ F b) → (n : ℕ)
      → F n ≡ F (next_magic r a n b)
  no_magic_all F b same past = by_places b (λ n. F n ≡ F (next_magic r a n b))
      (λ n h. past n h ∙ ap F (sym (next_end n b h)))
      (λ n h y. ap F (sym (next_here n b h y)))
      (λ n h y ih. same n h y ∙ ih ∙ ap F (sym (next_not n b h y)))

  -- A search that ends sooner, where no place from there on carries the magic.

  pub sooner_found : (n s b : ℕ) → s ≤ b → next_magic r a n s < s → next_magic r a n b ≡ next_magic r a n s
  sooner_found n s b h = by_places s (λ n. next_magic r a n s < s → next_magic r a n b ≡ next_magic r a n s)
      (λ n l k. absurd (omega (arith, k, next_end n s l)))
      (λ n l y k. next_here n b (omega arith) y ∙ sym (next_here n s l y))
      (λ n l y ih k. next_not n b (omega arith) y ∙ ih (rw (next_not n s l y) at k) ∙ sym (next_not n s l y)) n

  pub no_magic_end : (s b : ℕ) → ((x : ℕ) → s ≤ x → x < b → magic_at r x ≡ false) → (n : ℕ) → s ≤ n → next_magic r a n b ≡ b
  no_magic_end s b q n = by_places b (λ n. s ≤ n → next_magic r a n b ≡ b)
      (λ n l k. next_end n b l) (λ n l y k. absurd (true≢false (sym y ∙ q n k l))) (λ n l y ih k. next_not n b l y ∙ ih (omega arith)) n

  pub sooner_none : (n s b : ℕ) → s ≤ b → ((x : ℕ) → s ≤ x → x < b → magic_at r x ≡ false) → s ≤ next_magic r a n s → next_magic r a n b ≡ b
  sooner_none n s b h q = by_places s (λ n. s ≤ next_magic r a n s → next_magic r a n b ≡ b)
      (λ n l k. no_magic_end s b q n l)
      (λ n l y k. absurd (omega (arith, k, next_here n s l y)))
      (λ n l y ih k. next_not n b (omega arith) y ∙ ih (rw (next_not n s l y) at k)) n

  -- A later place in a span carries the magic exactly if the search from the next place finds it there.

  any-seek : (t : ℕ → Bool) (e k p : ℕ) → ((i : ℕ) → i < k → p + i * a < e) → any t (places a k p) ≡ ltb (seek t a e k p) e
  unfolding places seek
  any-seek t e zero p h = sym (le-ltb e e (omega arith))
  any-seek t e (suc k) p h = go (t p) (any-seek t e k (p + a) (λ i l. omega (arith, h (suc i) (omega arith))))
    where
      go : (b : Bool) → any t (places a k (p + a)) ≡ ltb (seek t a e k (p + a)) e → b || any t (places a k (p + a)) ≡ ltb (cond b p (seek t a e k (p + a))) e
      go true ih = sym (lt-ltb p e (omega (arith, h 0 (omega arith))))
      go false ih = ih

  fewer : (n : ℕ) → place_count_below a n - 1 ≡ place_count_below a (n - a)
  fewer n = go (dec_lt 0 n)
    where
      go : Dec (0 < n) → place_count_below a n - 1 ≡ place_count_below a (n - a)
      go (yes h) = omega (arith, rw (sub-zero, zero-add) at (below_next a pos n 0 h))
      go (no g) =
          let z : n ≡ 0 = omega arith in
          let y : n - a ≡ 0 = omega arith in
          rw (y, z, below_zero a pos)

  inside : (p n i : ℕ) → i < place_count_below a (n - a) → p + a + i * a < p + n
  inside p n i h = go (dec_lt a n)
    where
      go : Dec (a < n) → p + a + i * a < p + n
      go (yes l) = omega (arith, below_lt a pos (n - a), mul-le-mul_right {m = suc i} {n = place_count_below a (n - a)} a h)
      go (no g) = let z : n - a ≡ 0 = omega arith in absurd (omega (arith, rw z at h, below_zero a pos))

  pub inside_by_search : (p n : ℕ) → magic_inside r a p n ≡ ltb (next_magic r a (p + a) (p + n)) (p + n)
  unfolding magic_inside next_magic
  inside_by_search p n =
      let e : p + n - (p + a) ≡ n - a = omega arith in
      rw (fewer n, e) (any-seek (magic_at r) (p + n) (place_count_below a (n - a)) (p + a) (inside p n))

  -- Where the search finds nothing up to e, it may go on behind e: from the first number of its steps that is not below e, or from the end.

  over : (e b k m : ℕ) → e ≤ b → ((i : ℕ) → i < k → m + i * a < e) → e ≤ next_magic r a m e → next_magic r a m b ≡ next_magic r a (m + k * a) b
  over e b zero m h l q = let z : m ≡ m + 0 * a = omega arith in ap (λ (x : ℕ). next_magic r a x b) z
  over e b (suc k) m h l q = go (magic_at r m) refl (λ f. over e b k (m + a) h (λ i i<. omega (arith, l (suc i) (omega arith))) f)
    where
      lt : m < e
      lt = omega (arith, l 0 (omega arith))

      go : (t : Bool) → magic_at r m ≡ t
          → (e ≤ next_magic r a (m + a) e → next_magic r a (m + a) b ≡ next_magic r a (m + a + k * a) b) → next_magic r a m b ≡ next_magic r a (m + suc k * a) b
      go true y ih = absurd (omega (arith, q, lt, next_here m e lt y))
      go false y ih =
          let z : m + a + k * a ≡ m + suc k * a = omega arith in
          next_not m b (omega (arith, lt)) y ∙ ih (rw (next_not m e lt y) at q) ∙ ap (λ (x : ℕ). next_magic r a x b) z

  pub behind : (p e b n : ℕ) → p < e → e ≤ b → e ≤ next_magic r a (p + a) e → n ≡ min (place_count_below a (e - p) * a) (b - p)
      → next_magic r a (p + a) b ≡ next_magic r a (p + n) b
  behind p e b n lt h q d = all ∙ go (dec_le (p + k * a) b)
    where
      k : ℕ
      k = place_count_below a (e - p)

      one : 0 < k
      one = omega (arith, rw (sub-zero, zero-add) at (below_next a pos (e - p) 0 (omega arith)))

      all : next_magic r a (p + a) b ≡ next_magic r a (p + k * a) b
      all =
          let f : k - 1 ≡ place_count_below a (e - p - a) = fewer (e - p) in
          let z : p + a + (k - 1) * a ≡ p + k * a = last k one in
          over e b (k - 1) (p + a) h (λ i l. omega (arith, inside p (e - p) i (omega arith))) q ∙ ap (λ (x : ℕ). next_magic r a x b) z
        where
          last : (c : ℕ) → 0 < c → p + a + (c - 1) * a ≡ p + c * a
          last zero l = absurd (omega arith)
          last (suc c) l = let y : suc c - 1 ≡ c = omega arith in rw y (omega arith)

      go : Dec (p + k * a ≤ b) → next_magic r a (p + k * a) b ≡ next_magic r a (p + n) b
      go (yes l) = let z : k * a ≡ n = omega arith in rw z
      go (no l) = next_end (p + k * a) b (omega arith) ∙ sym (next_end (p + n) b (omega arith))

  -- By what was answered on the eight bytes from n on.

  pub eight_here : (n b : ℕ) → n < b → starts_with_magic (take (n + 8 - n) (drop n r)) ≡ true → next_magic r a n b ≡ n
  eight_here n b h y = next_here n b h (magic_eight_bytes r n (sym y))

  pub eight_not : (n b : ℕ) → n < b → starts_with_magic (take (n + 8 - n) (drop n r)) ≡ false → next_magic r a n b ≡ next_magic r a (n + a) b
  eight_not n b h y = next_not n b h (magic_eight_bytes r n (sym y))

-- Past its end the search finds nothing, at any alignment.
pub next_past : (r : List ℕ) (a n b : ℕ) → b ≤ n → next_magic r a n b ≡ b
next_past r a n b h = go (dec_lt 0 a)
  where
    go : Dec (0 < a) → next_magic r a n b ≡ b
    go (yes pos) = next_end r a pos n b h
    go (no g) = next_none r a n b (omega arith)

-- The search by the number from which on no eight bytes are left. Of its parts: nothing is searched; only one place is; and what its loop finds.

abbrev pub last_eight : List ℕ → ℕ → ℕ
last_eight r b = min b (length r - 7)

pub nothing_left : (r : List ℕ) (a n b : ℕ) → last_eight r b ≤ n → next_magic r a n b ≡ b
nothing_left r a n b h = go (dec_lt 0 a)
  where
    go : Dec (0 < a) → next_magic r a n b ≡ b
    go (yes pos) = no_magic_end r a pos (last_eight r b) b (no_magic_past r b (last_eight r b) refl) n h
    go (no g) = next_none r a n b (omega arith)

pub too_short : (r : List ℕ) (a n b : ℕ) → length r < 8 → next_magic r a n b ≡ b
too_short r a n b h = nothing_left r a n b (omega arith)

module _ (r : List ℕ) (a n b : ℕ) (pos : 0 < a) where
  pub only_here : n < last_eight r b → starts_with_magic (take (length r - n) (drop n r)) ≡ true → next_magic r a n b ≡ n
  only_here l y = next_here r a pos n b (omega arith) (magic_rest r n (sym y))

  pub none_here : n < last_eight r b → last_eight r b - n ≤ a → starts_with_magic (take (length r - n) (drop n r)) ≡ false → next_magic r a n b ≡ b
  none_here l f y = next_not r a pos n b (omega arith) (magic_rest r n (sym y)) ∙ nothing_left r a (n + a) b (omega arith)

  pub found_sooner : next_magic r a n (last_eight r b) < last_eight r b → next_magic r a n b ≡ next_magic r a n (last_eight r b)
  found_sooner f = sooner_found r a pos n (last_eight r b) b (omega arith) f

  pub none_sooner : last_eight r b ≤ next_magic r a n (last_eight r b) → next_magic r a n b ≡ b
  none_sooner f = sooner_none r a pos n (last_eight r b) b (omega arith) (no_magic_past r b (last_eight r b) refl) f

-- For `search`: how the whole search goes by its parts.
pub ruleset by_parts = (next_none, too_short, nothing_left, only_here, none_here, found_sooner, none_sooner)

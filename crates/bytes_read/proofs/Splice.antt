-- Laws of splice: writes one after the other make one write.
use Prim.Native.Nat.{ℕ, ◌+◌, ◌-◌, ◌≤◌, ◌<◌}
use mathlib.Core.Path.{◌≡◌, sym, ap, ◌∙◌}
use mathlib.Core.Bool.{true, false}
use mathlib.Core.List.{List, [], ◌++◌, append-nil, append_assoc}
use native.Mathlib.Nat.{sub-zero}
use native.Mathlib.Decide.{dec_lt}
use native.Mathlib.Omega.{arith}
use lib.ListN.{length, take, drop, length-append, length-take, length-drop, drop_of_length-le}
use lib.Seq.{length-take-le, take_all, take_at, drop_at, drop-drop}
use borrow.Author.Tests.{le-leb, lt-leb}
use borrow.Rule.Slice.PartMut.{put_mid, Post-is}
use denote.Ref.{Bor}
use Rattle.std.specs.Prelude.{Option, Some, None}
use Rattle.std.specs.Option.{unwrap_or}
use Rattle.std.specs.Slice.{IsGetRangeResult}
use Rattle.bytes_read.specs.Bytes.{fits, part_of, splice, written}

-- the length of the part `&d[a..e]`
pub part_length : (d : List ℕ) (a e : ℕ) → e ≤ length d → length (take (e - a) (drop a d)) ≡ e - a
part_length d a e h = simp (length-take, length-drop) (omega arith)

-- what a part lent as `&mut d[a..e]` leaves, where the callee left y, which is ys; a call's `.kept .0` is the fact on lengths
pub splice_part : (d : List ℕ) (a e : ℕ) {y ys : List ℕ} → y ≡ ys → length y ≡ length (take (e - a) (drop a d)) → a ≤ e → e ≤ length d
    → put_mid a (e - a) d y ≡ splice d a ys
unfolding splice
splice_part d a e {y} {ys} q k h f =
    let l : e ≡ a + length ys = omega (arith, part_length d a e f, ap length q) in
    rw (q, Post-is a e d h) (ap (λ (n : ℕ). take a d ++ (ys ++ drop n d)) l)

-- The rest of a list, as the part from p to the end has it.
pub rest : (l : List ℕ) (p : ℕ) → take (length l - p) (drop p l) ≡ drop p l
rest l p = take_all (length l - p) (drop p l) (rw length-drop (omega arith))

-- The part from at on, n bytes long, and none where it does not fit.

pub part_in : (s : List ℕ) (at n : ℕ) → at + n ≤ length s → take n (drop at s) ≡ part_of s at n
unfolding part_of
part_in s at n h = rw (le-leb (at + n) (length s) h)

pub part_out : (s : List ℕ) (at n : ℕ) → length s < at + n → [] ≡ part_of s at n
unfolding part_of
part_out s at n h = rw (lt-leb (at + n) (length s) h)

-- what `get` of the first n bytes from at on gives
pub part_got : (s : List ℕ) (at n : ℕ) (r : Option (Bor (List ℕ))) (none : Bor (List ℕ)) → IsGetRangeResult (drop at s) 0 n r → none.now ≡ []
    → (unwrap_or r none).now ≡ part_of s at n
part_got s at n None none h e = e ∙ part_out s at n (omega (arith, h.0, length-drop at s))
part_got s at n (Some x) none h e = go (dec_lt (length s) (at + n))
  where
    here : x.now ≡ take n (drop at s)
    here = rw sub-zero at h.0.2

    go : Dec (length s < at + n) → x.now ≡ part_of s at n
    go (yes past) =
        let z : n ≡ 0 = omega (arith, h.0.1, length-drop at s) in
        rw z at here ∙ part_out s at n past
    go (no g) = here ∙ part_in s at n (omega arith)

-- what `get` of the bytes from at up to at + n gives
pub part_ranged : (s : List ℕ) (at n : ℕ) (r : Option (Bor (List ℕ))) (none : Bor (List ℕ)) → IsGetRangeResult s at (at + n) r → none.now ≡ []
    → (unwrap_or r none).now ≡ part_of s at n
part_ranged s at n None none h e = e ∙ part_out s at n (omega (arith, h.0))
part_ranged s at n (Some x) none h e =
    let m : at + n - at ≡ n = omega arith in
    rw m at h.0.2 ∙ part_in s at n h.0.1

pub splice-length : (d : List ℕ) (at : ℕ) (ys : List ℕ) → at + length ys ≤ length d → length (splice d at ys) ≡ length d
unfolding splice
splice-length d at ys h = simp (length-append, length-drop, length-take-le at d (omega arith)) (omega arith)

-- a write that goes on where the last one ended
pub splice_after : (d : List ℕ) (at : ℕ) (p : List ℕ) (m : ℕ) (ys : List ℕ) → at + length p ≤ length d → at + length p ≡ m
    → splice (splice d at p) m ys ≡ splice d at (p ++ ys)
unfolding splice
splice_after d at p m ys h e =
    let rest : List ℕ = drop (at + length p) d in
    let w : List ℕ = take at d ++ p in
    let lw : length w ≡ m = simp (length-append, length-take-le at d (omega arith)) e in
    let ds : take at d ++ (p ++ rest) ≡ w ++ rest = sym (append_assoc (take at d) p rest) in
    let q : at + length (p ++ ys) ≡ at + length p + length ys = simp length-append (omega arith) in
    let f : take m (take at d ++ (p ++ rest)) ≡ w = rw ds (take_at w rest m lw) in
    let g : drop (m + length ys) (take at d ++ (p ++ rest)) ≡ drop (at + length (p ++ ys)) d =
    rw (ds, ← drop-drop (length ys) m (w ++ rest), drop_at w rest m lw, drop-drop (length ys) (at + length p) d, q) in
    rw (f, g) (append_assoc (take at d) p (ys ++ drop (at + length (p ++ ys)) d)
    ∙ ap (λ (l : List ℕ). take at d ++ l) (sym (append_assoc p ys (drop (at + length (p ++ ys)) d))))

-- a write over the whole
pub splice_all : (d ys : List ℕ) → length ys ≡ length d → splice d 0 ys ≡ ys
unfolding splice
splice_all d ys h = rw (drop_of_length-le d {i = 0 + length ys} (omega arith)) (append-nil ys)

-- A run of writes, each from where the last one ended: x is d with p from at up to m.
pub record Wrote (d : List ℕ) (at : ℕ) (p : List ℕ) (m : ℕ) (x : List ℕ) : Type 0 where
  pub ends : at + length p ≡ m
  pub fits : m ≤ length d
  pub bytes : x ≡ splice d at p

pub first : (d : List ℕ) (at : ℕ) (p : List ℕ) (m : ℕ) {x : List ℕ} → x ≡ splice d at p → at + length p ≡ m → m ≤ length d → Wrote d at p m x
first d at p m e l h = record { ends = l; fits = h; bytes = e }

-- the next write: its ys go up to n
pub next : {d x y : List ℕ} {at m : ℕ} {p : List ℕ} (m' : ℕ) (ys : List ℕ) (n : ℕ)
    → Wrote d at p m x → y ≡ splice x m' ys → m ≡ m' → m' + length ys ≡ n → n ≤ length d → Wrote d at (p ++ ys) n y
next {d} {x} {y} {at} {m} {p} m' ys n w v e l h = record {
  ends = simp length-append (omega arith);
  fits = h;
  bytes = v ∙ ap (λ (l : List ℕ). splice l m' ys) w.bytes ∙ splice_after d at p m' ys (omega arith) (omega arith);
}

pub whole : {d p x : List ℕ} {m : ℕ} → Wrote d 0 p m x → m ≡ length d → x ≡ p
whole {d} {p} w h = w.bytes ∙ splice_all d p (omega arith)

-- A write of ys, n bytes, that does not fit, and one that does, to the part that was lent for it and holds y now.

pub unwritten : (d : List ℕ) (at : ℕ) (ys : List ℕ) {n : ℕ} → length ys ≡ n → fits d at n ≡ false → d ≡ written d at ys
unfolding written
unwritten d at ys l h = rw (l, h)

pub part_written : (d : List ℕ) (at : ℕ) {y ys : List ℕ} {n : ℕ} → length ys ≡ n → fits d at n ≡ true → y ≡ ys → put_mid at (at + n - at) d y ≡ written d at ys
unfolding written splice
part_written d at {y} {ys} {n} l h e = rw (e, l, h, Post-is at (at + n) d (omega arith))

-- What `array::from_fn` makes of a closure that changes nothing and gives h of each number.
use Prim.Native.Nat.{ℕ, zero, suc, ◌+◌, ◌<◌}
use mathlib.Core.Path.{◌≡◌, ◌∙◌}
use mathlib.Core.List.{List}
use native.Mathlib.Nat.{add-zero}
use native.Mathlib.Omega.{arith}
use lib.ListN.{get_or}
use denote.Param.Members.{Mut}
use Rattle.std.specs.Fn.{Called}
use Rattle.std.specs.Array.{IsFromFnResultFrom}

pub made : {F : Type 0} (g : Mut F (ℕ × Unit {0}) ℕ) (h : ℕ → ℕ) (f : F) → ((k y : ℕ) (q : F) → Called g f (k, tt) y q → (q ≡ f) × (y ≡ h k))
    → (ys : List ℕ) (i n : ℕ) → IsFromFnResultFrom g f ys i n → (k : ℕ) → k < n → get_or ys (i + k) 0 ≡ h (i + k)
made g h f gives ys i zero e k l = absurd (omega arith)
made g h f gives ys i (suc n) e zero l = rw add-zero (e.2.1 0 ∙ (gives i e.1 e.0 e.3).1)
made g h f gives ys i (suc n) e (suc k) l =
    let m : i + suc k ≡ i + 1 + k = omega arith in
    rw m (made g h f gives ys (i + 1) n (rw (gives i e.1 e.0 e.3).0 at e.4) k (omega arith))

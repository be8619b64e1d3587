-- What the iterator over areas tells of `any`.
use mathlib.Core.Path.{◌≡◌, refl, ◌∙◌}
use mathlib.Core.Bool.{Bool}
use denote.Param.Members.{Mut, Called}
use Rattle.std.specs.Iterator.{YieldsFirst, ChecksAny}
use Rattle.std.proofs.lemmas.Iterator.Search.{any_from_yields_List}
use Rattle.std.proofs.lemmas.Iterator.Consumers.{YieldsList-from_first}
use Rattle.bytes_read.specs.Lists.{any}
use Rattle.cbfs_types.specs.declared.Area.{Area}
use Rattle.fmap.specs.Header.{areas_left}
use Rattle.fmap.specs.declared.areas.Areas.{Areas}
use Rattle.fmap.proofs.Counting.{any_is}

pub any_left : {F : Type 0} {g : Mut F (Area × Unit {0}) Bool} (t : Area → Bool) (a u : Areas) (f : F) (r : Bool) → ChecksAny (YieldsFirst areas_left) g a f r u
    → ((x : Area) (b : Bool) (h : F) → Called g f (x, tt) b h → (h ≡ f) × (b ≡ t x)) → r ≡ any t (areas_left a)
any_left t a u f r c k = any_from_yields_List t u f r c (YieldsList-from_first (λ x. x) areas_left (areas_left a) refl) k ∙ any_is t (areas_left a)

-- Refusals 1 to 8 are given exactly when document 01's table says.
use Prim.Native.Nat.{ℕ}
use mathlib.Core.Path.{◌≡◌, sym, ap, ◌∙◌}
use mathlib.Core.List.{List}
use mathlib.Core.Logic.{◌↔◌}
use Rattle.std.specs.Prelude.{Ok, Err}
use Rattle.cbfs_types.specs.declared.Region.{Region}
use Rattle.cbfs_types.specs.declared.Refusal.{Refusal}
use Rattle.region.specs.Refusals.{length_fits}
use Rattle.region.specs.Table.{FirstRowMet}
use Rattle.region.proofs.Tables.{Renders, no_more, both_render, exactly, later_row, other_fails, last_fails, either, one_fails}
use Rattle.master_header.specs.Master.{header_at, address_fits, bootblock_fits, align_fits, offset_fits, master_tests, refusal_number, master}
use Rattle.master_header.specs.Table.{region, master_rows}
use Rattle.master_header.proofs.Facts.{read_some, refused_by, refused_number}

renders : (i : List ℕ) → Renders (master_tests i) (master_rows i)
unfolding master_tests length_fits header_at address_fits bootblock_fits align_fits offset_fits
renders i =
    both_render (one_fails (either (later_row _ _) (last_fails (later_row _ _))))
    (both_render (one_fails (either (later_row _ _) (either (later_row _ _) (last_fails (later_row _ _)))))
    (both_render (other_fails _ _)
    (both_render (other_fails _ _)
    (both_render (other_fails _ _)
    (both_render (one_fails (either (later_row _ _) (last_fails (later_row _ _))))
    (both_render (one_fails (either (other_fails _ _) (either (later_row _ _) (last_fails (later_row _ _)))))
    (both_render (one_fails (either (other_fails _ _) (last_fails (later_row _ _))))
    no_more)))))))

-- The number of the refusal, or 0 where the image is read.
pub master_exactly : (i : List ℕ) (n : ℕ) → (refusal_number i ≡ n) ↔ FirstRowMet (master_rows i) n
unfolding refusal_number
master_exactly i n = exactly (renders i) n

-- An image is refused by that number, or read, and then it has the region that the paper says.

pub master_refused : (i : List ℕ) (x : Refusal) → master i ≡ Err x → (x.number ≡ 0 → ⊥) × FirstRowMet (master_rows i) x.number
master_refused i x e =
    (refused_number i x e, (master_exactly i x.number).0 (ap (λ (y : Refusal). y.number) (sym (refused_by i x e).1)))

pub master_read : (i : List ℕ) (g : Region) → master i ≡ Ok g → FirstRowMet (master_rows i) 0 × (master i ≡ Ok (region i))
unfolding header_at
master_read i g e = let (z, r) = read_some i g e in ((master_exactly i 0).0 z, e ∙ ap Ok (sym r))

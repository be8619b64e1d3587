-- Worked values: the answer of an edit of a region that begins at byte 64, and the image afterwards. Only 12 reports a place, from the image's start.
use mathlib.Core.Path.{◌≡◌, refl}
use mathlib.Core.List.{[], ◌∷◌, map}
use Rattle.bytes_read.specs.Bytes.{splice}
use Rattle.edit_rules.specs.Edit.{edit_refused, edit_done}
use Rattle.edit_write.specs.EditWrite.{edit_answer, edit_result_in}
use Rattle.std.specs.Prelude.{Ok, Err}

answers : map (edit_answer 64) (edit_refused 12 192 ∷ edit_refused 17 192 ∷ edit_done 192 ∷ [])
    ≡ Err (record { number = 12; place = 256 }) ∷ Err (record { number = 17; place = 0 }) ∷ Ok 256 ∷ []
answers = refl

-- The region's bytes stand in the image where they stood.
image : (edit_result_in (1 ∷ 2 ∷ 3 ∷ 4 ∷ 5 ∷ []) (record { start = 1; end = 4; align = 16 }) (record { answer = edit_done 0; bytes = 7 ∷ 8 ∷ 9 ∷ [] })).image
    ≡ 1 ∷ 7 ∷ 8 ∷ 9 ∷ 5 ∷ []
unfolding splice
image = refl

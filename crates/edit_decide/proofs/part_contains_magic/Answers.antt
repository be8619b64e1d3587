use Rattle.edit_decide.proofs.part_contains_magic.Goals as goal

pub returns : goal.returns
returns c =
    let p = c.args.part.now in
    let q = c.next_magic.ensures.value in
    rw (← c.distance_to_place.ensures, ← q)

use Rattle.jam_effects.proofs.lending.same_lent.Goals as goal

pub returns-in-Some : goal.returns-in-Some
returns-in-Some c = (c.in-Some.second.now, c.in-Some.ensures, c.is_same.ensures)

use Rattle.jam_effects.proofs.lending.within_lent.Goals as goal

pub returns-in-Some : goal.returns-in-Some
returns-in-Some c = (c.in-Some.others.now, c.in-Some.ensures, c.is_within.ensures)

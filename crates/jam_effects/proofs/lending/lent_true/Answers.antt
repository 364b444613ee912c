use Rattle.jam_effects.proofs.lending.lent_true.Goals as goal

pub returns-in-Some : goal.returns-in-Some
returns-in-Some c = (c.in-Some.list.now, c.in-Some.ensures, c.is_true.ensures)

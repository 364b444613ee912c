use Rattle.b2_refusals.proofs.pieces.steps_text.Goals as goal

pub returns : goal.returns
returns c = c.in_ok-format.ensures.ok

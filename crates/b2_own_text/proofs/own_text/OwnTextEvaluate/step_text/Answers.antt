use Rattle.b2_own_text.proofs.own_text.OwnTextEvaluate.step_text.Goals as goal

pub returns-then-not-is_refused-clause-known : goal.returns-then-not-is_refused-clause-known
returns-then-not-is_refused-clause-known g c = c.in-Err.ensures.asks.ends.whole

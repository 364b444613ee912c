use Rattle.std.proofs.Common.{take, Ok}
use Rattle.b2_explain.specs.Removing.{CleansMore}
use Rattle.b2_explain.proofs.clean.clean_steps.Given as goal

-- the steps so far are cleaned
abbrev pub invariant-loop-step : goal.invariant-loop-step
invariant-loop-step g l = CleansMore (take l.step-index l.steps) 0 (g.F.Files.outside l.fn.files) (g.S.Sink.output l.fn.out) l.fn.journal (g.F.Files.outside l.files) (g.S.Sink.output l.out) l.journal (Ok l.removed)

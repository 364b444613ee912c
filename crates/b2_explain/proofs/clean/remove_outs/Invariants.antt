use Rattle.std.proofs.Common.{take, Ok}
use Rattle.b2_explain.specs.Removing.{RemovesSome}
use Rattle.b2_explain.proofs.clean.remove_outs.Given as goal

-- the outputs so far are removed
abbrev pub invariant-loop-path : goal.invariant-loop-path
invariant-loop-path g l = RemovesSome (take l.path-index l.outs) l.count (g.F.Files.outside l.fn.files) (g.S.Sink.output l.fn.out) (g.F.Files.outside l.files) (g.S.Sink.output l.out) (Ok l.removed)

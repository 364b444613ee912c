use Rattle.std.proofs.Common.{take, IfSome, Ok}
use Rattle.b2_turns.specs.Clearing.{RemovesFiles, AreGone}
use Rattle.b2_turns.proofs.ends.remove_all.Given as goal

-- the files at the paths so far are gone
abbrev pub invariant-loop-out : goal.invariant-loop-out
invariant-loop-out g l = record {
  removes : RemovesFiles {T = Unit {0}} l.outs (g.F.Files.outside l.fn.files) (g.F.Files.outside l.files) (Ok tt);
  gone : IfSome (g.F.Files.outside l.files).disk (AreGone (take l.out-index l.outs));
}

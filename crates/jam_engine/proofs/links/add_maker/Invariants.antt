use Rattle.std.proofs.Common.{take}
use Rattle.jam_engine.specs.Linking.{HaveOneMore}
use Rattle.jam_engine.proofs.links.add_maker.Given as goal

abbrev pub invariant-loop-target : goal.invariant-loop-target
invariant-loop-target l = HaveOneMore (take l.target-index l.targets) l.place l.initial.makers l.makers

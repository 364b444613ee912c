use Rattle.std.proofs.Common.{drop}
use Rattle.std.specs.List.{AllByRecursion}
use Rattle.std.specs.Option.{option_copied}
use Rattle.b2_making.specs.MakingParts.{GivesSome}
use Rattle.b2_making.proofs.along.along.Given as goal
use Rattle.b2_making.proofs.ChainRunsStepByStep.{GoesAlong}

-- what comes of the rest of the chain comes of all
abbrev pub invariant-loop-place : goal.invariant-loop-place
invariant-loop-place g l = record {
  given : AllByRecursion (GivesSome l.setting.types.now.generators) (drop l.place l.route.ids.now);
  goes : GoesAlong g.V.Evaluate.answers g.V.Evaluate.kept g.V.Evaluate.faults g.V.Evaluate.is_host_fault g.V.Evaluate.is_out_of_memory g.V.Evaluate.CanFault l.setting l.site
      (option_copied l.route.named) l.route.spare.now l.route.ids.now l.place l.fn.ins l.entries l.fn.evaluator l.evaluator l.fn.builder l.builder;
}

use Rattle.b2_making.specs.Acts.{for_all}
use Rattle.b2_making.specs.Conversions.{to_objects}
use Rattle.b2_making.proofs.PromisesCompose.{UnderWay}
use Rattle.b2_making.proofs.along.all_objects.Given as goal

-- the entries so far became objects
abbrev pub invariant-loop-entry : goal.invariant-loop-entry
invariant-loop-entry g l =
    UnderWay g.V.Evaluate.answers g.V.Evaluate.kept g.V.Evaluate.faults g.V.Evaluate.is_host_fault g.V.Evaluate.is_out_of_memory g.V.Evaluate.CanFault l.setting l.site
    (λ c s. for_all (to_objects c s)) l.entries l.entry-index l.made l.fn.evaluator l.evaluator l.fn.builder l.builder

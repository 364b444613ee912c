-- The examples that compute.
use Rattle.std.proofs.Common.{refl}
use Rattle.jam_expand.specs.Words.{too_deep}
use Rattle.jam_expand.specs.Expansions.{elements_at}
use Rattle.jam_expand.specs.Values.{joined_after}
use Rattle.jam_expand.specs.Modifiers.{modified_after}
use Rattle.jam_meaning.specs.Examples.{TwoRunOut, OneRunsOut, FaultBeforeTurns, LoopVariableEnds, EachAdds, SecondCase, DeepEnough, TooDeep, IncludeGoesOn, MarksTake, MarksRefuse}

pub two_run_out : TwoRunOut
unfolding too_deep elements_at joined_after modified_after
two_run_out = refl

pub one_runs_out : OneRunsOut
unfolding too_deep elements_at joined_after modified_after
one_runs_out = refl

pub fault_before_turns : FaultBeforeTurns
unfolding too_deep elements_at joined_after modified_after
fault_before_turns = refl

pub loop_variable_ends : LoopVariableEnds
unfolding too_deep elements_at joined_after modified_after
loop_variable_ends = refl

pub each_adds : EachAdds
unfolding too_deep elements_at joined_after modified_after
each_adds = refl

pub second_case : SecondCase
unfolding too_deep elements_at joined_after modified_after
second_case = refl

pub deep_enough : DeepEnough
deep_enough = (refl, refl)

pub too_deep_fault : TooDeep
too_deep_fault = refl

pub include_goes_on : IncludeGoesOn
unfolding too_deep elements_at joined_after modified_after
include_goes_on = refl

pub marks_take : MarksTake
marks_take = refl

pub marks_refuse : MarksRefuse
marks_refuse = (refl, refl)

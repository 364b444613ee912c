-- Parts of the chain of points.
use Rattle.std.specs.Prelude.{◌≡◌, Bool, Option, Some, None}
use Rattle.b2_plan.specs.declared.step.Step.{Step}
use Rattle.b2_log.specs.declared.line.Record.{Record}
use Rattle.b2_facts.specs.Facts.{Knowledge}
use Rattle.b2_verdicts.specs.declared.point.Point.{Point}
use Rattle.b2_verdicts.specs.declared.point.Point.TheVariants as points
use Rattle.b2_verdicts.specs.declared.step_numbers.StepNumbers.{StepNumbers}
use Rattle.b2_verdicts.specs.Sights.{AllAsked, AllStand}
use Rattle.b2_verdicts.specs.Stamps.{IsFirstGone, NoneOlder, IsFirstOlder, AreLogged, IsFirstOther}
use Rattle.b2_verdicts.specs.Points.{IsCommanded, IsLacking, HasOutputs, IsDisagreement}

-- the first output that is missing
abbrev pub IsOutputs : StepNumbers → Knowledge → Option Point → Type 0
IsOutputs numbers g None = AllStand g numbers.outs
IsOutputs numbers g (Some (points.Lacks out)) = AllAsked g numbers.outs × IsFirstGone g numbers.outs out
IsOutputs numbers g (Some point) = ⊥

-- the first point up to a missing output
abbrev pub IsBegun : Bool → Step → StepNumbers → Knowledge → Option Point → Type 0
IsBegun all step numbers g None = HasOutputs all step numbers g
IsBegun all step numbers g (Some (points.Lacks out)) = IsLacking all step numbers g out
IsBegun all step numbers g (Some point) = IsCommanded all step (Some point)

-- the first reason why a record has other files
abbrev pub IsOtherFiles : Record → StepNumbers → Knowledge → Option Point → Type 0
IsOtherFiles last numbers g None = AreLogged g last.outs numbers.outs × AreLogged g last.ins numbers.ins
IsOtherFiles last numbers g (Some (points.Outputs place)) = IsFirstOther g last.outs numbers.outs place
IsOtherFiles last numbers g (Some (points.Inputs place)) =
    AreLogged g last.outs numbers.outs × IsFirstOther g last.ins numbers.ins place
IsOtherFiles last numbers g (Some point) = ⊥

-- the first point from an older output on
abbrev pub IsJudged : Step → StepNumbers → Option Record → Knowledge → Option Point → Type 0
IsJudged step numbers last g (Some (points.Older out member)) = IsFirstOlder g numbers.outs numbers.ins out member
IsJudged step numbers last g (Some (points.FromNotfile member)) =
    NoneOlder g numbers.outs numbers.ins × (numbers.notfile ≡ Some member)
IsJudged step numbers last g point =
    NoneOlder g numbers.outs numbers.ins × (numbers.notfile ≡ None) × IsDisagreement step numbers last g point

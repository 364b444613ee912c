-- The parts of the chain of points, put together.
use Rattle.std.proofs.Common.{◌≡◌, Bool, Option, Some, None, Result, Ok, Err}
use Rattle.std.specs.Prelude.{OnOk, IfOk}
use Rattle.b2_host.specs.declared.fault.Failed.{Failed}
use Rattle.b2_plan.specs.declared.step.Step.{Step}
use Rattle.b2_log.specs.declared.line.Record.{Record}
use Rattle.b2_facts.specs.Facts.{Knowledge}
use Rattle.b2_facts.specs.Growth.{Grows}
use Rattle.b2_verdicts.specs.declared.point.Point.{Point}
use Rattle.b2_verdicts.specs.declared.point.Point.TheVariants as points
use Rattle.b2_verdicts.specs.declared.step_numbers.StepNumbers.{StepNumbers}
use Rattle.b2_verdicts.specs.Sights.{AllAsked}
use Rattle.b2_verdicts.specs.Stamps.{NoneOlder}
use Rattle.b2_verdicts.specs.Points.{IsCommanded, HasText, IsDisagreement, HasOutputs, IsUpToDate, IsByStamps}
use Rattle.b2_verdicts.specs.Chains.{IsBegun, IsOtherFiles, IsJudged}
use Rattle.b2_verdicts.proofs.WhatIsKnownStays.{all_stand_more}

-- a point that does not depend on files is the first
pub commanded_begun : (all : Bool) (step : Step) (numbers : StepNumbers) (g : Knowledge) (point : Point) → IsCommanded all step (Some point) → IsBegun all step numbers g (Some point)
commanded_begun all step numbers g points.All is = is
commanded_begun all step numbers g points.Always is = is
commanded_begun all step numbers g points.Notfile is = is
commanded_begun all step numbers g (points.Lacks out) is = absurd is
commanded_begun all step numbers g (points.Older out member) is = is
commanded_begun all step numbers g (points.FromNotfile member) is = is
commanded_begun all step numbers g (points.Done member) is = is
commanded_begun all step numbers g points.NoRecord is = is
commanded_begun all step numbers g points.Text is = is
commanded_begun all step numbers g (points.Outputs place) is = is
commanded_begun all step numbers g (points.Inputs place) is = is

-- a point with which the chain ends early is the first by stamps
pub begun_by_stamps : (all : Bool) (step : Step) (numbers : StepNumbers) (last : Option Record) (g : Knowledge) (point : Point) → IsBegun all step numbers g (Some point) → IsByStamps all step numbers last g (Some point)
begun_by_stamps all step numbers last g points.All is = is
begun_by_stamps all step numbers last g points.Always is = is
begun_by_stamps all step numbers last g points.Notfile is = is
begun_by_stamps all step numbers last g (points.Lacks out) is = is
begun_by_stamps all step numbers last g (points.Older out member) is = absurd is
begun_by_stamps all step numbers last g (points.FromNotfile member) is = absurd is
begun_by_stamps all step numbers last g (points.Done member) is = absurd is
begun_by_stamps all step numbers last g points.NoRecord is = absurd is
begun_by_stamps all step numbers last g points.Text is = absurd is
begun_by_stamps all step numbers last g (points.Outputs place) is = absurd is
begun_by_stamps all step numbers last g (points.Inputs place) is = absurd is

up_to_date : (all : Bool) (step : Step) (numbers : StepNumbers) (g : Knowledge) → HasOutputs all step numbers g → AllAsked g numbers.ins → NoneOlder g numbers.outs numbers.ins → IsUpToDate all step numbers g
up_to_date all step numbers g has asked none = record { has_outputs = has; asked = asked; none_older = none }

-- the first point from an older output on, of an ordinary step whose outputs stand
pub judged_by_stamps : (all : Bool) (step : Step) (numbers : StepNumbers) (last : Option Record) (g : Knowledge) (point : Option Point) → HasOutputs all step numbers g → AllAsked g numbers.ins → IsJudged step numbers last g point → IsByStamps all step numbers last g point
judged_by_stamps all step numbers last g None has asked is = (up_to_date all step numbers g has asked is.0, is.1, is.2)
judged_by_stamps all step numbers last g (Some points.All) has asked is = absurd is.2
judged_by_stamps all step numbers last g (Some points.Always) has asked is = absurd is.2
judged_by_stamps all step numbers last g (Some points.Notfile) has asked is = absurd is.2
judged_by_stamps all step numbers last g (Some (points.Lacks out)) has asked is = absurd is.2
judged_by_stamps all step numbers last g (Some (points.Older out member)) has asked is = (has, asked, is)
judged_by_stamps all step numbers last g (Some (points.FromNotfile member)) has asked is = (up_to_date all step numbers g has asked is.0, is.1)
judged_by_stamps all step numbers last g (Some (points.Done member)) has asked is = (up_to_date all step numbers g has asked is.0, is.1, is.2)
judged_by_stamps all step numbers last g (Some points.NoRecord) has asked is = (up_to_date all step numbers g has asked is.0, is.1, is.2)
judged_by_stamps all step numbers last g (Some points.Text) has asked is = (up_to_date all step numbers g has asked is.0, is.1, is.2)
judged_by_stamps all step numbers last g (Some (points.Outputs place)) has asked is = (up_to_date all step numbers g has asked is.0, is.1, is.2)
judged_by_stamps all step numbers last g (Some (points.Inputs place)) has asked is = (up_to_date all step numbers g has asked is.0, is.1, is.2)

-- the outputs of an ordinary step stand as more is known
pub has_outputs_more : (all : Bool) (step : Step) (numbers : StepNumbers) (f g : Knowledge) → Grows f g → HasOutputs all step numbers f → HasOutputs all step numbers g
has_outputs_more all step numbers f g grows has = record { ordinary = has.ordinary; stand = all_stand_more f g numbers.outs grows has.stand }

-- a reason why the files of a record differ is one why it does not agree
pub other_files_disagree : (step : Step) (numbers : StepNumbers) (last : Option Record) (found : Record) (g : Knowledge) (point : Option Point) → numbers.done ≡ None → HasText step last found → IsOtherFiles found numbers g point → IsDisagreement step numbers last g point
other_files_disagree step numbers last found g None undone text is = (undone, found, text, is.0, is.1)
other_files_disagree step numbers last found g (Some points.All) undone text is = is
other_files_disagree step numbers last found g (Some points.Always) undone text is = is
other_files_disagree step numbers last found g (Some points.Notfile) undone text is = is
other_files_disagree step numbers last found g (Some (points.Lacks out)) undone text is = is
other_files_disagree step numbers last found g (Some (points.Older out member)) undone text is = is
other_files_disagree step numbers last found g (Some (points.FromNotfile member)) undone text is = is
other_files_disagree step numbers last found g (Some (points.Done member)) undone text is = absurd is
other_files_disagree step numbers last found g (Some points.NoRecord) undone text is = absurd is
other_files_disagree step numbers last found g (Some points.Text) undone text is = absurd is
other_files_disagree step numbers last found g (Some (points.Outputs place)) undone text is = (undone, found, text, is)
other_files_disagree step numbers last found g (Some (points.Inputs place)) undone text is = (undone, found, text, is.0, is.1)

-- the answer of a judgement of an ordinary step whose outputs stand
pub judged_exact : (all : Bool) (step : Step) (numbers : StepNumbers) (last : Option Record) (f g : Knowledge) (r : Result (Option Point) Failed) → HasOutputs all step numbers f → Grows f g → OnOk r (AllAsked g numbers.ins) → IfOk r (IsJudged step numbers last g) → IfOk r (IsByStamps all step numbers last g)
judged_exact all step numbers last f g (Ok point) has grows asked judged = judged_by_stamps all step numbers last g point (has_outputs_more all step numbers f g grows has) asked judged
judged_exact all step numbers last f g (Err e) has grows asked judged = tt

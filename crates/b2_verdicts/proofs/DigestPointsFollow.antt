-- The parts of the chain of points by digests, put together.
use Rattle.std.proofs.Common.{◌≡◌, inr, Bool, true, false, Option, Some, None, MatchOption, Result, Ok, Err, subst, sym}
use Rattle.std.specs.Prelude.{IfOk}
use Rattle.b2_host.specs.Disks.{Disk}
use Rattle.b2_plan.specs.declared.step.Step.{Step}
use Rattle.b2_log.specs.declared.line.Record.{Record}
use Rattle.b2_facts.specs.declared.stop.FilesStop.{FilesStop}
use Rattle.b2_facts.specs.Facts.{Knowledge}
use Rattle.b2_facts.specs.Growth.{Grows}
use Rattle.b2_verdicts.specs.declared.point.Point.{Point}
use Rattle.b2_verdicts.specs.declared.point.Point.TheVariants as points
use Rattle.b2_verdicts.specs.declared.step_numbers.StepNumbers.{StepNumbers}
use Rattle.b2_verdicts.specs.Sights.{AllAsked, AllStand}
use Rattle.b2_verdicts.specs.Points.{IsOrdinary, IsDisagreement, IsByStamps, IsSavedBy, IsNotSavedBy, IsOpenToDigests, IsByDigests, IsPointBy}
use Rattle.b2_verdicts.specs.Chains.{IsBegun}
use Rattle.b2_verdicts.proofs.WhatIsKnownStays.{all_stand_more}

-- a point with which the chain ends early is the first by digests
pub begun_by_digests : (disk : Option Disk) (all : Bool) (step : Step) (numbers : StepNumbers) (last : Option Record) (g : Knowledge) (point : Point) → IsBegun all step numbers g (Some point) → IsByDigests disk all step numbers last g (Some point)
begun_by_digests disk all step numbers last g points.All is = is
begun_by_digests disk all step numbers last g points.Always is = is
begun_by_digests disk all step numbers last g points.Notfile is = is
begun_by_digests disk all step numbers last g (points.Lacks out) is = is
begun_by_digests disk all step numbers last g (points.Older out member) is = absurd is
begun_by_digests disk all step numbers last g (points.FromNotfile member) is = absurd is
begun_by_digests disk all step numbers last g (points.Done member) is = absurd is
begun_by_digests disk all step numbers last g points.NoRecord is = absurd is
begun_by_digests disk all step numbers last g points.Text is = absurd is
begun_by_digests disk all step numbers last g (points.Outputs place) is = absurd is
begun_by_digests disk all step numbers last g (points.Inputs place) is = absurd is

-- a reason why the last record does not agree by stamps is the first point, where it does not agree by digests either
pub disagreement_by_digests : (disk : Option Disk) (all : Bool) (step : Step) (numbers : StepNumbers) (last : Option Record) (g : Knowledge) (point : Point) → IsOpenToDigests all step numbers g → IsDisagreement step numbers last g (Some point) → IsNotSavedBy disk step numbers g last
    → IsByDigests disk all step numbers last g (Some point)
disagreement_by_digests disk all step numbers last g points.All up is not = absurd is
disagreement_by_digests disk all step numbers last g points.Always up is not = absurd is
disagreement_by_digests disk all step numbers last g points.Notfile up is not = absurd is
disagreement_by_digests disk all step numbers last g (points.Lacks out) up is not = absurd is
disagreement_by_digests disk all step numbers last g (points.Older out member) up is not = absurd is
disagreement_by_digests disk all step numbers last g (points.FromNotfile member) up is not = absurd is
disagreement_by_digests disk all step numbers last g (points.Done member) up is not = (up, is, not)
disagreement_by_digests disk all step numbers last g points.NoRecord up is not = (up, is, not)
disagreement_by_digests disk all step numbers last g points.Text up is not = (up, is, not)
disagreement_by_digests disk all step numbers last g (points.Outputs place) up is not = (up, is, not)
disagreement_by_digests disk all step numbers last g (points.Inputs place) up is not = (up, is, not)

-- the first point in a way of judging
pub point_by_stamps : (by_digest : Bool) (disk : Option Disk) (all : Bool) (step : Step) (numbers : StepNumbers) (last : Option Record) (g : Knowledge) (point : Option Point) → by_digest ≡ false → IsByStamps all step numbers last g point → IsPointBy by_digest disk all step numbers last g point
point_by_stamps by_digest disk all step numbers last g point e is = subst (λ b. IsPointBy b disk all step numbers last g point) (sym e) is

pub point_by_digests : (by_digest : Bool) (disk : Option Disk) (all : Bool) (step : Step) (numbers : StepNumbers) (last : Option Record) (g : Knowledge) (point : Option Point) → by_digest ≡ true → IsByDigests disk all step numbers last g point → IsPointBy by_digest disk all step numbers last g point
point_by_digests by_digest disk all step numbers last g point e is = subst (λ b. IsPointBy b disk all step numbers last g point) (sym e) is

-- an ordinary step whose outputs were seen to stand is open to digests, once its members were asked for
pub open_more : (all : Bool) (step : Step) (numbers : StepNumbers) (f g : Knowledge) → Grows f g → AllStand f numbers.outs → numbers.notfile ≡ None → AllAsked g numbers.ins → IsOrdinary all step → IsOpenToDigests all step numbers g
open_more all step numbers f g grows stand bare asked ordinary = record {
  has_outputs = record { ordinary = ordinary; stand = all_stand_more f g numbers.outs grows stand };
  no_notfile = bare;
  asked = asked;
}

-- a point that is left, or that a record takes away
pub left_by_digests : (disk later : Option Disk) (step : Step) (numbers : StepNumbers) (last : Option Record) (g : Knowledge) (point : Point) (r : Result (Option Point) FilesStop) → later ≡ disk → ((all : Bool) → IsOrdinary all step → IsOpenToDigests all step numbers g) → IsDisagreement step numbers last g (Some point)
    → IfOk r (λ left. MatchOption left (IsSavedBy step numbers g last) (λ stays. (stays ≡ point) × IsNotSavedBy later step numbers g last))
    → IfOk r (λ left. (all : Bool) → IsOrdinary all step → IsByDigests disk all step numbers last g left)
left_by_digests disk later step numbers last g point (Ok None) same up is left = λ all ordinary. (up all ordinary, inr left)
left_by_digests disk later step numbers last g point (Ok (Some stays)) same up is left = λ all ordinary.
    disagreement_by_digests disk all step numbers last g stays (up all ordinary) (subst (λ p. IsDisagreement step numbers last g (Some p)) (sym left.0) is) (subst (λ d. IsNotSavedBy d step numbers g last) same left.1)
left_by_digests disk later step numbers last g point (Err e) same up is left = tt

-- the answer by digests, of an ordinary step
pub exact_by_digests : (by_digest : Bool) (disk later : Option Disk) (all : Bool) (step : Step) (numbers : StepNumbers) (last : Option Record) (g : Knowledge) (r : Result (Option Point) FilesStop) → later ≡ disk → by_digest ≡ true → IsOrdinary all step
    → IfOk r (λ point. (any : Bool) → IsOrdinary any step → IsByDigests later any step numbers last g point) → IfOk r (IsPointBy by_digest disk all step numbers last g)
exact_by_digests by_digest disk later all step numbers last g (Ok point) same e ordinary exact = point_by_digests by_digest disk all step numbers last g point e (subst (λ d. IsByDigests d all step numbers last g point) same (exact all ordinary))
exact_by_digests by_digest disk later all step numbers last g (Err stop) same e ordinary exact = tt

-- what holds anyhow holds of an answer
pub if_ok_anyhow : {T E : Type 0} (r : Result T E) (A : Type 0) → A → IfOk r (λ x. A)
if_ok_anyhow (Ok x) A a = a
if_ok_anyhow (Err e) A a = tt

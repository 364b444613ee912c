-- Where a record differs from files that were asked for, it differs as more is known.
use Rattle.std.proofs.Common.{◌≡◌, ℕ, List, Option, Some, None, length, get_or, sym, ap, ◌∙◌, subst}
use Rattle.b2_plan.specs.declared.step.Step.{Step}
use Rattle.b2_log.specs.declared.line.Record.{Record}
use Rattle.b2_facts.specs.Facts.{Knowledge, IsNumber, path_at}
use Rattle.b2_facts.specs.Growth.{Grows}
use Rattle.b2_facts.proofs.ListsAtPlaces.{some_is, get_some, none_some}
use Rattle.b2_verdicts.specs.declared.point.Point.{Point}
use Rattle.b2_verdicts.specs.declared.point.Point.TheVariants as points
use Rattle.b2_verdicts.specs.declared.step_numbers.StepNumbers.{StepNumbers}
use Rattle.b2_verdicts.specs.Sights.{IsAsked, AreNumbers, AllAsked}
use Rattle.b2_verdicts.specs.Stamps.{IsLogged, AgreeUpTo, AreLogged, IsFirstOther}
use Rattle.b2_verdicts.specs.Points.{IsDisagreement}
use Rattle.b2_verdicts.proofs.StampsAreCompared.{not_logged}
use Rattle.b2_verdicts.proofs.WhatIsKnownStays.{stamp_stays, standing_stays}

-- ---- one file

-- the path of a number was the same before
pub path_before : (f g : Knowledge) (n : ℕ) (path : List ℕ) → Grows f g → IsNumber f n → path_at g n ≡ Some path → path_at f n ≡ Some path
path_before f g n path grows number name =
    let (own, at) = get_some f.paths n number.0 in
    at ∙ ap Some (some_is own path (sym (grows.paths n own at) ∙ name))

logged_more : (f g : Knowledge) (one : List ℕ × ℕ) (n : ℕ) → Grows f g → IsLogged f one n → IsLogged g one n
logged_more f g one n grows logged = (grows.paths n one.0 logged.0, standing_stays f g n one.1 grows logged.1)

logged_before : (f g : Knowledge) (one : List ℕ × ℕ) (n : ℕ) → Grows f g → IsNumber f n → IsAsked f n → IsLogged g one n → IsLogged f one n
logged_before f g one n grows number asked logged = (path_before f g n one.0 grows number logged.0, sym (stamp_stays f g n grows asked) ∙ logged.1)

-- ---- files of a list

agree_more : (f g : Knowledge) (logged : List (List ℕ × ℕ)) (ns : List ℕ) (place : ℕ) → Grows f g → AgreeUpTo f logged ns place → AgreeUpTo g logged ns place
agree_more f g logged ns place grows agree k one below at = logged_more f g one (get_or ns k 0) grows (agree k one below at)

pub are_logged_more : (f g : Knowledge) (logged : List (List ℕ × ℕ)) (ns : List ℕ) → Grows f g → AreLogged f logged ns → AreLogged g logged ns
are_logged_more f g logged ns grows have = record { count = have.count; each = agree_more f g logged ns (length ns) grows have.each }

first_other_more : (f g : Knowledge) (logged : List (List ℕ × ℕ)) (ns : List ℕ) (place : ℕ) → Grows f g → AreNumbers f ns → AllAsked f ns → IsFirstOther f logged ns place → IsFirstOther g logged ns place
first_other_more f g logged ns place grows numbers asked first = record {
  within = first.within;
  in_logged = first.in_logged;
  in_files = first.in_files;
  before = agree_more f g logged ns place grows first.before;
  other = λ one at within same. first.other one at within (logged_before f g one (get_or ns place 0) grows (numbers place within) (asked place within) same);
}

-- ---- the last record

-- Facts have grown, and in the old ones the files of a step have numbers and were asked for.
pub record GrowsOfStep (numbers : StepNumbers) (f g : Knowledge) : Type 0 where
  pub grows : Grows f g
  pub outs : AreNumbers f numbers.outs
  pub ins : AreNumbers f numbers.ins
  pub asked_outs : AllAsked f numbers.outs
  pub asked_ins : AllAsked f numbers.ins

pub disagreement_more : (step : Step) (numbers : StepNumbers) (last : Option Record) (f g : Knowledge) (point : Option Point) → GrowsOfStep numbers f g → IsDisagreement step numbers last f point → IsDisagreement step numbers last g point
disagreement_more step numbers last f g None more (undone, found, text, outs, ins) = (undone, found, text, are_logged_more f g found.outs numbers.outs more.grows outs, are_logged_more f g found.ins numbers.ins more.grows ins)
disagreement_more step numbers last f g (Some points.All) more is = absurd is
disagreement_more step numbers last f g (Some points.Always) more is = absurd is
disagreement_more step numbers last f g (Some points.Notfile) more is = absurd is
disagreement_more step numbers last f g (Some (points.Lacks out)) more is = absurd is
disagreement_more step numbers last f g (Some (points.Older out member)) more is = absurd is
disagreement_more step numbers last f g (Some (points.FromNotfile member)) more is = absurd is
disagreement_more step numbers last f g (Some (points.Done member)) more is = is
disagreement_more step numbers last f g (Some points.NoRecord) more is = is
disagreement_more step numbers last f g (Some points.Text) more is = is
disagreement_more step numbers last f g (Some (points.Outputs place)) more (undone, found, text, first) =
    (undone, found, text, first_other_more f g found.outs numbers.outs place more.grows more.outs more.asked_outs first)
disagreement_more step numbers last f g (Some (points.Inputs place)) more (undone, found, text, outs, first) =
    (undone, found, text, are_logged_more f g found.outs numbers.outs more.grows outs, first_other_more f g found.ins numbers.ins place more.grows more.ins more.asked_ins first)

-- a record that agrees gives no reason
pub none_disagrees : (step : Step) (numbers : StepNumbers) (last : Option Record) (g : Knowledge) (point : Point) → IsDisagreement step numbers last g None → IsDisagreement step numbers last g (Some point) → ⊥
none_disagrees step numbers last g points.All none is = is
none_disagrees step numbers last g points.Always none is = is
none_disagrees step numbers last g points.Notfile none is = is
none_disagrees step numbers last g (points.Lacks out) none is = is
none_disagrees step numbers last g (points.Older out member) none is = is
none_disagrees step numbers last g (points.FromNotfile member) none is = is
none_disagrees step numbers last g (points.Done member) (undone, found, text, outs, ins) is = none_some member (sym undone ∙ is)
none_disagrees step numbers last g points.NoRecord (undone, found, text, outs, ins) (undone_too, gone) = none_some found (sym gone ∙ text.is)
none_disagrees step numbers last g points.Text (undone, found, text, outs, ins) (undone_too, other, at, differs) =
    differs (ap (λ (r : Record). r.text) (some_is other found (sym at ∙ text.is)) ∙ text.text)
none_disagrees step numbers last g (points.Outputs place) (undone, found, text, outs, ins) (undone_too, other, other_text, first) =
    not_logged g other.outs numbers.outs place first (subst (λ (r : Record). AreLogged g r.outs numbers.outs) (some_is found other (sym text.is ∙ other_text.is)) outs)
none_disagrees step numbers last g (points.Inputs place) (undone, found, text, outs, ins) (undone_too, other, other_text, other_outs, first) =
    not_logged g other.ins numbers.ins place first (subst (λ (r : Record). AreLogged g r.ins numbers.ins) (some_is found other (sym text.is ∙ other_text.is)) ins)

use Rattle.std.proofs.Common.{◌≡◌, ◌∙◌, ℕ, Option, Err, Ok, refl, sym, ap, subst}
use Rattle.std.specs.Prelude.{MatchOption}
use Rattle.std.proofs.lemmas.Result.{err_from_is_err_and}
use Rattle.b2_sched.specs.Schedules.{IsNeeded, IsUnjudged, IsStep, CanLook}
use Rattle.b2_sched.specs.SchedulerCalls.{looked_at}
use Rattle.b2_board.specs.declared.board.Board.{Board}
use Rattle.b2_explain.specs.Surveys.{AreSurveyed, SurveyTold}
use Rattle.b2_explain.proofs.SurveyGoesOn.{surveyed_taken}
use Rattle.b2_explain.proofs.SurveyIsTold.{told_same, told_then, told_err}
use Rattle.b2_explain.proofs.LooksAreSurveyed.{still_same, still_then, still_disk, still_risks, faults_then, faults_err, taken_told}
use Rattle.b2_explain.proofs.survey.Survey.look_all.Goals as goal

pub loop-number-init : goal.loop-number-init
loop-number-init g c =
    let x = g.F.Files.outside c.args.files.now in
    record {
      still = still_same x x refl;
      faults = refl;
      about = c.requires.about;
      surveyed = c.requires.surveyed;
      told = told_same c.args.plan.now c.args.all x c.args.self.now tt;
    }

pub look-requires-clause-surveyed : goal.look-requires-clause-surveyed
look-requires-clause-surveyed g c =
    let plan = c.args.plan.now in
    let y = c.loop-number.self in
    surveyed_taken plan c.args.all c.in-Some.number y c.take_look.new.self c.loop-number.invariant.about c.in-Some.ensures.after.0 c.in-Some.ensures.after.1 (c.in-Some.ensures.board plan y.sights.facts c.loop-number.invariant.surveyed.board) c.loop-number.invariant.surveyed

pub look-requires-clause-about : goal.look-requires-clause-about
look-requires-clause-about g c = c.loop-number.invariant.about

pub look-requires-clause-step : goal.look-requires-clause-step
look-requires-clause-step g c = c.in-Some.ensures.none.2

pub look-requires-clause-needed : goal.look-requires-clause-needed
look-requires-clause-needed g c = c.in-Some.ensures.none.0

pub look-requires-clause-unjudged : goal.look-requires-clause-unjudged
look-requires-clause-unjudged g c = c.in-Some.ensures.none.1

pub returns-in_err-look-clause-still : goal.returns-in_err-look-clause-still
returns-in_err-look-clause-still g c = still_then (g.F.Files.outside c.args.files.now) (g.F.Files.outside c.loop-number.files) (g.F.Files.outside c.look.new.files) c.loop-number.invariant.still c.in_err-look.ensures.still

pub returns-in_err-look-clause-faults : goal.returns-in_err-look-clause-faults
returns-in_err-look-clause-faults g c =
    let (e1, e, q) = err_from_is_err_and c.from_residual.result c.from_residual.ensures.1 in
    let x = g.F.Files.outside c.args.files.now in
    let y = g.F.Files.outside c.loop-number.files in
    let z = g.F.Files.outside c.look.new.files in
    faults_then x y z c.from_residual.result (still_risks x y c.loop-number.invariant.still) c.loop-number.invariant.faults (faults_err (Unit {0}) y z c.in_err-look.field-0.0 c.from_residual.result (e ∙ ap Err q) c.in_err-look.ensures.faults)

pub returns-in_err-look-clause-told : goal.returns-in_err-look-clause-told
returns-in_err-look-clause-told g c =
    let (e1, e, q) = err_from_is_err_and c.from_residual.result c.from_residual.ensures.1 in
    let plan = c.args.plan.now in
    let x = g.F.Files.outside c.args.files.now in
    let y = g.F.Files.outside c.loop-number.files in
    let z = g.F.Files.outside c.look.new.files in
    let s0 = c.args.self.now in
    let s = c.loop-number.self in
    let taken = record s { board = c.take_look.new.self } in
    told_err (Unit {0}) plan c.args.all x s0 z c.look.new.self c.in_err-look.field-0.0 c.from_residual.result (e ∙ ap Err q)
    (told_then {T = Unit {0}} {S = Unit {0}} plan c.args.all x s0 y taken z c.look.new.self tt (Err c.in_err-look.field-0.0) (still_disk x y c.loop-number.invariant.still) (still_disk y z c.in_err-look.ensures.still)
    (taken_told plan c.args.all x s0 y s c.take_look.new.self c.in-Some.number (still_disk x y c.loop-number.invariant.still) c.in-Some.ensures.after.1 c.loop-number.invariant.told) c.in_err-look.ensures.told)

pub loop-number-preserved : goal.loop-number-preserved
loop-number-preserved g c =
    let plan = c.args.plan.now in
    let x = g.F.Files.outside c.args.files.now in
    let y = g.F.Files.outside c.loop-number.files in
    let z = g.F.Files.outside c.look.new.files in
    let s0 = c.args.self.now in
    let s = c.loop-number.self in
    let taken = record s { board = c.take_look.new.self } in
    let still = c.loop-number.invariant.still in
    record {
      still = still_then x y z still c.in_ok-look.ensures.still;
      faults = c.in_ok-look.ensures.faults ∙ c.loop-number.invariant.faults;
      about = c.look.ensures.about;
      surveyed = c.in_ok-look.ensures.surveyed;
      told = told_then {T = Unit {0}} {S = Unit {0}} plan c.args.all x s0 y taken z c.look.new.self tt (Ok tt) (still_disk x y still) (still_disk y z c.in_ok-look.ensures.still)
          (taken_told plan c.args.all x s0 y s c.take_look.new.self c.in-Some.number (still_disk x y still) c.in-Some.ensures.after.1 c.loop-number.invariant.told) c.in_ok-look.ensures.told;
    }

pub returns-clause-surveyed : goal.returns-clause-surveyed
returns-clause-surveyed g c =
    let after : c.take_look.new.self ≡ c.loop-number.self.board = subst (λ (o : Option ℕ). MatchOption o (c.take_look.new.self ≡ c.loop-number.self.board) (λ number. (c.take_look.new.self.works ≡ c.loop-number.self.board.works) × (c.take_look.new.self.sched ≡ looked_at c.loop-number.self.board.sched number))) c.in_default.is c.take_look.ensures.after in
    subst (λ (b : Board). AreSurveyed c.args.plan.now c.args.all 0 (record c.loop-number.self { board = b })) (sym after) c.loop-number.invariant.surveyed

pub returns-clause-all : goal.returns-clause-all
returns-clause-all g c i can =
    let after : c.take_look.new.self ≡ c.loop-number.self.board = subst (λ (o : Option ℕ). MatchOption o (c.take_look.new.self ≡ c.loop-number.self.board) (λ number. (c.take_look.new.self.works ≡ c.loop-number.self.board.works) × (c.take_look.new.self.sched ≡ looked_at c.loop-number.self.board.sched number))) c.in_default.is c.take_look.ensures.after in
    let none = subst (λ (o : Option ℕ). MatchOption o ((i : ℕ) → CanLook c.loop-number.self.board.sched i → ⊥) (λ number. IsNeeded c.take_look.new.self.sched number × IsUnjudged c.take_look.new.self.sched number × IsStep c.take_look.new.self.sched number)) c.in_default.is c.take_look.ensures.none in
    none i (subst (λ (b : Board). CanLook b.sched i) after can)

pub returns-clause-told : goal.returns-clause-told
returns-clause-told g c =
    let after : c.take_look.new.self ≡ c.loop-number.self.board = subst (λ (o : Option ℕ). MatchOption o (c.take_look.new.self ≡ c.loop-number.self.board) (λ number. (c.take_look.new.self.works ≡ c.loop-number.self.board.works) × (c.take_look.new.self.sched ≡ looked_at c.loop-number.self.board.sched number))) c.in_default.is c.take_look.ensures.after in
    subst (λ (b : Board). SurveyTold {T = Unit {0}} c.args.plan.now c.args.all (g.F.Files.outside c.args.files.now) c.args.self.now (g.F.Files.outside c.loop-number.files) (record c.loop-number.self { board = b }) (Ok tt)) (sym after) c.loop-number.invariant.told

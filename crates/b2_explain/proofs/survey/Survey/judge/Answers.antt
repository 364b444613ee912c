use Rattle.std.proofs.Common.{◌≡◌, ◌∙◌, ℕ, Bool, List, Some, Err, refl, sym, ap, subst}
use Rattle.std.specs.List.{Contains, AllPairs}
use Rattle.std.proofs.lemmas.Result.{err_from_is_err_and}
use Rattle.b2_host.specs.Outside.{Outside}
use Rattle.b2_plan.specs.declared.step.Step.{Step}
use Rattle.b2_plan.specs.Plans.{step_at}
use Rattle.b2_facts.specs.Facts.{IsAbout}
use Rattle.b2_reach.specs.declared.sights.Sights.{Sights}
use Rattle.b2_looks.specs.Numbers.{AreNumbersBy}
use Rattle.b2_explain.proofs.SurveyIsTold.{told_no_memory, told_failed}
use Rattle.b2_explain.proofs.LooksAreSurveyed.{still_same, still_fails, still_disk, faults_failed, faults_no_memory, the_step, member_number, members_once, within_works, within_judged, judged_outs, judged_ins, judged_ahead, judged_surveyed, judged_told}
use Rattle.b2_explain.proofs.survey.Survey.judge.Goals as goal

pub step_of-step-requires : goal.step_of-step-requires
step_of-step-requires g c =
    let (step, at) = the_step c.args.plan.now c.args.all c.args.number c.args.self.now c.requires.about c.requires.surveyed c.requires.over in
    (step, subst (λ (xs : List Step). step_at xs c.args.number ≡ Some step) (sym c.as_slice.ensures) at)

pub members_of-members-requires : goal.members_of-members-requires
members_of-members-requires g c = within_works c.args.plan.now c.args.all c.args.number c.args.self.now c.requires.about c.requires.surveyed c.requires.over c.requires.step

pub step_numbers-requires-clause-numbers : goal.step_numbers-requires-clause-numbers
step_numbers-requires-clause-numbers g c n among = member_number c.args.plan.now c.args.all c.args.number c.args.self.now c.requires.about c.requires.surveyed c.requires.over n (subst (λ (ms : List ℕ). Contains ms n) c.members_of-members.ensures among)

pub step_numbers-requires-clause-distinct : goal.step_numbers-requires-clause-distinct
step_numbers-requires-clause-distinct g c = subst (AllPairs (λ (n m : ℕ). n ≡ m → ⊥)) (sym c.members_of-members.ensures) (members_once c.args.plan.now c.args.all c.args.number c.args.self.now c.requires.about c.requires.surveyed c.requires.over)

pub returns-in_err-numbers-clause-faults : goal.returns-in_err-numbers-clause-faults
returns-in_err-numbers-clause-faults g c =
    let (y, e, q) = err_from_is_err_and c.from_residual.result c.from_residual.ensures.1 in
    let x = g.F.Files.outside c.args.files.now in
    faults_no_memory x x c.from_residual.result (e ∙ ap Err q) refl

pub returns-in_err-numbers-clause-told : goal.returns-in_err-numbers-clause-told
returns-in_err-numbers-clause-told g c =
    let (y, e, q) = err_from_is_err_and c.from_residual.result c.from_residual.ensures.1 in
    let x = g.F.Files.outside c.args.files.now in
    let old = c.args.self.now in
    told_no_memory c.args.plan.now c.args.all x old x (record old { sights = record old.sights { facts = c.step_numbers.new.facts } }) c.from_residual.result refl (e ∙ ap Err q)

pub point_of-requires-clause-outs : goal.point_of-requires-clause-outs
point_of-requires-clause-outs g c =
    let plan = c.args.plan.now in
    let old = c.args.self.now in
    let step = c.step_of-step.result.now in
    let numbers = c.in_ok-numbers.numbers in
    let at = subst (λ (xs : List Step). step_at xs c.args.number ≡ Some step) c.as_slice.ensures c.step_of-step.ensures in
    let files = subst (λ (ms : List ℕ). AreNumbersBy plan.steps old.ran.items c.step_numbers.new.facts step ms numbers) c.members_of-members.ensures (subst (λ (ran : List Bool). AreNumbersBy plan.steps ran c.step_numbers.new.facts step c.members_of-members.result.now numbers) c.deref.ensures.value c.in_ok-numbers.ensures.numbers) in
    judged_outs plan c.args.all c.args.number old c.requires.about c.requires.surveyed c.requires.over step at numbers c.step_numbers.new.facts c.step_numbers.ensures.learns files

pub point_of-requires-clause-ins : goal.point_of-requires-clause-ins
point_of-requires-clause-ins g c =
    let plan = c.args.plan.now in
    let old = c.args.self.now in
    let step = c.step_of-step.result.now in
    let numbers = c.in_ok-numbers.numbers in
    let at = subst (λ (xs : List Step). step_at xs c.args.number ≡ Some step) c.as_slice.ensures c.step_of-step.ensures in
    let files = subst (λ (ms : List ℕ). AreNumbersBy plan.steps old.ran.items c.step_numbers.new.facts step ms numbers) c.members_of-members.ensures (subst (λ (ran : List Bool). AreNumbersBy plan.steps ran c.step_numbers.new.facts step c.members_of-members.result.now numbers) c.deref.ensures.value c.in_ok-numbers.ensures.numbers) in
    judged_ins plan c.args.all c.args.number old c.requires.about c.requires.surveyed c.requires.over step at numbers c.step_numbers.new.facts c.step_numbers.ensures.learns files

pub returns-in_err-point-clause-still : goal.returns-in_err-point-clause-still
returns-in_err-point-clause-still g c = still_fails (g.F.Files.outside c.args.files.now) (g.F.Files.outside c.point_of.new.files) c.in_err-point.ensures.effect

pub returns-in_err-point-clause-faults : goal.returns-in_err-point-clause-faults
returns-in_err-point-clause-faults g c =
    let (y, e, q) = err_from_is_err_and c.from_residual-in_err-point.result c.from_residual-in_err-point.ensures.1 in
    faults_failed (g.F.Files.outside c.args.files.now) (g.F.Files.outside c.point_of.new.files) c.from_residual-in_err-point.result (e ∙ ap Err q) c.in_err-point.ensures.effect

pub returns-in_err-point-clause-about : goal.returns-in_err-point-clause-about
returns-in_err-point-clause-about g c = (c.point_of.ensures.learns.learns c.args.plan.now.steps c.args.plan.now.roots).about (c.step_numbers.ensures.learns.about c.requires.about)

pub returns-in_err-point-clause-told : goal.returns-in_err-point-clause-told
returns-in_err-point-clause-told g c =
    let (y, e, q) = err_from_is_err_and c.from_residual-in_err-point.result c.from_residual-in_err-point.ensures.1 in
    let a = g.F.Files.outside c.args.files.now in
    let b = g.F.Files.outside c.point_of.new.files in
    let old = c.args.self.now in
    told_failed c.args.plan.now c.args.all a old b (record old { sights = c.point_of.new.sights }) c.from_residual-in_err-point.result (still_disk a b (still_fails a b c.in_err-point.ensures.effect)) (e ∙ ap Err q)

pub enter-requires-clause-within : goal.enter-requires-clause-within
enter-requires-clause-within g c = within_judged c.args.plan.now c.args.all c.args.number c.args.self.now c.requires.about c.requires.surveyed c.requires.over c.requires.step

pub returns-clause-still : goal.returns-clause-still
returns-clause-still g c = still_same (g.F.Files.outside c.args.files.now) (g.F.Files.outside c.point_of.new.files) c.in_ok-point.ensures.effect

pub returns-clause-faults : goal.returns-clause-faults
returns-clause-faults g c = ap (λ (o : Outside). o.faults) c.in_ok-point.ensures.effect

pub returns-clause-about : goal.returns-clause-about
returns-clause-about g c =
    let plan = c.args.plan.now in
    subst (λ (s : Sights). IsAbout plan.steps plan.roots s.facts) (sym c.enter.ensures.sights) ((c.point_of.ensures.learns.learns plan.steps plan.roots).about (c.step_numbers.ensures.learns.about c.requires.about))

pub returns-clause-surveyed : goal.returns-clause-surveyed
returns-clause-surveyed g c =
    let plan = c.args.plan.now in
    let old = c.args.self.now in
    let step = c.step_of-step.result.now in
    let numbers = c.in_ok-numbers.numbers in
    let between = c.step_numbers.new.facts in
    let t = c.point_of.new.sights in
    let at = subst (λ (xs : List Step). step_at xs c.args.number ≡ Some step) c.as_slice.ensures c.step_of-step.ensures in
    let files = subst (λ (ms : List ℕ). AreNumbersBy plan.steps old.ran.items between step ms numbers) c.members_of-members.ensures (subst (λ (ran : List Bool). AreNumbersBy plan.steps ran between step c.members_of-members.result.now numbers) c.deref.ensures.value c.in_ok-numbers.ensures.numbers) in
    judged_surveyed plan c.args.all c.args.number old c.requires.about c.requires.surveyed c.requires.over step at numbers between c.step_numbers.ensures.learns files t.facts (c.point_of.ensures.learns.learns plan.steps plan.roots) t c.point_of.ensures.sights c.in_ok-point.point c.in_ok-point.ensures.exact
    c.requires.step c.requires.needed c.requires.unjudged c.enter.new.self c.enter.ensures.sights c.enter.ensures.ran c.enter.ensures.works c.enter.ensures.stale c.enter.ensures.fresh c.enter.ensures.size c.enter.ensures.judged c.enter.ensures.entered c.enter.ensures.board

pub returns-clause-fewer : goal.returns-clause-fewer
returns-clause-fewer g c =
    let plan = c.args.plan.now in
    let old = c.args.self.now in
    let step = c.step_of-step.result.now in
    let numbers = c.in_ok-numbers.numbers in
    let between = c.step_numbers.new.facts in
    let t = c.point_of.new.sights in
    let at = subst (λ (xs : List Step). step_at xs c.args.number ≡ Some step) c.as_slice.ensures c.step_of-step.ensures in
    let files = subst (λ (ms : List ℕ). AreNumbersBy plan.steps old.ran.items between step ms numbers) c.members_of-members.ensures (subst (λ (ran : List Bool). AreNumbersBy plan.steps ran between step c.members_of-members.result.now numbers) c.deref.ensures.value c.in_ok-numbers.ensures.numbers) in
    judged_ahead plan c.args.all c.args.number old c.requires.about c.requires.surveyed c.requires.over step at numbers between c.step_numbers.ensures.learns files t.facts (c.point_of.ensures.learns.learns plan.steps plan.roots) t c.point_of.ensures.sights c.in_ok-point.point c.in_ok-point.ensures.exact
    c.requires.step c.requires.needed c.requires.unjudged c.enter.new.self c.enter.ensures.sights c.enter.ensures.ran c.enter.ensures.works c.enter.ensures.stale c.enter.ensures.fresh

pub returns-clause-told : goal.returns-clause-told
returns-clause-told g c =
    let plan = c.args.plan.now in
    let old = c.args.self.now in
    let step = c.step_of-step.result.now in
    let numbers = c.in_ok-numbers.numbers in
    let between = c.step_numbers.new.facts in
    let t = c.point_of.new.sights in
    let a = g.F.Files.outside c.args.files.now in
    let b = g.F.Files.outside c.point_of.new.files in
    let at = subst (λ (xs : List Step). step_at xs c.args.number ≡ Some step) c.as_slice.ensures c.step_of-step.ensures in
    let files = subst (λ (ms : List ℕ). AreNumbersBy plan.steps old.ran.items between step ms numbers) c.members_of-members.ensures (subst (λ (ran : List Bool). AreNumbersBy plan.steps ran between step c.members_of-members.result.now numbers) c.deref.ensures.value c.in_ok-numbers.ensures.numbers) in
    judged_told plan c.args.all c.args.number old c.requires.about c.requires.surveyed c.requires.over step at numbers between c.step_numbers.ensures.learns files t.facts (c.point_of.ensures.learns.learns plan.steps plan.roots) t c.point_of.ensures.sights c.in_ok-point.point c.in_ok-point.ensures.exact
    c.requires.step c.requires.needed c.requires.unjudged c.enter.new.self c.enter.ensures.sights c.enter.ensures.ran c.enter.ensures.works c.enter.ensures.stale c.enter.ensures.fresh a b tt
    (ap (λ (o : Outside). o.disk) c.in_ok-point.ensures.effect) c.step_numbers.ensures.told c.point_of.ensures.learns.stays

use Rattle.std.proofs.Common.{◌≡◌, ◌∙◌, ℕ, Bool, List, Some, Err, Ok, refl, sym, ap, subst}
use Rattle.std.specs.List.{Contains, AllPairs}
use Rattle.std.proofs.lemmas.Result.{err_from_is_err_and}
use Rattle.b2_plan.specs.declared.step.Step.{Step}
use Rattle.b2_plan.specs.Plans.{step_at}
use Rattle.b2_facts.specs.declared.stop.FilesStop.TheVariants as stops
use Rattle.b2_facts.specs.Growth.{OfNone}
use Rattle.b2_facts.proofs.FactsGrow.{learns_more, number_grows}
use Rattle.b2_looks.specs.Numbers.{AreFilesOf, AreNumbersBy}
use Rattle.b2_looks.specs.Looks.{IsOfUnstarted}
use Rattle.b2_looks.specs.UnderWay.{LookTold}
use Rattle.b2_looks.proofs.FilesAreNumbered.{ins_numbers, ins_rise, outs_numbers, outs_some}
use Rattle.b2_looks.proofs.LooksAreKept.{judged_on, judged_ahead, judged_way}
use Rattle.b2_looks.proofs.FilesAreLookedAt.{looks_no_memory, looks_err, looks_ok}
use Rattle.b2_looks.proofs.JudgementIsEntered.{the_step, member_number, members_once, within_ready, judgement_entered, judgement_looks}
use Rattle.b2_looks.proofs.LooksAreTold.{told_no_memory}
use Rattle.b2_looks.proofs.JudgementIsTold.{judgement_stopped, judgement_told}
use Rattle.b2_looks.proofs.looks.Looks.judge.Goals as goal

pub step_of-step-requires : goal.step_of-step-requires
step_of-step-requires g c =
    let (step, at) = the_step c.args.plan.now c.args.number c.args.sights.now.facts c.args.self.now c.requires.apart c.requires.about c.requires.looks c.requires.unjudged c.requires.over in
    (step, subst (λ (xs : List Step). step_at xs c.args.number ≡ Some step) (sym c.as_slice.ensures) at)

pub step_numbers-requires-clause-numbers : goal.step_numbers-requires-clause-numbers
step_numbers-requires-clause-numbers g c n among = member_number c.args.plan.now c.args.number c.args.sights.now.facts c.args.self.now c.requires.apart c.requires.about c.requires.looks c.requires.unjudged c.requires.over n (subst (λ (ms : List ℕ). Contains ms n) c.members_of-members.ensures among)

pub step_numbers-requires-clause-distinct : goal.step_numbers-requires-clause-distinct
step_numbers-requires-clause-distinct g c = subst (AllPairs (λ (n m : ℕ). n ≡ m → ⊥)) (sym c.members_of-members.ensures) (members_once c.args.plan.now c.args.number c.args.sights.now.facts c.args.self.now c.requires.apart c.requires.about c.requires.looks c.requires.unjudged c.requires.over)

pub returns-in_err-numbers-clause-looks : goal.returns-in_err-numbers-clause-looks
returns-in_err-numbers-clause-looks g c =
    let (y, e, q) = err_from_is_err_and c.from_residual.result c.from_residual.ensures.1 in
    let steps = c.args.plan.now.steps in
    let roots = c.args.plan.now.roots in
    let s = c.args.sights.now in
    let t = record s { facts = c.step_numbers.new.facts } in
    let x = g.F.Files.outside c.args.files.now in
    let P = IsOfUnstarted c.args.self.now.board.sched t.facts in
    looks_err steps roots P s t x x stops.OutOfMemory c.from_residual.result (e ∙ ap Err q) (looks_no_memory steps roots {T = Unit {0}} P s t x (learns_more steps roots OfNone P s.facts t.facts (λ n none. absurd none) c.step_numbers.ensures.learns) refl)

pub returns-in_err-numbers-clause-told : goal.returns-in_err-numbers-clause-told
returns-in_err-numbers-clause-told g c =
    let (y, e, q) = err_from_is_err_and c.from_residual.result c.from_residual.ensures.1 in
    let s = c.args.sights.now in
    told_no_memory (Unit {0}) c.args.plan.now (g.F.Files.outside c.args.files.now) c.args.self.now c.args.self.now s (record s { facts = c.step_numbers.new.facts }) c.from_residual.result (e ∙ ap Err q)

pub is_fresh-requires-clause-outs : goal.is_fresh-requires-clause-outs
is_fresh-requires-clause-outs g c = outs_numbers c.args.plan.now.steps c.step_numbers.new.facts c.step_of-step.result.now c.members_of-members.result.now c.in_ok-numbers.numbers c.in_ok-numbers.ensures.numbers.files (c.step_numbers.ensures.learns.about c.requires.about).sizes

pub is_fresh-requires-clause-ins : goal.is_fresh-requires-clause-ins
is_fresh-requires-clause-ins g c = ins_numbers c.args.plan.now.steps c.step_numbers.new.facts c.step_of-step.result.now c.members_of-members.result.now c.in_ok-numbers.numbers c.in_ok-numbers.ensures.numbers.files
    (λ n among. number_grows c.args.sights.now.facts c.step_numbers.new.facts c.step_numbers.ensures.learns.grows n (member_number c.args.plan.now c.args.number c.args.sights.now.facts c.args.self.now c.requires.apart c.requires.about c.requires.looks c.requires.unjudged c.requires.over n (subst (λ (ms : List ℕ). Contains ms n) c.members_of-members.ensures among)))

pub is_fresh-requires-clause-some_out : goal.is_fresh-requires-clause-some_out
is_fresh-requires-clause-some_out g c = outs_some c.args.plan.now.steps c.step_numbers.new.facts c.step_of-step.result.now c.members_of-members.result.now c.in_ok-numbers.numbers c.in_ok-numbers.ensures.numbers.files
    (c.requires.apart.some_out c.args.number c.step_of-step.result.now (subst (λ (xs : List Step). step_at xs c.args.number ≡ Some c.step_of-step.result.now) c.as_slice.ensures c.step_of-step.ensures))

pub is_fresh-requires-clause-rising : goal.is_fresh-requires-clause-rising
is_fresh-requires-clause-rising g c = ins_rise c.args.plan.now.steps c.step_numbers.new.facts c.step_of-step.result.now c.members_of-members.result.now c.in_ok-numbers.numbers c.in_ok-numbers.ensures.numbers.files

pub is_fresh-requires-clause-about : goal.is_fresh-requires-clause-about
is_fresh-requires-clause-about g c = (c.args.plan.now.steps, c.args.plan.now.roots, c.step_numbers.ensures.learns.about c.requires.about)

pub returns-in_err-fresh-clause-looks : goal.returns-in_err-fresh-clause-looks
returns-in_err-fresh-clause-looks g c =
    let (y, e, q) = err_from_is_err_and c.from_residual-in_err-fresh.result c.from_residual-in_err-fresh.ensures.1 in
    let stop = c.in_err-fresh.field-0.0 in
    let plan = c.args.plan.now in
    let s = c.args.sights.now in
    let t = record s { facts = c.step_numbers.new.facts } in
    let v = c.is_fresh.new.sights in
    let a = g.F.Files.outside c.args.files.now in
    let d = g.F.Files.outside c.is_fresh.new.files in
    let l = c.args.self.now in
    let numbers = c.in_ok-numbers.numbers in
    let step = c.step_of-step.result.now in
    let at = subst (λ (xs : List Step). step_at xs c.args.number ≡ Some step) c.as_slice.ensures c.step_of-step.ensures in
    let files = subst (λ (ms : List ℕ). AreFilesOf plan.steps t.facts step ms numbers) c.members_of-members.ensures c.in_ok-numbers.ensures.numbers.files in
    let looked = c.in_err-fresh.ensures.looks plan.steps plan.roots in
    looks_err plan.steps plan.roots (IsOfUnstarted l.board.sched v.facts) s v a d stop c.from_residual-in_err-fresh.result (e ∙ ap Err q)
    (judgement_looks plan c.args.number s.facts l c.requires.apart c.requires.about c.requires.looks c.requires.unjudged c.requires.over step numbers t.facts v.facts at c.step_numbers.ensures.learns files looked.learns c.in_err-fresh.ensures.includes s t v a d (Err stop) refl refl refl looked)

pub returns-in_err-fresh-clause-told : goal.returns-in_err-fresh-clause-told
returns-in_err-fresh-clause-told g c =
    let (e1, e, q) = err_from_is_err_and c.from_residual-in_err-fresh.result c.from_residual-in_err-fresh.ensures.1 in
    let stop = c.in_err-fresh.field-0.0 in
    let plan = c.args.plan.now in
    let s = c.args.sights.now in
    let v = c.is_fresh.new.sights in
    let a = g.F.Files.outside c.args.files.now in
    let d = g.F.Files.outside c.is_fresh.new.files in
    let l = c.args.self.now in
    let numbers = c.in_ok-numbers.numbers in
    let step = c.step_of-step.result.now in
    let at = subst (λ (xs : List Step). step_at xs c.args.number ≡ Some step) c.as_slice.ensures c.step_of-step.ensures in
    let numbered = subst (λ (ms : List ℕ). AreNumbersBy plan.steps l.ran.items c.step_numbers.new.facts step ms numbers) c.members_of-members.ensures (subst (λ (ran : List Bool). AreNumbersBy plan.steps ran c.step_numbers.new.facts step c.members_of-members.result.now numbers) c.deref.ensures.value c.in_ok-numbers.ensures.numbers) in
    subst (LookTold plan a l s d l v) (sym (e ∙ ap Err q))
    (judgement_stopped plan c.args.number l s c.step_numbers.new.facts c.requires.apart c.requires.about c.requires.looks c.requires.step c.requires.needed c.requires.unjudged c.requires.over step at numbers c.step_numbers.ensures.learns c.step_numbers.ensures.told numbered a d v l stop c.in_err-fresh.ensures.told)

pub enter-requires-clause-within : goal.enter-requires-clause-within
enter-requires-clause-within g c = within_ready c.args.plan.now c.args.number c.args.sights.now.facts c.args.self.now c.requires.apart c.requires.about c.requires.looks c.requires.unjudged c.requires.over c.requires.step

pub returns-clause-looks : goal.returns-clause-looks
returns-clause-looks g c =
    let plan = c.args.plan.now in
    let s = c.args.sights.now in
    let t = record s { facts = c.step_numbers.new.facts } in
    let v = c.is_fresh.new.sights in
    let a = g.F.Files.outside c.args.files.now in
    let d = g.F.Files.outside c.is_fresh.new.files in
    let l = c.args.self.now in
    let numbers = c.in_ok-numbers.numbers in
    let step = c.step_of-step.result.now in
    let at = subst (λ (xs : List Step). step_at xs c.args.number ≡ Some step) c.as_slice.ensures c.step_of-step.ensures in
    let files = subst (λ (ms : List ℕ). AreFilesOf plan.steps t.facts step ms numbers) c.members_of-members.ensures c.in_ok-numbers.ensures.numbers.files in
    let looked = c.in_ok-fresh.ensures.looks plan.steps plan.roots in
    looks_ok plan.steps plan.roots (IsOfUnstarted l.board.sched v.facts) s v a d c.in_ok-fresh.fresh tt
    (judgement_looks plan c.args.number s.facts l c.requires.apart c.requires.about c.requires.looks c.requires.unjudged c.requires.over step numbers t.facts v.facts at c.step_numbers.ensures.learns files looked.learns c.in_ok-fresh.ensures.includes s t v a d (Ok c.in_ok-fresh.fresh) refl refl refl looked)

pub returns-clause-way : goal.returns-clause-way
returns-clause-way g c = judged_way c.in_ok-fresh.fresh c.args.number c.in_ok-numbers.numbers c.args.self.now c.enter.new.self c.enter.ensures.judged

pub returns-clause-after : goal.returns-clause-after
returns-clause-after g c =
    let plan = c.args.plan.now in
    let s = c.args.sights.now in
    let f = c.step_numbers.new.facts in
    let v = c.is_fresh.new.sights in
    let l = c.args.self.now in
    let numbers = c.in_ok-numbers.numbers in
    let step = c.step_of-step.result.now in
    let at = subst (λ (xs : List Step). step_at xs c.args.number ≡ Some step) c.as_slice.ensures c.step_of-step.ensures in
    let files = subst (λ (ms : List ℕ). AreFilesOf plan.steps f step ms numbers) c.members_of-members.ensures c.in_ok-numbers.ensures.numbers.files in
    let looked = c.in_ok-fresh.ensures.looks plan.steps plan.roots in
    judgement_entered plan c.args.number s.facts l c.requires.apart c.requires.about c.requires.looks c.requires.unjudged c.requires.over step numbers f v.facts at c.step_numbers.ensures.learns files looked.learns c.in_ok-fresh.ensures.includes c.in_ok-fresh.fresh c.enter.new.self c.requires.step c.enter.ensures.judged c.enter.ensures.board

pub returns-clause-on : goal.returns-clause-on
returns-clause-on g c = judged_on c.args.number c.in_ok-numbers.numbers c.args.self.now c.enter.new.self c.requires.step.within c.requires.unjudged c.in_ok-fresh.fresh c.enter.ensures.judged

pub returns-clause-fewer : goal.returns-clause-fewer
returns-clause-fewer g c =
    let board = c.requires.looks.board in
    judged_ahead c.args.number c.in_ok-numbers.numbers c.args.self.now c.enter.new.self c.requires.step.within c.requires.unjudged c.in_ok-fresh.fresh (board.looks_size ∙ sym board.size) (board.dependents_size ∙ sym board.size) c.enter.ensures.judged

pub returns-clause-told : goal.returns-clause-told
returns-clause-told g c =
    let plan = c.args.plan.now in
    let s = c.args.sights.now in
    let v = c.is_fresh.new.sights in
    let a = g.F.Files.outside c.args.files.now in
    let d = g.F.Files.outside c.is_fresh.new.files in
    let l = c.args.self.now in
    let numbers = c.in_ok-numbers.numbers in
    let step = c.step_of-step.result.now in
    let at = subst (λ (xs : List Step). step_at xs c.args.number ≡ Some step) c.as_slice.ensures c.step_of-step.ensures in
    let numbered = subst (λ (ms : List ℕ). AreNumbersBy plan.steps l.ran.items c.step_numbers.new.facts step ms numbers) c.members_of-members.ensures (subst (λ (ran : List Bool). AreNumbersBy plan.steps ran c.step_numbers.new.facts step c.members_of-members.result.now numbers) c.deref.ensures.value c.in_ok-numbers.ensures.numbers) in
    judgement_told plan c.args.number l s c.step_numbers.new.facts c.requires.apart c.requires.about c.requires.looks c.requires.step c.requires.needed c.requires.unjudged c.requires.over step at numbers c.step_numbers.ensures.learns c.step_numbers.ensures.told numbered a d v c.enter.new.self c.in_ok-fresh.fresh tt
    (within_ready plan c.args.number s.facts l c.requires.apart c.requires.about c.requires.looks c.requires.unjudged c.requires.over c.requires.step) (c.in_ok-fresh.ensures.looks plan.steps plan.roots).learns.grows c.enter.ensures.judged c.in_ok-fresh.ensures.told

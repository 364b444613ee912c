-- The verdicts of an update, by its answer.
use Rattle.std.proofs.Common.{◌≡◌, ℕ, ◌+◌, ◌<◌, List, [], ◌∷◌, ◌++◌, map, take, length, get_or, Result, refl, sym, ◌∙◌, ap, subst}
use Rattle.std.specs.Prelude.{IfOk}
use Rattle.std.specs.List.{AllZip}
use Rattle.std.specs.declared.vec.Vec.{Vec}
use Rattle.std.specs.declared.alloc.Global.{Global}
use Rattle.std.proofs.lemmas.List.{take_more, map-append}
use Rattle.std.proofs.lemmas.Result.{IfOk-weaker}
use Rattle.b2_base.specs.declared.fault.OutOfMemory.{OutOfMemory}
use Rattle.b2_endings.specs.declared.failed_lists.FailedLists.{FailedLists}
use Rattle.b2_endings.specs.Endings.{lists_of}
use Rattle.b2_plan.specs.declared.step.Step.{Step}
use Rattle.b2_runs.specs.UpdateAnswers.{all_went}
use Rattle.b2_update.specs.Answers.{answer_of}
use Rattle.b2_update.specs.declared.update_answer.UpdateAnswer.{UpdateAnswer}
use Rattle.b2_update.specs.declared.update_answer.UpdateAnswer.TheVariants as answers
use Rattle.b2_testing.specs.declared.pass_list.Judge.{Judge}
use Rattle.b2_testing.specs.declared.verdict.Verdict.{Verdict}
use Rattle.b2_testing.specs.declared.verdict.Verdict.TheVariants.{Passed}
use Rattle.b2_testing.specs.Leading.{IsJudgeOf}
use Rattle.b2_testing.specs.Verdicts.{HasEnded, IsJudgedBy, IsVerdict, ArePassed}

-- one pair more
zip_more : {A B : Type 0} (R : A → B → Type 0) (xs : List A) (ys : List B) (x : A) (y : B) → AllZip R xs ys → R x y → AllZip R (xs ++ x ∷ []) (ys ++ y ∷ [])
zip_more R [] [] x y z r = (r, tt)
zip_more R [] (b ∷ ys) x y z r = absurd z
zip_more R (a ∷ xs) [] x y z r = absurd z
zip_more R (a ∷ xs) (b ∷ ys) x y z r = (z.0, zip_more R xs ys x y z.1 r)

-- one test more
pub judged_more : (R : ℕ → Verdict → Type 0) (tests : List (List ℕ × ℕ)) (n : ℕ) (test : List ℕ × ℕ) (verdicts more : List Verdict) (verdict : Verdict) → n < length tests → test ≡ get_or tests n test → more ≡ verdicts ++ verdict ∷ [] → R test.1 verdict
    → AllZip R (map (λ t. t.1) (take n tests)) verdicts → AllZip R (map (λ t. t.1) (take (n + 1) tests)) more
judged_more R tests n test verdicts more verdict w is made r so_far =
    let number : List ℕ × ℕ → ℕ = λ t. t.1 in
    let all : map number (take (n + 1) tests) ≡ map number (take n tests) ++ test.1 ∷ [] =
    ap (map number) (take_more tests n test w ∙ ap (λ (t : List ℕ × ℕ). take n tests ++ t ∷ []) (sym is)) ∙ map-append number (take n tests) (test ∷ []) in
    subst (λ (ms : List ℕ). AllZip R ms more) (sym all) (subst (AllZip R (map number (take n tests) ++ test.1 ∷ [])) (sym made) (zip_more R (map number (take n tests)) verdicts test.1 verdict so_far r))

-- what a judge tells is so by its lists
pub judge_tells : (steps : List Step) (lists : FailedLists) (judge : Judge) (m : ℕ) (verdict : Verdict) → IsJudgeOf steps lists judge
    → ((given : List Step) → IsJudgeOf given judge.lists.now judge → IsJudgedBy given (lists_of judge.lists.now) m verdict) → IsJudgedBy steps (lists_of lists) m verdict
judge_tells steps lists judge m verdict is tells =
    subst (λ (l : FailedLists). IsJudgedBy steps (lists_of l) m verdict) is.of_lists (tells steps (subst (λ (l : FailedLists). IsJudgeOf steps l judge) (sym is.of_lists) is))

-- some failed
pub failed_verdicts : (steps : List Step) (ms : List ℕ) (answer : UpdateAnswer) (lists : FailedLists) (result : Result (Vec Verdict Global) OutOfMemory) → answer ≡ answers.Failed lists
    → IfOk result (λ verdicts. AllZip (IsJudgedBy steps (lists_of lists)) ms verdicts.items) → IfOk result (λ verdicts. ArePassed steps (answer_of answer) ms verdicts.items)
failed_verdicts steps ms answer lists result is h = subst (λ (a : UpdateAnswer). IfOk result (λ verdicts. ArePassed steps (answer_of a) ms verdicts.items)) (sym is) h

-- all went well
ended_done : (answer : UpdateAnswer) → HasEnded (answer_of answer) → ((lists : FailedLists) → answer ≡ answers.Failed lists → ⊥) → answer ≡ answers.Done
ended_done answers.Done ended other = refl
ended_done (answers.Failed lists) ended other = absurd (other lists refl)
ended_done (answers.StepCycle list) ended other = absurd ended
ended_done (answers.TooBig path size) ended other = absurd ended
ended_done answers.HostFault ended other = absurd ended
ended_done answers.SinkFault ended other = absurd ended
ended_done answers.OutOfMemory ended other = absurd ended

all_pass : (steps : List Step) (tests : List (List ℕ × ℕ)) → AllZip (IsVerdict steps all_went) (map (λ t. t.1) tests) (map (λ _. Passed) tests)
all_pass steps [] = tt
all_pass steps (t ∷ tests) = (refl, all_pass steps tests)

pub passed_verdicts : (steps : List Step) (tests : List (List ℕ × ℕ)) (answer : UpdateAnswer) (result : Result (Vec Verdict Global) OutOfMemory) → HasEnded (answer_of answer) → ((lists : FailedLists) → answer ≡ answers.Failed lists → ⊥)
    → IfOk result (λ verdicts. verdicts.items ≡ map (λ _. Passed) tests) → IfOk result (λ verdicts. ArePassed steps (answer_of answer) (map (λ t. t.1) tests) verdicts.items)
passed_verdicts steps tests answer result ended other h =
    subst (λ (a : UpdateAnswer). IfOk result (λ verdicts. ArePassed steps (answer_of a) (map (λ t. t.1) tests) verdicts.items)) (sym (ended_done answer ended other))
    (IfOk-weaker result (λ verdicts. verdicts.items ≡ map (λ _. Passed) tests) (λ verdicts. ArePassed steps all_went (map (λ t. t.1) tests) verdicts.items)
    (λ verdicts e. subst (AllZip (IsVerdict steps all_went) (map (λ t. t.1) tests)) (sym e) (all_pass steps tests)) h)

use Rattle.std.proofs.Common.{◌≡◌, ◌⊎◌, ℕ, true, false, List, inl, inr, sym, subst, Some}
use Rattle.std.specs.List.{Contains}
use Rattle.b2_host.specs.declared.children.ChildEvent.{ChildEvent}
use Rattle.b2_host.specs.declared.children.ChildEvent.TheVariants.{Start, Done}
use Rattle.b2_plan.specs.declared.step.Step.{Step}
use Rattle.b2_plan.specs.Plans.{Apart, Makes, step_at}
use Rattle.b2_plan.specs.Sources.{IsGiven, IsMissing}
use Rattle.b2_plan.specs.Closures.{Known, Known.input}
use Rattle.b2_runs.specs.Staleness.{Update}
use Rattle.b2_runs.specs.Runs.{Settled, Settled.source, Settled.done_well, Settled.fresh, on_settled, Needed, IsRunSoFar}
use Rattle.b2_runs.specs.Outcomes.{IsFailed, IsLeft, Skipped, Skipped.missing, Skipped.failed, Skipped.skipped, Skipped.quits}
use Rattle.b2_runs.specs.OutcomeLaws.{OutputsSettleTogether, ReachesLost, SkippedExactly, SkippedWhereQuits, AllWentBySettled, AllWentSettles, AllWentMissesNothing}
use Rattle.b2_runs.proofs.FirstElementOrLater.{some_element}
use Rattle.b2_runs.proofs.NumberHasOneStep.{one_step}
use Rattle.b2_runs.proofs.MakerIsOne.{source_not_made}
use Rattle.b2_runs.proofs.RunGoesOn.{started_has_closure, done_was_started}
use Rattle.b2_runs.proofs.NothingStartsAfterwards.{settled_closure, needed_settled}
use Rattle.b2_runs.proofs.FailedIsNotSettled.{failed_is_not_settled}

-- what is settled is given
pub settled_given : (u : Update) (events : List ChildEvent) (path : List ℕ) → Settled u events path → IsGiven u.build path
settled_given u events path (source p bytes s) = inl (bytes, s)
settled_given u events path (done_well i step p makes done) = inr (i, step, makes)
settled_given u events path (fresh i step p members makes not_started closure inside f) = inr (i, step, makes)

pub outputs_settle_together : OutputsSettleTogether
outputs_settle_together u events i step path apart makes (source p bytes s) = absurd (source_not_made u.build apart p bytes s i step makes)
outputs_settle_together u events i step path apart makes (done_well k t p makes_k done) = λ other q makes_q.
    done_well i other q makes_q (subst (λ j. Contains events (Done j true)) (apart.one_maker k i t step p makes_k makes) done)
outputs_settle_together u events i step path apart makes (fresh k t p members makes_k not_started closure inside f) = λ other q makes_q.
    let number : k ≡ i = apart.one_maker k i t step p makes_k makes in
    let at : step_at u.build.steps i ≡ Some t = subst (λ j. step_at u.build.steps j ≡ Some t) number makes_k.at in
    let same : other ≡ t = one_step u.build.steps i other t makes_q.at at in
    fresh i t q members (record { at = at; among = subst (λ (s : Step). Contains s.outs q) same makes_q.among }) (λ c. not_started (subst (λ j. Contains events (Start j)) (sym number) c)) closure inside f

-- what is skipped is left
pub skipped_left : (u : Update) (events : List ChildEvent) (i : ℕ) → Skipped u events i → IsLeft u events i
skipped_left u events i (missing k step path left at known miss) = left
skipped_left u events i (failed k step path j other left at known makes bad) = left
skipped_left u events i (skipped k step path j other left at known makes bad) = left
skipped_left u events i (quits k j left quit bad) = left

-- a path that is missing, or is made by a failed or skipped step
abbrev IsLost : Update → List ChildEvent → List ℕ → Type 0
IsLost u events path = IsMissing u.build path ⊎ ((k : ℕ) × (other : Step) × Makes u.build.steps k other path × (IsFailed events k ⊎ Skipped u events k))

lost_not_settled : (u : Update) (events : List ChildEvent) (path : List ℕ) → Apart u.build.steps u.build.roots → IsRunSoFar u events → IsLost u events path → Settled u events path → ⊥
lost_not_settled u events path apart run (inl miss) s = miss (settled_given u events path s)
lost_not_settled u events path apart run (inr (k, other, makes, inl bad)) s = failed_is_not_settled u events k other path apart run bad makes s
lost_not_settled u events path apart run (inr (k, other, makes, inr bad)) s = (skipped_left u events k bad).not_settled (outputs_settle_together u events k other path apart makes s)

lost_is_skipped : (u : Update) (events : List ChildEvent) (i : ℕ) (step : Step) (path : List ℕ) → Apart u.build.steps u.build.roots → IsRunSoFar u events → Needed u events i → step_at u.build.steps i ≡ Some step → Known u.build (on_settled u events) step path → IsLost u events path → Skipped u events i
lost_is_skipped u events i step path apart run needed at known lost = go lost
  where
    not_closed : (other : Step) → step_at u.build.steps i ≡ Some other → Settled u events path → ⊥
    not_closed other at_other s = lost_not_settled u events path apart run lost s

    left : IsLeft u events i
    left = record {
      needed = needed;
      not_settled = λ settled.
          let (out, c) = some_element step.outs (apart.some_out i step at) in
          let makes : Makes u.build.steps i step out = record { at = at; among = c } in
          let (members, closure) = settled_closure u events apart run i step out makes (settled step out makes) in
          let (x, d) = closure.whole path known in
          not_closed step at (closure.each path x d).1.0;
      not_failed = λ bad.
          let (members, closure) = started_has_closure u events i step apart run (done_was_started u events i false run bad) at in
          let (x, d) = closure.whole path known in
          not_closed step at (closure.each path x d).1.0;
    }

    go : IsLost u events path → Skipped u events i
    go (inl miss) = missing i step path left at known miss
    go (inr (k, other, makes, inl bad)) = failed i step path k other left at known makes bad
    go (inr (k, other, makes, inr bad)) = skipped i step path k other left at known makes bad

pub skipped_exactly : SkippedExactly
skipped_exactly u events i apart run needed goes_on = (there, λ r. lost_is_skipped u events i r.step r.path apart run needed r.at r.known r.lost)
  where
    there : Skipped u events i → ReachesLost u events i
    there (missing k step path left at known miss) = record { step = step; at = at; path = path; known = known; lost = inl miss }
    there (failed k step path j other left at known makes bad) = record { step = step; at = at; path = path; known = known; lost = inr (j, other, makes, inl bad) }
    there (skipped k step path j other left at known makes bad) = record { step = step; at = at; path = path; known = known; lost = inr (j, other, makes, inr bad) }
    there (quits k j left quit bad) = absurd (goes_on (record { quit = quit; failed = j; bad = bad }))

pub skipped_where_quits : SkippedWhereQuits
skipped_where_quits u events i q = (skipped_left u events i, λ left. quits i q.failed left q.quit q.bad)

pub all_went_by_settled : AllWentBySettled
all_went_by_settled u events given settled none_failed = record {
  given = given;
  none_failed = none_failed;
  none_skipped = λ i s. (skipped_left u events i s).not_settled (settled i (skipped_left u events i s).needed);
  none_stuck = λ i needed. inl (settled i needed);
}

pub all_went_settles : AllWentSettles
all_went_settles u events i went needed = needed_settled u events went i needed

pub all_went_misses_nothing : AllWentMissesNothing
all_went_misses_nothing u events path apart run went missed = elim missed.asked [
  | inl c ↦ missed.missing (went.given path c)
  | inr (i, step, needed, at, c) ↦
      (let (out, among) = some_element step.outs (apart.some_out i step at) in
      let makes : Makes u.build.steps i step out = record { at = at; among = among } in
      let (members, closure) = settled_closure u events apart run i step out makes (needed_settled u events went i needed step out makes) in
      let (x, d) = closure.whole path (input path c) in
      missed.missing (settled_given u events path (closure.each path x d).1.0))
]

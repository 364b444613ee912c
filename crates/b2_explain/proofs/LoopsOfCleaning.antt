-- The loops of cleaning: one output more, and one step more.
use Rattle.std.proofs.Common.{◌≡◌, ℕ, ◌+◌, ◌<◌, Bool, List, [], ◌∷◌, ◌++◌, length, get_or, take, drop, Result, Ok, Err, sym, ap, subst, ◌∙◌, arith}
use Rattle.std.specs.List.{Contains}
use Rattle.std.proofs.lemmas.List.{take_more, take-append-drop, length-append}
use Rattle.std.proofs.lemmas.Option.{slice_get-get_or}
use Rattle.b2_host.specs.Outside.{Outside}
use Rattle.b2_host.specs.OutsideLaws.{only_one}
use Rattle.b2_host.specs.Output.{Output}
use Rattle.b2_host.specs.FileCalls.{log_path}
use Rattle.b2_plan.specs.declared.step.Step.{Step}
use Rattle.b2_log.specs.declared.line.LogLine.{LogLine}
use Rattle.b2_runs.proofs.FirstElementOrLater.{Contains_here, Contains_there, Contains_nil}
use Rattle.b2_facts.proofs.ListsAtPlaces.{cut_at}
use Rattle.b2_explain.specs.declared.fault.CleanFault.{CleanFault}
use Rattle.b2_explain.specs.declared.fault.CleanFault.TheVariants as faults
use Rattle.b2_explain.specs.Removing.{RemovesSome, RemovesOne, one_if, all_to_clean, outs_to_clean, HaveOwnOuts, DropsRecord, CleansMore}
use Rattle.b2_explain.proofs.RemovalsCompose.{counts_then, removes_next, removes_stop, removes_fault, removes_early}
use Rattle.b2_explain.proofs.StepsAreCleaned.{cleans_cut, cleans_one, cleans_undropped, cleans_next, cleans_early}

-- ---- outputs

module _ (outs : List (List ℕ)) (i : ℕ) (low : i < length outs) (path : List ℕ) (is : path ≡ get_or outs i path) (count total : ℕ) (x y z : Outside) (a b c : Output) (first : RemovesSome (take i outs) count x a y b (Ok total)) where
  front : take i outs ++ path ∷ [] ≡ take (i + 1) outs
  front = ap (λ p. take i outs ++ p ∷ []) is ∙ sym (take_more outs i path low)

  -- one more was gone through
  pub outs_more : (stood : Bool) (more : ℕ) → more ≡ total + one_if stood → RemovesOne path y b z c (Ok stood) → RemovesSome (take (i + 1) outs) count x a z c (Ok more)
  outs_more stood more e next = subst (λ l. RemovesSome l count x a z c (Ok more)) front (removes_next (take i outs) path count total x y z a b c first stood more e next)

  all_stop : (fault : CleanFault) (r : Result ℕ CleanFault) → r ≡ Err fault → RemovesSome (take i outs ++ path ∷ []) count x a z c (Err fault) → RemovesSome outs count x a z c r
  all_stop fault r e cut = subst (RemovesSome outs count x a z c) (sym e) (subst (λ l. RemovesSome l count x a z c (Err fault)) (take-append-drop (i + 1) outs)
      (removes_early (take (i + 1) outs) (drop (i + 1) outs) count x z a c fault (subst (λ l. RemovesSome l count x a z c (Err fault)) front cut)))

  -- its removal stopped
  pub outs_stop : (fault : CleanFault) (r : Result ℕ CleanFault) → r ≡ Err fault → RemovesOne path y b z c (Err fault) → RemovesSome outs count x a z c r
  outs_stop fault r e next = all_stop fault r e (removes_fault (take i outs) path count total x y z a b c first fault next)

  -- no number tells so many
  pub outs_uncounted : (stood : Bool) (r : Result ℕ CleanFault) → r ≡ Err faults.OutOfMemory → RemovesOne path y b z c (Ok stood) → RemovesSome outs count x a z c r
  outs_uncounted stood r e next = all_stop faults.OutOfMemory r e (removes_stop (take i outs) path count total x y z a b c first (Ok stood) faults.OutOfMemory tt next
      (counts_then {S = Bool} x a y b z c total (Ok stood) first.keeps.risks first.out_keeps.may_fail first.counts next.counts))

-- ---- one step

module _ (step : Step) (own : HaveOwnOuts (step ∷ [])) (count : ℕ) (x y z : Outside) (a b : Output) (log more : List LogLine) where
  pub step_cut : (fault : CleanFault) (r : Result ℕ CleanFault) → r ≡ Err fault → RemovesSome (outs_to_clean step) count x a y b (Err fault) → CleansMore (step ∷ []) count x a log y b log r
  step_cut fault r e removes = subst (CleansMore (step ∷ []) count x a log y b log) (sym e) (cleans_cut step own count x y a b log fault removes)

  pub step_undropped : (total : ℕ) (fault : CleanFault) (r : Result ℕ CleanFault) → r ≡ Err fault → RemovesSome (outs_to_clean step) count x a y b (Ok total) → DropsRecord step y log z more (Err fault) → CleansMore (step ∷ []) count x a log z b more r
  step_undropped total fault r e removes drops = subst (CleansMore (step ∷ []) count x a log z b more) (sym e) (cleans_undropped step own count x y a b log total z more removes fault drops)

  pub step_cleaned : (total : ℕ) → RemovesSome (outs_to_clean step) count x a y b (Ok total) → DropsRecord step y log z more (Ok tt) → CleansMore (step ∷ []) count x a log z b more (Ok total)
  step_cleaned total removes drops = cleans_one step own count x y a b log total z more removes drops

-- ---- steps

-- what holds of steps holds of one of them
own_one : (front rest : List Step) (step : Step) → HaveOwnOuts (front ++ step ∷ rest) → HaveOwnOuts (step ∷ [])
own_one front rest step own = record {
  some_out = λ s among. subst (λ (t : Step). 0 < length t.outs) (only_one step s among) (own.some_out step (there front));
  not_log = λ s among log. own.not_log step (there front) (subst (λ (t : Step). Contains t.outs log_path) (sym (only_one step s among)) log);
  one_maker = λ before after s path split among out. go before after s path split among;
}
  where
    there : (l : List Step) → Contains (l ++ step ∷ rest) step
    there [] = Contains_here step rest
    there (s ∷ l) = Contains_there s step (l ++ step ∷ rest) (there l)

    go : (before after : List Step) (s : Step) (path : List ℕ) → step ∷ [] ≡ before ++ s ∷ after → Contains (all_to_clean before) path → ⊥
    go [] after s path split among = Contains_nil path among
    go (t ∷ before) after s path split among = (let long = ap length split in let sum = length-append before (s ∷ after) in absurd (omega (arith, long, sum)))

module _ (steps : List Step) (own : HaveOwnOuts steps) (i : ℕ) (d : Step) (low : i < length steps) where
  abbrev step : Step
  step = get_or steps i d

  cut : (rest : List Step) × (steps ≡ take i steps ++ step ∷ rest)
  cut = cut_at steps i step (slice_get-get_or steps i d low)

  own_cut : HaveOwnOuts (take i steps ++ step ∷ cut.0)
  own_cut = subst HaveOwnOuts cut.1 own

  pub own_step : HaveOwnOuts (get_or steps i d ∷ [])
  own_step = own_one (take i steps) cut.0 step own_cut

  module _ (total : ℕ) (x y z : Outside) (a b c : Output) (log mid more : List LogLine) (first : CleansMore (take i steps) 0 x a log y b mid (Ok total)) where
    -- one more was cleaned
    pub steps_more : (last : ℕ) → CleansMore (get_or steps i d ∷ []) total y b mid z c more (Ok last) → CleansMore (take (i + 1) steps) 0 x a log z c more (Ok last)
    steps_more last next = subst (λ l. CleansMore l 0 x a log z c more (Ok last)) (sym (take_more steps i d low)) (cleans_next (take i steps) step cut.0 own_cut 0 total x y z a b c log mid more first (Ok last) next)

    -- cleaning it stopped
    pub steps_stop : (fault : CleanFault) (r : Result ℕ CleanFault) → r ≡ Err fault → CleansMore (get_or steps i d ∷ []) total y b mid z c more (Err fault) → CleansMore steps 0 x a log z c more r
    steps_stop fault r e next = subst (CleansMore steps 0 x a log z c more) (sym e) (subst (λ l. CleansMore l 0 x a log z c more (Err fault)) (take-append-drop (i + 1) steps)
        (cleans_early (take (i + 1) steps) (drop (i + 1) steps) 0 x z a c log more fault
        (subst (λ l. CleansMore l 0 x a log z c more (Err fault)) (sym (take_more steps i d low)) (cleans_next (take i steps) step cut.0 own_cut 0 total x y z a b c log mid more first (Err fault) next))))

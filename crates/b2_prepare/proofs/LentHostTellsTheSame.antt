-- The plan of a request by the own text of a loaded project, over a host that is lent.
use Rattle.std.proofs.Common.{◌≡◌, ◌++◌, List, codes, ℕ, Some, Result, Ok, Err, refl, sym, ◌∙◌, subst, arith}
use Rattle.std.specs.Prelude.{IfOk}
use Rattle.std.specs.List.{Contains}
use Rattle.b2_host.specs.Outside.{Outside}
use Rattle.jam_journal.specs.Tables.{Text}
use Rattle.jam_scope.specs.Texts.{first_roots}
use Rattle.jam_scope.specs.Worlds.{Worlds}
use Rattle.jam_effects.specs.declared.fault.EvalFault.{EvalFault}
use Rattle.b2_props.specs.declared.request.Request.{Request}
use Rattle.b2_declared.specs.declared.place.Place.{Place}
use Rattle.b2_declared.specs.declared.whole.Declared.{Declared}
use Rattle.b2_evaluator.specs.Answers.{Answers}
use Rattle.b2_base.specs.Counts.{IsCounted}
use Rattle.b2_generate.specs.declared.fault.GenFault.{GenFault}
use Rattle.b2_request_plan.specs.declared.planned.Planned.{Planned as Made}
use Rattle.b2_request_plan.specs.Plans.{IsPlanned}
use Rattle.b2_generate.specs.ToldOutcomes.{loaded_of, is_eval, is_memory}
use Rattle.b2_own_text.specs.Faults.{is_host_fault, is_out_of_memory}
use Rattle.b2_own_text.specs.Worlds.{told_in}

-- the first output root is `bin`
bin_first : (more : List Text) → Contains (first_roots ++ more) (codes "bin")
bin_first more = (0, omega arith, refl)

pub bin_there : {E : Type 0} (copied : Result (List Text) E) (roots more : List Text) → IfOk copied (λ rs. rs ≡ roots) → roots ≡ first_roots ++ more → IfOk copied (λ rs. Contains rs (codes "bin"))
bin_there (Ok rs) roots more same is = subst (λ xs. Contains xs (codes "bin")) (sym (same ∙ is)) (bin_first more)
bin_there (Err fault) roots more same is = tt

-- what the own text tells is what is told of the project
pub told_own : (found : Declared) (worlds : Worlds) (request : Request) (roots : List (List ℕ)) (from : Outside) (result : Result Made (GenFault EvalFault))
    (projects : List Place) (own : Worlds) (start : Outside) → projects ≡ found.places → own ≡ worlds → start ≡ from
    → ((told : Answers EvalFault) → told_in projects own start.disk ≡ Some told → IsPlanned (loaded_of found roots told) is_host_fault is_out_of_memory request result)
    → (told : Answers EvalFault) → told_in found.places worlds from.disk ≡ Some told → IsPlanned (loaded_of found roots told) is_host_fault is_out_of_memory request result
told_own found worlds request roots from result projects own start places_are worlds_are start_is planned told is =
    planned told
    (subst (λ (o : Outside). told_in projects own o.disk ≡ Some told) (sym start_is)
    (subst (λ (w : Worlds). told_in projects w from.disk ≡ Some told) (sym worlds_are)
    (subst (λ (ps : List Place). told_in ps worlds from.disk ≡ Some told) (sym places_are) is)))

-- the counts of the host that was lent
pub counted_own : (from to start end : Outside) (result : Result Made (GenFault EvalFault)) → start ≡ from → end ≡ to
    → IsCounted (is_eval is_host_fault) (is_memory is_out_of_memory) start.faults end.faults result → IsCounted (is_eval is_host_fault) (is_memory is_out_of_memory) from.faults to.faults result
counted_own from to start end result start_is end_is counted =
    subst (λ (o : Outside). IsCounted (is_eval is_host_fault) (is_memory is_out_of_memory) o.faults to.faults result) start_is
    (subst (λ (o : Outside). IsCounted (is_eval is_host_fault) (is_memory is_out_of_memory) start.faults o.faults result) end_is counted)

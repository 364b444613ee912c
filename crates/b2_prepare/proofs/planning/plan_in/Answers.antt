use Rattle.std.proofs.Common.{◌≡◌, refl, sym, subst, ◌∙◌, codes}
use Rattle.std.specs.Prelude.{IfOk}
use Rattle.std.specs.List.{Contains}
use Rattle.b2_request_plan.specs.Plans.{IsPlanOf}
use Rattle.b2_prepare.proofs.planning.plan_in.Goals as goal

pub plan-requires-clause-numbered : goal.plan-requires-clause-numbered
plan-requires-clause-numbered g c = c.requires.numbered

pub plan-requires-clause-bin : goal.plan-requires-clause-bin
plan-requires-clause-bin g c =
    subst (λ rs. Contains rs (codes "bin")) (sym c.as_slice.ensures) (subst (λ r. IfOk r (λ rs. Contains rs (codes "bin"))) c.in-Ok.is c.requires.bin)

pub returns-in-Ok-clause-told : goal.returns-in-Ok-clause-told
returns-in-Ok-clause-told g c = λ rs copied.
    subst (λ xs. IsPlanOf g.E.Evaluate.answers g.E.Evaluate.is_host_fault g.E.Evaluate.is_out_of_memory c.args.declared.now xs c.args.request.now c.args.evaluator c.plan.result.result)
    (c.as_slice.ensures ∙ subst (λ r. IfOk r (λ xs. xs ≡ rs)) c.in-Ok.is copied) c.plan.ensures.told

pub returns-in-Ok-clause-apart : goal.returns-in-Ok-clause-apart
returns-in-Ok-clause-apart g c = c.plan.ensures.apart

pub returns-in-Ok-clause-sets : goal.returns-in-Ok-clause-sets
returns-in-Ok-clause-sets g c = c.plan.ensures.sets

pub returns-in-Ok-clause-leaves : goal.returns-in-Ok-clause-leaves
returns-in-Ok-clause-leaves g c = c.plan.ensures.leaves

pub returns-in-Err-clause-leaves : goal.returns-in-Err-clause-leaves
returns-in-Err-clause-leaves g c = record { same_answers = refl; same_kept = refl; counted = tt; known = tt }

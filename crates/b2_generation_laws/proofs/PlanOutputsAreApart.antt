-- Generating a main target and what it depends on keeps outputs apart, and so does answering all that a plan asks.
use Rattle.std.proofs.Common.{◌≡◌, ℕ, List, [], ◌∷◌, ◌++◌, Result, Ok, Err, sym, subst}
use Rattle.std.specs.Prelude.{codes}
use Rattle.std.specs.List.{Contains}
use Rattle.b2_plan.specs.declared.step.Step.{Step}
use Rattle.b2_plan.specs.Plans.{Apart}
use Rattle.b2_props.specs.Sets.{Pair}
use Rattle.b2_generators.specs.Table.{HaveDistinctIds}
use Rattle.b2_references.specs.Names.{Name}
use Rattle.b2_references.specs.Requests.{asked}
use Rattle.b2_references.specs.declared.asked.AskedPiece.{AskedPiece}
use Rattle.b2_alternatives.specs.Choosing.{Chosen}
use Rattle.b2_generate.specs.Answers.{Generated, Outcome}
use Rattle.b2_generate.specs.Faults.{Fault}
use Rattle.b2_generate.specs.Generation.{Generates, Depends, site, finished, complete_now, goes_on}
use Rattle.b2_generate.specs.LoadedProjects.{LoadedProject, context}
use Rattle.b2_generate.specs.Planning.{Planned, planned, planned_of, Answers, all_given, given as given_first}
use Rattle.b2_generate.specs.OpenTargets.{Standing, at_first, with_target, hands_on}
use Rattle.b2_generation_laws.specs.Laws.{PlansAreApart}
use Rattle.b2_generation_laws.proofs.JoinedStepsStayApart.{none_apart}
use Rattle.b2_generation_laws.proofs.MakingKeepsOutputsApart.{made_apart}
use Rattle.b2_generation_laws.proofs.TargetsComeFromTheirNeeds.{made_of}

module _ {E : Type 0} (l : LoadedProject E) (bin : Contains l.roots (codes "bin")) (distinct : HaveDistinctIds l.declared.types.generators) where
  mutual
    generated_apart : (above : List Name) (name : Name) (set : List Pair) (before after : List Step) (given : Generated)
        → Generates l above name set before (Ok (given, after)) → Apart before l.roots → Apart after l.roots
    generated_apart above name set before after given (finished _ _ _ _ between c s _ closed chooses depends finishes) apart =
        let made = made_of l c s between after given finishes in
        (made_apart (context l) (site l c s) distinct c.target.kind between after made.supply made.makes_it
        (depended_apart (above ++ name ∷ []) c (at_first c) before between s depends apart)).1

    depended_apart : (above : List Name) (c : Chosen) (s : Standing) (before after : List Step) (last : Standing)
        → Depends l above c s before (Ok (last, after)) → Apart before l.roots → Apart after l.roots
    depended_apart above c s before after last (complete_now _ _ _ _ is) apart = apart
    depended_apart above c s before after last (goes_on _ _ _ _ between name given _ is made fits depends) apart =
        depended_apart above c (with_target l.declared s name given) between after last depends (generated_apart above name (hands_on l.declared s) before between given made apart)

  answers_apart : (pieces : List AskedPiece) (before after : List Step) (made : List Generated) → Answers l pieces before (Ok (made, after)) → Apart before l.roots → Apart after l.roots
  answers_apart pieces before after made (all_given _) apart = apart
  answers_apart pieces before after made (given_first name set more _ between _ first others generates rest) apart =
      answers_apart more between after others rest (generated_apart [] name set before between first generates apart)

  unok : (p q : Planned) → ◌≡◌ {A = Result Planned (Fault E)} (Ok p) (Ok q) → p ≡ q
  unok p q e = cc

  plan_apart : (sets : List (List Pair)) (words : List (List ℕ)) (p : Planned) (outcome : Outcome E (List Generated))
      → Answers l (asked l.declared sets words) [] outcome → Ok p ≡ planned_of l outcome → Apart p.steps p.roots
  plan_apart sets words p (Ok (made, steps)) answers is =
      subst (λ (q : Planned). Apart q.steps q.roots) (sym (unok p (planned l made steps) is))
      (answers_apart (asked l.declared sets words) [] steps made answers (none_apart l.roots bin))
  plan_apart sets words p (Err fault) answers is = absurd (let e : Ok p ≡ Err fault = is in cc)

pub plans_are_apart : {E : Type 0} → PlansAreApart E
plans_are_apart l sets words p bin distinct plans = plan_apart l bin distinct sets words p plans.outcome plans.answers plans.is

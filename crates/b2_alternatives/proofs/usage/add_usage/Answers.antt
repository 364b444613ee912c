use Rattle.std.proofs.Common.{◌∙◌, ◌++◌, ◌∷◌, [], List, ℕ, ap, ap₂, sym}
use Rattle.std.proofs.lemmas.List.{append-nil}
use Rattle.b2_props.specs.Sets.{Pair}
use Rattle.b2_alternatives.proofs.LevelsYieldToThoseBelow.{usage_met, usage_unmet}
use Rattle.b2_alternatives.proofs.usage.add_usage.Goals as goal

pub returns-in_ok-push : goal.returns-in_ok-push
returns-in_ok-push c = λ set is.
    c.in_ok-push.ensures.ok ∙ ap₂ (λ (feature value : List ℕ). let p : Pair = (feature, value) in c.args.made.now ++ p ∷ []) c.in_ok-copy.ensures c.in_ok-copy-2.ensures
    ∙ ap (λ (ps : List Pair). c.args.made.now ++ ps) (sym (usage_met set c.args.index.now c.args.requirement.now _ _ _ _ is c.in-Plain.is c.as_slice.ensures c.has_all.ensures c.if-has_all.true))

pub returns-else-has_all : goal.returns-else-has_all
returns-else-has_all c = λ set is.
    sym (append-nil c.args.made.now)
    ∙ ap (λ (ps : List Pair). c.args.made.now ++ ps) (sym (usage_unmet set c.args.index.now c.args.requirement.now _ _ _ _ is c.in-Plain.is c.as_slice.ensures c.has_all.ensures c.if-has_all.false))

use Rattle.std.proofs.Common.{◌∙◌, ◌-◌, ◌<◌, ℕ, List, map, ap₂, sym, subst}
use Rattle.std.specs.Borrow.{Bor}
use Rattle.b2_props.specs.Sets.{Pair}
use Rattle.b2_declared.specs.declared.place.Target.{Target}
use Rattle.b2_declared.specs.declared.whole.Declared.{Declared}
use Rattle.b2_refine.specs.Choices.{IsChoice}
use Rattle.b2_refine.specs.declared.choice.Choice.TheVariants as choices
use Rattle.b2_references.specs.Names.{features, alternatives}
use Rattle.b2_alternatives.specs.Choosing.{condition}
use Rattle.b2_alternatives.proofs.ChoiceIsAnAlternative.{choice_is, place_within, is_at}
use Rattle.b2_alternatives.proofs.choosing.pick.Goals as goal

pub returns-in-None : goal.returns-in-None
returns-in-None c =
    choice_is c.args.index.now c.args.name.now c.args.full.now c.in_ok-conditions.conditions c.in_ok-alternatives.alternatives.items
    (c.in_ok-conditions.ensures ∙ ap₂ (λ (d : Declared) (ts : List (Bor Target)). map (λ t. condition (features d) t.now) ts) c.declared.ensures c.as_slice.ensures.value)
    (c.in_ok-alternatives.ensures ∙ ap₂ (λ (p : ℕ) (n : List ℕ). alternatives c.args.index.now (p, n)) c.project.ensures c.name.ensures)
    choices.None (subst (λ (cs : List (List Pair)). IsChoice c.args.full.now cs choices.None) c.as_slice-2.ensures c.in-None.ensures)

pub returns-in-Ambiguous : goal.returns-in-Ambiguous
returns-in-Ambiguous c =
    choice_is c.args.index.now c.args.name.now c.args.full.now c.in_ok-conditions.conditions c.in_ok-alternatives.alternatives.items
    (c.in_ok-conditions.ensures ∙ ap₂ (λ (d : Declared) (ts : List (Bor Target)). map (λ t. condition (features d) t.now) ts) c.declared.ensures c.as_slice.ensures.value)
    (c.in_ok-alternatives.ensures ∙ ap₂ (λ (p : ℕ) (n : List ℕ). alternatives c.args.index.now (p, n)) c.project.ensures c.name.ensures)
    (choices.Ambiguous c.in-Ambiguous.i c.in-Ambiguous.k)
    (subst (λ (cs : List (List Pair)). IsChoice c.args.full.now cs (choices.Ambiguous c.in-Ambiguous.i c.in-Ambiguous.k)) c.as_slice-2.ensures c.in-Ambiguous.ensures)

pub index-requires : goal.index-requires
index-requires c =
    subst (λ n. c.in-One.number - 1 < n) (sym c.in_ok-alternatives.alternatives.ok.0)
    (place_within c.args.index.now c.args.name.now c.args.full.now c.in_ok-conditions.conditions c.in_ok-alternatives.alternatives.items
    (c.in_ok-conditions.ensures ∙ ap₂ (λ (d : Declared) (ts : List (Bor Target)). map (λ t. condition (features d) t.now) ts) c.declared.ensures c.as_slice.ensures.value)
    (c.in_ok-alternatives.ensures ∙ ap₂ (λ (p : ℕ) (n : List ℕ). alternatives c.args.index.now (p, n)) c.project.ensures c.name.ensures)
    c.in-One.number (subst (λ (cs : List (List Pair)). IsChoice c.args.full.now cs (choices.One c.in-One.number)) c.as_slice-2.ensures c.in-One.ensures))

pub returns : goal.returns
returns c =
    is_at c.args.index.now c.args.name.now c.args.full.now c.in_ok-conditions.conditions c.in_ok-alternatives.alternatives.items
    (c.in_ok-conditions.ensures ∙ ap₂ (λ (d : Declared) (ts : List (Bor Target)). map (λ t. condition (features d) t.now) ts) c.declared.ensures c.as_slice.ensures.value)
    (c.in_ok-alternatives.ensures ∙ ap₂ (λ (p : ℕ) (n : List ℕ). alternatives c.args.index.now (p, n)) c.project.ensures c.name.ensures)
    c.in-One.number c.index.result.now (subst (λ (cs : List (List Pair)). IsChoice c.args.full.now cs (choices.One c.in-One.number)) c.as_slice-2.ensures c.in-One.ensures) c.index.ensures

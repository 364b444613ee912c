use Rattle.std.proofs.Common.{◌≡◌, ◌∙◌, true, subst, List, ap₂}
use lib.Pointwise.{pointwise}
use Rattle.std.specs.Bool.{Decides}
use Rattle.std.proofs.lemmas.Slice.Eq.{slice_eq-Decides}
use Rattle.b2_props.specs.Sets.{Pair, same}
use Rattle.b2_props.proofs.RepeatedPairsAddNothing.{same_is, same_itself}
use Rattle.b2_props.proofs.props.Props.equals.Goals as goal

pub returns-then-number : goal.returns-then-number
returns-then-number c = slice_eq-Decides pair_decides c.args.self.now c.args.other.now c.eq.result
    (c.eq.ensures ∙ ap₂ (λ (xs ys : List Pair). pointwise same xs ys) c.pairs.ensures c.pairs-then-number.ensures)
  where
    pair_decides : (p q : Pair) → Decides (same p q) (p ≡ q)
    pair_decides p q = (same_is p q, λ e. subst (λ (x : Pair). same p x ≡ true) e (same_itself p))

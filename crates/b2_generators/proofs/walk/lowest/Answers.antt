use Rattle.std.proofs.Common.{◌≡◌, ◌<◌, ◌+◌, ◌&&◌, ℕ, Bool, true, List, Option, Some, length, take, get_or, ◌∙◌, sym, subst}
use Rattle.std.proofs.lemmas.Bool.{and_parts}
use Rattle.b2_generators.specs.Descents.{is_below, IsLowest}
use Rattle.b2_generators.proofs.WalkDownGivesFirstList.{passes_test}
use Rattle.b2_generators.proofs.LowestPassingPlaceIsKept.{lowest_none, lowest_changes_at, lowest_stays_at}
use Rattle.b2_generators.proofs.walk.lowest.Goals as goal
use Rattle.b2_generators.proofs.walk.lowest.Goals.{then-improves, else-improves}

pub loop-place-init : goal.loop-place-init
loop-place-init c = lowest_none (passes_test c.args.generators.now c.args.types.now c.args.bound)

changed : (test : ℕ → Bool) (places : List ℕ) (i : ℕ) (found : Option ℕ) → i < length places → IsLowest test (take i places) found → (test (get_or places i 0) && is_below (get_or places i 0) found) ≡ true → IsLowest test (take (i + 1) places) (Some (get_or places i 0))
changed test places i found within is both = let parts = and_parts (test (get_or places i 0)) (is_below (get_or places i 0) found) both in lowest_changes_at test places i found within is parts.0 parts.1

pub loop-place-preserved : goal.loop-place-preserved
loop-place-preserved c =
    let test : ℕ → Bool = passes_test c.args.generators.now c.args.types.now c.args.bound in
    let i = c.loop-place.place-index in
    elim c.if-improves.branch [
      | then-improves w ↦ subst (λ (o : Option ℕ). IsLowest test (take (i + 1) c.args.layer.now) o) (sym w.found-is) (changed test c.args.layer.now i c.loop-place.found c.loop-place-test.true c.loop-place.invariant (sym c.improves.ensures ∙ w.if-improves.true))
      | else-improves w ↦ subst (λ (o : Option ℕ). IsLowest test (take (i + 1) c.args.layer.now) o) (sym w.found-is) (lowest_stays_at test c.args.layer.now i c.loop-place.found c.loop-place-test.true c.loop-place.invariant (sym c.improves.ensures ∙ w.if-improves.false))
    ]

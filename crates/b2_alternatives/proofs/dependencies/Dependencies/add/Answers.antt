use Rattle.std.proofs.Common.{◌≡◌, ◌∙◌, ◌++◌, List, None, length, refl, sym, ap₂, subst, arith}
use Rattle.std.proofs.lemmas.Bool.Decides.{nat_tests}
use Rattle.std.proofs.lemmas.Grind.{common_steps}
use Rattle.b2_props.specs.Sets.{Pair}
use Rattle.b2_declared.specs.declared.whole.Declared.{Declared}
use Rattle.b2_references.specs.Names.{features}
use Rattle.b2_alternatives.specs.Needs.{conflict_after, after}
use Rattle.b2_alternatives.specs.DependencyWork.{AreValues, StandAt}
use Rattle.b2_alternatives.specs.Conflicting.{KeptIfNone}
use Rattle.b2_alternatives.proofs.StandFollowsEachTarget.{none_of, nothing_left, stand_still, stand_after}
use Rattle.b2_alternatives.proofs.dependencies.Dependencies.add.Goals as goal
use Rattle.b2_alternatives.proofs.dependencies.Dependencies.add.Goals.{then-not-is_empty+in_ok-take, else-not-is_empty}

pub returns : goal.returns
returns c = λ t u stand.
    let d = c.args.index.now in
    let usage = c.args.usage.now in
    let met = c.in_ok-found.ensures u.usage stand.values in
    let none : c.in_ok-found.found ≡ None = none_of c.in_ok-found.found c.is_some.result c.is_some.ensures c.if-is_some.false in
    let values : AreValues (u.usage ++ usage) c.meet.new.self =
    subst (λ (ps : List Pair). AreValues (u.usage ++ ps) c.meet.new.self) c.as_slice.ensures (subst (KeptIfNone (u.usage ++ c.as_slice.result.now) c.meet.new.self) none met.kept)
    in
    let known = c.in_ok-add.ensures u.done stand.done in
    record {
      exact = sym none ∙ met.exact ∙ ap₂ (λ (e : Declared) (ps : List Pair). conflict_after (features e) u.usage ps) c.declared.ensures c.as_slice.ensures;
      stand =
          elim c.if-not-is_empty.branch [
            | then-not-is_empty+in_ok-take w ↦
                subst (StandAt d t (after d u c.args.name.now usage)) (sym w.self-is)
                (stand_after d t u c.args.name.now usage c.args.self.now _ stand refl refl refl refl values known w.take.new.self w.in_ok-take.ensures)
            | else-not-is_empty w ↦
                let size : length c.as_slice-2.result.now ≡ 0 = grind (arith, nat_tests, common_steps) in
                subst (StandAt d t (after d u c.args.name.now usage)) (sym w.self-is)
                (stand_still d t u c.args.name.now usage c.args.self.now _ stand refl refl refl refl values known (sym c.as_slice-2.ensures ∙ nothing_left c.as_slice-2.result.now size))
          ];
    }

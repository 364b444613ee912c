use Rattle.std.proofs.Common.{◌≡◌, ◌∙◌, ◌++◌, ◌∷◌, [], List, length, refl, sym, ap, arith}
use Rattle.std.specs.Vec.Iter.{into_iter_items}
use Rattle.std.proofs.lemmas.List.{append-nil}
use Rattle.b2_declared.specs.Gathering.{numbered, rules_in}
use Rattle.b2_declared.proofs.RuleNumbersGoOn.{numbered_step, rules_step}
use Rattle.b2_declared.proofs.numbers.numbered.Goals as goal

pub loop-text-preserved : goal.loop-text-preserved
loop-text-preserved c =
    let old = c.loop-text.indirect in
    let new = c.numbered_one.new.indirect in
    let x = c.in-Some.text in
    let rest = into_iter_items c.next.new.self in
    record {
      made =
          ap (λ xs. xs ++ numbered (length new) rest) c.in_ok-push.ensures.ok
          ∙ numbered_step c.args.call.now old new x rest c.in_ok-requirement.ensures.added c.loop-text.made c.in_ok-requirement.requirement c.in_ok-requirement.ensures.made
          ∙ ap (λ ts. c.loop-text.made ++ numbered (length old) ts) (sym c.in-Some.ensures.steps.0) ∙ c.loop-text.invariant.made;
      rules = rules_step c.args.call.now old new x rest c.in_ok-requirement.ensures.added ∙ ap (λ ts. old ++ rules_in c.args.call.now ts) (sym c.in-Some.ensures.steps.0) ∙ c.loop-text.invariant.rules;
    }

nothing_left : {X : Type 0} (xs : List X) → length xs ≡ 0 → xs ≡ []
nothing_left [] e = refl
nothing_left (x ∷ xs) e = grind (arith, e)

pub returns-clause-made : goal.returns-clause-made
unfolding numbered
returns-clause-made c =
    let left : into_iter_items c.loop-text.text-iterator ≡ [] = nothing_left (into_iter_items c.loop-text.text-iterator) (grind (arith, c.in-None.ensures.steps.0)) in
    sym (append-nil c.loop-text.made) ∙ ap (λ ts. c.loop-text.made ++ numbered (length c.loop-text.indirect) ts) (sym left) ∙ c.loop-text.invariant.made

pub returns-clause-added : goal.returns-clause-added
unfolding rules_in
returns-clause-added c =
    let left : into_iter_items c.loop-text.text-iterator ≡ [] = nothing_left (into_iter_items c.loop-text.text-iterator) (grind (arith, c.in-None.ensures.steps.0)) in
    sym (append-nil c.loop-text.indirect) ∙ ap (λ ts. c.loop-text.indirect ++ rules_in c.args.call.now ts) (sym left) ∙ c.loop-text.invariant.rules

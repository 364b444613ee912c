use Rattle.std.proofs.Common.{ℕ, List, [], ◌≡◌, ◌++◌, take, sym, ◌∙◌, ap, subst}
use Rattle.std.proofs.lemmas.Result.{IfOk-weaker}
use Rattle.b2_generators.specs.Chains.{ids_of}
use Rattle.b2_generators.specs.Descents.{CanGoOn, IsSecond}
use Rattle.b2_generators.proofs.AnswerNamesShortestChains.{second_named}
use Rattle.b2_generators.proofs.chain.second.Goals as goal

pub descend-requires-clause-start : goal.descend-requires-clause-start
descend-requires-clause-start c count e = subst (λ (types : List (List ℕ)). CanGoOn c.args.generators.now c.args.layers.now count types) (sym c.targets_at-types.ensures) (c.requires.start count e)

begun : (start xs : List ℕ) → start ≡ [] → start ++ xs ≡ xs
begun start xs none = ap (λ (ys : List ℕ). ys ++ xs) none

pub returns : goal.returns
returns c =
    IfOk-weaker c.ids.result (λ ids. ids ≡ ids_of c.args.generators.now c.as_slice-2.result.now) (IsSecond c.args.generators.now c.args.layers.now c.args.one.now c.args.branch)
    (λ ids named. second_named c.args.generators.now c.args.layers.now c.args.one.now c.args.branch c.targets_at-types.result.now c.in_ok-rest.rest.places c.append.new.places c.push.new.self c.append-2.new.places c.in_ok-rest.rest.branch ids c.targets_at-types.ensures c.in_ok-rest.ensures
    (c.in_ok-append.ensures ∙ begun c.new-two.result (take c.args.branch.before c.args.one.now) c.new-two.ensures) c.in_ok-push.ensures.ok (c.in_ok-append-2.ensures ∙ ap (λ more. c.push.new.self ++ more) c.as_slice.ensures) (named ∙ ap (ids_of c.args.generators.now) c.as_slice-2.ensures)) c.ids.ensures

use Rattle.std.proofs.Common.{◌≡◌, ℕ, List, [], ◌∷◌, length, refl, sym, ◌∙◌, ap, subst}
use Rattle.b2_generators.specs.Chains.{ids_of}
use Rattle.b2_generators.specs.Descents.{CanGoOn, IsSecond}
use Rattle.b2_generators.proofs.AnswerNamesShortestChains.{found_one, found_two, branch_of}
use Rattle.b2_generators.proofs.chain.find.Goals as goal

started : (types : List (List ℕ)) (from text : List ℕ) → types ≡ text ∷ [] → text ≡ from → types ≡ from ∷ []
started types from text e f = e ∙ ap (λ (t : List ℕ). t ∷ []) f

pub descend-requires-clause-start : goal.descend-requires-clause-start
descend-requires-clause-start c count e =
    subst (λ (types : List (List ℕ)). CanGoOn c.args.generators.now c.args.layers.now count types) (sym (started c.as_slice.result.now c.args.from.now c.in_ok-new.field-0 c.as_slice.ensures c.in_ok-new.ensures)) (c.requires.start count e)

pub returns-in-None : goal.returns-in-None
returns-in-None c =
    found_one c.args.generators.now c.args.layers.now c.args.from.now (length c.args.layers.now) c.as_slice.result.now c.in_ok-walk.walk.places c.in_ok-walk.walk.branch c.in_ok-first.first c.in_ok-walk.ensures c.in-None.is refl
    (started c.as_slice.result.now c.args.from.now c.in_ok-new.field-0 c.as_slice.ensures c.in_ok-new.ensures) (c.in_ok-first.ensures ∙ ap (ids_of c.args.generators.now) c.as_slice-2.ensures)

pub returns : goal.returns
returns c =
    let is = branch_of c.args.generators.now c.args.layers.now (length c.args.layers.now) c.as_slice.result.now c.in_ok-walk.walk.places c.in_ok-walk.walk.branch c.in-Some.branch c.in_ok-walk.ensures c.in-Some.is in
    found_two c.args.generators.now c.args.layers.now c.args.from.now (length c.args.layers.now) c.as_slice.result.now c.in_ok-walk.walk.places c.in-Some.branch c.in_ok-first.first c.in_ok-second-in-Some.second is refl
    (started c.as_slice.result.now c.args.from.now c.in_ok-new.field-0 c.as_slice.ensures c.in_ok-new.ensures) (c.in_ok-first.ensures ∙ ap (ids_of c.args.generators.now) c.as_slice-2.ensures)
    (subst (λ (one : List ℕ). IsSecond c.args.generators.now c.args.layers.now one c.in-Some.branch c.in_ok-second-in-Some.second) c.as_slice-in-Some.ensures c.in_ok-second-in-Some.ensures)

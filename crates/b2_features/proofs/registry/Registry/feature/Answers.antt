use Rattle.std.proofs.Common.{◌≡◌, ◌∙◌, ◌++◌, ◌∷◌, [], sym, ap, subst}
use Rattle.b2_features.specs.Table.{declared, is_implicit_in, is_whole}
use Rattle.b2_features.specs.Finding.{FindsOneMore}
use Rattle.b2_features.proofs.FaultlessIsUntakenAndWhole.{untaken, whole_declared}
use Rattle.b2_features.proofs.TablesFindWhatWasAdded.{finds_push, undeclared}
use Rattle.b2_features.proofs.registry.Registry.feature.Goals as goal

pub put-requires-clause-untaken : goal.put-requires-clause-untaken
put-requires-clause-untaken c = λ q here.
    untaken c.args.self.now c.in_ok-name.name c.args.values.now c.args.attributes.now c.in_ok-check_feature.ensures.ok q (sym (ap (is_implicit_in q) c.in_ok-feature.ensures) ∙ here)

pub put-requires-clause-whole : goal.put-requires-clause-whole
put-requires-clause-whole c = ap is_whole c.in_ok-feature.ensures ∙ whole_declared c.args.self.now c.in_ok-name.name c.args.values.now c.args.attributes.now c.in_ok-check_feature.ensures.ok

pub returns-clause-found : goal.returns-clause-found
returns-clause-found c =
    let table = c.args.self.now in
    let made = declared c.in_ok-name.name c.args.values.now c.args.attributes.now in
    let pushed : c.put.new.self ≡ table ++ made ∷ [] = c.in_ok-put.ensures.ok ∙ ap (λ f. table ++ f ∷ []) c.in_ok-feature.ensures in
    let new_name = undeclared table c.in_ok-name.name c.args.values.now c.args.attributes.now c.in_ok-check_feature.ensures.ok in
    let new_values = untaken table c.in_ok-name.name c.args.values.now c.args.attributes.now c.in_ok-check_feature.ensures.ok in
    subst (λ name. FindsOneMore table c.put.new.self (declared name c.args.values.now c.args.attributes.now)) c.in_ok-name.ensures
    (subst (λ new. FindsOneMore table new made) (sym pushed) (finds_push table made new_name new_values))

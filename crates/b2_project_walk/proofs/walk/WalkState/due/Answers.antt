use Rattle.std.proofs.Common.{◌∙◌, Some, sym, ap}
use Rattle.std.specs.Option.{option_or, option_map}
use Rattle.b2_project_walk.specs.Directories.{first_new}
use Rattle.b2_project_walk.proofs.VisitsGrowByOne.{new_append}
use Rattle.b2_project_walk.proofs.walk.WalkState.due.Goals as goal

pub returns-in-Some-clause-value : goal.returns-in-Some-clause-value
returns-in-Some-clause-value c =
    let visits = c.args.self.now.visits in
    let named = c.args.self.now.named.dirs.items in
    let last = c.args.last.now.dirs.items in
    ap Some c.in_ok-copy.ensures
    ∙ ap (λ first. option_or first (first_new visits last)) (ap (option_map (λ dir. dir.now)) (sym c.in-Some.is) ∙ c.front.ensures ∙ c.pass.ensures.front)
    ∙ sym (new_append visits named last)

pub returns-in_ok-copy-in-Some-front-clause-value : goal.returns-in_ok-copy-in-Some-front-clause-value
returns-in_ok-copy-in-Some-front-clause-value c =
    let visits = c.args.self.now.visits in
    let named = c.args.self.now.named.dirs.items in
    let last = c.args.last.now.dirs.items in
    ap Some c.in_ok-copy-in-Some-front.ensures ∙ ap (option_map (λ dir. dir.now)) (sym c.in-Some-front.is) ∙ c.front-2.ensures ∙ c.pass-2.ensures.front
    ∙ ap (λ first. option_or first (first_new visits last)) (ap (option_map (λ dir. dir.now)) (sym c.in_default.is) ∙ c.front.ensures ∙ c.pass.ensures.front)
    ∙ sym (new_append visits named last)

pub returns-in-None-clause-value : goal.returns-in-None-clause-value
returns-in-None-clause-value c =
    let visits = c.args.self.now.visits in
    let named = c.args.self.now.named.dirs.items in
    let last = c.args.last.now.dirs.items in
    ap (option_map (λ dir. dir.now)) (sym c.in-None.is) ∙ c.front-2.ensures ∙ c.pass-2.ensures.front
    ∙ ap (λ first. option_or first (first_new visits last)) (ap (option_map (λ dir. dir.now)) (sym c.in_default.is) ∙ c.front.ensures ∙ c.pass.ensures.front)
    ∙ sym (new_append visits named last)

use Rattle.std.proofs.Common.{◌&&◌, sym, ◌∙◌, ap}
use Rattle.std.specs.List.{list_any}
use Rattle.std.specs.Str.{bytes_eq}
use Rattle.std.proofs.lemmas.Result.{IfOk-weaker}
use Rattle.b2_features.proofs.TextsAreSoughtInLists.{among_strings}
use Rattle.b2_features.proofs.implicit.implicit_values.Goals as goal

pub returns-then-stands_in : goal.returns-then-stands_in
returns-then-stands_in c =
    IfOk-weaker c.copy_strings.result _ _
    (λ made same q.
    among_strings q made.items ∙ ap (list_any (λ listed. bytes_eq listed q)) same
    ∙ ap (λ implicit. implicit && list_any (λ listed. bytes_eq listed q) c.args.values.now) (sym c.if-stands_in.true ∙ c.stands_in.ensures))
    c.copy_strings.ensures

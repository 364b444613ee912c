use Rattle.std.proofs.Common.{rules, ◌∙◌, not, ap}
use Rattle.std.specs.List.{filter}
use Rattle.std.proofs.lemmas.Fn.{filter_same}
use Rattle.b2_virtual.specs.Supplies.{is_header}
use Rattle.b2_making.proofs.make.without_headers.Goals as goal

pub returns : goal.returns
returns c =
    c.from_vec.ensures ∙ filter_same _ (λ e. not (is_header e)) _ (λ x b f' k. search rules) _ _ c.retain.ensures.filtered
    ∙ ap (filter (λ e. not (is_header e))) (c.into_vec-kept.ensures ∙ c.in_ok-entries_of.ensures)

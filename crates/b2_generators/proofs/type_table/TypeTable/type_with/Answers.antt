use Rattle.std.proofs.Common.{◌∙◌, sym, ap, slice_get}
use Rattle.std.specs.Option.{option_copied, option_map}
use Rattle.b2_features.proofs.ListSearchesAgree.{find-at_position, find-none}
use Rattle.b2_generators.specs.Table.{FileType, has_text, type_with}
use Rattle.b2_generators.proofs.type_table.TypeTable.type_with.Goals as goal

pub returns : goal.returns
returns c =
    sym c.name_at.ensures
    ∙ ap (λ types. option_map (λ (t : FileType). t.name) (slice_get types c.in_ok-place.place)) (sym c.self.view_is)
    ∙ sym (ap (option_map (λ (t : FileType). t.name)) (find-at_position (λ (t : FileType). has_text t.suffixes c.args.suffix.now) _ c.in_ok-place.place (sym (c.self.invariant.places c.args.suffix.now) ∙ sym c.get.ensures ∙ c.in_ok-place.was)))
    ∙ ap (λ types. type_with types c.args.suffix.now) c.self.view_is

pub returns-in_err-place : goal.returns-in_err-place
returns-in_err-place c =
    ap option_copied c.from_residual.ensures
    ∙ sym (ap (option_map (λ (t : FileType). t.name)) (find-none (λ (t : FileType). has_text t.suffixes c.args.suffix.now) _ (sym (c.self.invariant.places c.args.suffix.now) ∙ sym c.get.ensures ∙ c.in_err-place.was)))
    ∙ ap (λ types. type_with types c.args.suffix.now) c.self.view_is

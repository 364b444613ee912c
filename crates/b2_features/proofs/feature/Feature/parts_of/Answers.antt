use Rattle.std.proofs.Common.{◌∙◌, sym, ap, Some}
use Rattle.std.specs.Option.{option_copied, option_map}
use Rattle.std.specs.Str.{bytes_eq}
use Rattle.b2_features.proofs.ListSearchesAgree.{lookup-found}
use Rattle.b2_features.proofs.feature.Feature.parts_of.Goals as goal

pub returns : goal.returns
returns c =
    ap Some c.as_slice.ensures.value
    ∙ ap (option_map (λ b. b.now.1.items)) (sym c.in_ok-entry.was)
    ∙ lookup-found (λ v. v.items) (λ v. bytes_eq v c.args.value.now) c.args.self.now.parts.items c.entry_of.result c.entry_of.ensures

pub returns-in_err-entry : goal.returns-in_err-entry
returns-in_err-entry c =
    ap option_copied c.from_residual.ensures
    ∙ ap (option_map (λ b. b.now.1.items)) (sym c.in_err-entry.was)
    ∙ lookup-found (λ v. v.items) (λ v. bytes_eq v c.args.value.now) c.args.self.now.parts.items c.entry_of.result c.entry_of.ensures

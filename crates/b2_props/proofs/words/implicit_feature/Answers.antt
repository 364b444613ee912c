use Rattle.std.proofs.Common.{◌∙◌, ap, sym, Some}
use Rattle.b2_features.specs.Table.{seen, implicit_of}
use Rattle.b2_props.proofs.FirstFaultIsTheCause.{implicit_there, name_of_found}
use Rattle.b2_props.proofs.words.implicit_feature.Goals as goal

pub returns-in-None-find : goal.returns-in-None-find
returns-in-None-find c = absurd (implicit_there c.args.registry.now c.args.value.now c.in-Some.name.now (c.in-Some.ensures ∙ ap (implicit_of c.args.registry.now) c.as_str.ensures.value) (sym c.in-None-find.ensures))

pub returns-in-Some-find : goal.returns-in-Some-find
returns-in-Some-find c =
    ap Some (name_of_found c.args.registry.now c.in-Some.name.now (seen c.in-Some-find.feature.now) (sym c.in-Some-find.ensures))
    ∙ c.in-Some.ensures ∙ ap (implicit_of c.args.registry.now) c.as_str.ensures.value

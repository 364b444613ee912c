use Rattle.std.proofs.Common.{◌∙◌, ap}
use Rattle.jam_natives.specs.Named.{paths_in}
use Rattle.jam_natives.specs.Targets.{names_one}
use Rattle.jam_natives.proofs.TextsNameNormalPaths.{named_text}
use Rattle.jam_natives.proofs.target.names_one.Goals as goal

pub returns : goal.returns
returns c =
    named_text c.as_str-name.result.now (paths_in c.args.named.now) c.is_named.result c.is_empty.result _ c.is_empty.ensures c.if-is_empty.false c.in_ok-path.ensures c.is_named.ensures
    ∙ ap (names_one (paths_in c.args.named.now)) c.as_str-name.ensures.value

use Rattle.std.proofs.Common.{sym, ◌∙◌, ap, string_bytes}
use Rattle.std.specs.Str.{bytes_eq}
use Rattle.std.specs.Map.{lookup}
use Rattle.b2_features.proofs.ListSearchesAgree.{lookup-map_keys}
use Rattle.b2_declared.proofs.ids.Ids.dir_of.Goals as goal

pub returns : goal.returns
returns c =
    c.get.ensures.value ∙ sym (lookup-map_keys string_bytes (bytes_eq c.args.id.now) c.self.inside.dirs.entries)
    ∙ ap (lookup (bytes_eq c.args.id.now)) c.self.view_is

use Rattle.std.proofs.Common.{◌++◌, ◌∙◌, ap, sym}
use Rattle.jam_path.specs.Names.{grist_text, path_text}
use Rattle.jam_path.proofs.PartsMakeTheText.{joined_parts}
use Rattle.jam_path.proofs.name.join.Goals as goal

pub returns : goal.returns
returns c =
    let name = c.args.name.now in
    c.from_string.ensures ∙ c.in_ok-push_path.ensures.value
    ∙ ap (λ made. made ++ path_text name) (c.in_ok-push_grist.ensures.value ∙ ap (λ made. made ++ grist_text name.grist) c.new-text.ensures.bytes)
    ∙ sym (joined_parts name)

use Rattle.std.proofs.Common.{◌≡◌, ◌≢◌, ◌∙◌, ◌++◌, [], codes, string_bytes, append_assoc, sym}
use Rattle.b2_base.specs.Lists.{first_of}
use Rattle.b2_explain.proofs.NameComesBeforePath.{some_text, named_some}
use Rattle.b2_explain.proofs.lines.title.Goals as goal

pub returns : goal.returns
returns c =
    let name = c.args.step.now.name in
    let path = first_of c.args.step.now.outs in
    let some : name ≢ [] = λ none. some_text c.as_str-name.result.now c.is_empty.result c.is_empty.ensures c.if-is_empty.false (c.as_str-name.ensures.value ∙ none) in
    let whole : string_bytes c.in_ok-format-2.field-0 ≡ name ++ codes " " ++ path = simp append_assoc (let e = c.in_ok-format-2.ensures.ok in let f = c.as_str-name.ensures.value in let g = c.first_path-out.ensures in cc) in
    whole ∙ sym (named_some name path some)

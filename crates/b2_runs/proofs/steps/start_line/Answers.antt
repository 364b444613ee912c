use Rattle.std.proofs.Common.{◌≡◌, ◌≢◌, ◌∙◌, ◌++◌, [], codes, string_bytes, append_assoc, sym}
use Rattle.b2_runs.specs.Reports.{line}
use Rattle.b2_base.specs.Lists.{first_of}
use Rattle.b2_runs.proofs.NamedStartIsLine.{some_text, named_start}
use Rattle.b2_runs.proofs.steps.start_line.Goals as goal

pub returns : goal.returns
returns c =
    let name = c.args.step.now.name in
    let out = first_of c.args.step.now.outs in
    let some : name ≢ [] = λ none. some_text c.as_str-name.result.now c.is_empty.result c.is_empty.ensures c.if-is_empty.false (c.as_str-name.ensures.value ∙ none) in
    let whole : string_bytes c.in_ok-format.field-0 ≡ line (name ++ codes " " ++ out) = simp append_assoc (rw (c.as_str-name.ensures.value, c.first_path-out.ensures) at c.in_ok-format.ensures.ok) in
    whole ∙ sym (named_start name out some)

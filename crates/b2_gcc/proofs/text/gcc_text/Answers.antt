use Rattle.std.proofs.Common.{◌≡◌, ◌∙◌, ℕ, List, ◌++◌, ap, ap₂}
use Rattle.std.specs.Option.{option_copied}
use Rattle.jam_spelling.specs.Spelling.{spelling, bytes_of}
use Rattle.jam_spelling.specs.LexemeLists.{word}
use Rattle.b2_gcc.specs.BuildText.{command_in, before_command, after_command}
use Rattle.b2_gcc.proofs.OneWordIsItsSpelling.{one_word}
use Rattle.b2_gcc.proofs.text.gcc_text.Goals as goal

pub returns : goal.returns
unfolding before_command after_command
returns c =
    let joined = λ (xs ys : List ℕ). xs ++ ys in
    let text = command_in (option_copied c.args.command) in
    let spelled : c.in_ok-word.word.items ≡ spelling (word text) =
    c.in_ok-word.ensures.exact ∙ ap bytes_of c.as_slice.ensures ∙ one_word c.in_ok-command_text.field-0 ∙ ap (λ t. spelling (word t)) c.in_ok-command_text.ensures in
    c.in_ok-extend_from_slice-2.ensures.items
    ∙ ap₂ joined (c.in_ok-extend_from_slice.ensures.items ∙ ap₂ joined (c.in_ok-bytes.ensures.items ∙ c.as_bytes.ensures.value) (c.as_slice-2.ensures.value ∙ spelled)) c.as_bytes-2.ensures.value

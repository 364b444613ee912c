use Rattle.std.proofs.Common.{◌++◌, drop, length, sym, ap, ◌∙◌, refl}
use Rattle.std.specs.Char.{encode_utf8}
use Rattle.std.proofs.lemmas.Str.{chars_past_char}
use Rattle.std.proofs.lemmas.List.{drop_at}
use Rattle.jam_path.proofs.piece.first_char.Goals as goal

pub returns-in-Some-clause-exact : goal.returns-in-Some-clause-exact
returns-in-Some-clause-exact c =
    chars_past_char c.args.text.now c.as_str.result.now c.in-Some.first c.utf8.text
    (sym c.chars-characters.ensures.rest ∙ c.in-Some.ensures.steps.0 ∙ ap (λ r. encode_utf8 c.in-Some.first ++ r) (sym c.as_str.ensures))

pub returns-in-Some-clause-end : goal.returns-in-Some-clause-end
returns-in-Some-clause-end c = (
  length (encode_utf8 c.in-Some.first),
  c.as_str.ensures ∙ sym (drop_at (encode_utf8 c.in-Some.first) c.next.new.self.rest.now (length (encode_utf8 c.in-Some.first)) refl)
      ∙ ap (drop (length (encode_utf8 c.in-Some.first))) (sym c.in-Some.ensures.steps.0 ∙ c.chars-characters.ensures.rest),
)

use Rattle.std.proofs.lemmas.List.{append_assoc, append-nil}
use Rattle.jam_printer.proofs.simple.push_actions.Goals as goal

pub returns : goal.returns
returns c =
    simp (c.in_ok-push_body.ensures, c.in_ok-push_key-2.ensures, c.in_ok-push_word.ensures, c.in_ok-push_modifiers.ensures, c.in_ok-push_key.ensures, append_assoc, append-nil) at c.push_key-3.ensures

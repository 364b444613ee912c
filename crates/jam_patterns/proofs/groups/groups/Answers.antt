use Rattle.std.proofs.Common.{Some, sym, ap, ◌∙◌}
use Rattle.jam_patterns.proofs.PatternsAreRead.{groups_of_compiled}
use Rattle.jam_patterns.proofs.groups.groups.Goals as goal

pub returns-in_ok-search-in-Ok-clause-answer : goal.returns-in_ok-search-in-Ok-clause-answer
returns-in_ok-search-in-Ok-clause-answer c =
    let made = c.in-Ok.ensures in
    groups_of_compiled c.in-Ok.regex c.args.pattern.now c.args.text.now made.source made.config made.read
    (λ k. (c.type_inv.text k).fits) ∙ sym (ap Some c.in_ok-search-in-Ok.ensures)

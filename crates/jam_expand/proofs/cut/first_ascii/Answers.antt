use Rattle.std.proofs.Common.{sym, ◌∙◌}
use Rattle.jam_expand.proofs.TextsAreCutAtSigns.{ascii_boundary}
use Rattle.jam_expand.proofs.cut.first_ascii.Goals as goal

pub split_at-requires : goal.split_at-requires
split_at-requires c = ascii_boundary c.args.text.now c.in_ok-first.field-0-1.now c.in_ok-first.first.now c.utf8.text (sym c.as_bytes.ensures.value ∙ c.in_ok-first.ensures.cases.0) c.if-first-ge128.false

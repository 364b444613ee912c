use Rattle.std.proofs.Common.{sym, ◌∙◌}
use Rattle.b2_log.proofs.FieldsHaveOneReading.{field_none, field_ends}
use Rattle.b2_log.proofs.PlainBytesStandAsTheyAre.{read_none, read_next}
use Rattle.b2_log.proofs.field.bytes_after.Goals as goal

pub loop-next-init : goal.loop-next-init
loop-next-init c = rw c.in_ok-text.ensures.items (read_none _ _ c.requires)

pub returns-in-None-clause-found : goal.returns-in-None-clause-found
returns-in-None-clause-found c = field_ends _ _ _ _ c.loop-next.invariant.split (rw c.in-None.is at c.in-Some.ensures.exact)

pub loop-next-preserved : goal.loop-next-preserved
loop-next-preserved c = read_next _ _ _ _ _ _ _ _ _ c.loop-next.invariant (rw c.in-Some-next.is at c.in-Some.ensures.exact) c.plain_at.ensures.split c.plain_at.ensures.plain c.in_ok-push-in-Some-next.ensures.items c.in_ok-extend_from_slice.ensures.items

pub returns-clause-refused : goal.returns-clause-refused
returns-clause-refused c = λ _ text after e. field_none c.loop-next.text.items text c.loop-next.rest.now after (sym c.loop-next.invariant.split ∙ e) c.in_default.ensures.exact

use Rattle.std.proofs.Common.{ap, sym, ◌∙◌}
use Rattle.b2_base.specs.Decimals.{has_lead}
use Rattle.b2_command_line.proofs.OnlyDecimalsAreNumbers.{number_parsed, number_lead}
use Rattle.b2_command_line.proofs.number.written_number.Goals as goal

pub returns-then-has_lead : goal.returns-then-has_lead
returns-then-has_lead c = number_lead _ (ap has_lead (sym c.as_bytes.ensures.value) ∙ sym c.has_lead.ensures ∙ c.if-has_lead.true)

pub returns : goal.returns
returns c = rw c.ok.ensures.value (number_parsed _ _ c.parse.ensures.value.0 (ap has_lead (sym c.as_bytes.ensures.value) ∙ sym c.has_lead.ensures ∙ c.if-has_lead.false))

use Rattle.std.proofs.Common.{is_some, sym, ap, ◌∙◌}
use Rattle.b2_top.proofs.ModeIsFoundBeforeDashes.{some_mapped}
use Rattle.b2_top.proofs.mode.is_drill.Goals as goal

pub returns : goal.returns
returns c = c.is_some.ensures ∙ sym (some_mapped _ c.after_lead.result) ∙ ap is_some c.after_lead.ensures.rest

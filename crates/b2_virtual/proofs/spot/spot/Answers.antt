use Rattle.std.proofs.Common.{ap, sym, ◌∙◌}
use Rattle.b2_virtual.specs.Spots.{spot}
use Rattle.b2_virtual.proofs.FolderSpotBeginsThoseInside.{spot_here, spot_root}
use Rattle.b2_virtual.proofs.spot.spot.Goals as goal

pub returns-in_ok-new-in-text-clause-text : goal.returns-in_ok-new-in-text-clause-text
returns-in_ok-new-in-text-clause-text c = c.in_ok-new-in-text.ensures ∙ sym (ap spot (sym c.as_str.ensures.value ∙ c.in-text.is) ∙ spot_here)

pub returns-in_ok-new-in-text-2-clause-text : goal.returns-in_ok-new-in-text-2-clause-text
returns-in_ok-new-in-text-2-clause-text c = c.in_ok-new-in-text-2.ensures ∙ sym (ap spot (sym c.as_str.ensures.value ∙ c.in-text-2.is) ∙ spot_root)

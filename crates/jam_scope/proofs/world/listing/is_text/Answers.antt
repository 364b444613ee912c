use Rattle.jam_scope.proofs.TextMeansNoZeroByte.{is_text_told}
use Rattle.jam_scope.proofs.world.listing.is_text.Goals as goal

pub returns-clause-value : goal.returns-clause-value
returns-clause-value c = is_text_told c.args.name.now c.has_no_zero.result c.has_no_zero.ensures

use Rattle.std.proofs.Common.{length}
use Rattle.jam_parser.proofs.heading.+heading.Given as goal

abbrev pub decreases-heading : goal.decreases-heading
decreases-heading l = length l.rest.now

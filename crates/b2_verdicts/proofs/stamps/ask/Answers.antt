use Rattle.b2_facts.specs.Growth.{OfOne}
use Rattle.b2_facts.proofs.ListsAtPlaces.{get_some}
use Rattle.b2_verdicts.specs.VerdictCalls.{Always}
use Rattle.b2_verdicts.proofs.MoreIsKnown.{knows_by}
use Rattle.b2_verdicts.proofs.OneFileChanges.{asked_now, includes_seen}
use Rattle.b2_verdicts.proofs.stamps.ask.Goals as goal

pub returns-in_err-_stamp-clause-learns : goal.returns-in_err-_stamp-clause-learns
returns-in_err-_stamp-clause-learns g c = knows_by (OfOne c.args.number) (g.F.Files.outside c.args.files.now).disk Always c.args.facts.now c.stamp.new.self c.stamp.ensures.learns (includes_seen c.args.facts.now c.stamp.new.self c.args.number c.stamp.result c.requires c.stamp.ensures.exact c.stamp.ensures.err) c.stamp.ensures.told

pub returns-clause-asked : goal.returns-clause-asked
returns-clause-asked g c =
    let (file, at) = get_some c.args.facts.now.files c.args.number c.requires.1 in
    asked_now c.args.facts.now c.stamp.new.self c.args.number file c.in_ok-_stamp._stamp at (c.in_ok-_stamp.ensures.exact file at)

pub returns-clause-learns : goal.returns-clause-learns
returns-clause-learns g c = knows_by (OfOne c.args.number) (g.F.Files.outside c.args.files.now).disk Always c.args.facts.now c.stamp.new.self c.stamp.ensures.learns (includes_seen c.args.facts.now c.stamp.new.self c.args.number c.stamp.result c.requires c.stamp.ensures.exact c.stamp.ensures.err) c.stamp.ensures.told

use Rattle.std.proofs.Common.{lit<, sym, Some, None}
use Rattle.b2_base.proofs.NamesAreCutAtLastSigns.{rsplit_parts}
use Rattle.b2_generators.proofs.SuffixFollowsLastDot.{last_suffix_at, last_suffix_none}
use Rattle.b2_generators.proofs.paths.last_suffix.Goals as goal

pub returns-in-None : goal.returns-in-None
returns-in-None c = sym (last_suffix_none c.args.name.now (rsplit_parts 46 c.args.name.now None c.in-None.ensures.cases (lit< tt)))

pub returns-in-Some : goal.returns-in-Some
returns-in-Some c =
    let p = rsplit_parts 46 c.args.name.now (Some (c.in-Some._before, c.in-Some.suffix)) c.in-Some.ensures.cases (lit< tt) in
    sym (last_suffix_at c.args.name.now c.in-Some._before.now c.in-Some.suffix.now p.0 p.1)

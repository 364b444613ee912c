use Rattle.std.proofs.Common.{lit<, sym, Some, None}
use Rattle.b2_base.proofs.NamesAreCutAtLastSigns.{rsplit_parts, without_suffix_at, without_suffix_whole}
use Rattle.b2_virtual.proofs.tails.without_suffix.Goals as goal

pub returns-in-None : goal.returns-in-None
returns-in-None c = sym (without_suffix_whole c.args.name.now (rsplit_parts 46 c.args.name.now None c.in-None.ensures.cases (lit< tt)))

pub returns-in-Some : goal.returns-in-Some
returns-in-Some c =
    let p = rsplit_parts 46 c.args.name.now (Some (c.in-Some.stem, c.in-Some._suffix)) c.in-Some.ensures.cases (lit< tt) in
    sym (without_suffix_at c.args.name.now c.in-Some.stem.now c.in-Some._suffix.now p.0 p.1)

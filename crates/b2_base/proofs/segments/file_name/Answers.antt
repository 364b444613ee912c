use Rattle.std.proofs.Common.{lit<, sym, Some, None}
use Rattle.b2_base.proofs.NamesAreCutAtLastSigns.{rsplit_parts, file_name_at, file_name_whole}
use Rattle.b2_base.proofs.segments.file_name.Goals as goal

pub returns-in-None : goal.returns-in-None
returns-in-None c = sym (file_name_whole c.args.path.now (rsplit_parts 47 c.args.path.now None c.in-None.ensures.cases (lit< tt)))

pub returns-in-Some : goal.returns-in-Some
returns-in-Some c =
    let p = rsplit_parts 47 c.args.path.now (Some (c.in-Some._folder, c.in-Some.name)) c.in-Some.ensures.cases (lit< tt) in
    sym (file_name_at c.args.path.now c.in-Some._folder.now c.in-Some.name.now p.0 p.1)

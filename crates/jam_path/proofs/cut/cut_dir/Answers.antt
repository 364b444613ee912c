use Rattle.std.proofs.Common.{◌∙◌, lit<, refl, sym, Some, None}
use Rattle.b2_base.proofs.NamesAreCutAtLastSigns.{has_not, rsplit_parts, file_name_at}
use Rattle.jam_path.proofs.CutAtSign.{dir_at}
use Rattle.jam_path.proofs.cut.cut_dir.Goals as goal

pub returns-in-None-clause-dir : goal.returns-in-None-clause-dir
returns-in-None-clause-dir c = rw (has_not 47 _ (rsplit_parts 47 c.args.path.now None c.in-None.ensures.cases (lit< tt))) refl

pub returns-in-None-clause-file : goal.returns-in-None-clause-file
returns-in-None-clause-file c = rw (has_not 47 _ (rsplit_parts 47 c.args.path.now None c.in-None.ensures.cases (lit< tt))) refl

pub returns-in-Some-clause-dir : goal.returns-in-Some-clause-dir
returns-in-Some-clause-dir c =
    let p = rsplit_parts 47 c.args.path.now (Some (c.in-Some.before, c.in-Some.file)) c.in-Some.ensures.cases (lit< tt) in
    c.or_root.ensures ∙ sym (dir_at c.args.path.now c.in-Some.before.now c.in-Some.file.now p.0 p.1)

pub returns-in-Some-clause-file : goal.returns-in-Some-clause-file
returns-in-Some-clause-file c =
    let p = rsplit_parts 47 c.args.path.now (Some (c.in-Some.before, c.in-Some.file)) c.in-Some.ensures.cases (lit< tt) in
    sym (file_name_at c.args.path.now c.in-Some.before.now c.in-Some.file.now p.0 p.1)

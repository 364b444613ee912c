use Rattle.std.proofs.Common.{◌∙◌, sym, ap, subst}
use Rattle.b2_base.specs.Bytes.{HasNoZero}
use Rattle.b2_base.specs.Segments.{file_name}
use Rattle.jam_path.specs.Names.{dir_of}
use Rattle.jam_path.proofs.PartsMakeTheText.{clean_dir}
use Rattle.jam_natives.proofs.glob.cut_pattern.Goals as goal

pub returns-clause-dir : goal.returns-clause-dir
returns-clause-dir c = c.cut_dir.ensures.dir ∙ ap dir_of c.as_str.ensures.value

pub returns-clause-file : goal.returns-clause-file
returns-clause-file c = c.cut_dir.ensures.file ∙ ap file_name c.as_str.ensures.value

pub returns-clause-dir_no_zero : goal.returns-clause-dir_no_zero
returns-clause-dir_no_zero c = subst HasNoZero (sym (returns-clause-dir c)) (clean_dir c.args.pattern.now c.as_str.ensures.no_zero).0

pub returns-clause-file_no_zero : goal.returns-clause-file_no_zero
returns-clause-file_no_zero c = subst HasNoZero (sym (returns-clause-file c)) (clean_dir c.args.pattern.now c.as_str.ensures.no_zero).1

use Rattle.std.proofs.Common.{subst, sym, ap, ◌∙◌}
use Rattle.b2_base.specs.Bytes.{HasNoZero}
use Rattle.b2_base.specs.Segments.{file_name, without_suffix}
use Rattle.jam_path.specs.Names.{dir_of, stem_of, suffix_of, member_of}
use Rattle.jam_path.proofs.PartsMakeTheText.{no_zeros}
use Rattle.jam_path.proofs.name.parts.Goals as goal

pub new-requires : goal.new-requires
new-requires c = subst HasNoZero (sym c.cut_grist.ensures.grist) (no_zeros c.args.text.now c.requires).grist

pub new-requires-2 : goal.new-requires-2
new-requires-2 c = subst HasNoZero (sym (c.cut_dir.ensures.dir ∙ ap dir_of c.cut_grist.ensures.path)) (no_zeros c.args.text.now c.requires).dir

pub new-requires-3 : goal.new-requires-3
new-requires-3 c = subst HasNoZero (sym (c.cut_suffix.ensures.base ∙ ap without_suffix (c.cut_member.ensures.stem ∙ ap stem_of (c.cut_dir.ensures.file ∙ ap file_name c.cut_grist.ensures.path)))) (no_zeros c.args.text.now c.requires).base

pub new-requires-4 : goal.new-requires-4
new-requires-4 c = subst HasNoZero (sym (c.cut_suffix.ensures.suffix ∙ ap suffix_of (c.cut_member.ensures.stem ∙ ap stem_of (c.cut_dir.ensures.file ∙ ap file_name c.cut_grist.ensures.path)))) (no_zeros c.args.text.now c.requires).suffix

pub new-requires-5 : goal.new-requires-5
new-requires-5 c = subst HasNoZero (sym (c.cut_member.ensures.member ∙ ap member_of (c.cut_dir.ensures.file ∙ ap file_name c.cut_grist.ensures.path))) (no_zeros c.args.text.now c.requires).member

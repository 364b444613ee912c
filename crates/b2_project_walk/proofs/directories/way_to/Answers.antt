use Rattle.std.proofs.Common.{◌∙◌, All, sym, ap, subst}
use Rattle.b2_base.specs.Bytes.{HasNoZero}
use Rattle.b2_base.specs.Segments.{segments, texts}
use Rattle.b2_project_walk.proofs.CuttingAddsNoZeroBytes.{segments_clean}
use Rattle.b2_project_walk.proofs.directories.way_to.Goals as goal

pub paths_of-requires : goal.paths_of-requires
paths_of-requires c =
    subst (All HasNoZero) (sym (ap texts c.as_slice.ensures.value ∙ c.in_ok-segments.ensures ∙ ap segments c.as_str.ensures.value)) (segments_clean c.args.dir.now c.as_str.ensures.no_zero)

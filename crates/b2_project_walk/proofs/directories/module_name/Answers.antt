use Rattle.std.proofs.Common.{sym, ap, subst, ◌∙◌, ◌++◌}
use Rattle.std.specs.Prelude.{codes}
use Rattle.b2_base.specs.Bytes.{HasNoZero}
use Rattle.b2_project_walk.proofs.BeginningsGrowByOne.{clean_name}
use Rattle.b2_project_walk.proofs.directories.module_name.Goals as goal

pub from_string-requires : goal.from_string-requires
from_string-requires c =
    subst HasNoZero (sym (c.in_ok-name.ensures.ok ∙ ap (λ dir. codes "Jamfile<" ++ (dir ++ codes ">")) c.as_str.ensures.value)) (clean_name c.args.dir.now c.as_str.ensures.no_zero)

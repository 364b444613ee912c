-- A main target more.
use Rattle.std.specs.Prelude.{[], ◌∷◌, ◌++◌}
use Rattle.b2_declared.specs.declared.place.Target.{Target}
use Rattle.b2_project.specs.declared.project.Project.{Project}

-- a main target stands behind the others
abbrev pub with_target : Project → Target → Project
with_target p target = record p { declared = record p.declared { targets = p.declared.targets ++ target ∷ [] } }

-- A load ends in one way.
use Rattle.std.proofs.Common.{◌≡◌, ℕ, List, codes, Option, Some, None, Result, Ok, Err, sym, ap, ◌∙◌, subst}
use Rattle.b2_gcc.specs.BuildText.{command_in, gcc_text}
use Rattle.b2_declared.specs.declared.fault.DeclaringFault.{DeclaringFault}
use Rattle.b2_declared.specs.declared.visit.Call.{Call}
use Rattle.b2_declared.specs.Carrying.{tables_of}
use Rattle.jam_journal.specs.Tables.{Text}
use Rattle.jam_meaning.specs.Settings.{Setting}
use Rattle.jam_natives.specs.Keeping.{Kept}
use Rattle.b2_project_walk.specs.Walks.{Walk, Course, goes_on, refused, run_text, no_walk, load_root}
use Rattle.b2_project_walk.specs.Laws.{OneCourse}
use Rattle.b2_project_walk.proofs.TextRunsBesideProjects.{one_text}
use Rattle.b2_project.specs.Loads.{then_declare, up_to_toolset, IsToolsetRun, IsEquipped, IsAfterWalk}
use Rattle.b2_project.specs.Laws.{OneEnding}

module _ (setting : Setting Kept) where
  one_run : {X : Type 0} (tables : Result X DeclaringFault) (command : Option Text) (w : Walk) (course other : Course)
      → IsToolsetRun setting tables command w course → IsToolsetRun setting tables command w other → course ≡ other
  one_run (Err fault) command w course other h g = h ∙ sym g
  one_run (Ok tables) command w course other (reading, reads, h) (again, also, g) =
      h ∙ ap (λ r. run_text setting (codes "gcc") r w) (one_text (gcc_text (command_in command)) reading again reads also) ∙ sym g

  one_equipped : (found : Option (List Call × Option Text)) (w : Walk) (course other : Course) → IsEquipped setting found w course → IsEquipped setting found w other → course ≡ other
  one_equipped None w course other h g = h ∙ sym g
  one_equipped (Some found) w course other h g = one_run (tables_of w.visits found.0) found.1 w course other h g

  one_after : (whole course other : Course) → IsAfterWalk setting whole course → IsAfterWalk setting whole other → course ≡ other
  one_after (goes_on w) course other h g = one_equipped (up_to_toolset w.calls) w course other h g
  one_after (refused why s) course other h g = h ∙ sym g

-- since a walk comes to one end
pub one_ending : OneCourse → OneEnding
one_ending one_course setting left words ending other (whole, walk, course, after, is) (again, walked, next, then, also) =
    let same : whole ≡ again = one_course setting words (load_root setting (no_walk left)) whole again walk walked in
    is ∙ ap then_declare (one_after setting whole course next after (subst (λ c. IsAfterWalk setting c next) (sym same) then)) ∙ sym also

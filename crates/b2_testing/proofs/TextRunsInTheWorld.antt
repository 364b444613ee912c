-- The build text of tests has one course in any worlds, in which it leaves its definitions.
use Rattle.std.proofs.Common.{◌≡◌, List, codes, Result, Ok, Err, OnOk, OnErr, is_some, refl, sym, ap, ◌∙◌}
use Rattle.jam_scope.specs.Worlds.{Worlds}
use Rattle.jam_meaning.specs.Laws.{bounds}
use Rattle.jam_meaning.specs.Settings.{is_file}
use Rattle.b2_project_walk.specs.Walks.{goes_on, no_walk, state_in, after_run, run_text}
use Rattle.b2_testing_text.specs.Definitions.{equipped, KeepsRest}
use Rattle.b2_testing_text.specs.Trees.{testing_tree}
use Rattle.b2_testing_text.proofs.TextReadsInOneWay.{text_reads}
use Rattle.b2_testing_text.proofs.TextRunsToItsEnd.{text_runs}
use Rattle.b2_testing.specs.Readying.{text_setting, text_turns, walk_in, walk_after, HasOneCourse, IsEquipped, StaysOpen}

goes_so : (before : Worlds) → run_text text_setting (codes "gcc") (is_file testing_tree) (walk_in before) ≡ goes_on (walk_after before)
goes_so before = ap (λ o. after_run o (λ s. record (walk_in before) { state = s })) (text_runs text_setting before 92 (no_walk text_turns).state.kept)

pub one_course : (before : Worlds) → HasOneCourse before
one_course before = record {
  runs = (is_file testing_tree, (text_reads (is_file testing_tree)).1 refl, sym (goes_so before));
  alone = λ course (reading, reads, is). is ∙ ap (λ r. run_text text_setting (codes "gcc") r (walk_in before)) ((text_reads reading).0 reads) ∙ goes_so before;
}

-- what it leaves are its definitions
pub is_equipped : (before after : Worlds) → after ≡ equipped before → IsEquipped before after
is_equipped before after e = record { walk = walk_after before; runs = (one_course before).runs; left = e }

pub equipped_is : (before after : Worlds) → IsEquipped before after → after ≡ equipped before
equipped_is before after is = is.left ∙ ap (λ course. (state_in course).worlds) ((one_course before).alone (goes_on is.walk) is.runs)

-- where all but rules and actions is as before, frames, step and marks are
pub stays_open : (before after : Worlds) → KeepsRest before after → StaysOpen before after
stays_open before after keeps = record {
  frames = ap (λ (x : Worlds). bounds x.now.scopes.frames) keeps;
  step = ap (λ (x : Worlds). is_some x.now.step) keeps;
  marked = ap (λ (x : Worlds). x.marked) keeps;
}

-- The files of a disk and the words of a command come to one thing, and a plan asks for its tests in one way.
use Rattle.std.proofs.Common.{◌≡◌, ℕ, ◌-◌, false, ◌&&◌, Option, Some, None, List, [], ◌∷◌, ◌++◌, length, slice_get, codes, Result, Ok, Err, refl, sym, ap, ◌∙◌, subst}
use Rattle.std.specs.List.{list_any}
use Rattle.std.specs.Str.{bytes_eq}
use Rattle.b2_host.specs.Disks.{Disk}
use Rattle.jam_journal.specs.Tables.{Text}
use Rattle.jam_effects.specs.declared.fault.EvalFault.{EvalFault}
use Rattle.b2_props.specs.declared.request_fault.RequestFault.{RequestFault}
use Rattle.b2_props.specs.Words.{target_words}
use Rattle.b2_props.specs.Requests.{request_sets, request_fault}
use Rattle.jam_scope.specs.Worlds.{Worlds}
use Rattle.b2_declared.specs.declared.place.TestCall.{TestCall}
use Rattle.b2_declared.specs.declared.whole.Declared.{Declared}
use Rattle.b2_plan.specs.declared.step.Step.{Step}
use Rattle.b2_plan.specs.Plans.{maker_of}
use Rattle.b2_references.specs.Names.{numbers}
use Rattle.b2_project_walk.specs.Walks.{Walk, goes_on, state_in, run_text}
use Rattle.b2_project_walk.proofs.TextRunsBesideProjects.{one_text}
use Rattle.b2_project.specs.Laws.{OneEnding}
use Rattle.b2_project.specs.Loads.{Ending, loaded, fails}
use Rattle.b2_generate.specs.Answers.{Row}
use Rattle.b2_generate.specs.Faults.{Fault}
use Rattle.b2_generate.specs.Laws.{OnePlan}
use Rattle.b2_generate.specs.Planning.{Planned}
use Rattle.b2_testing_text.specs.Texts.{testing_text}
use Rattle.b2_testing.specs.Adding.{with_tests, markers_from}
use Rattle.b2_testing.specs.Readying.{text_setting, walk_in, IsEquippedFor}
use Rattle.b2_testing.specs.Requested.{marker_path, is_at, is_marker, test_at, test_of_row, requested}
use Rattle.b2_prepare.specs.Laws.{OneMeaning, OneAsking, NoneAsked}
use Rattle.b2_prepare.specs.Meaning.{Refusal, of_load, of_request, of_generation, load_turns, load_setting, project_of, Ends, Generates, Means}
use Rattle.b2_prepare.specs.Meaning.{not_loaded, not_asked, not_planned, planned}

-- the tests of a project are equipped in one way
pub one_equipped : (tests : List TestCall) (before a b : Worlds) → IsEquippedFor tests before a → IsEquippedFor tests before b → a ≡ b
one_equipped [] before a b h k = h ∙ sym k
one_equipped (test ∷ more) before a b h k =
    let (reading, reads, is) = h.runs in
    let (again, also, so) = k.runs in
    let same : goes_on h.walk ≡ goes_on k.walk =
    is ∙ ap (λ r. run_text text_setting (codes "gcc") r (walk_in before)) (one_text testing_text reading again reads also) ∙ sym so
    in
    h.left ∙ ap (λ course. (state_in course).worlds) same ∙ sym k.left

module _ (one_ending : OneEnding) (one_plan : OnePlan EvalFault) (disk : Disk) (refused : Option (ℕ × Text)) (words : List Text) where
  abbrev as_answer : Result Planned (Fault EvalFault) → Result Planned Refusal
  as_answer (Ok plan) = Ok plan
  as_answer (Err why) = Err (of_generation why)

  -- what follows a load
  abbrev Asked : Option RequestFault → Walk → Declared → Result Planned Refusal → Type 0
  Asked (Some why) w found a = a ≡ Err (of_request why)
  Asked None w found a = (worlds : Worlds) × (made : Result Planned (Fault EvalFault)) × IsEquippedFor found.tests w.state.worlds worlds
      × Generates disk refused words worlds found made × (a ≡ as_answer made)

  abbrev Follows : Ending → List Text → Result Planned Refusal → Type 0
  Follows (fails why s) lines a = (lines ≡ s.kept.echoes) × (a ≡ Err (of_load why))
  Follows (loaded w found) lines a = (lines ≡ w.state.kept.echoes) × Asked (request_fault found.registry words) w found a

  ends_so : (lines : List Text) (a : Result Planned Refusal) → Means disk refused words lines a → (ending : Ending) × Ends disk refused words ending × Follows ending lines a
  ends_so lines a (not_loaded why s ends) = (fails why s, ends, (refl, refl))
  ends_so lines a (not_asked w found why ends is) = (loaded w found, ends, (refl, subst (λ r. Asked r w found (Err (of_request why))) (sym is) refl))
  ends_so lines a (not_planned w found worlds why ends equips is plans) =
      (loaded w found, ends, (refl, subst (λ r. Asked r w found (Err (of_generation why))) (sym is) (worlds, Err why, equips, plans, refl)))
  ends_so lines a (planned w found worlds plan ends equips is plans) = (loaded w found, ends, (refl, subst (λ r. Asked r w found (Ok plan)) (sym is) (worlds, Ok plan, equips, plans, refl)))

  one_asked : (w : Walk) (found : Declared) (fault : Option RequestFault) (a b : Result Planned Refusal) → Asked fault w found a → Asked fault w found b → a ≡ b
  one_asked w found (Some why) a b h k = h ∙ sym k
  one_asked w found None a b (worlds, made, equips, plans, is) (later, other, also_equips, others, also) =
      let one = one_equipped found.tests w.state.worlds worlds later equips also_equips in
      is ∙ ap as_answer (one_plan (project_of disk worlds (with_tests found)) (request_sets found.registry words) (target_words found.registry words) made other plans
      (subst (λ (v : Worlds). Generates disk refused words v found other) (sym one) others)) ∙ sym also

  one_follows : (ending : Ending) (lines others : List Text) (a b : Result Planned Refusal) → Follows ending lines a → Follows ending others b → (lines ≡ others) × (a ≡ b)
  one_follows (fails why s) lines others a b h k = (h.0 ∙ sym k.0, h.1 ∙ sym k.1)
  one_follows (loaded w found) lines others a b h k = (h.0 ∙ sym k.0, one_asked w found (request_fault found.registry words) a b h.1 k.1)

  one_here : (lines others : List Text) (a b : Result Planned Refusal) → Means disk refused words lines a → Means disk refused words others b → (lines ≡ others) × (a ≡ b)
  one_here lines others a b h k = go (ends_so lines a h) (ends_so others b k)
    where
      go : ((ending : Ending) × Ends disk refused words ending × Follows ending lines a) → ((ending : Ending) × Ends disk refused words ending × Follows ending others b) → (lines ≡ others) × (a ≡ b)
      go (ending, ends, follows) (other, also, then) =
          one_follows ending lines others a b follows
          (subst (λ e. Follows e others b) (sym (one_ending (load_setting disk refused) load_turns words ending other ends also)) then)

pub one_meaning_is : OneEnding → OnePlan EvalFault → OneMeaning
one_meaning_is one_ending one_plan disk refused words lines others a b h k = one_here one_ending one_plan disk refused words lines others a b h k

-- ---- tests

-- the tests that a plan asks for, by how the load ended
abbrev AskedIn : Planned → List (List ℕ × ℕ) → Ending → Type 0
AskedIn plan tests (fails why s) = ⊥
AskedIn plan tests (loaded w found) = tests ≡ requested found plan.rows plan.steps plan.wanted

pub one_asking_is : OneEnding → OneAsking
one_asking_is one_ending disk words plan tests others a b =
    let same : loaded a.walk a.found ≡ loaded b.walk b.found = one_ending (load_setting disk None) load_turns words (loaded a.walk a.found) (loaded b.walk b.found) a.loads b.loads in
    let asked : others ≡ requested a.found plan.rows plan.steps plan.wanted = subst (AskedIn plan others) (sym same) b.are in
    a.are ∙ sym asked

module _ (d : Declared) (none : d.tests ≡ []) (steps : List Step) (wanted : List (List ℕ)) where
  at_none : (place : Option ℕ) → is_at [] place ≡ false
  at_none None = refl
  at_none (Some place) = refl

  not_marker : (row : Row) → is_marker d row ≡ false
  not_marker row = ap (λ tests. is_at (markers_from (length d.targets) tests) (slice_get (numbers (with_tests d) row.name) (row.alternative - 1))) none
      ∙ at_none (slice_get (numbers (with_tests d) row.name) (row.alternative - 1))

  no_test : (row : Row) (number : Option ℕ) → test_at d row false number ≡ []
  no_test row None = refl
  no_test row (Some number) = refl

  none_of_row : (row : Row) → test_of_row d steps wanted row ≡ []
  none_of_row row =
      ap (λ b. test_at d row (b && list_any (bytes_eq (marker_path d row)) wanted) (maker_of steps (marker_path d row))) (not_marker row) ∙ no_test row (maker_of steps (marker_path d row))

  none_of_rows : (rows : List Row) → requested d rows steps wanted ≡ []
  none_of_rows [] = refl
  none_of_rows (row ∷ rows) = ap (λ first. first ++ requested d rows steps wanted) (none_of_row row) ∙ none_of_rows rows

pub none_asked_is : NoneAsked
none_asked_is disk words plan tests asks none = asks.are ∙ none_of_rows asks.found none plan.steps plan.wanted plan.rows

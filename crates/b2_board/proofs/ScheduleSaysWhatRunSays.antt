-- In a run in which what is known is true the schedule was told what is so; where nothing can be looked at, all.
use Rattle.std.proofs.Common.{◌≡◌, ◌⊎◌, ◌↔◌, inl, inr, ℕ, List, Option, Some, None, option_map, refl, sym, ap, subst, ◌∙◌}
use Rattle.b2_host.specs.declared.children.ChildEvent.{ChildEvent}
use Rattle.b2_host.specs.Disks.{File, Disk}
use Rattle.b2_host.specs.FileCalls.{stamp_at}
use Rattle.b2_plan.specs.declared.step.Step.{Step}
use Rattle.b2_plan.specs.declared.plan.Plan.{Plan}
use Rattle.b2_plan.specs.Plans.{Apart, Makes, maker_of}
use Rattle.b2_plan.specs.Sources.{IsMissing}
use Rattle.b2_plan.specs.Closures.{Known}
use Rattle.b2_runs.specs.Staleness.{Update}
use Rattle.b2_runs.specs.Runs.{on_settled}
use Rattle.b2_runs.specs.Outcomes.{IsSettledStep}
use Rattle.b2_runs.specs.Numbers.{MakesWanted, NeedsStep, LacksSource, NeededOf.of_needed}
use Rattle.b2_runs.proofs.NumberHasOneStep.{one_step}
use Rattle.b2_sched.specs.Schedules.{Schedule, IsSettled, Needs, IsFirst, IsNeeded, Lacks, IsLeft, CanLook}
use Rattle.b2_sched.specs.Joins.{IsToldAll, HasSettled}
use Rattle.b2_facts.specs.declared.file_facts.FileFacts.{FileFacts}
use Rattle.b2_facts.specs.Facts.{Knowledge, IsFile}
use Rattle.b2_facts.specs.Truth.{IsSeen as IsSeenSo}
use Rattle.b2_facts.specs.Asks.{IsNotGivenBy}
use Rattle.b2_facts.proofs.ListsAtPlaces.{none_some, get_some}
use Rattle.b2_reach.specs.Laws.{IsTrueInRun, IsAsFarInRun}
use Rattle.b2_reach.proofs.FoundMakerMakesPath.{maker_makes, none_makes}
use Rattle.b2_reach.proofs.ReachGrows.{has_path}
use Rattle.b2_reach.proofs.MembersAreKnown.{members_are_known, members_are_all_known, lacks_missing}
use Rattle.b2_board.specs.declared.work.Work.{Work}
use Rattle.b2_board.specs.Works.{HasOutputOf, IsToldNeed, IsWorkOn, IsLookedAt}
use Rattle.b2_board.specs.Boards.{IsSeen, HasFound, HasLack, IsBoardOf}
use Rattle.b2_board.specs.Laws.{BoardTellsTrue, BoardTellsAll}
use Rattle.b2_board.proofs.WorkStaysInOrder.{maker_told}
use Rattle.b2_board.proofs.NeededAreSteps.{needed_not_zero}

-- where outputs are apart, the maker of an output is the first one
maker_known : (steps : List Step) (roots : List (List ℕ)) → Apart steps roots → (k : ℕ) (other : Step) (path : List ℕ) → Makes steps k other path → maker_of steps path ≡ Some k
maker_known steps roots apart k other path makes = go (maker_of steps path) refl
  where
    go : (m : Option ℕ) → maker_of steps path ≡ m → maker_of steps path ≡ Some k
    go None e = absurd (none_makes steps path e k other makes)
    go (Some j) e = let (step, makes_j) = maker_makes steps path j e in e ∙ ap Some (apart.one_maker j k step other path makes_j makes)

no_stamp_no_bytes : (o : Option File) (bytes : List ℕ) → option_map (λ (x : File). x.stamp) o ≡ None → option_map (λ (x : File). x.bytes) o ≡ Some bytes → ⊥
no_stamp_no_bytes None bytes e f = none_some bytes f
no_stamp_no_bytes (Some file) bytes e f = none_some file.stamp (sym e)

module _ (u : Update) (events : List ChildEvent) (disk : Disk) (f : Knowledge) (s : Schedule) (works : List (Option Work)) (but : ℕ) (true_so : IsTrueInRun u events disk (IsSettled s) f) (is : IsBoardOf u.build.steps u.build.wanted but f s works) where
  -- ---- what it was told is so

  first_so : (i : ℕ) → IsFirst s i ↔ MakesWanted u i
  first_so i = (
    λ asked. let (path, among, e) = (is.first i).0 asked in let (step, makes) = maker_makes u.build.steps path i e in record { step = step; path = path; asked = among; makes = makes },
    λ m. (is.first i).1 (m.path, m.asked, maker_known u.build.steps u.build.roots true_so.apart i m.step m.path m.makes),
  )

  not_zero_so : (i : ℕ) → IsNeeded s i → i ≡ 0 → ⊥
  not_zero_so i needed = needed_not_zero u.build.steps u.build.wanted u.build.roots but f s works true_so.about is i needed

  found_so : (i k : ℕ) → HasFound f works i k → NeedsStep u events i k
  found_so i k found =
      let on = is.work i found.work found.begun in
      let out = found.reads in
      let (path, path_is) = has_path u.build.steps u.build.roots f out.number out.file true_so.about out.file_is in
      let (other, makes) = maker_makes u.build.steps path k (sym (true_so.about.planned out.number path out.file (record { path_is = path_is; file_is = out.file_is })).maker ∙ out.made) in
      record {
        step = on.step;
        at = on.at;
        other = other;
        path = path;
        known = members_are_known u events disk s on.step f found.work.reach true_so on.reach out.number path out.among path_is;
        makes = makes;
      }

  needs_so : (i k : ℕ) → IsNeeded s i → Needs s i k → NeedsStep u events i k
  needs_so i k needed need = elim (is.needs i k need) [ inl e ↦ absurd (not_zero_so i needed e) | inr (found, asker) ↦ found_so i k found ]

  -- a file that is not given by what is known is missing
  pub missing_so : (n : ℕ) (path : List ℕ) (file : FileFacts) → IsFile f n path file → IsNotGivenBy file → IsMissing u.build path
  missing_so n path file at none given = elim given [
    | inl source ↦ (let (bytes, so) = source in elim none.no_source [
      | inl rooted ↦ so.outside ((true_so.about.planned n path file at).rooted.0 rooted)
      | inr away ↦ no_stamp_no_bytes (disk.now path) bytes (subst (λ x. IsSeenSo x (stamp_at disk.now path)) away (true_so.facts.files n path file at).seen)
          (ap (option_map (λ (x : File). x.bytes)) (true_so.sources path so.outside) ∙ so.stands)
    ])
    | inr output ↦ (let (number, step, makes) = output in none_makes u.build.steps path (sym (true_so.about.planned n path file at).maker ∙ none.unmade) number step makes)
  ]

  lack_so : (i : ℕ) → HasLack works i → LacksSource u events i
  lack_so i lack =
      let on = is.work i lack.work lack.begun in
      let (n, missing) = on.reach.in_order.lacks lack.lacks in
      let (path, path_is) = has_path u.build.steps u.build.roots f n missing.file true_so.about missing.file_is in
      record {
        step = on.step;
        at = on.at;
        path = path;
        known = members_are_known u events disk s on.step f lack.work.reach true_so on.reach n path missing.among path_is;
        missing = missing_so n path missing.file (record { path_is = path_is; file_is = missing.file_is }) missing.missing;
      }

  pub tells_true : ((i : ℕ) → IsFirst s i ↔ MakesWanted u i) × ((i k : ℕ) → IsNeeded s i → Needs s i k → NeedsStep u events i k) × ((i : ℕ) → IsNeeded s i → Lacks s i → LacksSource u events i)
  tells_true = (first_so, needs_so, λ i needed l. lack_so i (is.lacks i l))

  -- ---- where nothing can be looked at, it was told all

  module _ (none : but ≡ 0) (still : (i : ℕ) → CanLook s i → ⊥) (settles : HasSettled u events s) where
    pub seen_so : (i : ℕ) → IsNeeded s i → IsSeen s f works i
    seen_so i needed = is.seen i (λ e. not_zero_so i needed (e ∙ none)) needed (still i)

    -- the maker of a pending member is not settled in the run
    pub far_so : (i : ℕ) → IsNeeded s i → (w : Work) → IsWorkOn u.build.steps s f i w → IsLookedAt s f i w → IsAsFarInRun u events f w.reach
    far_so i needed w on looked = record {
      whole = looked.as_far.whole;
      waiting = λ n number file among known made there.
          looked.as_far.waiting n number file among known made (go number there (maker_told u.build.steps s f i w on looked.told number (record { number = n; among = on.reach.in_order.pending n among; file = file; file_is = known; made = made })));
    }
      where
        go : (number : ℕ) → IsSettledStep u events number → IsToldNeed s w.waiting i number → IsSettled s number
        go number there (inl settled) = settled
        go number there (inr told) = settles number (of_needed number i needed told.0) there

    all_needs : (i k : ℕ) → IsNeeded s i → NeedsStep u events i k → Needs s i k ⊎ IsSettled s k
    all_needs i k needed need = go (maker_told u.build.steps s f i h.work on h.looked.told k output)
      where
        h : IsSeen s f works i
        h = seen_so i needed

        on : IsWorkOn u.build.steps s f i h.work
        on = is.work i h.work h.begun

        known : Known u.build (on_settled u events) on.step need.path
        known = subst (λ x. Known u.build (on_settled u events) x need.path) (one_step u.build.steps i need.step on.step need.at on.at) need.known

        made_by : (n : ℕ) (file : FileFacts) → IsFile f n need.path file → file.maker ≡ Some k
        made_by n file at = (true_so.about.planned n need.path file at).maker ∙ maker_known u.build.steps u.build.roots true_so.apart k need.other need.path need.makes

        output : HasOutputOf f h.work.reach.members k
        output =
            let (n, among, path_is) = (members_are_all_known u events disk s on.step f h.work.reach true_so on.reach (far_so i needed h.work on h.looked) need.path).0 known in
            let (file, file_is) = get_some f.files n (on.reach.in_order.numbered n among).1 in
            record {
              number = n;
              among = among;
              file = file;
              file_is = file_is;
              made = made_by n file (record { path_is = path_is; file_is = file_is });
            }

        go : IsToldNeed s h.work.waiting i k → Needs s i k ⊎ IsSettled s k
        go (inl settled) = inr settled
        go (inr told) = inl told.0

    all_lacks : (i : ℕ) → IsLeft s i → LacksSource u events i → Lacks s i
    all_lacks i left l =
        let h = seen_so i left.needed in
        let on = is.work i h.work h.begun in
        let known = subst (λ x. Known u.build (on_settled u events) x l.path) (one_step u.build.steps i l.step on.step l.at on.at) l.known in
        h.looked.lacks ((lacks_missing u events disk s on.step f h.work.reach true_so on.reach (far_so i left.needed h.work on h.looked)).1 (l.path, known, l.missing))

    pub tells_all : IsToldAll u events s
    tells_all = record { needs = all_needs; lacks = all_lacks }

-- the board is one of the update
pub of_update : (u : Update) (plan : Plan) (but : ℕ) (f : Knowledge) (s : Schedule) (works : List (Option Work)) → u.build.steps ≡ plan.steps → u.build.wanted ≡ plan.wanted → IsBoardOf plan.steps plan.wanted but f s works → IsBoardOf u.build.steps u.build.wanted but f s works
of_update u plan but f s works steps wanted is =
    subst (λ x. IsBoardOf x u.build.wanted but f s works) (sym steps) (subst (λ x. IsBoardOf plan.steps x but f s works) (sym wanted) is)

pub board_tells_true : BoardTellsTrue
board_tells_true u events disk plan but f b steps wanted true_so is = tells_true u events disk f b.sched b.works.items but true_so (of_update u plan but f b.sched b.works.items steps wanted is)

pub board_tells_all : BoardTellsAll
board_tells_all u events disk plan f b steps wanted true_so is still settles = tells_all u events disk f b.sched b.works.items 0 true_so (of_update u plan 0 f b.sched b.works.items steps wanted is) refl still settles

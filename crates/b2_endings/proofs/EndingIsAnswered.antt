-- What an update leaves is what its answer says.
use Rattle.std.proofs.Common.{◌≡◌, ◌≢◌, ◌∙◌, inl, inr, ℕ, ◌<◌, ◌≤◌, List, [], ◌∷◌, length, Option, Some, None, refl, sym, ap, subst, arith}
use Rattle.std.specs.List.{Contains}
use Rattle.std.proofs.lemmas.Bool.{cases_lt}
use Rattle.b2_host.specs.declared.children.ChildEvent.{ChildEvent}
use Rattle.b2_host.specs.Disks.{Disk}
use Rattle.b2_host.specs.Outside.{Read}
use Rattle.b2_plan.specs.Sources.{IsGiven}
use Rattle.b2_log.specs.declared.line.LogLine.{LogLine}
use Rattle.b2_log.specs.Lines.{log_bytes}
use Rattle.b2_runs.specs.LogFiles.{log_limit, IsLogHeld, IsLogOf.is_large}
use Rattle.b2_runs.specs.Staleness.{Update}
use Rattle.b2_runs.specs.Runs.{IsRun}
use Rattle.b2_runs.specs.Outcomes.{NoneStuck, AllWent, LeavesNothing}
use Rattle.b2_runs.specs.Afterwards.{NoneDoneOlder}
use Rattle.b2_runs.specs.LogCourses.{LacksNoLine, IsLogWhole, log_file, held_bytes, left_file}
use Rattle.b2_runs.specs.Reports.{AreLists}
use Rattle.b2_runs.specs.UpdateAnswers.{HasEnded, AnswerTold}
use Rattle.b2_runs.proofs.FirstElementOrLater.{Contains_nil}
use Rattle.b2_runs.proofs.RunIsInOrder.{run_is_in_order}
use Rattle.b2_runs.proofs.OutputsAreClean.{outputs_are_clean, wanted_is_clean}
use Rattle.b2_runs.proofs.CutLogIsTrue.{whole_log_counts}
use Rattle.b2_runs.proofs.LogIsNoted.{log_is_noted}
use Rattle.b2_runs.proofs.LogHasRecords.{log_drops_failed}
use Rattle.b2_reach.specs.declared.sights.Sights.{Sights}
use Rattle.b2_looks.specs.UnderWay.{IsUnderWay}
use Rattle.b2_endings.specs.declared.ending.Ending.{Ending}
use Rattle.b2_endings.specs.declared.ending.Ending.TheVariants as endings
use Rattle.b2_endings.specs.Endings.{finished_by, answer_of_ending, EndingIsTrue}
use Rattle.b2_endings.specs.Laws.{EndingIsAnswer}

-- a list that is not empty
some_list : {X : Type 0} (x : X) (xs : List X) → (x ∷ xs) ≢ []
some_list x xs = λ e. absurd cc

-- ---- the log's file

-- the bytes of a file that is left are those that it was to have
held_left : (before : Option (List ℕ)) (bytes : List ℕ) → held_bytes (left_file before bytes) ≡ bytes
held_left (Some old) bytes = refl
held_left None [] = refl
held_left None (byte ∷ more) = refl

-- a file above the limit counts as no lines
large_counts : (o : Option (List ℕ)) → log_limit < length (held_bytes o) → IsLogHeld o []
large_counts None large = refl
large_counts (Some bytes) large = is_large large refl

module _ (u : Update) (events : List ChildEvent) (first : List LogLine) (reads : List Read) (disk : Disk) (s : Sights) (way : IsUnderWay u events first reads disk s) (ran : IsRun u events) (lacks_none : LacksNoLine u events disk.now s.journal)
    (leaves : LeavesNothing u events disk.now []) (none_older : NoneDoneOlder u events disk.now) where
  -- ---- the run has ended

  whole : IsLogWhole u events disk.now
  whole = record { first = first; begins = way.begins; log = s.journal; course = way.course; good = way.good; lacks_none = lacks_none; file = way.file }

  held : held_bytes (log_file disk.now) ≡ log_bytes s.journal
  held = ap held_bytes way.file ∙ held_left (log_file u.build.folder) (log_bytes s.journal)

  -- within its limit the log's file counts as these lines
  within : length (log_bytes s.journal) ≤ log_limit → HasEnded u events disk.now
  unfolding whole
  within fits = record {
    run = ran;
    clean = outputs_are_clean u events disk way.apart way.sound;
    log = s.journal;
    is_log = whole_log_counts u events disk.now whole fits;
    leaves = record {
      files = leaves.files;
      records = λ i step bad at. log_drops_failed u disk.now first s.journal events i step way.apart way.course (run_is_in_order u events ran.each) bad at;
    };
    whole = whole;
    noted = λ short. log_is_noted u disk.now first s.journal events way.apart ran.each way.tells none_older way.course;
  }

  -- above it, as none
  above : log_limit < length (log_bytes s.journal) → HasEnded u events disk.now
  above large =
      let more : log_limit < length (held_bytes (log_file disk.now)) = subst (λ (bytes : List ℕ). log_limit < length bytes) (sym held) large in
      record {
        run = ran;
        clean = outputs_are_clean u events disk way.apart way.sound;
        log = [];
        is_log = large_counts (log_file disk.now) more;
        leaves = leaves;
        whole = whole;
        noted = λ short. absurd (omega (arith, more, short));
      }

  ended : HasEnded u events disk.now
  ended = elim (cases_lt log_limit (length (log_bytes s.journal))) [ inl large ↦ above large | inr fits ↦ within fits ]

  -- ---- what is named

  went : (failed skipped : List ℕ) (missing : List (List ℕ)) → failed ≡ [] → skipped ≡ [] → missing ≡ [] → NoneStuck u events
      → AreLists u events (record { failed = failed; skipped = skipped; missing = missing })
      → ((path : List ℕ) → Contains u.build.wanted path → (Contains missing path → ⊥) → IsGiven u.build path) → AllWent u events
  went failed skipped missing a b c none are given = record {
    given = λ path wanted. given path wanted (λ gone. Contains_nil path (subst (λ (l : List (List ℕ)). Contains l path) c gone));
    none_failed = λ i bad. Contains_nil i (subst (λ (l : List ℕ). Contains l i) a (are.failed.whole i bad));
    none_skipped = λ i bad. Contains_nil i (subst (λ (l : List ℕ). Contains l i) b (are.skipped.whole i bad));
    none_stuck = none;
  }

  lists_answered : (failed skipped : List ℕ) (missing : List (List ℕ)) → NoneStuck u events
      → AreLists u events (record { failed = failed; skipped = skipped; missing = missing })
      → ((path : List ℕ) → Contains u.build.wanted path → (Contains missing path → ⊥) → IsGiven u.build path) → AnswerTold u events disk.now (finished_by failed skipped missing)
  lists_answered [] [] [] none are given = (let all = went [] [] [] refl refl refl none are given in (ended, all, wanted_is_clean u events disk way.apart way.sound all))
  lists_answered [] [] (path ∷ missing) none are given = (ended, none, are, inr (inr (some_list path missing)))
  lists_answered [] (i ∷ skipped) missing none are given = (ended, none, are, inr (inl (some_list i skipped)))
  lists_answered (i ∷ failed) skipped missing none are given = (ended, none, are, inl (some_list i failed))

  answered : (ending : Ending) → EndingIsTrue u events ending → AnswerTold u events disk.now (answer_of_ending ending)
  answered (endings.StepCycle list) told = (ended, told)
  answered (endings.Ended lists) told = lists_answered lists.failed lists.skipped lists.missing told.0 told.1 told.2

pub ending_is_answer : EndingIsAnswer
ending_is_answer u events first reads disk s ending way ran lacks_none leaves none_older told = answered u events first reads disk s way ran lacks_none leaves none_older ending told

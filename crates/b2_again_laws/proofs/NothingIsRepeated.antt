-- What a call that asks for the same again starts.
use Rattle.std.proofs.Common.{◌≡◌, ◌⊎◌, ℕ, List, [], ◌≤◌, length, Option, Some, None, inl, inr, sym, ap, subst, ◌∙◌, append-nil}
use Rattle.std.specs.List.{Contains}
use Rattle.b2_host.specs.declared.children.ChildEvent.{ChildEvent}
use Rattle.b2_host.specs.declared.children.ChildEvent.TheVariants.{Start}
use Rattle.b2_host.specs.ChildProcesses.{BothTold, Family}
use Rattle.b2_host.specs.Disks.{Disk}
use Rattle.b2_plan.specs.Sources.{Build}
use Rattle.b2_runs.specs.Afterwards.{IsMadeEachTime}
use Rattle.b2_runs.specs.LogCourses.{held_bytes, log_file}
use Rattle.b2_runs.specs.LogFiles.{log_limit}
use Rattle.b2_runs.specs.NextLaws.{IsOfSamePlan, AreEventsBetween}
use Rattle.b2_runs.proofs.FirstElementOrLater.{Contains_nil}
use Rattle.b2_drain.specs.Drains.{Made}
use Rattle.b2_command_line.specs.Words.{Word}
use Rattle.b2_prepare.specs.Laws.{OneMeaning}
use Rattle.b2_top.specs.declared.answer.Answer.TheVariants as answers
use Rattle.b2_top.specs.declared.build_command.BuildCommand.{BuildCommand}
use Rattle.b2_top.specs.Askings.{build_of}
use Rattle.b2_top.specs.BetweenMoments.{StaysStill}
use Rattle.b2_sessions.specs.BuildCalls.{update_of, UpdateHasCome}
use Rattle.b2_session_laws.specs.Neighbours.{AreNeighbours, AreOfOnePlan, IsNextAtOnce, IsNextAfterStop}
use Rattle.b2_session_laws.proofs.NothingStartsAgain.{same_rest, next_is_fresh, no_work_is_lost, stop_loses_no_work}
use Rattle.b2_source_laws.specs.NextPlans.{AsksAgain}
use Rattle.b2_again_laws.specs.Laws.{AskAgain, IsAskedAgain, StartsNone, RepeatsNone, AgainStartsNone, AgainRepeatsNone, AfterStopRepeatsNone}
use Rattle.b2_again_laws.proofs.NextIsOfOnePlan.{old_is, middle_is, at_once, after_stop}

-- what is told of two disks is told of the first one, where it is known
of_first : (P : Disk → Disk → Type 0) (a b : Option Disk) (x : Disk) → a ≡ Some x → BothTold P a b → (y : Disk) × P x y
of_first P None b x e told = let clash : None ≡ Some x = e in cc
of_first P (Some a) None x e told = absurd told
of_first P (Some a) (Some b) x e told = (b, subst (λ d. P d b) (let one : a ≡ x = cc in one) told)

one_command : (a b : BuildCommand) → Some a ≡ Some b → a ≡ b
one_command a b e = cc

module _ (one_meaning : OneMeaning) (made : Made) (words again : List Word) (n : AreNeighbours made (build_of words) (build_of again)) (a : IsAskedAgain made words again n) where
  -- the second one came to nothing, or an update came in it too
  second : StaysStill n.reopened.host n.after.host ⊎ UpdateHasCome made (build_of again) n.answer n.reopened.host n.after.host a.middle
  second = (of_first (λ disk later. StaysStill n.reopened.host n.after.host ⊎ UpdateHasCome made (build_of again) n.answer n.reopened.host n.after.host disk) n.reopened.host.disk n.after.host.disk a.middle a.shows_then n.again_came.has_done).1

  none_started : StaysStill n.reopened.host n.after.host → (later : List ChildEvent) (i : ℕ) → AreEventsBetween n.reopened.host n.after.host later → Contains later (Start i) → ⊥
  none_started still later i events c =
      let empty : [] ≡ later = same_rest n.reopened.host.children.events [] later (append-nil n.reopened.host.children.events ∙ sym (ap (λ (f : Family). f.events) still.children) ∙ events) in
      Contains_nil (Start i) (subst (λ l. Contains l (Start i)) (sym empty) c)

  abbrev asking : UpdateHasCome made (build_of again) n.answer n.reopened.host n.after.host a.middle → AskAgain made words again n
  asking next =
      let same : a.command ≡ next.plan.command = one_command a.command next.plan.command (sym a.asked ∙ next.plan.asked) in
      record { disk = a.disk; shows = a.shows; middle = a.middle; shows_then = a.shows_then; come = a.come; next = next; asks = subst (AsksAgain a.come.plan.command) same a.asks }

  abbrev one_plan : (next : UpdateHasCome made (build_of again) n.answer n.reopened.host n.after.host a.middle) → IsOfSamePlan (update_of made a.come.plan) (update_of made next.plan) → AreOfOnePlan made (build_of words) (build_of again) n
  one_plan next same = record {
    disk = a.disk;
    middle = a.middle;
    come = a.come;
    next = next;
    same = same;
    fits = subst (λ (d : Disk). length (held_bytes (log_file d.now)) ≤ log_limit) (sym (middle_is one_meaning made words again n (asking next))) a.fits;
  }

  abbrev first_at : Disk → Build
  first_at disk = record (update_of made a.come.plan).build { folder = disk.now }

  not_each : (next : UpdateHasCome made (build_of again) n.answer n.reopened.host n.after.host a.middle) (path : List ℕ) → (IsMadeEachTime (first_at a.disk) path → ⊥) → IsMadeEachTime (first_at a.come.updated.old) path → ⊥
  not_each next path once each = once (subst (λ d. IsMadeEachTime (first_at d) path) (old_is one_meaning made words again n (asking next)) each)

  starts_none : IsNextAtOnce made (build_of words) (build_of again) n → n.given ≡ answers.Ok → StartsNone made words again n a
  starts_none still is later i step path events makes once c = go second
    where
      go : StaysStill n.reopened.host n.after.host ⊎ UpdateHasCome made (build_of again) n.answer n.reopened.host n.after.host a.middle → ⊥
      go (inl nothing) = none_started nothing later i events c
      go (inr next) =
          next_is_fresh made (build_of words) (build_of again) n (one_plan next (at_once one_meaning made words again n (asking next) still)) still is later i step path events makes (not_each next path once) c

  repeats_none : IsNextAtOnce made (build_of words) (build_of again) n → RepeatsNone made words again n a
  repeats_none still events front rest later k i step path are whole done then makes once c = go second
    where
      go : StaysStill n.reopened.host n.after.host ⊎ UpdateHasCome made (build_of again) n.answer n.reopened.host n.after.host a.middle → ⊥
      go (inl nothing) = none_started nothing later i then c
      go (inr next) =
          no_work_is_lost made (build_of words) (build_of again) n (one_plan next (at_once one_meaning made words again n (asking next) still)) still events front rest later k i step path are whole done then makes (not_each next path once) c

  stop_repeats_none : IsNextAfterStop made (build_of words) (build_of again) n → RepeatsNone made words again n a
  stop_repeats_none stop events front rest later k i step path are whole done then makes once c = go second
    where
      go : StaysStill n.reopened.host n.after.host ⊎ UpdateHasCome made (build_of again) n.answer n.reopened.host n.after.host a.middle → ⊥
      go (inl nothing) = none_started nothing later i then c
      go (inr next) =
          stop_loses_no_work made (build_of words) (build_of again) n (one_plan next (after_stop one_meaning made words again n (asking next) stop)) stop events front rest later k i step path are whole done then makes (not_each next path once) c

pub again_starts_none : OneMeaning → AgainStartsNone
again_starts_none one_meaning made words again n a still is = starts_none one_meaning made words again n a still is

pub again_repeats_none : OneMeaning → AgainRepeatsNone
again_repeats_none one_meaning made words again n a still = repeats_none one_meaning made words again n a still

pub after_stop_repeats_none : OneMeaning → AfterStopRepeatsNone
after_stop_repeats_none one_meaning made words again n a stop = stop_repeats_none one_meaning made words again n a stop

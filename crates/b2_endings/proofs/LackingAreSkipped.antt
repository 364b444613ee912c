-- What is skipped was looked at, and the members of steps that lack a file have numbers.
use Rattle.std.proofs.Common.{◌≡◌, ◌≤◌, ◌<◌, ◌⊎◌, inl, inr, ◌∙◌, ℕ, Bool, true, false, [], length, Option, Some, None, if◌then◌else◌, refl, sym, subst}
use Rattle.std.specs.List.{Contains}
use Rattle.std.proofs.lemmas.Bool.{cases_lt}
use Rattle.std.proofs.lemmas.List.{get_or_past}
use Rattle.b2_plan.specs.declared.plan.Plan.{Plan}
use Rattle.b2_runs.proofs.FirstElementOrLater.{Contains_nil}
use Rattle.b2_runs.specs.Numbers.{SkippedOf.lacks as of_lack, SkippedOf.of_failed as of_failed, SkippedOf.of_skipped as of_skipped, SkippedOf.ends as of_end}
use Rattle.b2_sched.specs.Schedules.{Schedule, IsLeft, IsSkipped, IsNeeded, CanLook}
use Rattle.b2_facts.specs.Facts.{Knowledge, IsAbout, IsNumber}
use Rattle.b2_facts.proofs.ListsAtPlaces.{none_some}
use Rattle.b2_board.specs.declared.work.Work.{Work}
use Rattle.b2_board.specs.declared.board.Board.{Board}
use Rattle.b2_board.specs.Boards.{work_at, IsSeen, IsBoard}
use Rattle.b2_board.proofs.NeededAreSteps.{needed_not_zero}
use Rattle.b2_endings.specs.Missing.{lacking_in}

-- what is skipped is left
pub skipped_left : (s : Schedule) (quit : Bool) (i : ℕ) → IsSkipped s quit i → IsLeft s i
skipped_left s quit i (of_lack k left lack) = left
skipped_left s quit i (of_failed k j left need bad) = left
skipped_left s quit i (of_skipped k j left need bad) = left
skipped_left s quit i (of_end k left ends) = left

-- one of these members is one of a step that lacks a file
pub lacking_is : (w : Work) (n : ℕ) → Contains (lacking_in (Some w)) n → (w.reach.lacks ≡ true) × Contains w.reach.members n
lacking_is w n among = go w.reach.lacks refl among
  where
    go : (b : Bool) → w.reach.lacks ≡ b → Contains (if b then w.reach.members else []) n → (w.reach.lacks ≡ true) × Contains w.reach.members n
    go true e c = (e, c)
    go false e c = absurd (Contains_nil n c)

-- each member of a step that lacks a file is one of these
pub is_lacking : (w : Work) (n : ℕ) → w.reach.lacks ≡ true → Contains w.reach.members n → Contains (lacking_in (Some w)) n
is_lacking w n lacks among = subst (λ b. Contains (if b then w.reach.members else []) n) (sym lacks) among

module _ (plan : Plan) (f : Knowledge) (b : Board) (is : IsBoard plan 0 f b) where
  -- they have numbers
  pub lacking_numbered : (i n : ℕ) → Contains (lacking_in (work_at b.works.items i)) n → IsNumber f n
  lacking_numbered i n among = go (work_at b.works.items i) refl among
    where
      go : (o : Option Work) → work_at b.works.items i ≡ o → Contains (lacking_in o) n → IsNumber f n
      go None e c = absurd (Contains_nil n c)
      go (Some w) e c = (is.work i w e).reach.in_order.numbered n (lacking_is w n c).1

  -- a needed step was looked at
  needed_seen : IsAbout plan.steps plan.roots f → ((i : ℕ) → CanLook b.sched i → ⊥) → (i : ℕ) → IsNeeded b.sched i → IsSeen b.sched f b.works.items i
  needed_seen about none i needed = is.seen i (needed_not_zero plan.steps plan.wanted plan.roots 0 f b.sched b.works.items about is i needed) needed (none i)

  -- so its number is that of a work
  pub needed_within : IsAbout plan.steps plan.roots f → ((i : ℕ) → CanLook b.sched i → ⊥) → (i : ℕ) → IsNeeded b.sched i → i < length b.works.items
  needed_within about none i needed = go (cases_lt i (length b.works.items))
    where
      seen : IsSeen b.sched f b.works.items i
      seen = needed_seen about none i needed

      go : (i < length b.works.items) ⊎ (length b.works.items ≤ i) → i < length b.works.items
      go (inl low) = low
      go (inr past) = absurd (none_some seen.work (sym (get_or_past b.works.items i None past) ∙ seen.begun))

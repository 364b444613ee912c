-- What is known of the steps is kept as one is judged.
use Rattle.std.proofs.Common.{◌≡◌, inl, inr, ℕ, ◌<◌, Bool, length, Some, Result, sym, ap, subst, ◌∙◌, arith}
use Rattle.std.specs.List.{Contains, AllPairs}
use Rattle.b2_host.specs.Outside.{Outside}
use Rattle.b2_plan.specs.declared.step.Step.{Step}
use Rattle.b2_plan.specs.declared.plan.Plan.{Plan}
use Rattle.b2_plan.specs.Plans.{step_at, Apart}
use Rattle.b2_sched.specs.Schedules.{IsUnjudged, IsStep}
use Rattle.b2_facts.specs.declared.stop.FilesStop.{FilesStop}
use Rattle.b2_facts.specs.Facts.{Knowledge, IsNumber, IsAbout}
use Rattle.b2_facts.specs.Growth.{Grows, Learns, OfNone, IncludesStay}
use Rattle.b2_facts.proofs.FactsGrow.{grows_then, number_grows}
use Rattle.b2_reach.specs.declared.sights.Sights.{Sights}
use Rattle.b2_verdicts.specs.declared.step_numbers.StepNumbers.{StepNumbers}
use Rattle.b2_verdicts.specs.VerdictCalls.{IsOfStep}
use Rattle.b2_board.specs.Works.{IsWorkOn, IsClosed}
use Rattle.b2_board.specs.Boards.{IsBoard, IsOver, members_in, members_of}
use Rattle.b2_board.proofs.WorkStaysInOrder.{makers_grow, looked_grows, closed_grows}
use Rattle.b2_looks.specs.declared.looks.Looks.{Looks}
use Rattle.b2_looks.specs.Numbers.{AreFilesOf}
use Rattle.b2_looks.specs.Looks.{UnsettledAreUnread, AreLooks, IsJudged, IsOfUnstarted, LooksAtFiles}
use Rattle.b2_looks.proofs.FilesAreNumbered.{ins_inside, outs_numbers, number_among}
use Rattle.b2_looks.proofs.LooksAreKept.{files_grow, unread_learned, unread_stays, looks_grow, judged_looks}
use Rattle.b2_looks.proofs.FilesAreLookedAt.{judged_learns}

module _ (plan : Plan) (number : ℕ) (f : Knowledge) (l : Looks) (apart : Apart plan.steps plan.roots) (about : IsAbout plan.steps plan.roots f) (is : AreLooks plan number f l) (unjudged : IsUnjudged l.board.sched number) (over : IsOver l.board.sched f l.board.works.items number) where
  on : IsWorkOn plan.steps l.board.sched f number over.work
  on = is.board.work number over.work over.begun

  pub the_step : (step : Step) × (step_at plan.steps number ≡ Some step)
  the_step = (on.step, on.at)

  members_are : members_of l.board number ≡ over.work.reach.members
  members_are = ap members_in over.begun

  pub member_number : (n : ℕ) → Contains (members_of l.board number) n → IsNumber f n
  member_number n among = on.reach.in_order.numbered n (subst (λ ms. Contains ms n) members_are among)

  pub members_once : AllPairs (λ n m. n ≡ m → ⊥) (members_of l.board number)
  members_once = subst (AllPairs (λ n m. n ≡ m → ⊥)) (sym members_are) on.reach.in_order.once

  pub within_works : IsStep l.board.sched number → number < length l.board.works.items
  within_works step = (let low = step.within in let a = is.board.size in let b = is.board.works_size in omega (arith, low, a, b))

  pub within_ready : IsStep l.board.sched number → number < length l.ready.items
  within_ready step = (let low = step.within in let a = is.board.size in let b = is.ready_size in omega (arith, low, a, b))

  -- facts grow, by the numbers of the step's files and by what is asked of them
  module _ (step : Step) (numbers : StepNumbers) (between g : Knowledge) (at : step_at plan.steps number ≡ Some step) (first : Learns plan.steps plan.roots OfNone f between) (files : AreFilesOf plan.steps between step (members_of l.board number) numbers)
      (next : Learns plan.steps plan.roots (IsOfStep numbers) between g) (next_includes : IncludesStay between g) where
    grown : Grows f g
    grown = grows_then f between g first.grows next.grows

    later_about : IsAbout plan.steps plan.roots g
    later_about = next.about (first.about about)

    between_number : (n : ℕ) → Contains (members_of l.board number) n → IsNumber between n
    between_number n among = number_grows f between first.grows n (member_number n among)

    pub later_files : AreFilesOf plan.steps g step (members_of l.board number) numbers
    later_files = files_grow plan.steps between g step (members_of l.board number) numbers next.grows between_number files

    pub judgement_learns : Learns plan.steps plan.roots (IsOfUnstarted l.board.sched g) f g
    judgement_learns = judged_learns plan.steps plan.roots l.board.sched number step f g over.work numbers apart at unjudged later_about on over.looked over.closed grown (subst (λ ms. AreFilesOf plan.steps g step ms numbers) members_are later_files) f between first next
        (λ n among. subst (λ ms. Contains ms n) members_are (ins_inside plan.steps between step (members_of l.board number) numbers files n among))

    of_number : (n : ℕ) → IsOfStep numbers n → IsNumber between n
    of_number n (inl out) = number_among between numbers.outs (outs_numbers plan.steps between step (members_of l.board number) numbers files (first.about about).sizes) n out
    of_number n (inr ins) = between_number n (ins_inside plan.steps between step (members_of l.board number) numbers files n ins)

    later_unread : UnsettledAreUnread g l.board.sched
    later_unread = unread_learned (IsOfStep numbers) between g l.board.sched l.board.sched next.only (λ k settled. settled) (λ n k file of known made loose. unread_stays between g l.board.sched n k file next.grows next_includes between_unread (of_number n of) known made loose) between_unread
      where
        between_unread : UnsettledAreUnread between l.board.sched
        between_unread = unread_learned OfNone f between l.board.sched l.board.sched first.only (λ k settled. settled) (λ n k file none known made loose. absurd none) is.unread

    pub later_looks : AreLooks plan number g l
    later_looks = looks_grow plan number f g l about grown later_unread is

    pub later_closed : IsClosed l.board.sched g over.work
    later_closed = closed_grows plan.steps l.board.sched l.board.sched f g number over.work (makers_grow f g grown) (λ k settled. settled) (λ k need. need) on over.closed

    pub later_over : IsOver l.board.sched g l.board.works.items number
    later_over = record {
      work = over.work;
      begun = over.begun;
      looked = looked_grows plan.steps l.board.sched l.board.sched f g number over.work (makers_grow f g grown) (λ k settled. settled) (λ k need. need) on (λ n m file among known made settled. settled) (λ lacks. lacks) over.looked;
      closed = later_closed;
    }

    pub judgement_entered : (fresh : Bool) (m : Looks) → IsStep l.board.sched number → IsJudged fresh number numbers l m → ((p : Plan) (k : Knowledge) → IsOver l.board.sched k l.board.works.items number → IsBoard p number k l.board → IsBoard p 0 k m.board) → AreLooks plan 0 g m
    judgement_entered fresh m is_step judged board = judged_looks number numbers l m is_step.within unjudged plan g fresh step (members_of l.board number) (within_ready is_step) at (λ n among. number_grows f g grown n (member_number n among))
        (λ n k file among known made. later_closed.settled k (record { number = n; among = subst (λ ms. Contains ms n) members_are among; file = file; file_is = known; made = made })) later_files later_looks (board plan g later_over later_looks.board) judged

    pub judgement_looks : {T : Type 0} (s t v : Sights) (x y : Outside) (r : Result T FilesStop) → s.facts ≡ f → v.facts ≡ g → t.by_digest ≡ s.by_digest → LooksAtFiles plan.steps plan.roots (IsOfStep numbers) t x v y r → LooksAtFiles plan.steps plan.roots (IsOfUnstarted l.board.sched v.facts) s x v y r
    judgement_looks s t v x y r old new way a = record {
      only_log = a.only_log;
      faults = a.faults;
      learns = subst (λ k. Learns plan.steps plan.roots (IsOfUnstarted l.board.sched k) s.facts k) (sym new) (subst (λ k. Learns plan.steps plan.roots (IsOfUnstarted l.board.sched g) k g) (sym old) judgement_learns);
      way = a.way ∙ way;
    }

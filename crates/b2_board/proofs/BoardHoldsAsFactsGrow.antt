-- What is known of the steps is kept as facts grow, and as what was seen of an output is forgotten.
use Rattle.std.proofs.Common.{inl, inr, ℕ, List, Option}
use Rattle.b2_plan.specs.declared.step.Step.{Step}
use Rattle.b2_sched.specs.Schedules.{Schedule, IsSettled}
use Rattle.b2_facts.specs.Facts.{Knowledge}
use Rattle.b2_reach.specs.declared.reach.Reach.{Reach}
use Rattle.b2_reach.specs.Reaches.{IsReachOf}
use Rattle.b2_reach.proofs.ReachGrows.{reach_stays}
use Rattle.b2_reach.proofs.ForgettingKeepsReach.{reach_stays_as_forgotten}
use Rattle.b2_board.specs.declared.work.Work.{Work}
use Rattle.b2_board.specs.Boards.{IsSeen, IsOver, HasFound, IsBoardOf}
use Rattle.b2_board.specs.Laws.{BoardGrows, BoardStaysAsForgotten}
use Rattle.b2_board.proofs.WorkStaysInOrder.{KeepsMakers, makers_grow, makers_forgotten, output_up, work_grows, looked_grows, closed_grows}

module _ (steps : List Step) (wanted : List (List ℕ)) (but : ℕ) (f g : Knowledge) (s : Schedule) (works : List (Option Work)) (keeps : KeepsMakers f g)
    (stays : (step : Step) (r : Reach) → IsReachOf steps (IsSettled s) step f r → IsReachOf steps (IsSettled s) step g r) (is : IsBoardOf steps wanted but f s works) where
  seen_moves : (i : ℕ) → IsSeen s f works i → IsSeen s g works i
  seen_moves i h = record {
    work = h.work;
    begun = h.begun;
    looked = looked_grows steps s s f g i h.work keeps (λ k settled. settled) (λ k need. need) (is.work i h.work h.begun) (λ n number file among at made settled. settled) (λ lacks. lacks) h.looked;
  }

  over_moves : (i : ℕ) → IsOver s f works i → IsOver s g works i
  over_moves i h = record {
    work = h.work;
    begun = h.begun;
    looked = looked_grows steps s s f g i h.work keeps (λ k settled. settled) (λ k need. need) (is.work i h.work h.begun) (λ n number file among at made settled. settled) (λ lacks. lacks) h.looked;
    closed = closed_grows steps s s f g i h.work keeps (λ k settled. settled) (λ k need. need) (is.work i h.work h.begun) h.closed;
  }

  found_moves : (i k : ℕ) → HasFound f works i k → HasFound g works i k
  found_moves i k h = record { work = h.work; begun = h.begun; reads = output_up f g h.work.reach.members k keeps h.reads }

  board_moves : IsBoardOf steps wanted but g s works
  board_moves = record {
    size = is.size;
    dependents_size = is.dependents_size;
    lacking_size = is.lacking_size;
    looks_size = is.looks_size;
    works_size = is.works_size;
    request = is.request;
    first = is.first;
    needs = λ i k need. elim (is.needs i k need) [ inl e ↦ inl e | inr (found, needed) ↦ inr (found_moves i k found, needed) ];
    lacks = is.lacks;
    work = λ i w begun. let on = is.work i w begun in work_grows steps s s f g i w keeps (λ k settled. settled) (λ k need. need) on (stays on.step w.reach on.reach);
    seen = λ i other needed cannot. seen_moves i (is.seen i other needed cannot);
    waits = is.waits;
    judged = λ i step judged. let (needed, over) = is.judged i step judged in (needed, over_moves i over);
  }

pub board_grows : BoardGrows
board_grows plan but f g b about grown is =
    board_moves plan.steps plan.wanted but f g b.sched b.works.items (makers_grow f g grown) (λ step r on. reach_stays plan.steps plan.roots b.sched b.sched step f g r about grown (λ k settled. settled) on) is

pub board_stays_as_forgotten : BoardStaysAsForgotten
board_stays_as_forgotten plan but f b n number file about known made loose is =
    board_moves plan.steps plan.wanted but f _ b.sched b.works.items (makers_forgotten f n file known) (λ step r on. reach_stays_as_forgotten plan.steps plan.roots b.sched step f r n number file about known made loose on) is

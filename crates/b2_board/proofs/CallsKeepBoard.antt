-- The calls of the schedule, by what they answer.
use Rattle.std.proofs.Common.{◌≡◌, ℕ, suc, zero, ◌+◌, ◌≤◌, ◌<◌, List, length, get_or, true, false, cond, set, Option, Some, None, is_some, MatchOption, refl, sym, ap, subst, arith}
use Rattle.std.specs.List.{count_by}
use Rattle.std.proofs.lemmas.List.Sums.{sum_by-set}
use Rattle.b2_plan.specs.declared.step.Step.{Step}
use Rattle.b2_plan.specs.Plans.{step_at}
use Rattle.b2_facts.proofs.ListsAtPlaces.{get_some}
use Rattle.b2_plan.specs.declared.plan.Plan.{Plan}
use Rattle.b2_sched.specs.Schedules.{Schedule, IsStep, IsNeeded, IsUnjudged, CanLook}
use Rattle.b2_sched.specs.SchedulerCalls.{looked_at, with_start, StartsNext, StartsNone}
use Rattle.b2_sched.specs.Keeping.{LooksNext}
use Rattle.b2_sched.specs.Sound.{IsSound}
use Rattle.b2_sched.proofs.IndexFindsTheLowest.{has_within}
use Rattle.b2_facts.specs.Facts.{Knowledge}
use Rattle.b2_board.specs.declared.board.Board.{Board}
use Rattle.b2_board.specs.declared.work.Work.{Work}
use Rattle.b2_board.specs.Needs.{itself, looks_left}
use Rattle.b2_board.specs.Boards.{IsBoardOf, IsBoard}
use Rattle.b2_board.proofs.NeededAreSteps.{not_zero}
use Rattle.b2_board.proofs.BoardHoldsAsNeedsGrow.{board_looked}
use Rattle.b2_board.proofs.BoardHoldsAsStatesChange.{board_starts}

-- a step that was taken is one less to be looked at
left_taken : (s : Schedule) (n : ℕ) → CanLook s n → looks_left (looked_at s n) + 1 ≡ looks_left s
left_taken s n can =
    let e : count_by itself (set s.looks n false) + cond (itself (get_or s.looks n false)) 1 0 ≡ count_by itself s.looks + 0 = sum_by-set (λ b. cond (itself b) 1 0) s.looks n false false (has_within s.looks n can) in
    let one : cond {A = ℕ} (itself (get_or s.looks n false)) 1 0 ≡ 1 = ap (λ b. cond {A = ℕ} (itself b) 1 0) can in
    omega arith

-- ---- a step is taken to be looked at

pub taken_none : (o : Option ℕ) (s t : Schedule) → MatchOption o ((i : ℕ) → CanLook s i → ⊥) (LooksNext s) → MatchOption o (t ≡ s) (λ n. t ≡ looked_at s n) → MatchOption o ((i : ℕ) → CanLook s i → ⊥) (λ n. IsNeeded t n × IsUnjudged t n × IsStep t n)
taken_none None s t low after = low
taken_none (Some n) s t low after = subst (λ x. IsNeeded x n × IsUnjudged x n × IsStep x n) (sym after) (low.needed, low.unjudged, record { some = low.is_step.some; within = low.is_step.within })

pub taken_after : (o : Option ℕ) (b : Board) (t : Schedule) → MatchOption o (t ≡ b.sched) (λ n. t ≡ looked_at b.sched n) → MatchOption o (record b { sched = t } ≡ b) (λ n. (b.works ≡ b.works) × (t ≡ looked_at b.sched n))
taken_after None b t after = ap (λ x. record b { sched = x }) after
taken_after (Some n) b t after = (refl, after)

pub taken_board : (o : Option ℕ) (b : Board) (t : Schedule) → IsSound b.sched → MatchOption o (t ≡ b.sched) (λ n. t ≡ looked_at b.sched n)
    → MatchOption o (record b { sched = t } ≡ b) (λ n. (plan : Plan) (f : Knowledge) → IsBoard plan 0 f b → IsBoard plan n f (record b { sched = t }))
taken_board None b t sound after = ap (λ x. record b { sched = x }) after
taken_board (Some n) b t sound after = λ plan f is. subst (λ x. IsBoardOf plan.steps plan.wanted n f x b.works.items) (sym after)
    (board_looked plan.steps plan.wanted f b.sched b.works.items n (λ k needed. not_zero b.sched k (sound.steps k needed)) is)

pub taken_left : (o : Option ℕ) (b : Board) (t : Schedule) → MatchOption o ((i : ℕ) → CanLook b.sched i → ⊥) (LooksNext b.sched) → MatchOption o (t ≡ b.sched) (λ n. t ≡ looked_at b.sched n)
    → MatchOption o (record b { sched = t } ≡ b) (λ n. looks_left t + 1 ≤ looks_left b.sched)
taken_left None b t low after = ap (λ x. record b { sched = x }) after
taken_left (Some n) b t low after = subst (λ x. looks_left x + 1 ≤ looks_left b.sched) (sym after) (let e = left_taken b.sched n low.can in omega (arith, e))

-- ---- a step starts

pub start_after : (o : Option ℕ) (b : Board) (t : Schedule) → MatchOption o (t ≡ b.sched) (λ n. t ≡ with_start b.sched n) → MatchOption o (record b { sched = t } ≡ b) (λ n. t ≡ with_start b.sched n)
start_after None b t after = ap (λ x. record b { sched = x }) after
start_after (Some n) b t after = after

pub start_board : (o : Option ℕ) (b : Board) (t : Schedule) → IsSound b.sched → MatchOption o (StartsNone b.sched) (StartsNext b.sched) → MatchOption o (t ≡ b.sched) (λ n. t ≡ with_start b.sched n)
    → (plan : Plan) (f : Knowledge) → IsBoard plan 0 f b → IsBoard plan 0 f (record b { sched = t })
start_board None b t sound low after plan f is = subst (λ x. IsBoardOf plan.steps plan.wanted 0 f x b.works.items) (sym after) is
start_board (Some n) b t sound low after plan f is = subst (λ x. IsBoardOf plan.steps plan.wanted 0 f x b.works.items) (sym after) (board_starts plan.steps plan.wanted n f b.sched b.works.items sound low.lowest.has is)

-- ---- the work at a place

pub some_work : (o : Option Work) → is_some o ≡ true → (work : Work) × (o ≡ Some work)
some_work None e = absurd (let f : false ≡ true = e in cc)
some_work (Some work) e = (work, refl)

pub no_work : (o : Option Work) → is_some o ≡ false → o ≡ None
no_work None e = refl
no_work (Some work) e = absurd (let f : true ≡ false = e in cc)

-- ---- the step with a number

pub numbered_step : (steps : List Step) (k : ℕ) → 0 < k → k ≤ length steps → (step : Step) × (step_at steps k ≡ Some step)
numbered_step steps zero low high = absurd (omega (arith, low))
numbered_step steps (suc place) low high = get_some steps place (omega (arith, high))

use Rattle.std.proofs.Common.{◌≡◌, Some, None, length, refl, sym, ap, subst, ◌∙◌, arith}
use Rattle.std.proofs.lemmas.List.{get_or_default, get_or-set_same, get_or-set_other}
use Rattle.b2_plan.specs.Plans.{step_at}
use Rattle.b2_facts.specs.Growth.{OfNone}
use Rattle.b2_facts.proofs.FactsGrow.{learns_same, true_same}
use Rattle.b2_reach.specs.declared.reach.Reach.{Reach}
use Rattle.b2_reach.specs.Reaches.{IsReachOf}
use Rattle.b2_board.specs.Boards.{work_at}
use Rattle.b2_board.proofs.BoardHoldsAsFactsGrow.{board_grows}
use Rattle.b2_board.proofs.CallsKeepBoard.{some_work, no_work, numbered_step}
use Rattle.b2_board.proofs.LookKeepsBoard.{number_within, board_begins}
use Rattle.b2_board.proofs.board.Board.begin.Goals as goal

pub index-requires : goal.index-requires
index-requires c = let a = number_within c.args.plan.now c.args.number c.args.sights.now.facts c.args.self.now c.requires.board c.args.number c.requires.step in let e = c.args.self.now.works.ok in omega (arith, a, e)

pub returns-then-is_some-clause-begun : goal.returns-then-is_some-clause-begun
returns-then-is_some-clause-begun c =
    let within = number_within c.args.plan.now c.args.number c.args.sights.now.facts c.args.self.now c.requires.board c.args.number c.requires.step in
    let (work, e) = some_work c.index.result.now (sym c.is_some.ensures ∙ c.if-is_some.true) in
    (work, get_or_default c.args.self.now.works.items c.args.number None c.index.result.now within ∙ sym c.index.ensures ∙ e)

pub returns-then-is_some-clause-board : goal.returns-then-is_some-clause-board
returns-then-is_some-clause-board c = c.requires.board

pub returns-then-is_some-clause-learns : goal.returns-then-is_some-clause-learns
returns-then-is_some-clause-learns c = learns_same c.args.plan.now.steps c.args.plan.now.roots OfNone c.args.sights.now.facts

pub returns-then-is_some-clause-told : goal.returns-then-is_some-clause-told
returns-then-is_some-clause-told c now = true_same c.args.plan.now.steps c.args.plan.now.roots now c.args.sights.now.facts

pub step_of-step-requires : goal.step_of-step-requires
step_of-step-requires c = numbered_step c.as_slice.result.now c.args.number c.requires.step.some (let a = c.requires.step.within in let b = c.requires.board.size in let e = ap length c.as_slice.ensures in omega (arith, a, b, e))

pub returns-in_err-reach-clause-board : goal.returns-in_err-reach-clause-board
returns-in_err-reach-clause-board c = board_grows c.args.plan.now c.args.number c.args.sights.now.facts c.open.new.sights.facts c.args.self.now c.requires.about c.open.ensures.learns.grows c.requires.board

pub returns-in_err-reach-clause-learns : goal.returns-in_err-reach-clause-learns
returns-in_err-reach-clause-learns c = c.open.ensures.learns

pub returns-in_err-reach-clause-told : goal.returns-in_err-reach-clause-told
returns-in_err-reach-clause-told c = c.open.ensures.told

pub index_mut-requires : goal.index_mut-requires
index_mut-requires c = let a = number_within c.args.plan.now c.args.number c.args.sights.now.facts c.args.self.now c.requires.board c.args.number c.requires.step in let e = c.args.self.now.works.ok in omega (arith, a, e)

pub returns-clause-begun : goal.returns-clause-begun
returns-clause-begun c =
    let within = number_within c.args.plan.now c.args.number c.args.sights.now.facts c.args.self.now c.requires.board c.args.number c.requires.step in
    (c.new.result, get_or-set_same c.args.self.now.works.items c.args.number (Some c.new.result) None within)

pub returns-then-is_some-clause-others : goal.returns-then-is_some-clause-others
returns-then-is_some-clause-others c i other = refl

pub returns-in_err-reach-clause-others : goal.returns-in_err-reach-clause-others
returns-in_err-reach-clause-others c i other = refl

pub returns-clause-others : goal.returns-clause-others
returns-clause-others c i other = get_or-set_other c.args.self.now.works.items c.args.number i (Some c.new.result) None other

pub returns-clause-board : goal.returns-clause-board
returns-clause-board c =
    let plan = c.args.plan.now in
    let n = c.args.number in
    let f = c.args.sights.now.facts in
    let later = c.open.new.sights.facts in
    let b = c.args.self.now in
    let within = number_within plan n f b c.requires.board n c.requires.step in
    let none : work_at b.works.items n ≡ None = get_or_default b.works.items n None c.index.result.now within ∙ sym c.index.ensures ∙ no_work c.index.result.now (sym c.is_some.ensures ∙ c.if-is_some.false) in
    let at = subst (λ steps. step_at steps n ≡ Some c.step_of-step.result.now) c.as_slice.ensures c.step_of-step.ensures in
    let reach = subst (λ (r : Reach). IsReachOf plan.steps OfNone c.step_of-step.result.now later r) (sym c.new.ensures.0) c.in_ok-reach.ensures.reach in
    board_begins plan n f later b c.new.result c.step_of-step.result.now c.requires.about (c.open.ensures.learns.about c.requires.about) c.open.ensures.learns.grows c.requires.board c.requires.step none at reach c.new.ensures.1 c.new.ensures.2

pub returns-clause-learns : goal.returns-clause-learns
returns-clause-learns c = c.open.ensures.learns

pub returns-clause-told : goal.returns-clause-told
returns-clause-told c = c.open.ensures.told

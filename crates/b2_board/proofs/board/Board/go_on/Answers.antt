use Rattle.std.proofs.Common.{◌≤◌, Bool, Some, None, set, sym, ap, subst, ◌∙◌, arith}
use Rattle.std.specs.Vec.{with_item}
use Rattle.std.proofs.lemmas.List.{get_or_default, get_or-set_other}
use Rattle.b2_sched.specs.Schedules.{IsSettled}
use Rattle.b2_facts.proofs.ListsAtPlaces.{some_is, none_some}
use Rattle.b2_reach.specs.Reaches.{IsReachOf}
use Rattle.b2_reach.specs.Sightings.{LearnsMore}
use Rattle.b2_board.specs.declared.work.Work.{Work}
use Rattle.b2_board.specs.Needs.{looks_left}
use Rattle.b2_board.specs.Works.{LooksOnce}
use Rattle.b2_board.specs.Boards.{IsBoardOf, NeedsMore, members_in}
use Rattle.b2_board.proofs.LookKeepsBoard.{number_within, lists_even, board_goes_on, goes_more, goes_left, on_ok, look_told, begun_at, here_at}
use Rattle.b2_board.proofs.board.Board.go_on.Goals as goal

pub index_mut-requires : goal.index_mut-requires
index_mut-requires g c =
    let a = number_within c.args.plan.now c.args.number c.args.sights.now.facts c.args.self.now c.requires.board c.args.number c.requires.step in
    let e = c.args.self.now.works.ok in
    omega (arith, a, e)

pub look-requires-clause-schedule : goal.look-requires-clause-schedule
look-requires-clause-schedule g c = c.requires.board.size

pub look-requires-clause-even : goal.look-requires-clause-even
look-requires-clause-even g c = lists_even c.args.plan.now c.args.number c.args.sights.now.facts c.args.self.now c.requires.board

pub look-requires-clause-work : goal.look-requires-clause-work
look-requires-clause-work g c =
    let begun = begun_at c.args.plan.now c.args.number c.args.sights.now.facts c.args.self.now c.requires.board c.requires.step c.index_mut.result.now c.in-Some.work c.index_mut.ensures.value c.in-Some.is in
    c.requires.board.work c.args.number c.in-Some.work begun

pub unreachable-requires : goal.unreachable-requires
unreachable-requires g c =
    let (work, begun) = c.requires.begun in
    let a = number_within c.args.plan.now c.args.number c.args.sights.now.facts c.args.self.now c.requires.board c.args.number c.requires.step in
    none_some work (sym c.in-None.is ∙ c.index_mut.ensures.value ∙ get_or_default c.args.self.now.works.items c.args.number c.index_mut.result.now None a ∙ begun)

pub returns-clause-reach : goal.returns-clause-reach
returns-clause-reach g c work step begun at =
    let here = here_at c.args.plan.now c.args.number c.args.sights.now.facts c.args.self.now c.requires.board c.requires.step c.look.new.self in
    subst (λ (x : Work). IsReachOf c.args.plan.now.steps (IsSettled c.args.self.now.sched) step c.look.new.sights.facts x.reach) (some_is c.look.new.self work (sym here ∙ begun)) (c.look.ensures.reach step at)

pub returns-clause-grows : goal.returns-clause-grows
returns-clause-grows g c =
    let here = here_at c.args.plan.now c.args.number c.args.sights.now.facts c.args.self.now c.requires.board c.requires.step c.look.new.self in
    subst (λ l. LearnsMore {T = Bool} c.args.notes c.args.plan.now.steps c.args.plan.now.roots (IsSettled c.args.self.now.sched) l c.args.sights.now (g.F.Files.outside c.args.files.now) c.look.new.sights (g.F.Files.outside c.look.new.files) c.look.result)
    (ap members_in (sym here)) c.look.ensures.grows

pub returns-clause-others : goal.returns-clause-others
returns-clause-others g c i other = get_or-set_other c.args.self.now.works.items c.args.number i (Some c.look.new.self) None other

pub returns-clause-board : goal.returns-clause-board
returns-clause-board g c =
    let plan = c.args.plan.now in
    let n = c.args.number in
    let f = c.args.sights.now.facts in
    let later = c.look.new.sights.facts in
    let b = c.args.self.now in
    let w = c.in-Some.work in
    let v = c.look.new.self in
    let t = c.look.new.sched in
    let begun = begun_at plan n f b c.requires.board c.requires.step c.index_mut.result.now w c.index_mut.ensures.value c.in-Some.is in
    on_ok (LooksOnce plan.steps later n b.sched t v) (IsBoardOf plan.steps plan.wanted n later t (set b.works.items n (Some v))) c.look.result c.look.ensures.looks
    (λ looks. board_goes_on plan n f later b t w v c.requires.about c.look.ensures.grows.learns.grows c.requires.board c.requires.step c.requires.needed c.requires.unjudged begun c.look.ensures.keeps looks)

pub returns-clause-more : goal.returns-clause-more
returns-clause-more g c =
    let plan = c.args.plan.now in
    let n = c.args.number in
    let f = c.args.sights.now.facts in
    let later = c.look.new.sights.facts in
    let b = c.args.self.now in
    let w = c.in-Some.work in
    let v = c.look.new.self in
    let t = c.look.new.sched in
    let begun = begun_at plan n f b c.requires.board c.requires.step c.index_mut.result.now w c.index_mut.ensures.value c.in-Some.is in
    on_ok (LooksOnce plan.steps later n b.sched t v) (NeedsMore b.sched t) c.look.result c.look.ensures.looks
    (λ looks. goes_more plan n f later b t w v c.requires.about c.look.ensures.grows.learns.grows c.requires.board c.requires.step c.requires.needed c.requires.unjudged begun c.look.ensures.keeps looks)

pub returns-clause-left : goal.returns-clause-left
returns-clause-left g c =
    let plan = c.args.plan.now in
    let n = c.args.number in
    let f = c.args.sights.now.facts in
    let later = c.look.new.sights.facts in
    let b = c.args.self.now in
    let w = c.in-Some.work in
    let v = c.look.new.self in
    let t = c.look.new.sched in
    let begun = begun_at plan n f b c.requires.board c.requires.step c.index_mut.result.now w c.index_mut.ensures.value c.in-Some.is in
    on_ok (LooksOnce plan.steps later n b.sched t v) (looks_left t ≤ looks_left b.sched) c.look.result c.look.ensures.looks
    (λ looks. goes_left plan n f later b t w v c.requires.about c.look.ensures.grows.learns.grows c.requires.board c.requires.step c.requires.needed c.requires.unjudged begun c.look.ensures.keeps looks)

pub returns-clause-looked : goal.returns-clause-looked
returns-clause-looked g c =
    let n = c.args.number in
    let b = c.args.self.now in
    let v = c.look.new.self in
    let here = here_at c.args.plan.now n c.args.sights.now.facts b c.requires.board c.requires.step v in
    look_told c.args.plan.now.steps c.look.result c.look.new.sights.facts b.sched (record { sched = c.look.new.sched; works = with_item b.works n (Some v) }) n v c.look.ensures.looks c.look.ensures.closed here

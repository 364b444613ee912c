use Rattle.std.proofs.Common.{ℕ, List, ◌-◌, map, ◌∙◌, ap, rules}
use Rattle.std.proofs.lemmas.Result.{err_from_is_err_and}
use Rattle.b2_base.specs.Results.{and_then}
use Rattle.jam_expand.specs.Limits.{Answer}
use Rattle.jam_expand.specs.Shown.{shown}
use Rattle.jam_expand.specs.Values.{values_of_all}
use Rattle.jam_expand.specs.Expansions.{elements_at}
use Rattle.jam_expand.proofs.PiecesExpandOneByOne.{found_nothing, held_no_zero, held_fault, held_more, held_all, elements_zero, elements_more}
use Rattle.jam_expand.proofs.PlainWordsExpandToThemselves.{plain_elements}
use Rattle.jam_expand.proofs.expand.+expand.Goals as goal

abbrev values : ℕ → (List ℕ → List (List ℕ)) → List ℕ → Answer
values levels names inside = and_then (values_of_all names) (elements_at levels names inside)

pub elements_at-returns-then-levels-eq0 : goal.elements_at-returns-then-levels-eq0
elements_at-returns-then-levels-eq0 g t c = rw (elements_zero c.args.levels (g.L.Look.answer c.args.look.now) c.args.word.now c.if-levels-eq0.true) c.itself.ensures

pub elements_at-loop-piece-init : goal.elements_at-loop-piece-init
elements_at-loop-piece-init g t c = rw c.new-lists.ensures.items (found_nothing _)

pub elements_at-list_of-requires : goal.elements_at-list_of-requires
elements_at-list_of-requires g t c κs within = (
  search rules,
  (
    search rules,
    held_no_zero c.args.word.now c.as_slice-piece-items.result.now c.loop-piece.piece-index _ c.requires.1.1.1
        (ap (map shown) c.as_slice-piece-items.ensures.value ∙ c.in_ok-pieces.ensures) c.loop-piece-test.true,
  ),
)

pub elements_at-returns-in_err-list : goal.elements_at-returns-in_err-list
elements_at-returns-in_err-list g t c =
    let p = err_from_is_err_and c.from_residual-in_err-list.result c.from_residual-in_err-list.ensures.1 in
    let names = g.L.Look.answer c.args.look.now in
    rw (p.1, p.2, elements_more c.args.levels names c.args.word.now c.if-levels-eq0.false)
    (held_fault (values (c.args.levels - 1) names) c.loop-piece.lists.items c.args.word.now c.as_slice-piece-items.result.now c.loop-piece.piece-index _ c.in_err-list.field-0.0
    (ap (map shown) c.as_slice-piece-items.ensures.value ∙ c.in_ok-pieces.ensures) c.loop-piece-test.true c.loop-piece.invariant c.in_err-list.ensures)

pub elements_at-loop-piece-preserved : goal.elements_at-loop-piece-preserved
elements_at-loop-piece-preserved g t c =
    let names = g.L.Look.answer c.args.look.now in
    rw c.in_ok-push_list.ensures
    (held_more (values (c.args.levels - 1) names) c.loop-piece.lists.items c.args.word.now c.as_slice-piece-items.result.now c.loop-piece.piece-index _ c.in_ok-list.list
    (ap (map shown) c.as_slice-piece-items.ensures.value ∙ c.in_ok-pieces.ensures) c.loop-piece-test.true c.loop-piece.invariant c.in_ok-list.ensures)

pub elements_at-returns : goal.elements_at-returns
elements_at-returns g t c =
    let names = g.L.Look.answer c.args.look.now in
    rw (
      elements_more c.args.levels names c.args.word.now c.if-levels-eq0.false,
      held_all (values (c.args.levels - 1) names) c.loop-piece.lists.items c.args.word.now c.as_slice-piece-items.result.now c.loop-piece.piece-index
          (ap (map shown) c.as_slice-piece-items.ensures.value ∙ c.in_ok-pieces.ensures) c.loop-piece-test.false c.loop-piece.invariant,
    )
    c.product.ensures

pub elements_at-returns-then-is_plain : goal.elements_at-returns-then-is_plain
elements_at-returns-then-is_plain g t c = rw (plain_elements c.args.levels (g.L.Look.answer c.args.look.now) c.args.word.now (c.is_plain.ensures c.if-is_plain.true)) c.itself-then-is_plain.ensures

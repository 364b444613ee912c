use Rattle.std.proofs.Common.{◌≡◌, ◌+◌, ◌-◌, ap, subst, sym, drop, take, Some, ◌∙◌, arith}
use Rattle.jam_expand.specs.Words.{inside_len}
use Rattle.jam_expand.specs.Shown.{IsPartAt}
use Rattle.jam_expand.proofs.PiecesGrowAlongTheWord.{PartPlaces, part_places}
use Rattle.jam_expand.proofs.piece.part_at.Goals as goal

places : (c : goal.In_ok-len) → PartPlaces c.args.word.now c.args.at c.in_ok-len.len
places c =
    let e : inside_len (drop c.args.at c.args.word.now) ≡ Some c.in_ok-len.len = ap inside_len (ap (drop c.args.at) (sym c.as_bytes.ensures.value) ∙ sym c.split_at.ensures.back) ∙ sym c.in_ok-len.ensures.exact in
    part_places c.args.word.now c.args.at c.in_ok-len.len c.utf8.word c.requires e

pub overflow_add-after : goal.overflow_add-after
overflow_add-after c = omega (arith, (places c).room)

pub overflow_add-after-2 : goal.overflow_add-after-2
overflow_add-after-2 c = omega (arith, (places c).room)

pub range-requires-clause-start_boundary : goal.range-requires-clause-start_boundary
range-requires-clause-start_boundary c = λ above. (places c).first

pub range-requires-clause-end_boundary : goal.range-requires-clause-end_boundary
range-requires-clause-end_boundary c = (places c).last

pub returns-clause-found : goal.returns-clause-found
returns-clause-found c =
    let at = c.args.at in
    let len = c.in_ok-len.len in
    let here : inside_len (drop at c.args.word.now) ≡ Some len = ap inside_len (ap (drop at) (sym c.as_bytes.ensures.value) ∙ sym c.split_at.ensures.back) ∙ sym c.in_ok-len.ensures.exact in
    let places : PartPlaces c.args.word.now at len = part_places c.args.word.now at len c.utf8.word c.requires here in
    let count : at + len + 3 - 1 - (at + 2) ≡ len = omega arith in
    let inside : c.range.result.now ≡ take len (drop (at + 2) c.args.word.now) = c.range.ensures.value ∙ ap (λ n. take n (drop (at + 2) c.args.word.now)) count in
    subst (λ found. IsPartAt c.args.word.now at found (at + len + 3)) (sym inside) places.is_at

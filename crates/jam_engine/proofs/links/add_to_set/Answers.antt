use Rattle.std.proofs.Common.{◌∷◌, ◌++◌, [], ◌≡◌, List, ℕ, length, arith, ap, refl, ◌∙◌}
use Rattle.jam_engine.proofs.AlikeFound.{at_get}
use Rattle.jam_engine.proofs.LabelsHold.{number_within, set_within, set_begun, set_joins}
use Rattle.jam_engine.proofs.links.add_to_set.Goals as goal

pub returns-then-first-place : goal.returns-then-first-place
returns-then-first-place c before h =
    let sets = c.args.sets.now in
    let numbers = c.args.numbers.now.items in
    let place = c.args.place in
    let count : c.len.result ≡ length sets.items = omega (arith, c.len.ensures, sets.ok.0) in
    set_begun before place c.args.first c.push-then-first-place.new.self sets.items c.push-then-first-place-2.new.self.items numbers c.push.new.self.items c.if-first-place.true
    (c.in_ok-push.ensures.items ∙ ap (λ (n : ℕ). numbers ++ n ∷ []) count) (c.in_ok-push-2.ensures.ok ∙ ap (λ (l : List ℕ). l ++ place ∷ []) c.new-set.ensures) c.in_ok-push-3.ensures.items h

pub index_mut-requires : goal.index_mut-requires
index_mut-requires c =
    let sets = c.args.sets.now in
    let numbers = c.args.numbers.now.items in
    let number = c.index-number.result.now in
    let (before, h) = c.requires in
    let named = at_get numbers c.args.first number (number_within before c.args.place c.args.first sets.items numbers h c.if-first-place.false) c.index-number.ensures in
    omega (arith, set_within before c.args.place c.args.first number sets.items numbers h named, sets.ok.0)

pub returns : goal.returns
returns c before h =
    let sets = c.args.sets.now.items in
    let numbers = c.args.numbers.now.items in
    let place = c.args.place in
    let first = c.args.first in
    let number = c.index-number.result.now in
    let named = at_get numbers first number (number_within before place first sets numbers h c.if-first-place.false) c.index-number.ensures in
    set_joins c.push-3.result before place first number c.index_mut.result.now c.push-3.new.self sets _ numbers c.push-2.new.self.items c.push-3.ensures.ok c.if-first-place.false named
    (at_get sets number c.index_mut.result.now (set_within before place first number sets numbers h named) c.index_mut.ensures.value) c.in_ok-push-4.ensures.items refl h

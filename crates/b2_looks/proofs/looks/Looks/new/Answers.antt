use Rattle.std.proofs.Common.{◌≡◌, ◌∙◌, ◌+◌, false, length, replicate, ap}
use Rattle.std.proofs.lemmas.List.{length-replicate}
use Rattle.b2_facts.specs.Facts.{no_facts}
use Rattle.b2_looks.proofs.StepsAreLookedAt.{looks_new, follows_new}
use Rattle.b2_looks.proofs.looks.Looks.new.Goals as goal

pub returns-clause-looks : goal.returns-clause-looks
returns-clause-looks c =
    let size = length c.as_slice.result.now + 1 in
    let ran_is : c.in_ok-ran.ran.items ≡ replicate size false = c.in_ok-ran.ensures.items_if_clones_equal (λ y h. h) in
    let size_is = ap (λ xs. length xs + 1) c.as_slice.ensures in
    looks_new c.args.plan.now (record { way = c.args.way; board = c.in_ok-board.board; ready = c.in_ok-ready.ready; ran = c.in_ok-ran.ran }) (c.in_ok-board.ensures.board no_facts) c.in_ok-board.ensures.unjudged
    (c.in_ok-ready.ensures ∙ size_is) (ap length ran_is ∙ length-replicate size false ∙ size_is)

pub returns-clause-follows : goal.returns-clause-follows
returns-clause-follows c =
    let size = length c.as_slice.result.now + 1 in
    let ran_is : c.in_ok-ran.ran.items ≡ replicate size false = c.in_ok-ran.ensures.items_if_clones_equal (λ y h. h) in
    follows_new (record { way = c.args.way; board = c.in_ok-board.board; ready = c.in_ok-ready.ready; ran = c.in_ok-ran.ran }) size (c.in_ok-board.ensures.board no_facts).request c.in_ok-board.ensures.unjudged ran_is

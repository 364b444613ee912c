use Rattle.std.proofs.Common.{List, ℕ, false, reverse, sym, subst, ◌∙◌}
use Rattle.std.proofs.lemmas.List.{get_or_default}
use Rattle.b2_generate.specs.Clear.{AreMarked}
use Rattle.b2_generate.specs.Machine.{names_of}
use Rattle.b2_generate.specs.Opening.{frames}
use Rattle.b2_generate.proofs.DatesOrMarksShowClear.{stay_all, passes_unmarked, passes_open}
use Rattle.b2_generate.proofs.clear.passes.Goals as goal

pub returns-then-not-index-clause-stay : goal.returns-then-not-index-clause-stay
returns-then-not-index-clause-stay c = stay_all c.args.marks.now.items

pub returns-then-not-index-clause-passes : goal.returns-then-not-index-clause-passes
returns-then-not-index-clause-passes c = λ clear.
    passes_unmarked (names_of (frames c.args.stack.now)) (reverse c.args.nodes.now) c.args.place c.args.marks.now.items
    (get_or_default c.args.marks.now.items c.args.place false c.index.result.now c.requires.size ∙ sym c.index.ensures ∙ c.if-not-index.true)

pub returns-clause-passes : goal.returns-clause-passes
returns-clause-passes c =
    passes_open (names_of (frames c.args.stack.now)) c.args.nodes.now c.args.place c.index-nodes-place.result c.args.marks.now.items c.mark.new.marks.items c.is_open.result c.requires.there c.index-nodes-place.is c.requires.size
    (subst (λ (places : List ℕ). AreMarked places c.args.marks.now.items c.mark.new.marks.items) c.as_slice.ensures c.mark.ensures) c.is_open.ensures

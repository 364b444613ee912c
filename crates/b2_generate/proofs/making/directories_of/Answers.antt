use Rattle.std.proofs.Common.{◌++◌, ap, ap₂, ◌∙◌}
use Rattle.std.proofs.lemmas.List.{take_all}
use Rattle.b2_virtual.specs.Supplies.{entries_of, header_directories}
use Rattle.b2_generate.proofs.SuppliesAreThoseDefined.{directories_next}
use Rattle.b2_generate.proofs.making.directories_of.Goals as goal

pub loop-part-preserved : goal.loop-part-preserved
loop-part-preserved c =
    c.in_ok-append.ensures.ok
    ∙ ap₂ (λ xs ys. xs ++ ys) c.loop-part.invariant (c.in_ok-header_directories.ensures ∙ ap header_directories c.as_slice.ensures)
    ∙ directories_next c.args.parts.now c.loop-part.part-index c.part-item.result c.loop-part-test.true c.part-item.is

pub returns : goal.returns
returns c = c.loop-part.invariant ∙ ap (λ parts. header_directories (entries_of parts)) (take_all c.loop-part.part-index c.args.parts.now c.loop-part-test.false)

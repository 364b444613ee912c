use Rattle.std.proofs.Common.{◌+◌, ◌++◌, map, drop, ap, sym, ◌∙◌, append_assoc}
use Rattle.std.specs.Str.{bytes_eq}
use Rattle.b2_base.specs.Segments.{texts}
use Rattle.b2_files.specs.Stores.{write_of}
use Rattle.b2_memory.specs.Results.{joined}
use Rattle.b2_memory.proofs.LoopsAddOneMore.{join_goes_on}
use Rattle.b2_memory.proofs.made.join.Goals as goal

pub loop-name-preserved : goal.loop-name-preserved
loop-name-preserved c =
    let held = map write_of c.args.held.now in
    let names = c.args.names.now in
    let i = c.loop-name.name-index in
    let rest = joined held (texts (drop (i + 1) names)) in
    let test = sym (c.eq.ensures ∙ ap (bytes_eq _) c.as_slice.ensures) ∙ c.if-eq.false in
    ap (λ xs. xs ++ rest) (c.in_ok-extend_from_slice.ensures.items ∙ ap (λ xs. c.loop-name.bytes.items ++ xs) (c.named.ensures ∙ c.in_ok-found.ensures _))
    ∙ append_assoc c.loop-name.bytes.items _ rest
    ∙ ap (λ xs. c.loop-name.bytes.items ++ xs) (sym (join_goes_on held names i _ c.loop-name-test.true test))
    ∙ c.loop-name.invariant

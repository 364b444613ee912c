use Rattle.std.proofs.Common.{subst}
use Rattle.b2_endings.specs.Writings.{Says}
use Rattle.b2_endings.proofs.WrittenPartsAddUp.{says_printed}
use Rattle.b2_endings.proofs.lists.write_line.Goals as goal

pub returns : goal.returns
returns g c =
    let before = g.S.Sink.output c.args.out.now in
    let after = g.S.Sink.output c.write.new.self in
    subst (λ t. Says t before after c.write.result) c.as_bytes.ensures.value (says_printed _ before after c.write.result c.write.ensures)

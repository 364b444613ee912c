use Rattle.std.proofs.Common.{◌∙◌, ap, cond, true}
use Rattle.b2_references.specs.Names.{is_same}
use Rattle.b2_alternatives.specs.DependencyWork.{is_known}
use Rattle.b2_alternatives.proofs.KnownNamesGrowByOne.{known_more}
use Rattle.b2_alternatives.proofs.known.KnownNames.add.Goals as goal

pub returns : goal.returns
returns c = λ names was.
    known_more names c.args.self.now _ c.args.name.now was
    (λ name. c.in_ok-_is_new.ensures.updates.0 name ∙ ap (λ n. cond (is_same n name) true (is_known c.args.self.now name)) c.in_ok-copy.ensures)

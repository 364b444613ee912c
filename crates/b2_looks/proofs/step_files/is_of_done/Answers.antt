use Rattle.std.proofs.lemmas.Bool.{false≢true}
use Rattle.b2_looks.proofs.FilesAreNumbered.{not_of_done, of_done}
use Rattle.b2_looks.proofs.step_files.is_of_done.Goals as goal

pub bounds-ran-maker : goal.bounds-ran-maker
bounds-ran-maker c = c.requires.maker c.file.result.now c.in-Some.maker c.file.ensures c.in-Some.is

pub returns-in-None : goal.returns-in-None
returns-in-None c = (λ has. absurd (false≢true has), λ is. absurd (not_of_done c.args.facts.now c.args.ran.now c.args.number c.file.result.now c.file.ensures c.in-None.is is))

pub returns-in-Some : goal.returns-in-Some
returns-in-Some c = of_done c.args.facts.now c.args.ran.now c.args.number c.file.result.now c.in-Some.maker c.file.ensures c.in-Some.is

use Rattle.std.proofs.Common.{refl}
use Rattle.b2_generate.proofs.PiecesAnswerTheRequest.{main_piece, no_piece}
use Rattle.b2_generate.proofs.pieces.give.Goals as goal

pub generate-requires : goal.generate-requires
generate-requires g c = record { ready = c.requires }

pub returns-in-Main-clause-piece : goal.returns-in-Main-clause-piece
returns-in-Main-clause-piece g c = main_piece c.in-Main.name c.in-Main.set c.in-Main.is c.generate.ensures.request

pub returns-in-Main-clause-project : goal.returns-in-Main-clause-project
returns-in-Main-clause-project g c = c.generate.ensures.project

pub returns-in-Main-clause-roots : goal.returns-in-Main-clause-roots
returns-in-Main-clause-roots g c = c.generate.ensures.roots

pub returns-in-NoTarget-clause-piece : goal.returns-in-NoTarget-clause-piece
returns-in-NoTarget-clause-piece g c = no_piece c.in-NoTarget.word c.in-NoTarget.is

pub returns-in-NoTarget-clause-project : goal.returns-in-NoTarget-clause-project
returns-in-NoTarget-clause-project g c = refl

pub returns-in-NoTarget-clause-roots : goal.returns-in-NoTarget-clause-roots
returns-in-NoTarget-clause-roots g c = refl

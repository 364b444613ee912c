use Rattle.std.proofs.lemmas.Result.{on_ok_weaker}
use Rattle.b2_generate.proofs.taking.note.Goals as goal

pub returns-clause-notes : goal.returns-clause-notes
returns-clause-notes c =
    on_ok_weaker c.push.result (λ pushed. record { same = λ i. record c.args.frame.now { done = pushed i; places = c.note_first.new.firsts }; places = c.in_ok-_first.ensures.firsts }) c.push.ensures.ok

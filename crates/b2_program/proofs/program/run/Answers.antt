use Rattle.b2_program.proofs.program.run.Goals as goal

pub returns : goal.returns
returns g c = record { answer = c.run_command-answer.result; promised = c.run_command-answer.ensures; is = c.status-status.ensures }

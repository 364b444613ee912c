use Rattle.jam_journal.proofs.GoingBackUndoesSetting.{taken_back}
use Rattle.jam_journal.proofs.registers.opening.bind.Goals as goal

pub returns-in-Err-clause-same_registers : goal.returns-in-Err-clause-same_registers
returns-in-Err-clause-same_registers c =
    taken_back c.args.registers.now c.note_innermost.new.registers c.insert.new.self c.put_back.new.self c.as_str.result.now c.as_str-in-Err.result.now c.args.name.now
    c.args.cell c.in_ok-before.before c.in-Err.ensures.err c.in_ok-before.ensures.ok c.as_str.ensures c.in_ok-before.ensures.before c.as_str-in-Err.ensures c.put_back.ensures

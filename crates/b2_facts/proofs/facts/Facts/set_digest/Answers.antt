use Rattle.std.proofs.Common.{Some}
use Rattle.b2_facts.proofs.LooksAreKept.{number_file}
use Rattle.b2_facts.proofs.BytesAreKept.{read_learns, digest_well}
use Rattle.b2_facts.proofs.OneFileChanges.{true_changed}
use Rattle.b2_facts.proofs.facts.Facts.set_digest.Goals as goal

pub returns-clause-learns : goal.returns-clause-learns
returns-clause-learns c = λ steps roots. (
    let file = number_file c.args.self.now c.args.number c.requires.number in
    read_learns steps roots c.args.self.now c.put_digest.new.self c.args.number file.0 file.0.includes (Some c.args.digest) file.1 (digest_well file.0 c.args.digest (c.requires.unknown file.0 file.1) c.requires.digits) (c.put_digest.ensures file.0 file.1))

pub returns-clause-told : goal.returns-clause-told
returns-clause-told c = λ b now so holds. (
    let file = number_file c.args.self.now c.args.number c.requires.number in
    true_changed b now c.args.self.now c.put_digest.new.self c.args.number file.0 (record file.0 { digest = Some c.args.digest }) file.1 (c.put_digest.ensures file.0 file.1)
    (λ path is t. record { seen = t.seen; includes = t.includes; digest = so path is }) holds)

use Rattle.std.proofs.Common.{sym, subst}
use Rattle.b2_facts.specs.Facts.{Knowledge, IsNumber}
use Rattle.b2_facts.specs.Asks.{taken}
use Rattle.b2_facts.proofs.LooksAreKept.{number_file}
use Rattle.b2_facts.proofs.OneFileChanges.{number_stays}
use Rattle.b2_facts.proofs.BytesAreKept.{bytes_kept}
use Rattle.b2_facts.proofs.facts.Facts.keep_bytes.Goals as goal

pub set_includes-requires : goal.set_includes-requires
set_includes-requires c =
    let file = number_file c.args.self.now c.args.number c.requires in
    subst (λ (f : Knowledge). IsNumber f c.args.number) (sym (c.in_ok-keep_digest.ensures.ok file.0 file.1))
    (number_stays c.args.self.now c.args.number (record file.0 { digest = taken c.args.by_digest c.args.bytes.now file.0.digest }) c.args.number c.requires)

pub returns-clause-ok : goal.returns-clause-ok
returns-clause-ok c = λ file e. bytes_kept c.args.self.now c.keep_digest.new.self c.set_includes.new.self c.args.number c.args.by_digest c.args.bytes.now c.in_ok-includes.includes file e (c.in_ok-keep_digest.ensures.ok file e) c.in_ok-includes.ensures c.set_includes.ensures

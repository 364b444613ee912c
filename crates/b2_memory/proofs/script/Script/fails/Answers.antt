use Rattle.std.proofs.Common.{sym, ◌∙◌}
use Rattle.std.proofs.lemmas.Bool.{OnTrue_from}
use Rattle.b2_memory.specs.Listings.{listed_of, risks_told}
use Rattle.b2_memory.proofs.ListedFailuresAreExpected.{after_call, expected}
use Rattle.b2_memory.proofs.script.Script.fails.Goals as goal

pub invariant_of-self : goal.invariant_of-self
invariant_of-self c =
    let script = c.args.self.now in
    let covered = after_call c.args.kind script.fuse c.fuse_after-self.result script.calls.items c.pass_all.new.calls.items script.starts.items (risks_told script) c.fuse_after-self.ensures c.pass_all.ensures script.covered in
    record { within = script.within; covered = covered }

pub invariant_of-self-else-fails : goal.invariant_of-self-else-fails
invariant_of-self-else-fails c =
    let script = c.args.self.now in
    let covered = after_call c.args.kind script.fuse c.fuse_after-self.result script.calls.items c.pass_all.new.calls.items script.starts.items (risks_told script) c.fuse_after-self.ensures c.pass_all.ensures script.covered in
    record { within = script.within; covered = covered }

pub returns-then-fails-clause-may : goal.returns-then-fails-clause-may
returns-then-fails-clause-may c =
    let script = c.args.self.now in
    OnTrue_from c.is_to_fail-fails.result _ (λ is. expected c.args.kind (listed_of script) (risks_told script) script.covered (sym c.is_to_fail-fails.ensures ∙ is))

use Rattle.std.proofs.Common.{◌≡◌, true, is_some, sym, subst, ◌∙◌}
use Rattle.b2_facts.specs.declared.file_facts.FileFacts.{FileFacts}
use Rattle.b2_facts.proofs.ListsAtPlaces.{some_is}
use Rattle.b2_facts.proofs.BytesAreKept.{taken_known, taken_not, digest_as_was}
use Rattle.b2_facts.proofs.facts.Facts.keep_digest.Goals as goal
use Rattle.b2_facts.proofs.facts.Facts.keep_digest.Goals.{then-not-by_digest-via-then-not-by_digest, then-not-by_digest-via-else-not-by_digest+then-is_some}

pub returns-then-not-by_digest-clause-ok : goal.returns-then-not-by_digest-clause-ok
returns-then-not-by_digest-clause-ok c = digest_as_was c.args.self.now c.args.number c.args.by_digest c.args.bytes.now (λ file e. elim c.then-not-by_digest.branch [
  | then-not-by_digest-via-then-not-by_digest w ↦ taken_not c.args.by_digest c.args.bytes.now file.digest w.if-not-by_digest.true
  | then-not-by_digest-via-else-not-by_digest+then-is_some w ↦ taken_known c.args.by_digest c.args.bytes.now file.digest (subst (λ (x : FileFacts). is_some x.digest ≡ true) (some_is w.file.result.now file (sym w.file.ensures ∙ e)) (sym w.if-is_some.ensures))
])

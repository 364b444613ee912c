use Rattle.std.proofs.Common.{length, refl}
use Rattle.std.proofs.lemmas.Option.{slice_get_read}
use Rattle.b2_references.proofs.EntriesGrowByOneTarget.{entry_push, entries_push}
use Rattle.b2_references.proofs.LoopsTakeOneMore.{on_ok_both}
use Rattle.b2_references.proofs.entries.add_target.Goals as goal

pub returns-clause-added : goal.returns-clause-added
returns-clause-added c = λ before e are.
    let t = c.args.target.now in
    let entries = c.args.entries.now.items in
    let old = c.index_mut.result.now in
    on_ok_both c.add.result c.add.ensures.numbers c.add.ensures.names (λ numbers names.
    entries_push before t entries c.add.new.self c.requires are
    (entry_push before t c.args.number old c.add.new.self e (are.each t.project old (slice_get_read entries (length entries) t.project old refl c.requires c.index_mut.ensures.value)) numbers names))

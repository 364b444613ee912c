use Rattle.std.proofs.Common.{◌≡◌, ◌∙◌, ◌<◌, ℕ, Bool, true, false, List, length, Option, Ok, Err, refl, sym, ap, subst}
use Rattle.std.specs.Prelude.{IfNone}
use Rattle.std.specs.Option.{IfSome, option_copied}
use Rattle.std.proofs.lemmas.Result.{err_from_is_err_and}
use Rattle.b2_plan.specs.declared.step.Step.{Step}
use Rattle.b2_log.specs.declared.line.Record.{Record}
use Rattle.b2_log.specs.declared.line.LogLine.TheVariants as lines
use Rattle.b2_log.specs.Lines.{spelling}
use Rattle.b2_log.specs.Good.{IsProper}
use Rattle.b2_log.specs.Finding.{find_record}
use Rattle.b2_runs.specs.LogCourses.{HasDigestsAlready}
use Rattle.b2_facts.specs.Facts.{IsAbout}
use Rattle.b2_verdicts.specs.Made.{AreRising, IsMadeOf, IsWithoutFile}
use Rattle.b2_facts.specs.Stops.{stop_of_io}
use Rattle.b2_facts.proofs.FactsGrow.{learns_same}
use Rattle.b2_verdicts.specs.VerdictCalls.{IsOfStep, Always, Asks}
use Rattle.b2_looks.specs.Judging.{MigrateTold}
use Rattle.b2_looks.proofs.LooksAreKept.{includes_same}
use Rattle.b2_looks.proofs.FilesAreLookedAt.{looks_none, looks_asked, looks_err, looks_ok, looks_then, looks_noted, looks_not_noted}
use Rattle.b2_looks.proofs.MigrationEnds.{migrated_already, migrate_stopped, migrate_gone, migrate_noted, migrate_not_noted, note_reads_none}
use Rattle.b2_looks.proofs.looks.migrate.Goals as goal

pub needs_migration-requires-clause-outs : goal.needs_migration-requires-clause-outs
needs_migration-requires-clause-outs g c = c.requires.outs

pub needs_migration-requires-clause-ins : goal.needs_migration-requires-clause-ins
needs_migration-requires-clause-ins g c = c.requires.ins

pub returns-then-not-needs_migration-clause-looks : goal.returns-then-not-needs_migration-clause-looks
returns-then-not-needs_migration-clause-looks g c steps roots = looks_none steps roots (IsOfStep c.args.numbers.now) c.args.sights.now c.args.sights.now (g.F.Files.outside c.args.files.now) tt (learns_same steps roots (IsOfStep c.args.numbers.now) c.args.sights.now.facts) refl

pub returns-then-not-needs_migration-clause-includes : goal.returns-then-not-needs_migration-clause-includes
returns-then-not-needs_migration-clause-includes g c = includes_same c.args.sights.now.facts

pub returns-then-not-needs_migration-clause-told : goal.returns-then-not-needs_migration-clause-told
returns-then-not-needs_migration-clause-told g c =
    let s = c.args.sights.now in
    let found : find_record c.args.step.now.outs s.journal ≡ option_copied c.record-last.result = ap (λ (os : List (List ℕ)). find_record os s.journal) (sym c.as_slice.ensures) ∙ sym c.record-last.ensures.exact in
    migrated_already c.args.step.now c.args.numbers.now (g.F.Files.outside c.args.files.now) s tt c.requires.asked_outs c.requires.asked_ins (λ made m. c.needs_migration.ensures.already c.if-not-needs_migration.true false c.args.step.now made s.journal m found)

pub record_of-requires-clause-outs : goal.record_of-requires-clause-outs
record_of-requires-clause-outs g c = c.requires.outs

pub record_of-requires-clause-ins : goal.record_of-requires-clause-ins
record_of-requires-clause-ins g c = c.requires.ins

pub returns-in_err-made-clause-looks : goal.returns-in_err-made-clause-looks
returns-in_err-made-clause-looks g c steps roots =
    let (y, e, q) = err_from_is_err_and c.from_residual.result c.from_residual.ensures.1 in
    let stop = c.in_err-made.field-0.0 in
    let s = c.args.sights.now in
    let t = record s { facts = c.record_of.new.facts } in
    let P = IsOfStep c.args.numbers.now in
    looks_err steps roots P s t (g.F.Files.outside c.args.files.now) (g.F.Files.outside c.record_of.new.files) stop c.from_residual.result (e ∙ ap Err q)
    (looks_asked steps roots P Always s t (g.F.Files.outside c.args.files.now) (g.F.Files.outside c.record_of.new.files) (Err stop) refl c.in_err-made.ensures.asks)

pub returns-in_err-made-clause-includes : goal.returns-in_err-made-clause-includes
returns-in_err-made-clause-includes g c = c.in_err-made.ensures.asks.learns.includes

pub returns-in_err-made-clause-told : goal.returns-in_err-made-clause-told
returns-in_err-made-clause-told g c =
    let (y, e, q) = err_from_is_err_and c.from_residual.result c.from_residual.ensures.1 in
    let stop = c.in_err-made.field-0.0 in
    let s = c.args.sights.now in
    let t = record s { facts = c.record_of.new.facts } in
    let a = g.F.Files.outside c.args.files.now in
    let b = g.F.Files.outside c.record_of.new.files in
    subst (MigrateTold c.args.step.now c.args.numbers.now a s b t) (sym (e ∙ ap Err q)) (migrate_stopped c.args.step.now c.args.numbers.now a b s t stop c.in_err-made.ensures.asks refl refl)

pub returns-in_default-clause-looks : goal.returns-in_default-clause-looks
returns-in_default-clause-looks g c steps roots =
    let s = c.args.sights.now in
    let t = record s { facts = c.record_of.new.facts } in
    looks_ok steps roots (IsOfStep c.args.numbers.now) s t (g.F.Files.outside c.args.files.now) (g.F.Files.outside c.record_of.new.files) c.in_ok-made.field-0 tt
    (looks_asked steps roots (IsOfStep c.args.numbers.now) Always s t (g.F.Files.outside c.args.files.now) (g.F.Files.outside c.record_of.new.files) (Ok c.in_ok-made.field-0) refl c.in_ok-made.ensures.asks)

pub returns-in_default-clause-includes : goal.returns-in_default-clause-includes
returns-in_default-clause-includes g c = c.in_ok-made.ensures.asks.learns.includes

pub returns-in_default-clause-told : goal.returns-in_default-clause-told
returns-in_default-clause-told g c =
    let s = c.args.sights.now in
    let t = record s { facts = c.record_of.new.facts } in
    let a = g.F.Files.outside c.args.files.now in
    let b = g.F.Files.outside c.record_of.new.files in
    migrate_gone c.args.step.now c.args.numbers.now a b s t tt (subst (λ (o : Option Record). Asks (IsOfStep c.args.numbers.now) Always s.facts t.facts a b (Ok o)) c.in_default.is c.in_ok-made.ensures.asks) (subst (λ (o : Option Record). IfNone o (IsWithoutFile a.disk c.args.numbers.now t.facts)) c.in_default.is c.in_ok-made.ensures.gone) refl refl

pub note-requires : goal.note-requires
note-requires g c =
    let proper = subst (λ (o : Option Record). IfSome o (λ r. (steps : List Step) (roots : List (List ℕ)) → IsAbout steps roots c.args.sights.now.facts → 0 < length c.args.numbers.now.outs → AreRising c.args.sights.now.facts c.args.numbers.now.ins → IsProper (lines.Record r))) c.in-Some.is c.in_ok-made.ensures.proper in
    proper c.requires.about.0 c.requires.about.1 c.requires.about.2 c.requires.some_out c.requires.rising

pub returns-in_err-note-clause-looks : goal.returns-in_err-note-clause-looks
returns-in_err-note-clause-looks g c steps roots =
    let (y, e, q) = err_from_is_err_and c.from_residual-in_err-note.result c.from_residual-in_err-note.ensures.1 in
    let fault = c.in_err-note.field-0.0 in
    let s = c.args.sights.now in
    let t = record s { facts = c.record_of.new.facts } in
    let v = record t { journal = c.note.new.self } in
    let a = g.F.Files.outside c.args.files.now in
    let b = g.F.Files.outside c.record_of.new.files in
    let d = g.F.Files.outside c.note.new.files in
    let P = IsOfStep c.args.numbers.now in
    looks_err steps roots P s v a d (stop_of_io fault) c.from_residual-in_err-note.result (e ∙ ap Err q)
    (looks_then steps roots P s t v a b d c.in_ok-made.field-0 (Err (stop_of_io fault)) (looks_asked steps roots P Always s t a b (Ok c.in_ok-made.field-0) refl c.in_ok-made.ensures.asks)
    (looks_not_noted steps roots {T = Unit {0}} P (spelling (lines.Record c.in-Some.made)) t v b d fault refl refl c.in_err-note.ensures.only_log c.in_err-note.ensures.counts c.in_err-note.ensures.appends))

pub returns-in_err-note-clause-includes : goal.returns-in_err-note-clause-includes
returns-in_err-note-clause-includes g c = c.in_ok-made.ensures.asks.learns.includes

pub returns-in_err-note-clause-told : goal.returns-in_err-note-clause-told
returns-in_err-note-clause-told g c =
    let (y, e, q) = err_from_is_err_and c.from_residual-in_err-note.result c.from_residual-in_err-note.ensures.1 in
    let fault = c.in_err-note.field-0.0 in
    let s = c.args.sights.now in
    let t = record s { facts = c.record_of.new.facts } in
    let v = record t { journal = c.note.new.self } in
    let a = g.F.Files.outside c.args.files.now in
    let b = g.F.Files.outside c.record_of.new.files in
    let d = g.F.Files.outside c.note.new.files in
    let P = IsOfStep c.args.numbers.now in
    let asks = subst (λ (o : Option Record). Asks P Always s.facts t.facts a b (Ok o)) c.in-Some.is c.in_ok-made.ensures.asks in
    let is = subst (λ (o : Option Record). IfSome o (IsMadeOf true c.args.step.now c.args.numbers.now t.facts)) c.in-Some.is c.in_ok-made.ensures.exact in
    let found : find_record c.args.step.now.outs s.journal ≡ option_copied c.record-last.result = ap (λ (os : List (List ℕ)). find_record os s.journal) (sym c.as_slice.ensures) ∙ sym c.record-last.ensures.exact in
    let none : (by : Bool) (made : Record) → IsMadeOf by c.args.step.now c.args.numbers.now s.facts made → HasDigestsAlready c.args.step.now.outs s.journal made → ⊥ = λ by made m. c.needs_migration.ensures.needed c.if-not-needs_migration.false by c.args.step.now made s.journal m found in
    subst (MigrateTold c.args.step.now c.args.numbers.now a s d v) (sym (e ∙ ap Err q))
    (migrate_not_noted c.args.step.now c.args.numbers.now a b d s t v c.in-Some.made asks is c.requires.outs c.requires.ins c.requires.asked_outs c.requires.asked_ins none refl refl
    (note_reads_none (spelling (lines.Record c.in-Some.made)) b d (Err fault) c.in_err-note.ensures.appends) c.in_err-note.ensures.only_log.files (g.met.F.Files.consistent c.note.new.files) fault c.in_err-note.ensures.notes)

pub returns-clause-looks : goal.returns-clause-looks
returns-clause-looks g c steps roots =
    let s = c.args.sights.now in
    let t = record s { facts = c.record_of.new.facts } in
    let v = record t { journal = c.note.new.self } in
    let a = g.F.Files.outside c.args.files.now in
    let b = g.F.Files.outside c.record_of.new.files in
    let d = g.F.Files.outside c.note.new.files in
    let P = IsOfStep c.args.numbers.now in
    looks_then steps roots P s t v a b d c.in_ok-made.field-0 (Ok tt) (looks_asked steps roots P Always s t a b (Ok c.in_ok-made.field-0) refl c.in_ok-made.ensures.asks)
    (looks_noted steps roots P t v b d tt refl refl c.in_ok-note.ensures.only_log c.in_ok-note.ensures.counts)

pub returns-clause-includes : goal.returns-clause-includes
returns-clause-includes g c = c.in_ok-made.ensures.asks.learns.includes

pub returns-clause-told : goal.returns-clause-told
returns-clause-told g c =
    let s = c.args.sights.now in
    let t = record s { facts = c.record_of.new.facts } in
    let v = record t { journal = c.note.new.self } in
    let a = g.F.Files.outside c.args.files.now in
    let b = g.F.Files.outside c.record_of.new.files in
    let d = g.F.Files.outside c.note.new.files in
    let P = IsOfStep c.args.numbers.now in
    let asks = subst (λ (o : Option Record). Asks P Always s.facts t.facts a b (Ok o)) c.in-Some.is c.in_ok-made.ensures.asks in
    let is = subst (λ (o : Option Record). IfSome o (IsMadeOf true c.args.step.now c.args.numbers.now t.facts)) c.in-Some.is c.in_ok-made.ensures.exact in
    let found : find_record c.args.step.now.outs s.journal ≡ option_copied c.record-last.result = ap (λ (os : List (List ℕ)). find_record os s.journal) (sym c.as_slice.ensures) ∙ sym c.record-last.ensures.exact in
    let none : (by : Bool) (made : Record) → IsMadeOf by c.args.step.now c.args.numbers.now s.facts made → HasDigestsAlready c.args.step.now.outs s.journal made → ⊥ = λ by made m. c.needs_migration.ensures.needed c.if-not-needs_migration.false by c.args.step.now made s.journal m found in
    migrate_noted c.args.step.now c.args.numbers.now a b d s t v c.in-Some.made asks is c.requires.outs c.requires.ins c.requires.asked_outs c.requires.asked_ins none refl refl
    (note_reads_none (spelling (lines.Record c.in-Some.made)) b d (Ok tt) c.in_ok-note.ensures.appends) c.in_ok-note.ensures.only_log.files (g.met.F.Files.consistent c.note.new.files) tt refl refl c.in_ok-note.ensures.ok c.in_ok-note.ensures.good c.in_ok-note.ensures.notes

use Rattle.std.proofs.Common.{◌∙◌, [], Ok, Err, true, is_some, sym, ap}
use Rattle.std.proofs.lemmas.Result.{err_from_is_err_and}
use Rattle.b2_facts.specs.declared.scans.ScanAnswer.TheVariants as answers
use Rattle.b2_facts.specs.declared.file_facts.FileFacts.{FileFacts}
use Rattle.b2_facts.proofs.ListsAtPlaces.{some_is}
use Rattle.b2_facts.specs.Stops.{stop_of_io, stop_of_read}
use Rattle.b2_reach.proofs.GrowthComposes.{grows_err_as}
use Rattle.b2_reach.proofs.ReachGrows.{number_grows}
use Rattle.b2_reach.proofs.ScansAreNoted.{does_at, known_read, gone_read, exit_known, exit_gone, exit_fault, exit_unnoted, exit_noted, exit_cut}
use Rattle.b2_reach.proofs.sights.Sights.scan.Goals as goal

pub returns-in_err-note-in-Ok-Read-clause-grows : goal.returns-in_err-note-in-Ok-Read-clause-grows
returns-in_err-note-in-Ok-Read-clause-grows g c steps roots hand =
    let (y, e, q) = err_from_is_err_and c.from_residual.result c.from_residual.ensures.1 in
    let s = c.args.self.now in
    let (file, at, scanned) = c.requires.known in
    let before = g.F.Files.outside c.args.files.now in
    let mid = g.F.Files.outside c.scan.new.files in
    let does = does_at s c.scan.new.self c.args.number c.log.result.now.lines before mid c.scan.result (Ok (answers.Read c.in-Ok-Read.line)) c.log.ensures.lines (c.in-Ok-Read.is ∙ ap Ok c.in-Ok-Read.field-0-is)
    (record { effect = c.scan.ensures.effect; answer = c.scan.ensures.answer; told = c.scan.ensures.told; too_big = c.scan.ensures.too_big }) in
    let fault = c.in_err-note-in-Ok-Read.field-0.0 in
    let at_note = c.in_err-note-in-Ok-Read.ensures in
    grows_err_as (stop_of_io fault) c.from_residual.result (e ∙ ap Err q)
    (exit_cut steps roots s c.scan.new.self c.args.number c.requires.number file at scanned (hand file at) (c.scan.ensures.learns steps roots) before mid c.in-Ok-Read.line does (g.F.Files.outside c.note.new.files) at_note.only_log (g.met.F.Files.consistent c.note.new.files)
    c.note.new.self fault c.if-not-notes.false at_note.err at_note.appends at_note.counts at_note.notes)

pub file-requires : goal.file-requires
file-requires g c = number_grows c.args.self.now.facts c.scan.new.self c.args.number (c.scan.ensures.learns [] []).grows c.requires.number

pub returns-in-Ok-Known-clause-read : goal.returns-in-Ok-Known-clause-read
returns-in-Ok-Known-clause-read g c =
    let s = c.args.self.now in
    let does = does_at s c.scan.new.self c.args.number c.log.result.now.lines (g.F.Files.outside c.args.files.now) (g.F.Files.outside c.scan.new.files) c.scan.result (Ok answers.Known) c.log.ensures.lines (c.in-Ok-Known.is ∙ ap Ok c.in-Ok-Known.field-0-is)
    (record { effect = c.scan.ensures.effect; answer = c.scan.ensures.answer; told = c.scan.ensures.told; too_big = c.scan.ensures.too_big }) in
    known_read s c.scan.new.self c.args.number (g.F.Files.outside c.args.files.now) (g.F.Files.outside c.scan.new.files) c.requires.number (c.scan.ensures.learns [] []).grows does

pub returns-in-Ok-Known-clause-grows : goal.returns-in-Ok-Known-clause-grows
returns-in-Ok-Known-clause-grows g c steps roots hand =
    let s = c.args.self.now in
    let (file, at, scanned) = c.requires.known in
    let before = g.F.Files.outside c.args.files.now in
    let mid = g.F.Files.outside c.scan.new.files in
    let does = does_at s c.scan.new.self c.args.number c.log.result.now.lines before mid c.scan.result (Ok answers.Known) c.log.ensures.lines (c.in-Ok-Known.is ∙ ap Ok c.in-Ok-Known.field-0-is)
    (record { effect = c.scan.ensures.effect; answer = c.scan.ensures.answer; told = c.scan.ensures.told; too_big = c.scan.ensures.too_big }) in
    exit_known steps roots s c.scan.new.self c.args.number c.requires.number file at scanned (hand file at) (c.scan.ensures.learns steps roots) before mid true does

pub returns-in_ok-note-in-Ok-Read-clause-grows : goal.returns-in_ok-note-in-Ok-Read-clause-grows
returns-in_ok-note-in-Ok-Read-clause-grows g c steps roots hand =
    let s = c.args.self.now in
    let (file, at, scanned) = c.requires.known in
    let before = g.F.Files.outside c.args.files.now in
    let mid = g.F.Files.outside c.scan.new.files in
    let does = does_at s c.scan.new.self c.args.number c.log.result.now.lines before mid c.scan.result (Ok (answers.Read c.in-Ok-Read.line)) c.log.ensures.lines (c.in-Ok-Read.is ∙ ap Ok c.in-Ok-Read.field-0-is)
    (record { effect = c.scan.ensures.effect; answer = c.scan.ensures.answer; told = c.scan.ensures.told; too_big = c.scan.ensures.too_big }) in
    let at_note = c.in_ok-note-in-Ok-Read.ensures in
    exit_noted steps roots s c.scan.new.self c.args.number c.requires.number file at scanned (hand file at) (c.scan.ensures.learns steps roots) before mid c.in-Ok-Read.line does (g.F.Files.outside c.note.new.files) at_note.only_log (g.met.F.Files.consistent c.note.new.files)
    c.note.new.self tt c.if-not-notes.false at_note.ok at_note.good at_note.appends at_note.counts at_note.notes

pub returns-then-not-notes-clause-grows : goal.returns-then-not-notes-clause-grows
returns-then-not-notes-clause-grows g c steps roots hand =
    let s = c.args.self.now in
    let (file, at, scanned) = c.requires.known in
    let before = g.F.Files.outside c.args.files.now in
    let mid = g.F.Files.outside c.scan.new.files in
    let does = does_at s c.scan.new.self c.args.number c.log.result.now.lines before mid c.scan.result (Ok (answers.Read c.in-Ok-Read.line)) c.log.ensures.lines (c.in-Ok-Read.is ∙ ap Ok c.in-Ok-Read.field-0-is)
    (record { effect = c.scan.ensures.effect; answer = c.scan.ensures.answer; told = c.scan.ensures.told; too_big = c.scan.ensures.too_big }) in
    exit_unnoted steps roots s c.scan.new.self c.args.number c.requires.number file at scanned (hand file at) (c.scan.ensures.learns steps roots) before mid c.in-Ok-Read.line true c.if-not-notes.true does

pub returns-in-Ok-Gone-clause-read : goal.returns-in-Ok-Gone-clause-read
returns-in-Ok-Gone-clause-read g c file at =
    let s = c.args.self.now in
    let does = does_at s c.scan.new.self c.args.number c.log.result.now.lines (g.F.Files.outside c.args.files.now) (g.F.Files.outside c.scan.new.files) c.scan.result (Ok answers.Gone) c.log.ensures.lines (c.in-Ok-Gone.is ∙ ap Ok c.in-Ok-Gone.field-0-is)
    (record { effect = c.scan.ensures.effect; answer = c.scan.ensures.answer; told = c.scan.ensures.told; too_big = c.scan.ensures.too_big }) in
    let same = some_is c.file.result.now file (sym c.file.ensures ∙ at) in
    gone_read s c.scan.new.self c.args.number (g.F.Files.outside c.args.files.now) (g.F.Files.outside c.scan.new.files) c.is_some.result c.requires.number (c.scan.ensures.learns [] []).grows does file at (c.is_some.ensures ∙ ap (λ (x : FileFacts). is_some x.includes) same)

pub returns-in-Ok-Gone-clause-grows : goal.returns-in-Ok-Gone-clause-grows
returns-in-Ok-Gone-clause-grows g c steps roots hand =
    let s = c.args.self.now in
    let (file, at, scanned) = c.requires.known in
    let before = g.F.Files.outside c.args.files.now in
    let mid = g.F.Files.outside c.scan.new.files in
    let does = does_at s c.scan.new.self c.args.number c.log.result.now.lines before mid c.scan.result (Ok answers.Gone) c.log.ensures.lines (c.in-Ok-Gone.is ∙ ap Ok c.in-Ok-Gone.field-0-is)
    (record { effect = c.scan.ensures.effect; answer = c.scan.ensures.answer; told = c.scan.ensures.told; too_big = c.scan.ensures.too_big }) in
    exit_gone steps roots s c.scan.new.self c.args.number c.requires.number file at scanned (hand file at) (c.scan.ensures.learns steps roots) before mid c.is_some.result does

pub returns-in-Err-clause-grows : goal.returns-in-Err-clause-grows
returns-in-Err-clause-grows g c steps roots hand =
    let s = c.args.self.now in
    let (file, at, scanned) = c.requires.known in
    let before = g.F.Files.outside c.args.files.now in
    let mid = g.F.Files.outside c.scan.new.files in
    let does = does_at s c.scan.new.self c.args.number c.log.result.now.lines before mid c.scan.result (Err c.in-Err.fault) c.log.ensures.lines c.in-Err.is
    (record { effect = c.scan.ensures.effect; answer = c.scan.ensures.answer; told = c.scan.ensures.told; too_big = c.scan.ensures.too_big }) in
    grows_err_as (stop_of_read c.in-Err.fault c.args.number) (Err c.stop_of_read.result) (ap Err c.stop_of_read.ensures)
    (exit_fault steps roots s c.scan.new.self c.args.number c.requires.number file at scanned (hand file at) (c.scan.ensures.learns steps roots) before mid c.in-Err.fault does)

use Rattle.std.proofs.Common.{◌≡◌, ℕ, not, List, Err, refl, ap, ◌∙◌}
use Rattle.std.specs.Option.{option_copied}
use Rattle.std.proofs.lemmas.Result.{err_from_is_err_and}
use Rattle.b2_log.specs.Finding.{find_record}
use Rattle.b2_turns.proofs.DropEnds.{absent, present, drop_is_proper, drop_none, drop_no_memory, drop_stands, drop_fails}
use Rattle.b2_turns.proofs.ends.note_drop.Goals as goal

pub returns-then-is_none : goal.returns-then-is_none
returns-then-is_none g c =
    let s = c.args.sights.now in
    let found : option_copied c.record.result ≡ find_record c.args.step.now.outs s.journal = c.record.ensures.exact ∙ ap (λ (os : List (List ℕ)). find_record os s.journal) c.as_slice.ensures in
    drop_none c.args.step.now (g.F.Files.outside c.args.files.now) s (absent c.args.step.now.outs s.journal c.record.result (c.is_none.ensures ∙ ap not c.if-is_none.true) found)

pub returns-in_err-outs : goal.returns-in_err-outs
returns-in_err-outs g c =
    let (y, e, q) = err_from_is_err_and c.from_residual.result c.from_residual.ensures.1 in
    drop_no_memory c.args.step.now (g.F.Files.outside c.args.files.now) c.args.sights.now c.from_residual.result (e ∙ ap Err q)

pub note-requires : goal.note-requires
note-requires g c =
    let s = c.args.sights.now in
    let found : option_copied c.record.result ≡ find_record c.args.step.now.outs s.journal = c.record.ensures.exact ∙ ap (λ (os : List (List ℕ)). find_record os s.journal) c.as_slice.ensures in
    let (r, is, proper) = present c.args.step.now.outs s.journal c.record.result (c.is_none.ensures ∙ ap not c.if-is_none.false) found c.record.ensures.proper in
    drop_is_proper c.args.step.now.outs c.in_ok-outs.outs s.journal r (c.in_ok-outs.ensures ∙ c.as_slice-2.ensures) is proper

pub returns-in_err-note : goal.returns-in_err-note
returns-in_err-note g c =
    let s = c.args.sights.now in
    let t = record s { journal = c.note.new.self } in
    let found : option_copied c.record.result ≡ find_record c.args.step.now.outs s.journal = c.record.ensures.exact ∙ ap (λ (os : List (List ℕ)). find_record os s.journal) c.as_slice.ensures in
    let (r, is, proper) = present c.args.step.now.outs s.journal c.record.result (c.is_none.ensures ∙ ap not c.if-is_none.false) found c.record.ensures.proper in
    let (y, e, q) = err_from_is_err_and c.from_residual-in_err-note.result c.from_residual-in_err-note.ensures.1 in
    drop_fails c.args.step.now (g.F.Files.outside c.args.files.now) (g.F.Files.outside c.note.new.files) s t r c.in_ok-outs.outs (c.in_ok-outs.ensures ∙ c.as_slice-2.ensures) is refl refl c.in_err-note.ensures.only_log (g.met.F.Files.consistent c.note.new.files)
    c.in_err-note.field-0.0 c.from_residual-in_err-note.result (e ∙ ap Err q) c.in_err-note.ensures.appends c.in_err-note.ensures.counts c.in_err-note.ensures.notes

pub returns : goal.returns
returns g c =
    let s = c.args.sights.now in
    let t = record s { journal = c.note.new.self } in
    let found : option_copied c.record.result ≡ find_record c.args.step.now.outs s.journal = c.record.ensures.exact ∙ ap (λ (os : List (List ℕ)). find_record os s.journal) c.as_slice.ensures in
    let (r, is, proper) = present c.args.step.now.outs s.journal c.record.result (c.is_none.ensures ∙ ap not c.if-is_none.false) found c.record.ensures.proper in
    drop_stands c.args.step.now (g.F.Files.outside c.args.files.now) (g.F.Files.outside c.note.new.files) s t r c.in_ok-outs.outs (c.in_ok-outs.ensures ∙ c.as_slice-2.ensures) is refl refl c.in_ok-note.ensures.only_log (g.met.F.Files.consistent c.note.new.files)
    c.in_ok-note.ensures.ok c.in_ok-note.ensures.good c.in_ok-note.ensures.appends c.in_ok-note.ensures.counts c.in_ok-note.ensures.notes

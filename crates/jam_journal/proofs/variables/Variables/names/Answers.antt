use Rattle.std.proofs.Common.{◌++◌, not, is_some, map as each, string_bytes, reverse, ap, ◌∙◌}
use Rattle.std.specs.List.{filter, list_any}
use Rattle.std.specs.Str.{bytes_eq}
use Rattle.std.specs.FinMap as map
use Rattle.std.proofs.lemmas.Result.{IfOk-weaker}
use Rattle.jam_journal.specs.Tables.{row_of}
use Rattle.jam_journal.specs.Marks.{Marked}
use Rattle.jam_journal.specs.Scopes.{Scopes}
use Rattle.jam_journal.specs.Stacks.{entries_of, unset_by}
use Rattle.jam_journal.specs.Layers.{layers_of}
use Rattle.jam_journal.proofs.UnsetNamesHaveNoVariable.{lent_names, noted_all, variable_names}
use Rattle.jam_journal.proofs.variables.Variables.names.Goals as goal

pub returns : goal.returns
returns c =
    let r = c.self.inside.registers in
    let home = c.args.home.now in
    let entries = reverse c.self.inside.entries.items in
    let older = entries_of (layers_of c.self.inside.older.items) in
    let unset = c.note_unset-2.new.unset in
    let noted = noted_all c.new-unset.result c.note_unset.new.unset unset home c.as_str-owner.result.now c.in_ok-owner.owner.now (reverse c.as_slice-entries.result.now) (entries_of (layers_of c.as_slice.result.now))
    c.new-unset.ensures c.in_ok-owner.ensures.owner c.in_ok-owner.ensures.noted c.in_ok-note_unset.ensures in
    IfOk-weaker c.others.result _ _
    (λ names is. is
    ∙ ap (λ row. filter (λ name. not (is_some (map.get unset name))) (each (λ e. string_bytes e.0.now) row)) c.as_slice-2.ensures.value
    ∙ ap (filter (λ name. not (is_some (map.get unset name)))) (lent_names c.in_ok-row.row.items ∙ ap (each (λ e. e.0)) c.in_ok-row.ensures)
    ∙ variable_names (entries ++ older) r home unset (λ name. noted name
    ∙ (λ i. list_any (bytes_eq name) (unset_by home (c.as_str-owner.ensures i) (reverse (c.as_slice-entries.ensures.value i) ++ entries_of (layers_of (c.as_slice.ensures.value i))))))
    ∙ ap (λ (p : Marked Scopes). map.keys (row_of p.0.variables home)) c.self.view_is)
    c.others.ensures

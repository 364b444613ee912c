use Rattle.std.proofs.Common.{map, string_bytes, ap, ◌∙◌}
use Rattle.std.specs.List.{filter}
use Rattle.std.proofs.lemmas.Result.{IfOk-weaker}
use Rattle.jam_journal.proofs.UnsetNamesHaveNoVariable.{lent_names}
use Rattle.jam_scope.specs.Names.{is_text, names_in}
use Rattle.jam_scope.specs.Worlds.{Worlds}
use Rattle.jam_scope.proofs.world.World.own_names.Goals as goal

pub returns : goal.returns
returns c =
    IfOk-weaker c.row_texts.result _ _
    (λ texts is. is
    ∙ ap (λ row. filter is_text (map (λ e. string_bytes e.0.now) row)) c.as_slice.ensures.value
    ∙ ap (filter is_text) (lent_names c.in_ok-row.row.items ∙ ap (map (λ e. e.0)) c.in_ok-row.ensures)
    ∙ ap (λ (ws : Worlds). names_in ws.now.own c.args.target.now) c.self.view_is)
    c.row_texts.ensures

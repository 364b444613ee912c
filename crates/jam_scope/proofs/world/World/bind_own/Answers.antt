use Rattle.std.proofs.Common.{◌≡◌, ℕ, map, take, string_bytes, ap, ◌∙◌}
use Rattle.jam_journal.specs.Marks.{Marked, changed}
use Rattle.jam_journal.specs.Scopes.{Scopes, bind_each}
use Rattle.jam_scope.specs.Worlds.{Worlds}
use Rattle.jam_scope.specs.Changes.{rescoped, own_of}
use Rattle.jam_scope.specs.WorldParts.{together, worlds_of}
use Rattle.jam_scope.proofs.NamesAreBoundInTurn.{on_err}
use Rattle.jam_scope.proofs.world.World.bind_own.Goals as goal

pub returns-in_err-bind_row-clause-err : goal.returns-in_err-bind_row-clause-err
returns-in_err-bind_row-clause-err c =
    let w = c.self.inside in
    let rest = together w.rules (together w.actions (together w.parents (together w.own (together w.place (together w.roots (together w.frozen w.steps)))))) in
    let now : Marked Scopes = w.variables in
    let part = c.in_err-bind_row.ensures.err in
    let all : (count : ℕ) × (worlds_of (together c.bind_row.new.variables rest) ≡ rescoped (bind_each (take count (own_of c.args.target.now c.args.self.now.now))) c.args.self.now) = (
      part.0,
      ap (λ (v : Marked Scopes). worlds_of (together v rest))
          (part.1 ∙ ap (λ row. changed (bind_each (take part.0 (map (λ entry. (string_bytes entry.0.now, entry.1.now)) row))) now) c.as_slice.ensures.value
          ∙ ap (λ bs. changed (bind_each (take part.0 bs)) now) c.in_ok-row.ensures)
          ∙ ap (λ (ws : Worlds). rescoped (bind_each (take part.0 (own_of c.args.target.now ws.now))) ws) c.self.view_is,
    ) in
    on_err _ all

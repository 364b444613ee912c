use Rattle.std.proofs.Common.{◌≡◌, ◌≢◌, ℕ, List, [], ◌∷◌, ◌++◌, take, map, string_bytes, sym, ap, subst, ◌∙◌}
use Rattle.std.proofs.lemmas.List.{map_more}
use Rattle.jam_journal.specs.Marks.{Marked, changed}
use Rattle.jam_journal.specs.Scopes.{Value, Binding, Scopes, bind, bind_each}
use Rattle.jam_journal.specs.Tables.{Text}
use Rattle.jam_scope.proofs.NamesAreBoundInTurn.{framed_bind, on_err, take_each, bind_more}
use Rattle.jam_scope.proofs.world.project.bind_row.Goals as goal

pub loop-name-preserved : goal.loop-name-preserved
loop-name-preserved c =
    let row = c.args.row.now in
    let first : Marked Scopes = c.args.variables.now in
    let now : Marked Scopes = c.loop-name.variables in
    let at = c.loop-name.name-index in
    let item = c.loop-name-item.result in
    let name : Text = string_bytes item.0.now in
    let value : Value = item.1.now in
    let before : List Binding = map (λ entry. (string_bytes entry.0.now, entry.1.now)) (take at row) in
    let bound : c.bind.new.self ≡ changed (bind name value) now =
    c.in_ok-bind.ensures.ok ∙ (λ i. changed (bind (c.as_str.ensures.value i) ((c.in_ok-value.ensures ∙ c.as_slice.ensures) i)) now) in
    record {
      framed = subst (λ (p : Marked Scopes). p.0.frames ≢ []) (sym bound) (framed_bind name value now.0 c.loop-name.invariant.framed);
      bound =
          bound ∙ ap (changed (bind name value)) c.loop-name.invariant.bound
          ∙ ap (λ (s : Scopes). let p : Marked Scopes = (s, first.1) in p) (sym (bind_more before (name, value) first.0))
          ∙ ap (λ bs. changed (bind_each bs) first)
          (sym (map_more (λ entry. (string_bytes entry.0.now, entry.1.now)) row at item c.loop-name-test.true ∙ ap (λ e. before ++ (string_bytes e.0.now, e.1.now) ∷ []) (sym c.loop-name-item.is)));
    }

pub returns-in_err-value-clause-err : goal.returns-in_err-value-clause-err
returns-in_err-value-clause-err c =
    let row = c.args.row.now in
    let first : Marked Scopes = c.args.variables.now in
    let now : Marked Scopes = c.loop-name.variables in
    let at = c.loop-name.name-index in
    let part : (count : ℕ) × (now ≡ changed (bind_each (take count (map (λ entry. (string_bytes entry.0.now, entry.1.now)) row))) first) =
    (at, c.loop-name.invariant.bound ∙ ap (λ bs. changed (bind_each bs) first) (sym (take_each (λ entry. (string_bytes entry.0.now, entry.1.now)) at row))) in
    on_err _ part

pub returns-in_err-bind-clause-err : goal.returns-in_err-bind-clause-err
returns-in_err-bind-clause-err c =
    let row = c.args.row.now in
    let first : Marked Scopes = c.args.variables.now in
    let now : Marked Scopes = c.bind.new.self in
    let at = c.loop-name.name-index in
    let part : (count : ℕ) × (now ≡ changed (bind_each (take count (map (λ entry. (string_bytes entry.0.now, entry.1.now)) row))) first) =
    (at, c.in_err-bind.ensures.err ∙ c.loop-name.invariant.bound ∙ ap (λ bs. changed (bind_each bs) first) (sym (take_each (λ entry. (string_bytes entry.0.now, entry.1.now)) at row))) in
    on_err _ part

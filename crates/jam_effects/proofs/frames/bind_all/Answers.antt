use Rattle.std.proofs.Common.{◌≡◌, ◌++◌, ◌∷◌, [], List, length, refl, sym, ap, ◌∙◌, append_assoc, arith}
use Rattle.std.specs.Vec.Iter.{into_iter_items}
use Rattle.std.proofs.lemmas.List.{append-nil}
use Rattle.jam_journal.specs.Scopes.{Binding, bind, bind_each}
use Rattle.jam_scope.specs.Changes.{rescoped}
use Rattle.jam_scope.proofs.NamesAreBoundInTurn.{on_err}
use Rattle.jam_values.specs.Bindings.{bindings_of}
use Rattle.jam_effects.proofs.ClosingUndoesOpening.{bound_more, framed_after}
use Rattle.jam_effects.proofs.frames.bind_all.Goals as goal

pub loop-bound-preserved : goal.loop-bound-preserved
loop-bound-preserved c =
    let now = c.loop-bound.world in
    let one = c.in-Some.bound in
    let set = c.in_ok-bind.ensures.ok ∙ ap (λ n. rescoped (bind n one.value) now) c.as_str.ensures in
    record {
      framed = framed_after (one.name, one.value) now c.bind.new.self set c.loop-bound.invariant.framed;
      bound = bound_more c.loop-bound.yielded one c.args.world.now now c.bind.new.self c.loop-bound.invariant.bound set;
      whole = append_assoc c.loop-bound.yielded (one ∷ []) (into_iter_items c.next.new.self) ∙ ap (λ rest. c.loop-bound.yielded ++ rest) (sym c.in-Some.ensures.steps.0) ∙ c.loop-bound.invariant.whole;
    }

pub returns-in_err-bind-clause-err : goal.returns-in_err-bind-clause-err
returns-in_err-bind-clause-err c =
    let now = c.bind.new.self in
    let part : (bound : List Binding) × (now ≡ rescoped (bind_each bound) c.args.world.now) = (bindings_of c.loop-bound.yielded, c.in_err-bind.ensures.err ∙ c.loop-bound.invariant.bound) in
    on_err _ part

nothing_left : {X : Type 0} (xs : List X) → length xs ≡ 0 → xs ≡ []
nothing_left [] e = refl
nothing_left (x ∷ xs) e = absurd (omega (arith, e))

pub returns-clause-ok : goal.returns-clause-ok
returns-clause-ok c =
    let left : into_iter_items c.loop-bound.bound-iterator ≡ [] = nothing_left (into_iter_items c.loop-bound.bound-iterator) (omega (arith, c.in-None.ensures.steps.0)) in
    let all : c.loop-bound.yielded ≡ c.args.bindings.items = sym (append-nil c.loop-bound.yielded) ∙ ap (λ rest. c.loop-bound.yielded ++ rest) (sym left) ∙ c.loop-bound.invariant.whole in
    c.loop-bound.invariant.bound ∙ ap (λ bs. rescoped (bind_each (bindings_of bs)) c.args.world.now) all

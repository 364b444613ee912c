use Rattle.std.proofs.Common.{◌≡◌, ◌<◌, ◌≤◌, ◌+◌, ◌-◌, ◌^◌, ℕ, [], length, vec_len, sym, ◌∙◌, ap, subst, arith}
use Rattle.std.proofs.lemmas.Bool.{eqb-true}
use Rattle.std.proofs.lemmas.List.{nil_from_length}
use Rattle.b2_generators.specs.Layers.{Moves}
use Rattle.b2_generators.specs.Places.{is_taken_by}
use Rattle.b2_generators.proofs.LayersAreFoundInOrder.{search_start, search_more, search_found, search_none, no_search}
use Rattle.b2_generators.proofs.layers.layers.Goals as goal

pub loop-from-init : goal.loop-from-init
loop-from-init c =
    search_start c.args.generators.now c.args.set.now c.args.to.now c.args.from.now c.new-layers.result.items c.in_ok-layer.layer c.in_ok-givers.givers c.first_layer.new.givers c.new-layers.ensures.items c.in_ok-givers.ensures c.in_ok-layer.ensures
    (sym c.eq.ensures ∙ c.if-eq.false)

pub loop-from-preserved : goal.loop-from-preserved
loop-from-preserved c =
    search_more c.args.generators.now c.args.set.now c.args.to.now c.args.from.now c.loop-from.layers.items c.push-in-loop-from.new.self.items c.loop-from.layer c.in_ok-next.next c.loop-from.givers c.next_layer.new.givers c.loop-from.invariant
    (ap (λ layer. is_taken_by c.args.generators.now layer c.args.from.now) (sym c.as_slice-in-loop-from.ensures) ∙ sym c.is_taken_by.ensures ∙ c.if-is_taken_by.false)
    (subst (λ layer. Moves (is_taken_by c.args.generators.now layer) c.loop-from.givers c.next_layer.new.givers [] c.in_ok-next.next) c.as_slice-in-loop-from-2.ensures c.in_ok-next.ensures) c.in_ok-push-2.ensures.items

-- a list is shorter than 64 bits count
nearer : (old new cap : ℕ) → new ≡ old + 1 → old ≤ cap → cap < 2 ^ 63 → 2 ^ 64 - new < 2 ^ 64 - old
nearer old new cap more within small = omega arith

pub loop-from-smaller : goal.loop-from-smaller
loop-from-smaller c = nearer (vec_len c.loop-from.layers) (vec_len c.push-in-loop-from.new.self) c.loop-from.layers.cap c.in_ok-push-2.ensures.len c.loop-from.layers.ok.1 c.loop-from.layers.small

pub returns-clause-none : goal.returns-clause-none
returns-clause-none c = search_none c.args.generators.now c.args.set.now c.args.to.now c.args.from.now c.loop-from.layers.items c.loop-from.layer c.loop-from.givers c.loop-from.invariant (nil_from_length c.loop-from.layer (ap length (sym c.as_slice.ensures) ∙ eqb-true (length c.as_slice.result.now) 0 (sym c.is_empty.ensures ∙ c.loop-from-test.false)))

pub returns-then-is_taken_by-clause-found : goal.returns-then-is_taken_by-clause-found
returns-then-is_taken_by-clause-found c =
    search_found c.args.generators.now c.args.set.now c.args.to.now c.args.from.now c.loop-from.layers.items c.push.new.self.items c.loop-from.layer c.loop-from.givers c.loop-from.invariant
    (ap (λ layer. is_taken_by c.args.generators.now layer c.args.from.now) (sym c.as_slice-in-loop-from.ensures) ∙ sym c.is_taken_by.ensures ∙ c.if-is_taken_by.true) c.in_ok-push.ensures.items

pub returns-then-eq-clause-found : goal.returns-then-eq-clause-found
returns-then-eq-clause-found c = no_search c.args.generators.now c.args.set.now c.args.to.now c.args.from.now c.new-layers.result.items c.new-layers.ensures.items (sym c.eq.ensures ∙ c.if-eq.true)

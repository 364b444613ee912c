use Rattle.std.proofs.Common.{◌≡◌, ◌∙◌, ◌++◌, List, take, sym, ap, refl, Option, Some, None}
use Rattle.std.specs.Option.{option_to_list}
use Rattle.std.specs.List.{filter_map}
use Rattle.std.specs.FinMap as map
use Rattle.std.proofs.lemmas.List.{append-nil}
use Rattle.b2_features.specs.Table.{seen}
use Rattle.b2_props.specs.Sets.{Pair, pair_of}
use Rattle.b2_props.proofs.DraftHoldsEachGainedPair.{options_next}
use Rattle.b2_props.proofs.draft.Draft.valued.Goals as goal
use Rattle.b2_props.proofs.draft.Draft.valued.Goals.{in-Some+in_ok-push, in_default}

nothing : (o : Option Pair) → ((p : Pair) → o ≡ Some p → ⊥) → o ≡ None
nothing None e = refl
nothing (Some p) e = absurd (e p refl)

pub loop-place-preserved : goal.loop-place-preserved
loop-place-preserved c =
    let f = seen c.at.result.now in
    let v = map.get c.args.self.now.values in
    let step = sym (options_next (pair_of v) c.args.registry.now c.loop-place.place f c.at.ensures) in
    let so_far : c.loop-place.made.items ≡ filter_map (pair_of v) (take c.loop-place.place c.args.registry.now) = c.loop-place.invariant in
    let added : c.match-branch-2.made.items ≡ c.loop-place.made.items ++ option_to_list (pair_of v f) =
    elim c.match-branch-2.branch [
      | in-Some+in_ok-push w ↦ ap (λ m. m.items) w.made-is ∙ w.in_ok-push.ensures.items ∙ ap (λ (o : Option Pair). c.loop-place.made.items ++ option_to_list o) (sym w.in-Some.is ∙ c.in_ok-pair.ensures)
      | in_default w ↦ ap (λ m. m.items) w.made-is ∙ sym (append-nil c.loop-place.made.items) ∙ ap (λ (o : Option Pair). c.loop-place.made.items ++ option_to_list o) (sym (nothing c.in_ok-pair.field-0 w.in_default.not-Some) ∙ c.in_ok-pair.ensures)
    ] in
    added ∙ ap (λ (ps : List Pair). ps ++ option_to_list (pair_of v f)) so_far ∙ step

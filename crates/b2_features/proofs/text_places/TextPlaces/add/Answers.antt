use Rattle.std.proofs.Common.{◌≡◌, ◌++◌, ◌∷◌, [], List, cond, Some, string_bytes, refl, sym, ◌∙◌, ap, append_assoc, arith, length}
use Rattle.std.specs.Str.{bytes_eq}
use Rattle.std.specs.Map.{lookup}
use Rattle.std.specs.List.{list_any}
use Rattle.std.specs.HashMap.{get_by_text}
use Rattle.std.specs.Vec.Iter.{into_iter_items}
use Rattle.std.proofs.lemmas.List.{append-nil}
use Rattle.std.proofs.lemmas.List.Folds.{list_any-append}
use Rattle.std.proofs.lemmas.Map.Text.{text_keys}
use Rattle.b2_features.proofs.ListSearchesAgree.{lookup-map_keys}
use Rattle.b2_features.proofs.text_places.TextPlaces.add.Goals as goal

pub loop-text-preserved : goal.loop-text-preserved
loop-text-preserved c = record {
  whole = append_assoc c.loop-text.yielded (c.in-Some.text ∷ []) (into_iter_items c.next.new.self) ∙ ap (λ rest. c.loop-text.yielded ++ rest) (sym c.in-Some.ensures.steps.0) ∙ c.loop-text.invariant.whole;
  room = omega (arith, c.in-Some.ensures.steps.1, c.insert.ensures.spare, c.loop-text.invariant.room);
  each = λ q. grind (arith, text_keys, list_any-append, c.loop-text.invariant.each q);
}

nothing_left : {X : Type 0} (xs : List X) → length xs ≡ 0 → xs ≡ []
nothing_left [] e = refl
nothing_left (x ∷ xs) e = grind (arith, e)

pub returns-clause-ok : goal.returns-clause-ok
returns-clause-ok c = λ q.
    let left : into_iter_items c.loop-text.text-iterator ≡ [] = nothing_left (into_iter_items c.loop-text.text-iterator) (grind (arith, c.in-None.ensures.steps.0)) in
    let all : c.loop-text.yielded ≡ c.args.texts.items = sym (append-nil c.loop-text.yielded) ∙ ap (λ rest. c.loop-text.yielded ++ rest) (sym left) ∙ c.loop-text.invariant.whole in
    let before : get_by_text c.reserve.new.self q ≡ lookup (bytes_eq q) c.args.self.now =
    ap (lookup (λ k. bytes_eq q (string_bytes k))) c.in_ok-reserve.ensures.entries ∙ sym (lookup-map_keys string_bytes (bytes_eq q) c.self.inside.places.entries) ∙ ap (lookup (bytes_eq q)) c.self.view_is in
    lookup-map_keys string_bytes (bytes_eq q) c.loop-text.self-inside.places.entries
    ∙ c.loop-text.invariant.each q
    ∙ ap (λ vs. cond (list_any (λ text. bytes_eq q (string_bytes text)) vs) (Some c.args.place) (get_by_text c.reserve.new.self q)) all
    ∙ ap (cond (list_any (λ text. bytes_eq q (string_bytes text)) c.args.texts.items) (Some c.args.place)) before

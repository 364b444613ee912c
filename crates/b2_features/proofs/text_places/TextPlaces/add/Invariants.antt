use Rattle.std.proofs.Common.{◌≡◌, ◌≤◌, ◌++◌, ℕ, List, Some, string_bytes, cond}
use Rattle.std.specs.HashMap.{get_by_text, spare}
use Rattle.std.specs.List.{list_any}
use Rattle.std.specs.Str.{bytes_eq}
use Rattle.std.specs.Vec.Iter.{into_iter_items, into_iter_len}
use Rattle.b2_features.proofs.text_places.TextPlaces.add.Given as goal

-- the texts added so far have the place, and there is room for the others
abbrev pub invariant-loop-text : goal.invariant-loop-text
invariant-loop-text l = record {
  whole : l.yielded ++ into_iter_items l.text-iterator ≡ l.fn.texts.items;
  room : into_iter_len l.text-iterator ≤ spare l.self-inside.places;
  each : (q : List ℕ) → get_by_text l.self-inside.places q ≡ cond (list_any (λ text. bytes_eq q (string_bytes text)) l.yielded) (Some l.place) (get_by_text l.initial.self-inside.places q);
}

use Rattle.std.proofs.Common.{◌≡◌, ◌++◌, ◌∷◌, [], map, List}
use Rattle.std.specs.List.{flat_map}
use Rattle.std.specs.Vec.Iter.{into_iter_items}
use Rattle.b2_props.specs.declared.word_choice.WordChoice.{WordChoice}
use Rattle.b2_props.proofs.product.grown.Given as goal

-- the rows so far are there, those of the others are to come
abbrev pub invariant-loop-row : goal.invariant-loop-row
invariant-loop-row l =
    map (λ r. r.items) l.made.items ++ flat_map (λ (row : List WordChoice). map (λ choice. row ++ choice ∷ []) l.choices) (map (λ r. r.items) (into_iter_items l.row-iterator)) ≡ flat_map (λ (row : List WordChoice). map (λ choice. row ++ choice ∷ []) l.choices) (map (λ r. r.items) l.fn.rows.items)

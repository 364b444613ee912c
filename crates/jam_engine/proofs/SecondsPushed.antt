-- The second text of a pair is pushed, in a loop over places from the last on.
use Rattle.std.proofs.Common.{◌≡◌, ℕ, ◌<◌, List, [], ◌∷◌, ◌++◌, length, get_or, map, reverse, All, Option, sym, ap, ◌∙◌, append_assoc}
use Rattle.std.specs.Borrow.{Bor}
use Rattle.std.specs.List.{cons_option, slice_get}
use Rattle.std.specs.Option.{option_map}
use Rattle.std.proofs.lemmas.List.{map-append}
use Rattle.std.proofs.lemmas.List.Elements.{recursion_from_All}
use Rattle.b2_base.proofs.NormalMakesNormalForms.{all_reverse}
use Rattle.jam_journal.specs.Tables.{Text}
use Rattle.jam_graph.proofs.ListsGrow.{filter_both}
use Rattle.jam_engine.specs.Spreading.{stacked, seconds_at}
use Rattle.jam_engine.proofs.AlikeFound.{at_get, at_place}
use Rattle.jam_engine.proofs.SpreadGoesOn.{stacked_last}

abbrev lent : List (Bor ℕ) → List ℕ
lent places = map (λ place. place.now) places

module _ (pairs : List (Text × Text)) (places : List ℕ) (yielded : List (Bor ℕ)) (place : Bor ℕ) (within : All (λ p. p < length pairs) places) (low : length yielded < length (reverse places))
    (is : place.now ≡ get_or (reverse places) (length yielded) place.now) where
  abbrev second : Option (Text × Text) → Option Text
  second pair = option_map (λ (p : Text × Text). p.1) pair

  in_pairs : place.now < length pairs
  in_pairs = at_place (λ p. p < length pairs) (reverse places) (length yielded) place.now (all_reverse (λ p. p < length pairs) places (recursion_from_All (λ p. p < length pairs) places within)) low is

  one_more : (pair : Text × Text) → pair ≡ get_or pairs place.now pair → seconds_at pairs (lent (yielded ++ place ∷ [])) ≡ seconds_at pairs (lent yielded) ++ pair.1 ∷ []
  one_more pair pair_is =
      ap (seconds_at pairs) (map-append (λ (p : Bor ℕ). p.now) yielded (place ∷ [])) ∙ filter_both (λ p. second (slice_get pairs p)) (lent yielded) (place.now ∷ [])
      ∙ ap (λ (o : Option (Text × Text)). seconds_at pairs (lent yielded) ++ cons_option (second o) []) (at_get pairs place.now pair in_pairs pair_is)

  pub second_pushed : (pair : Text × Text) (start before after : List (Bor Text)) (text : Bor Text) → pair ≡ get_or pairs place.now pair → text.now ≡ pair.1 → after ≡ before ++ text ∷ []
      → stacked before ≡ stacked start ++ seconds_at pairs (lent yielded) → stacked after ≡ stacked start ++ seconds_at pairs (lent (yielded ++ place ∷ []))
  second_pushed pair start before after text pair_is text_is pushes h =
      ap stacked pushes ∙ stacked_last before text ∙ ap (λ (t : Text). stacked before ++ t ∷ []) text_is ∙ ap (λ (l : List Text). l ++ pair.1 ∷ []) h
      ∙ append_assoc (stacked start) (seconds_at pairs (lent yielded)) (pair.1 ∷ []) ∙ ap (λ (l : List Text). stacked start ++ l) (sym (one_more pair pair_is))

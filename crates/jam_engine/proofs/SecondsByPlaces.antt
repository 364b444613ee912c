-- The second texts at the places of the pairs that begin with a text are those of the text.
use Rattle.std.proofs.Common.{◌≡◌, ℕ, suc, ◌+◌, ◌<◌, Bool, true, false, cond, List, [], ◌∷◌, ◌++◌, length, reverse, All, Option, Some, None, refl, sym, ap, ap₂, subst, ◌∙◌, arith, append_assoc, append-nil, length-append}
use Rattle.std.proofs.lemmas.List.{reverse-append}
use Rattle.std.proofs.lemmas.List.Elements.{All-from_recursion}
use Rattle.std.specs.List.{cons_option, slice_get, AllByRecursion}
use Rattle.std.specs.Option.{option_map}
use Rattle.std.specs.Str.{bytes_eq}
use Rattle.jam_journal.specs.Tables.{Text}
use Rattle.jam_graph.specs.declared.graph.Graph.{Graph}
use Rattle.jam_graph.proofs.ListsGrow.{filter_both}
use Rattle.jam_engine.specs.Targets.{seconds, is_acted, depends_of}
use Rattle.jam_engine.specs.Spreads.{behind}
use Rattle.jam_engine.proofs.LabelsGrow.{all_map}
use Rattle.jam_engine.specs.Tables.{places_in}
use Rattle.jam_engine.specs.Spreading.{seconds_at}

abbrev Pairs : Type 0
Pairs = List (Text × Text)

at_seam : (before : Pairs) (pair : Text × Text) (after : Pairs) → slice_get (before ++ pair ∷ after) (length before) ≡ Some pair
at_seam [] pair after = refl
at_seam (first ∷ before) pair after = at_seam before pair after

found : (g : Graph) (before after : Pairs) (text : Text) → seconds_at (before ++ after) (places_in (length before) after text) ≡ seconds g after text
found g before [] text = refl
found g before (pair ∷ after) text = go (bytes_eq text pair.0) (
    ap₂ (λ (all : Pairs) (n : ℕ). seconds_at all (places_in n after text)) (sym (append_assoc before (pair ∷ []) after)) longer
    ∙ found g (before ++ pair ∷ []) after text
    )
  where
    longer : length before + 1 ≡ length (before ++ pair ∷ [])
    longer = omega (arith, length-append before (pair ∷ []))

    go : (b : Bool) → seconds_at (before ++ pair ∷ after) (places_in (length before + 1) after text) ≡ seconds g after text
        → seconds_at (before ++ pair ∷ after) (cond b (length before ∷ places_in (length before + 1) after text) (places_in (length before + 1) after text)) ≡ cons_option (cond b (Some pair.1) None) (seconds g after text)
    go true e = ap₂ (λ (o : Option Text) (found : List Text). cons_option o found) (ap (option_map (λ (p : Text × Text). p.1)) (at_seam before pair after)) e
    go false e = e

pub seconds_found : (g : Graph) (pairs : Pairs) (text : Text) → seconds_at pairs (places_in 0 pairs text) ≡ seconds g pairs text
seconds_found g pairs text = found g [] pairs text

-- ---- places of pairs

places_all : (k : ℕ) (pairs : Pairs) (text : Text) → AllByRecursion (λ p. p < k + length pairs) (places_in k pairs text)
places_all k [] text = tt
places_all k (pair ∷ pairs) text = go (bytes_eq text pair.0) (places_all (k + 1) pairs text)
  where
    next : (p : ℕ) → p < (k + 1) + length pairs → p < k + suc (length pairs)
    next p low = omega (arith, low)

    go : (b : Bool) → AllByRecursion (λ p. p < (k + 1) + length pairs) (places_in (k + 1) pairs text) → AllByRecursion (λ p. p < k + suc (length pairs)) (cond b (k ∷ places_in (k + 1) pairs text) (places_in (k + 1) pairs text))
    go true h = (omega arith, all_map (λ p. p < (k + 1) + length pairs) (λ p. p < k + suc (length pairs)) (places_in (k + 1) pairs text) next h)
    go false h = all_map (λ p. p < (k + 1) + length pairs) (λ p. p < k + suc (length pairs)) (places_in (k + 1) pairs text) next h

places_within : (pairs : Pairs) (text : Text) → All (λ p. p < length pairs) (places_in 0 pairs text)
places_within pairs text =
    All-from_recursion (λ p. p < length pairs) (places_in 0 pairs text)
    (all_map (λ p. p < 0 + length pairs) (λ p. p < length pairs) (places_in 0 pairs text) (λ p low. omega (arith, low)) (places_all 0 pairs text))

pub within_by : (places : List ℕ) (found pairs : Pairs) (text : Text) → places ≡ places_in 0 pairs text → found ≡ pairs → All (λ p. p < length found) places
within_by places found pairs text places_are found_is =
    subst (λ (l : List ℕ). All (λ p. p < length found) l) (sym places_are) (subst (λ (ps : Pairs). All (λ p. p < length ps) (places_in 0 pairs text)) (sym found_is) (places_within pairs text))

-- ---- what a target that is made leads to, and one that is not

pub nothing_behind : (g : Graph) (text : Text) (old : List Text) → is_acted g text ≡ true → old ≡ old ++ reverse (behind g text)
nothing_behind g text old acted = sym (append-nil old) ∙ ap (λ b. old ++ reverse (cond b [] (depends_of g text))) (sym acted)

pub seconds_behind : (g : Graph) (text : Text) → is_acted g text ≡ false → seconds_at g.depends (places_in 0 g.depends text) ≡ behind g text
seconds_behind g text out = seconds_found g g.depends text ∙ ap (λ b. cond b [] (depends_of g text)) (sym out)

-- the other way round
pub seconds_turned : (pairs : Pairs) (places : List ℕ) → seconds_at pairs (reverse places) ≡ reverse (seconds_at pairs places)
seconds_turned pairs [] = refl
seconds_turned pairs (place ∷ places) =
    ap (seconds_at pairs) (reverse-append (place ∷ []) places) ∙ filter_both (λ p. option_map (λ (pair : Text × Text). pair.1) (slice_get pairs p)) (reverse places) (place ∷ [])
    ∙ ap (λ (l : List Text). l ++ seconds_at pairs (place ∷ [])) (seconds_turned pairs places) ∙ go (option_map (λ (pair : Text × Text). pair.1) (slice_get pairs place))
  where
    go : (o : Option Text) → reverse (seconds_at pairs places) ++ cons_option o [] ≡ reverse (cons_option o (seconds_at pairs places))
    go None = append-nil (reverse (seconds_at pairs places))
    go (Some text) = sym (reverse-append (text ∷ []) (seconds_at pairs places))

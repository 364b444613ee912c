-- Once all words are read, the rows of their ways tell the fault of a request; targets and ways grow word by word.
use Rattle.std.proofs.Common.{◌≡◌, ℕ, ◌+◌, ◌<◌, List, [], ◌∷◌, ◌++◌, None, map, take, get_or, length, fold, refl, sym, ◌∙◌, ap, append_assoc, arith}
use Rattle.std.specs.Option.{option_or}
use Rattle.std.proofs.lemmas.List.{append-nil, length-take-le}
use Rattle.std.proofs.lemmas.List.Elements.{filter-append}
use Rattle.std.proofs.lemmas.List.Sums.{fold-append}
use Rattle.b2_features.specs.Table.{DeclaredFeature}
use Rattle.b2_props.specs.declared.word_choice.WordChoice.{WordChoice}
use Rattle.b2_props.specs.declared.word_choice.Factor.{Factor}
use Rattle.b2_props.specs.declared.ways.WayList.{WayList}
use Rattle.b2_props.specs.Words.{target_words, first_of, word_fault}
use Rattle.b2_props.specs.Requests.{word_ways, ways_from, joined, request_ways, product, rows, row_fault, request_fault}
use Rattle.b2_props.specs.Ways.{ways_of, ways_in}
use Rattle.b2_props.proofs.DraftHoldsEachGainedPair.{next_take}

-- ---- one more word

pub targets_next : (table : List DeclaredFeature) (words : List (List ℕ)) (i : ℕ) (x : List ℕ) → i < length words → x ≡ get_or words i x → target_words table (take (i + 1) words) ≡ target_words table (take i words) ++ target_words table (x ∷ [])
targets_next table words i x l is = ap (target_words table) (next_take words i x l is) ∙ filter-append _ (take i words) (x ∷ [])

ways_from-push : (table : List DeclaredFeature) (n : ℕ) (xs : List (List ℕ)) (y : List ℕ) → ways_from table n (xs ++ y ∷ []) ≡ ways_from table n xs ++ word_ways table (n + length xs) y
ways_from-push table n [] y = append-nil (word_ways table n y) ∙ ap (λ k. word_ways table k y) (omega arith)
ways_from-push table n (x ∷ xs) y =
    ap (λ ws. word_ways table n x ++ ws) (ways_from-push table (n + 1) xs y) ∙ sym (append_assoc (word_ways table n x) (ways_from table (n + 1) xs) (word_ways table (n + 1 + length xs) y))
    ∙ ap (λ k. (word_ways table n x ++ ways_from table (n + 1) xs) ++ word_ways table k y) (omega arith)

pub ways_next : (table : List DeclaredFeature) (words : List (List ℕ)) (i : ℕ) (x : List ℕ) → i < length words → x ≡ get_or words i x → request_ways table (take (i + 1) words) ≡ fold joined (request_ways table (take i words)) (word_ways table i x)
ways_next table words i x l is =
    ap (request_ways table) (next_take words i x l is) ∙ ap (fold joined []) (ways_from-push table 0 (take i words) x) ∙ fold-append joined [] (ways_from table 0 (take i words)) (word_ways table (0 + length (take i words)) x)
    ∙ ap (λ k. fold joined (request_ways table (take i words)) (word_ways table k x)) place
  where
    place : 0 + length (take i words) ≡ i
    place = omega (arith, length-take-le i words (omega (arith, l)))

-- ---- the rows of a request

choices_in : (fs : List Factor) → map (λ f. f.choices.items) fs ≡ map (λ w. w.choices) (map ways_of fs)
choices_in [] = refl
choices_in (f ∷ fs) = ap (λ cs. f.choices.items ∷ cs) (choices_in fs)

pub rows_are : (table : List DeclaredFeature) (words : List (List ℕ)) (list : WayList) (fs : List Factor) → ways_in list ≡ request_ways table words → fs ≡ list.factors.items → product (map (λ f. f.choices.items) fs) ≡ rows table words
rows_are table words list fs ways factors = ap product (choices_in fs ∙ ap (λ gs. map (λ w. w.choices) (map ways_of gs)) factors ∙ ap (map (λ w. w.choices)) ways)

-- where all words are read, the rows decide
pub rows_decide : (table : List DeclaredFeature) (words : List (List ℕ)) (all : List (List WordChoice)) → all ≡ rows table words → first_of (word_fault table) words ≡ None → first_of (row_fault table words) all ≡ request_fault table words
rows_decide table words all is read = ap (first_of (row_fault table words)) is ∙ sym (ap (λ o. option_or o (first_of (row_fault table words) (rows table words))) read)

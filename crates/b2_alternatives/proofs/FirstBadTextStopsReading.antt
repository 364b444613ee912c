-- The texts that rules answer are read one by one as properties, up to the first that is none.
use Rattle.std.proofs.Common.{◌≡◌, ℕ, suc, ◌+◌, ◌<◌, List, [], ◌∷◌, ◌++◌, Option, Some, None, is_some, take, drop, get_or, length, refl, ◌∙◌, ap}
use Rattle.std.specs.Option.{option_map, option_map_or}
use Rattle.b2_props.specs.Sets.{Pair}
use Rattle.b2_props.proofs.DraftHoldsEachGainedPair.{next_take}
use Rattle.b2_property_texts.proofs.ReadingStopsAtFirstFault.{around}
use Rattle.b2_declared.specs.declared.whole.Declared.{Declared}
use Rattle.b2_alternatives.specs.declared.reading.ReturnedProperties.{ReturnedProperties}
use Rattle.b2_alternatives.specs.declared.reading.ReturnedProperties.TheVariants.{Properties, Bad}
use Rattle.b2_alternatives.specs.Choosing.{read_before, answered_pair, answered}

pub some_mapped : {X Y : Type 0} (f : X → Y) (o : Option X) → is_some o ≡ is_some (option_map f o)
some_mapped f None = refl
some_mapped f (Some x) = refl

-- pairs before what others read as
abbrev after_pairs : List Pair → ReturnedProperties → ReturnedProperties
after_pairs pairs (Properties more) = Properties (pairs ++ more)
after_pairs pairs (Bad word) = Bad word

before_all : (p : Pair) (pairs : List Pair) (r : ReturnedProperties) → read_before p (after_pairs pairs r) ≡ after_pairs (p ∷ pairs) r
before_all p pairs (Properties more) = refl
before_all p pairs (Bad word) = refl

none_before : (r : ReturnedProperties) → r ≡ after_pairs [] r
none_before (Properties more) = refl
none_before (Bad word) = refl

module _ (d : Declared) (dir : List ℕ) where
  answered-append : (xs ys : List (List ℕ)) (pairs : List Pair) → answered d dir xs ≡ Properties pairs → answered d dir (xs ++ ys) ≡ after_pairs pairs (answered d dir ys)
  answered-append [] ys pairs e = let same : [] ≡ pairs = cc in none_before (answered d dir ys) ∙ ap (λ (ps : List Pair). after_pairs ps (answered d dir ys)) same
  answered-append (x ∷ xs) ys pairs e = go (answered_pair d dir x) (answered d dir xs) refl e (answered-append xs ys)
    where
      go : (o : Option Pair) (r : ReturnedProperties) → answered d dir xs ≡ r → option_map_or (λ p. read_before p r) o (Bad x) ≡ Properties pairs → ((ps : List Pair) → answered d dir xs ≡ Properties ps → answered d dir (xs ++ ys) ≡ after_pairs ps (answered d dir ys))
          → option_map_or (λ p. read_before p (answered d dir (xs ++ ys))) o (Bad x) ≡ after_pairs pairs (answered d dir ys)
      go None r is e more = cc
      go (Some p) (Bad word) is e more = cc
      go (Some p) (Properties ps) is e more =
          let same : p ∷ ps ≡ pairs = cc in
          ap (read_before p) (more ps is) ∙ before_all p ps (answered d dir ys) ∙ ap (λ (qs : List Pair). after_pairs qs (answered d dir ys)) same

  module _ (texts : List (List ℕ)) (i : ℕ) (text : List ℕ) (pairs : List Pair) (within : i < length texts) (is : text ≡ get_or texts i text) (so_far : answered d dir (take i texts) ≡ Properties pairs) where
    -- one more text that is a property
    pub answered_next : (p : Pair) → answered_pair d dir text ≡ Some p → answered d dir (take (i + 1) texts) ≡ Properties (pairs ++ p ∷ [])
    answered_next p e =
        ap (answered d dir) (next_take texts i text within is) ∙ answered-append (take i texts) (text ∷ []) pairs so_far
        ∙ ap (λ o. after_pairs pairs (option_map_or (λ q. read_before q (Properties [])) o (Bad text))) e

    -- the first one that is none
    pub answered_stop : answered_pair d dir text ≡ None → answered d dir texts ≡ Bad text
    answered_stop e =
        ap (answered d dir) (around texts i text within is) ∙ answered-append (take i texts) (text ∷ drop (suc i) texts) pairs so_far
        ∙ ap (λ o. after_pairs pairs (option_map_or (λ q. read_before q (answered d dir (drop (suc i) texts))) o (Bad text))) e

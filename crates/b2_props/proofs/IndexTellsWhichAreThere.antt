-- A further pair in an index, and whether all of some pairs are in its list; for usages and for given pairs.
use Rattle.std.proofs.Common.{◌≡◌, Bool, true, false, cond, ◌||◌, ◌&&◌, List, [], ◌∷◌, ◌++◌, refl, ap, ap₂, sym, ◌∙◌}
use Rattle.std.specs.List.{list_all}
use Rattle.std.proofs.lemmas.List.Folds.{list_any-append}
use Rattle.b2_props.specs.declared.pair_index.PairIndex.{PairIndex}
use Rattle.b2_props.specs.Sets.{Pair, same}
use Rattle.b2_props.specs.Membership.{has, has_all}
use Rattle.b2_props.specs.Indexing.{is_indexed, IsIndexOf}

-- an index that has one pair more is that of the list with the pair at its end
pub index_more : (pairs : List Pair) (p : Pair) (old new : PairIndex) → IsIndexOf pairs old → ((q : Pair) → is_indexed new q ≡ cond (same p q) true (is_indexed old q)) → IsIndexOf (pairs ++ p ∷ []) new
index_more pairs p old new is more = record { known = λ q. more q ∙ ap (cond (same p q) true) (is.known q) ∙ go q (same p q) (has pairs q) refl ∙ sym (list_any-append (λ x. same x q) pairs (p ∷ [])) }
  where
    go : (q : Pair) (b c : Bool) → same p q ≡ b → cond b true c ≡ (c || (same p q || false))
    go q true true e = refl
    go q true false e = sym (ap (λ t. t || false) e)
    go q false true e = refl
    go q false false e = sym (ap (λ t. t || false) e)

-- an index tells whether all of some pairs are there
pub index_all : (pairs others : List Pair) (index : PairIndex) → IsIndexOf pairs index → list_all (is_indexed index) others ≡ has_all pairs others
index_all pairs [] index is = refl
index_all pairs (p ∷ others) index is = ap₂ ◌&&◌ (is.known p) (index_all pairs others index is)

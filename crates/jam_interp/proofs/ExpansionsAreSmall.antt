-- What a word stands for is not too large.
use Rattle.std.proofs.Common.{◌≡◌, ℕ, zero, suc, Bool, true, false, cond, List, [], ◌∷◌, Option, Some, None, Result, Ok, Err, subst}
use Rattle.b2_base.specs.declared.expand_fault.ExpandFault.{ExpandFault}
use Rattle.b2_base.specs.declared.expand_fault.ExpandFault.TheVariants as faults
use Rattle.b2_base.specs.Results.{and_then}
use Rattle.jam_expand.specs.Expansions.{lists_of, elements_at, expansion}
use Rattle.jam_expand.specs.Limits.{Answer, first_above, unless_above, within}
use Rattle.jam_expand.specs.Products.{product}
use Rattle.jam_expand.specs.Values.{values_of_all}
use Rattle.jam_expand.specs.Words.{pieces_of, deeper}
use Rattle.jam_journal.specs.Tables.{Text}
use Rattle.jam_journal.specs.Scopes.{Value}

same_list : (texts list : Value) → within texts ≡ Ok list → texts ≡ list
same_list texts list e = go (first_above 0 texts) e
  where
    go : (found : Option ℕ) → unless_above texts found ≡ Ok list → texts ≡ list
    go None is = cc
    go (Some bytes) is = cc

small_again : (texts list : Value) → within texts ≡ Ok list → within list ≡ Ok list
small_again texts list e = subst (λ l. within l ≡ Ok list) (same_list texts list e) e

product_small : (found : Result (List Value) ExpandFault) (list : Value) → and_then (λ lists. within (product lists)) found ≡ Ok list → within list ≡ Ok list
product_small (Ok lists) list e = small_again (product lists) list e
product_small (Err f) list e = cc

elements_small : (levels : ℕ) (names : Text → Value) (word : Text) (list : Value) → elements_at levels names word ≡ Ok list → within list ≡ Ok list
unfolding elements_at
elements_small zero names word list e = small_again (word ∷ []) list e
elements_small (suc levels) names word list e = product_small (lists_of (λ inside. and_then (values_of_all names) (elements_at levels names inside)) (pieces_of word)) list e

unless_deep : (deep : Bool) (answer : Answer) (list : Value) → cond deep (Err faults.TooDeep) answer ≡ Ok list → answer ≡ Ok list
unless_deep true answer list e = cc
unless_deep false answer list e = e

pub expansion_small : (names : Text → Value) (word : Text) (list : Value) → expansion names word ≡ Ok list → within list ≡ Ok list
expansion_small names word list e = elements_small 16 names word list (unless_deep (deeper 16 word) (elements_at 16 names word) list e)

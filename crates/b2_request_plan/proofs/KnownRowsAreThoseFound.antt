-- Two keys tie where their rows are the same, so a key is known where its row was found, also as one more is found.
use Rattle.std.proofs.Common.{◌≡◌, ◌==◌, Bool, true, false, cond, not, ◌&&◌, [], ◌∷◌, ◌++◌, map, refl, sym, ap, ◌∙◌}
use Rattle.std.specs.Ordering.{nat_cmp, ordering_then, is_eq}
use Rattle.std.specs.declared.cmp.Ordering.{Ordering}
use Rattle.std.specs.declared.cmp.Ordering.TheVariants.{Less, Equal, Greater}
use Rattle.std.specs.Cmp.{unsigned_ties}
use Rattle.std.specs.Cmp.Lexicographic.{slice_cmp, pointwise, lists_ties}
use Rattle.std.specs.Borrow.{Bor}
use Rattle.std.specs.BTreeSet.{contains}
use Rattle.std.proofs.lemmas.List.{map-append}
use Rattle.std.proofs.lemmas.Map.Text.{is_eq-slice_cmp}
use Rattle.b2_props.specs.Sets.{same}
use Rattle.b2_props.specs.Holding.{pair_cmp}
use Rattle.b2_props.proofs.DraftHoldsEachGainedPair.{pair_ties}
use Rattle.b2_generate.specs.Planning.{is_same_row}
use Rattle.b2_generate.specs.Nodes.{row_of}
use Rattle.b2_generate.specs.Answers.{Row}
use Rattle.b2_generate.specs.declared.node.Node.{Node}
use Rattle.b2_request_plan.specs.declared.table.RowSearch.{RowSearch}
use Rattle.b2_request_plan.specs.TableRows.{Key, key_cmp, row_of_key, has_row, with_row, found_rows, IsWalk}
use Rattle.b2_request_plan.proofs.RepeatedRowsAreLeftOut.{has_with}

then_eq : (r s : Ordering) (a b : Bool) → is_eq r ≡ a → is_eq s ≡ b → is_eq (ordering_then r s) ≡ (a && b)
then_eq Less s a b e f = ap (λ (c : Bool). c && b) e
then_eq Equal s a b e f = f ∙ ap (λ (c : Bool). c && b) e
then_eq Greater s a b e f = ap (λ (c : Bool). c && b) e

-- two keys tie where their rows are the same
key_ties : (p q : Key) → is_eq (key_cmp p q) ≡ is_same_row (row_of_key p) (row_of_key q)
key_ties p q =
    then_eq _ (slice_cmp pair_cmp p.3.now q.3.now) _ (pointwise same p.3.now q.3.now)
    (then_eq _ (nat_cmp p.2 q.2) _ (p.2 == q.2) (then_eq (nat_cmp p.0 q.0) (slice_cmp nat_cmp p.1.now q.1.now) (p.0 == q.0) _ (sym (unsigned_ties p.0 q.0)) (is_eq-slice_cmp p.1.now q.1.now)) (sym (unsigned_ties p.2 q.2)))
    (sym (lists_ties pair_cmp (λ x y. sym (pair_ties x y)) p.3.now q.3.now))

not_true : (b : Bool) → true ≡ not b → b ≡ false
not_true true e = cc
not_true false e = refl

-- a row more is looked up
pub known_next : (key : Key) (old new : RowSearch) → IsWalk old → ((q : Key) → contains key_cmp new.known q ≡ cond (is_eq (key_cmp key q)) true (contains key_cmp old.known q))
    → found_rows new ≡ with_row (found_rows old) (row_of_key key) → IsWalk new
known_next key old new w more found = record {
  known = λ q.
      more q ∙ ap (λ (b : Bool). cond b true (contains key_cmp old.known q)) (key_ties key q) ∙ ap (λ (b : Bool). cond (is_same_row (row_of_key key) (row_of_key q)) true b) (w.known q)
      ∙ has_with (found_rows old) (row_of_key key) (row_of_key q) ∙ sym (ap (λ rows. has_row rows (row_of_key q)) found);
}

-- a node is found, whose row was not there
pub known_found : (key : Key) (node : Bor Node) (old new : RowSearch) (added : Bool) → IsWalk old → row_of_key key ≡ row_of node.now
    → ((q : Key) → contains key_cmp new.known q ≡ cond (is_eq (key_cmp key q)) true (contains key_cmp old.known q)) → added ≡ not (contains key_cmp old.known key) → added ≡ true
    → new.found.items ≡ old.found.items ++ node ∷ [] → IsWalk new
known_found key node old new added w keyed more told was found = known_next key old new w more (ap (map (λ (n : Bor Node). row_of n.now)) found ∙ map-append (λ (n : Bor Node). row_of n.now) old.found.items (node ∷ [])
    ∙ ap (λ (row : Row). found_rows old ++ row ∷ []) (sym keyed)
    ∙ sym (ap (λ (b : Bool). cond b (found_rows old) (found_rows old ++ row_of_key key ∷ [])) (sym (w.known key) ∙ not_true (contains key_cmp old.known key) (sym was ∙ told))))

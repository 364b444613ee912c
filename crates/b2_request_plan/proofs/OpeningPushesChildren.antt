-- What opening a place does to a walk.
use Rattle.std.proofs.Common.{◌≡◌, ◌==◌, ℕ, Bool, true, false, cond, not, List, [], ◌++◌, Option, Some, None, Result, reverse, slice_get, OnOk, map, refl, sym, ap, ap₂, ◌∙◌}
use Rattle.std.specs.List.{filter}
use Rattle.std.specs.Option.{option_map_or}
use Rattle.std.specs.Ordering.{nat_cmp, is_eq}
use Rattle.std.specs.Cmp.{unsigned_tied}
use Rattle.std.specs.BTreeSet.{contains}
use Rattle.std.proofs.lemmas.List.{append-nil}
use Rattle.std.proofs.lemmas.Result.{on_ok_weaker}
use Rattle.b2_generate.specs.Nodes.{node_in, row_of}
use Rattle.b2_generate.specs.Places.{is_before}
use Rattle.b2_request_plan.specs.TableRows.{with_row, found_rows, is_opened, Opens}
use Rattle.b2_generate.specs.declared.node.Node.{Node}
use Rattle.b2_request_plan.specs.declared.table.RowSearch.{RowSearch}
use Rattle.b2_generate.proofs.OwnRowThenChildrensRows.{node_listed}

-- a place is among those that were opened
abbrev Adds : ℕ → RowSearch → RowSearch → Type 0
Adds place old new = (other : ℕ) → contains nat_cmp new.opened other ≡ cond (is_eq (nat_cmp place other)) true (contains nat_cmp old.opened other)

opened_at : (place : ℕ) (old new : RowSearch) → Adds place old new → (other : ℕ) → is_opened new other ≡ cond (place == other) true (is_opened old other)
opened_at place old new adds other = adds other ∙ ap (λ (b : Bool). cond b true (is_opened old other)) (unsigned_tied place other)

not_opened : (b added : Bool) → added ≡ not b → added ≡ true → b ≡ false
not_opened true added told was = let none : true ≡ false = sym was ∙ told in cc
not_opened false added told was = refl

-- a place where there is no node
pub opens_none : (listed : List Node) (place : ℕ) (old new : RowSearch) (added : Bool) → Adds place old new → added ≡ not (is_opened old place) → added ≡ true → None ≡ slice_get listed place
    → found_rows new ≡ found_rows old → new.next.items ≡ old.next.items → Opens (reverse listed) place old new
opens_none listed place old new added adds told was missing found next =
    let other : is_opened old place ≡ false = not_opened (is_opened old place) added told was in
    let there : node_in (reverse listed) place ≡ None = sym (node_listed listed place) ∙ sym missing in
    record {
      opened = opened_at place old new adds;
      found = found ∙ sym (ap₂ (λ (b : Bool) (o : Option Node). cond b (found_rows old) (option_map_or (λ n. with_row (found_rows old) (row_of n)) o (found_rows old))) other there);
      next = next ∙ sym (append-nil old.next.items) ∙ sym (ap₂ (λ (b : Bool) (o : Option Node). cond b old.next.items (old.next.items ++ reverse (option_map_or (λ (n : Node). filter (is_before place) n.children) o []))) other there);
    }

opens_one : (listed : List Node) (place : ℕ) (n : Node) (old new : RowSearch) (added : Bool) → Adds place old new → added ≡ not (is_opened old place) → added ≡ true → Some n ≡ slice_get listed place
    → found_rows new ≡ with_row (found_rows old) (row_of n) → new.next.items ≡ old.next.items ++ reverse (filter (is_before place) n.children) → Opens (reverse listed) place old new
opens_one listed place n old new added adds told was is found next =
    let other : is_opened old place ≡ false = not_opened (is_opened old place) added told was in
    let there : node_in (reverse listed) place ≡ Some n = sym (node_listed listed place) ∙ sym is in
    record {
      opened = opened_at place old new adds;
      found = found ∙ sym (ap₂ (λ (b : Bool) (o : Option Node). cond b (found_rows old) (option_map_or (λ k. with_row (found_rows old) (row_of k)) o (found_rows old))) other there);
      next = next ∙ sym (ap₂ (λ (b : Bool) (o : Option Node). cond b old.next.items (old.next.items ++ reverse (option_map_or (λ (k : Node). filter (is_before place) k.children) o []))) other there);
    }

-- The node at a place: it is noted, and its children are pushed. The walk in between has the place among those that were opened.
pub opens_some : {T E : Type 0} (r : Result T E) (listed : List Node) (place : ℕ) (n : Node) (old between noted new : RowSearch) (added : Bool) → Adds place old between
    → found_rows between ≡ found_rows old → between.next ≡ old.next → added ≡ not (is_opened old place) → added ≡ true → Some n ≡ slice_get listed place
    → found_rows noted ≡ with_row (found_rows between) (row_of n) → (noted.opened ≡ between.opened) × (noted.next ≡ between.next)
    → (new.opened ≡ noted.opened) × (new.found ≡ noted.found) × (new.known ≡ noted.known)
    → OnOk r (new.next.items ≡ noted.next.items ++ reverse (filter (is_before place) n.children)) → OnOk r (Opens (reverse listed) place old new)
opens_some r listed place n old between noted new added adds same_found same_next told was is found noted_same new_same pushed = on_ok_weaker r (λ next.
    opens_one listed place n old new added
    (λ other. ap (λ s. contains nat_cmp s other) (new_same.0 ∙ noted_same.0) ∙ adds other)
    told was is
    (ap (λ found. map (λ k. row_of k.now) found.items) new_same.1 ∙ found ∙ ap (λ rows. with_row rows (row_of n)) same_found)
    (next ∙ ap (λ v. v.items ++ reverse (filter (is_before place) n.children)) (noted_same.1 ∙ same_next))) pushed

-- Rows, each at its first place alone.
use Rattle.std.proofs.Common.{◌≡◌, ◌==◌, Bool, true, false, cond, not, ◌||◌, ◌&&◌, List, [], ◌∷◌, ◌++◌, map, Result, Ok, Err, IfOk, refl, sym, ap, ap₂, subst, ◌∙◌, append_assoc}
use Rattle.std.specs.List.{filter}
use Rattle.std.specs.Borrow.{Bor}
use Rattle.std.specs.Cmp.Lexicographic.{pointwise}
use Rattle.std.proofs.lemmas.Bool.{eqb-true, eq-eqb}
use Rattle.std.proofs.lemmas.List.Folds.{list_any-append}
use Rattle.b2_props.specs.Sets.{Pair, same as same_pair}
use Rattle.b2_props.proofs.RepeatedPairsAddNothing.{same_is, same_itself}
use Rattle.b2_declared.specs.declared.whole.Declared.{Declared}
use Rattle.b2_references.specs.Names.{is_same}
use Rattle.b2_generate.specs.Answers.{Row}
use Rattle.b2_generate.specs.Nodes.{row_of}
use Rattle.b2_generate.specs.declared.node.Node.{Node}
use Rattle.b2_request_plan.specs.declared.planned.Built.{Built}
use Rattle.b2_generate.specs.Planning.{is_same_row, first_rows, line}
use Rattle.b2_request_plan.specs.TableRows.{has_row, with_row, lines_of, rows_of}
use Rattle.b2_generate.proofs.SameNamesAreEqual.{same, reflexive}

-- ---- equal rows

both : (a b : Bool) → (a && b) ≡ true → (a ≡ true) × (b ≡ true)
both true b e = (refl, e)
both false b e = cc

set_is : (xs ys : List Pair) → pointwise same_pair xs ys ≡ true → xs ≡ ys
set_is [] [] e = refl
set_is [] (y ∷ ys) e = cc
set_is (x ∷ xs) [] e = cc
set_is (x ∷ xs) (y ∷ ys) e =
    let two = both (same_pair x y) (pointwise same_pair xs ys) e in
    λ i. same_is x y two.0 i ∷ set_is xs ys two.1 i

set_itself : (xs : List Pair) → pointwise same_pair xs xs ≡ true
set_itself [] = refl
set_itself (x ∷ xs) = ap₂ ◌&&◌ (same_itself x) (set_itself xs)

pub row_is : (a b : Row) → is_same_row a b ≡ true → a ≡ b
row_is a b e =
    let outer = both (is_same a.name b.name && a.alternative == b.alternative) (pointwise same_pair a.set b.set) e in
    let inner = both (is_same a.name b.name) (a.alternative == b.alternative) outer.0 in
    λ i. record { name = same a.name b.name inner.0 i; alternative = eqb-true a.alternative b.alternative inner.1 i; set = set_is a.set b.set outer.1 i }

pub row_itself : (a : Row) → is_same_row a a ≡ true
row_itself a = ap₂ ◌&&◌ (ap₂ ◌&&◌ (reflexive a.name) (eq-eqb a.alternative a.alternative refl)) (set_itself a.set)

pub row_sym : (a b : Row) → is_same_row a b ≡ is_same_row b a
row_sym a b = go (is_same_row a b) (is_same_row b a) refl refl
  where
    turned : (x y : Row) → is_same_row x y ≡ true → is_same_row y x ≡ true
    turned x y e = subst (λ (z : Row). is_same_row z x ≡ true) (row_is x y e) (row_itself x)

    go : (s t : Bool) → is_same_row a b ≡ s → is_same_row b a ≡ t → s ≡ t
    go true true f g = refl
    go false false f g = refl
    go true false f g = sym (turned a b f) ∙ g
    go false true f g = sym f ∙ turned b a g

-- ---- rows that are among others

pub has_append : (xs ys : List Row) (row : Row) → has_row (xs ++ ys) row ≡ (has_row xs row || has_row ys row)
has_append xs ys row = list_any-append (is_same_row row) xs ys

abbrev pub Within : List Row → List Row → Type 0
Within xs ys = (row : Row) → has_row xs row ≡ true → has_row ys row ≡ true

either : (a b : Bool) → a ≡ true → (a || b) ≡ true
either true b e = refl
either false b e = cc

or_second : (a b : Bool) → b ≡ true → (a || b) ≡ true
or_second true b e = refl
or_second false b e = e

pub within_left : (xs ys : List Row) → Within xs (xs ++ ys)
within_left xs ys row e = has_append xs ys row ∙ either (has_row xs row) (has_row ys row) e

pub within_right : (xs ys : List Row) → Within ys (xs ++ ys)
within_right xs ys row e = has_append xs ys row ∙ or_second (has_row xs row) (has_row ys row) e

pub within_both : (xs ys zs : List Row) → Within xs zs → Within ys zs → Within (xs ++ ys) zs
within_both xs ys zs first second row e = go (has_row xs row) refl (sym (has_append xs ys row) ∙ e)
  where
    go : (b : Bool) → has_row xs row ≡ b → (b || has_row ys row) ≡ true → has_row zs row ≡ true
    go true f g = first row f
    go false f g = second row g

-- ---- the rows that are not among some that were seen, each at its first place alone

abbrev pub fresh : List Row → List Row → List Row
fresh seen [] = []
fresh seen (row ∷ more) = cond (has_row seen row) (fresh seen more) (row ∷ fresh (seen ++ row ∷ []) more)

-- rows that were seen give none
pub fresh_skip : (seen rows more : List Row) → Within rows seen → fresh seen (rows ++ more) ≡ fresh seen more
fresh_skip seen [] more had = refl
fresh_skip seen (row ∷ rows) more had =
    ap (λ (b : Bool). cond b (fresh seen (rows ++ more)) (row ∷ fresh (seen ++ row ∷ []) (rows ++ more))) (had row (either (is_same_row row row) (has_row rows row) (row_itself row)))
    ∙ fresh_skip seen rows more (λ other e. had other (or_second (is_same_row other row) (has_row rows other) e))

-- a row that comes next is one of those that were seen, or becomes one
pub fresh_next : (seen : List Row) (row : Row) (more : List Row) → seen ++ fresh seen (row ∷ more) ≡ with_row seen row ++ fresh (with_row seen row) more
fresh_next seen row more = go (has_row seen row)
  where
    go : (b : Bool) → seen ++ cond b (fresh seen more) (row ∷ fresh (seen ++ row ∷ []) more) ≡ cond b seen (seen ++ row ∷ []) ++ fresh (cond b seen (seen ++ row ∷ [])) more
    go true = refl
    go false = sym (append_assoc seen (row ∷ []) (fresh (seen ++ row ∷ []) more))

pub with_had : (seen : List Row) (row : Row) → Within seen (with_row seen row)
with_had seen row other e = go (has_row seen row)
  where
    go : (b : Bool) → has_row (cond b seen (seen ++ row ∷ [])) other ≡ true
    go true = e
    go false = within_left seen (row ∷ []) other e

pub with_own : (seen : List Row) (row : Row) → Within (row ∷ []) (with_row seen row)
with_own seen row other e = go (has_row seen row) refl
  where
    one : (b : Bool) → (b || false) ≡ true → b ≡ true
    one true f = refl
    one false f = cc

    go : (b : Bool) → has_row seen row ≡ b → has_row (cond b seen (seen ++ row ∷ [])) other ≡ true
    go true f = ap (has_row seen) (row_is other row (one (is_same_row other row) e)) ∙ f
    go false f = within_right seen (row ∷ []) other e

-- whether a row is among those with one more
pub has_with : (seen : List Row) (row other : Row) → cond (is_same_row row other) true (has_row seen other) ≡ has_row (with_row seen row) other
has_with seen row other = go (has_row seen row) (is_same_row row other) refl refl
  where
    last : (s t : Bool) → cond t true s ≡ (s || (t || false))
    last true true = refl
    last true false = refl
    last false true = refl
    last false false = refl

    go : (b t : Bool) → has_row seen row ≡ b → is_same_row row other ≡ t → cond t true (has_row seen other) ≡ has_row (cond b seen (seen ++ row ∷ [])) other
    go true true e f = sym (ap (has_row seen) (sym (row_is row other f)) ∙ e)
    go true false e f = refl
    go false t e f = last (has_row seen other) t ∙ ap (λ (c : Bool). has_row seen other || (c || false)) (sym f ∙ row_sym row other) ∙ sym (has_append seen (row ∷ []) other)

-- ---- the first rows are those that are new where none was seen

filter_filtered : (p q r : Row → Bool) → ((x : Row) → r x ≡ (q x && p x)) → (xs : List Row) → filter p (filter q xs) ≡ filter r xs
filter_filtered p q r h [] = refl
filter_filtered p q r h (x ∷ xs) = go (q x) (p x) refl refl (filter_filtered p q r h xs)
  where
    go : (a b : Bool) → q x ≡ a → p x ≡ b → filter p (filter q xs) ≡ filter r xs → filter p (cond (q x) (x ∷ filter q xs) (filter q xs)) ≡ cond (r x) (x ∷ filter r xs) (filter r xs)
    go true true e f more =
        ap (λ (c : Bool). filter p (cond c (x ∷ filter q xs) (filter q xs))) e ∙ ap (λ (c : Bool). cond c (x ∷ filter p (filter q xs)) (filter p (filter q xs))) f
        ∙ ap (λ zs. x ∷ zs) more ∙ sym (ap (λ (c : Bool). cond c (x ∷ filter r xs) (filter r xs)) (h x ∙ ap₂ ◌&&◌ e f))
    go true false e f more =
        ap (λ (c : Bool). filter p (cond c (x ∷ filter q xs) (filter q xs))) e ∙ ap (λ (c : Bool). cond c (x ∷ filter p (filter q xs)) (filter p (filter q xs))) f
        ∙ more ∙ sym (ap (λ (c : Bool). cond c (x ∷ filter r xs) (filter r xs)) (h x ∙ ap₂ ◌&&◌ e f))
    go false b e f more =
        ap (λ (c : Bool). filter p (cond c (x ∷ filter q xs) (filter q xs))) e ∙ more ∙ sym (ap (λ (c : Bool). cond c (x ∷ filter r xs) (filter r xs)) (h x ∙ ap (λ (c : Bool). c && p x) e))

-- where a row was seen, those like it were too
seen_test : (seen : List Row) (row x : Row) → has_row seen row ≡ true → not (has_row seen x) ≡ (not (is_same_row row x) && not (has_row seen x))
seen_test seen row x had = go (is_same_row row x) refl
  where
    go : (b : Bool) → is_same_row row x ≡ b → not (has_row seen x) ≡ (not b && not (has_row seen x))
    go true e = ap not (ap (has_row seen) (sym (row_is row x e)) ∙ had)
    go false e = refl

new_test : (seen : List Row) (row x : Row) → not (has_row (seen ++ row ∷ []) x) ≡ (not (is_same_row row x) && not (has_row seen x))
new_test seen row x = ap not (has_append seen (row ∷ []) x) ∙ go (has_row seen x) (is_same_row x row) ∙ ap (λ (b : Bool). not b && not (has_row seen x)) (row_sym x row)
  where
    go : (s t : Bool) → not (s || (t || false)) ≡ (not t && not s)
    go true true = refl
    go true false = refl
    go false true = refl
    go false false = refl

new_rows : (seen rows : List Row) → filter (λ x. not (has_row seen x)) (first_rows rows) ≡ fresh seen rows
new_rows seen [] = refl
new_rows seen (row ∷ more) = go (has_row seen row) refl (new_rows seen more) (new_rows (seen ++ row ∷ []) more)
  where
    others : List Row
    others = filter (λ x. not (is_same_row row x)) (first_rows more)

    go : (b : Bool) → has_row seen row ≡ b → filter (λ x. not (has_row seen x)) (first_rows more) ≡ fresh seen more
        → filter (λ x. not (has_row (seen ++ row ∷ []) x)) (first_rows more) ≡ fresh (seen ++ row ∷ []) more
        → cond (not (has_row seen row)) (row ∷ filter (λ x. not (has_row seen x)) others) (filter (λ x. not (has_row seen x)) others) ≡ cond (has_row seen row) (fresh seen more) (row ∷ fresh (seen ++ row ∷ []) more)
    go true e old new =
        ap (λ (c : Bool). cond (not c) (row ∷ filter (λ x. not (has_row seen x)) others) (filter (λ x. not (has_row seen x)) others)) e
        ∙ filter_filtered (λ x. not (has_row seen x)) (λ x. not (is_same_row row x)) (λ x. not (has_row seen x)) (λ x. seen_test seen row x e) (first_rows more)
        ∙ old ∙ sym (ap (λ (c : Bool). cond c (fresh seen more) (row ∷ fresh (seen ++ row ∷ []) more)) e)
    go false e old new =
        ap (λ (c : Bool). cond (not c) (row ∷ filter (λ x. not (has_row seen x)) others) (filter (λ x. not (has_row seen x)) others)) e
        ∙ ap (λ xs. row ∷ xs) (filter_filtered (λ x. not (has_row seen x)) (λ x. not (is_same_row row x)) (λ x. not (has_row (seen ++ row ∷ []) x)) (new_test seen row) (first_rows more) ∙ new)
        ∙ sym (ap (λ (c : Bool). cond c (fresh seen more) (row ∷ fresh (seen ++ row ∷ []) more)) e)

all_new : (rows : List Row) → filter (λ x. not (has_row [] x)) rows ≡ rows
all_new [] = refl
all_new (row ∷ more) = ap (λ xs. row ∷ xs) (all_new more)

pub first_is_fresh : (rows : List Row) → fresh [] rows ≡ first_rows rows
first_is_fresh rows = sym (new_rows [] rows) ∙ all_new (first_rows rows)

-- ---- lines

lines_again : (d : Declared) (found : List (Bor Node)) → map (λ (n : Bor Node). line d (row_of n.now)) found ≡ map (line d) (map (λ (n : Bor Node). row_of n.now) found)
lines_again d [] = refl
lines_again d (n ∷ more) = ap (λ xs. line d (row_of n.now) ∷ xs) (lines_again d more)

-- the lines of the nodes that were found are those of their rows
pub written : {E : Type 0} (r : Result (List Built) E) (d : Declared) (found listed : List (Bor Node)) (rows : List Row) → listed ≡ found → map (λ (n : Bor Node). row_of n.now) found ≡ rows
    → IfOk r (λ made. lines_of made ≡ map (λ (n : Bor Node). line d (row_of n.now)) listed) → IfOk r (λ made. lines_of made ≡ map (line d) rows)
written (Ok made) d found listed rows same is lines = lines ∙ ap (map (λ (n : Bor Node). line d (row_of n.now))) same ∙ lines_again d found ∙ ap (map (line d)) is
written (Err fault) d found listed rows same is lines = record {}

-- and their rows are those rows
pub rows_found : {E : Type 0} (r : Result (List Built) E) (found listed : List (Bor Node)) (rows : List Row) → listed ≡ found → map (λ (n : Bor Node). row_of n.now) found ≡ rows
    → IfOk r (λ made. rows_of made ≡ map (λ (n : Bor Node). row_of n.now) listed) → IfOk r (λ made. rows_of made ≡ rows)
rows_found (Ok made) found listed rows same is told = told ∙ ap (map (λ (n : Bor Node). row_of n.now)) same ∙ is
rows_found (Err fault) found listed rows same is told = record {}

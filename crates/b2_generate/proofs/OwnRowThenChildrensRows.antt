-- The rows at the place of a node, and why a walk over children ends; for passes over nodes, and for plans.
use Rattle.std.proofs.Common.{arith, ◌≡◌, ◌≤◌, ◌<◌, ◌==◌, ◌+◌, ℕ, suc, Bool, true, false, cond, List, [], ◌∷◌, ◌++◌, Option, Some, None, length, reverse, slice_get, nat_lt, refl, sym, ap, ap₂, ◌∙◌}
use Rattle.std.specs.List.{filter, flat_map}
use Rattle.std.specs.Option.{option_map_or}
use Rattle.std.proofs.lemmas.Bool.{eqb-true, ltb-true, ltb-false}
use Rattle.std.proofs.lemmas.List.{reverse-reverse}
use Rattle.b2_generate.specs.Answers.{Row}
use Rattle.b2_generate.specs.declared.node.Node.{Node}
use Rattle.b2_generate.specs.Nodes.{entry_in, given_by, node_in, row_of}
use Rattle.b2_generate.specs.Places.{rows_at, is_before, children_at, children_left}
use Rattle.b2_generate.proofs.OlderNodesStay.{entry_older, node_at}

-- a node of the code is the one at its place
pub node_listed : (listed : List Node) (place : ℕ) → slice_get listed place ≡ node_in (reverse listed) place
node_listed listed place = sym (ap (λ xs. slice_get xs place) (reverse-reverse listed)) ∙ node_at (reverse listed) place

-- where there is no node there are no rows
pub rows_none : (nodes : List Node) (place : ℕ) → node_in nodes place ≡ None → rows_at nodes place ≡ []
rows_none [] place e = refl
rows_none (n ∷ older) place e = cases (rows_none older place) (place == length older) refl e
  where
    cases : (node_in older place ≡ None → rows_at older place ≡ []) → (b : Bool) → (place == length older) ≡ b → cond b (Some n) (node_in older place) ≡ None → rows_at (n ∷ older) place ≡ []
    cases below true h f = cc
    cases below false h f = ap (λ (b : Bool). (cond b (n.name, given_by older n) (entry_in older place)).1.rows) h ∙ below f

none_beyond : (nodes : List Node) (place : ℕ) → length nodes ≤ place → node_in nodes place ≡ None
none_beyond [] place less = refl
none_beyond (n ∷ older) place less = cases (place == length older) refl (none_beyond older place (omega (arith, less)))
  where
    cases : (b : Bool) → (place == length older) ≡ b → node_in older place ≡ None → cond b (Some n) (node_in older place) ≡ None
    cases true e none = absurd (omega (arith, less, eqb-true place (length older) e))
    cases false e none = none

flat_alike : (f g : ℕ → List Row) (bound : ℕ) (places : List ℕ) → ((place : ℕ) → place < bound → f place ≡ g place) → flat_map f (filter (is_before bound) places) ≡ flat_map g (filter (is_before bound) places)
flat_alike f g bound [] alike = refl
flat_alike f g bound (place ∷ more) alike = go (is_before bound place) refl (flat_alike f g bound more alike)
  where
    go : (b : Bool) → is_before bound place ≡ b → flat_map f (filter (is_before bound) more) ≡ flat_map g (filter (is_before bound) more)
        → flat_map f (cond b (place ∷ filter (is_before bound) more) (filter (is_before bound) more)) ≡ flat_map g (cond b (place ∷ filter (is_before bound) more) (filter (is_before bound) more))
    go true e others = ap₂ ◌++◌ (alike place (ltb-true place bound e)) others
    go false e others = others

flat_before : (f : ℕ → List Row) (bound : ℕ) (places : List ℕ) → ((place : ℕ) → bound ≤ place → f place ≡ []) → flat_map f places ≡ flat_map f (filter (is_before bound) places)
flat_before f bound [] empty = refl
flat_before f bound (place ∷ more) empty = go (is_before bound place) refl (flat_before f bound more empty)
  where
    go : (b : Bool) → is_before bound place ≡ b → flat_map f more ≡ flat_map f (filter (is_before bound) more)
        → f place ++ flat_map f more ≡ flat_map f (cond b (place ∷ filter (is_before bound) more) (filter (is_before bound) more))
    go true e others = ap (λ xs. f place ++ xs) others
    go false e others = ap (λ xs. xs ++ flat_map f more) (empty place (ltb-false place bound e)) ∙ others

rows_older : (n : Node) (older : List Node) (place : ℕ) → place < length older → rows_at older place ≡ rows_at (n ∷ older) place
rows_older n older place less = sym (ap (λ entry. entry.1.rows) (entry_older n older place less))

below_count : (nodes : List Node) (place : ℕ) (n : Node) → node_in nodes place ≡ Some n → place < length nodes
below_count nodes place n e = go (nat_lt place (length nodes)) refl
  where
    go : (b : Bool) → nat_lt place (length nodes) ≡ b → place < length nodes
    go true f = ltb-true place (length nodes) f
    go false f = let none : node_in nodes place ≡ None = none_beyond nodes place (ltb-false place (length nodes) f) in cc

unsome : (a b : Node) → Some a ≡ Some b → a ≡ b
unsome a b e = cc

abbrev HasRows : List Node → ℕ → Node → Type 0
HasRows nodes place n = rows_at nodes place ≡ row_of n ∷ flat_map (rows_at nodes) (filter (is_before place) n.children)

-- the rows at a place are that of the node there, and those at the places of its children that stand before it
pub rows_some : (nodes : List Node) (place : ℕ) (n : Node) → node_in nodes place ≡ Some n → HasRows nodes place n
rows_some [] place n e = cc
rows_some (m ∷ older) place n e = cases (rows_some older place n) (place == length older) refl e
  where
    cases : (node_in older place ≡ Some n → HasRows older place n) → (b : Bool) → (place == length older) ≡ b → cond b (Some m) (node_in older place) ≡ Some n → HasRows (m ∷ older) place n
    cases below true h f =
        ap (λ (b : Bool). (cond b (m.name, given_by older m) (entry_in older place)).1.rows) h
        ∙ ap (λ xs. row_of m ∷ xs) (
        flat_before (rows_at older) (length older) m.children (λ child less. rows_none older child (none_beyond older child less))
        ∙ flat_alike (rows_at older) (rows_at (m ∷ older)) (length older) m.children (rows_older m older))
        ∙ ap₂ (λ (k : Node) (bound : ℕ). row_of k ∷ flat_map (rows_at (m ∷ older)) (filter (is_before bound) k.children)) (unsome m n f) (sym (eqb-true place (length older) h))
    cases below false h f =
        let less : place < length older = below_count older place n f in
        ap (λ (b : Bool). (cond b (m.name, given_by older m) (entry_in older place)).1.rows) h ∙ below f
        ∙ ap (λ xs. row_of n ∷ xs) (flat_alike (rows_at older) (rows_at (m ∷ older)) place n.children (λ child lower. rows_older m older child (omega (arith, lower, less))))

-- ---- turns

abbrev count : Bool → ℕ → ℕ
count t n = cond t 0 n

pub fewer : (old new : ℕ → Bool) (nodes : List Node) → ((place : ℕ) → old place ≡ true → new place ≡ true) → children_left new nodes ≤ children_left old nodes
fewer old new [] more = omega arith
fewer old new (n ∷ older) more = go (old (length older)) (new (length older)) refl refl (fewer old new older more)
  where
    go : (a b : Bool) → old (length older) ≡ a → new (length older) ≡ b → children_left new older ≤ children_left old older
        → cond (new (length older)) 0 (length n.children) + children_left new older ≤ cond (old (length older)) 0 (length n.children) + children_left old older
    go true b e f less = omega (arith, less, ap (λ (t : Bool). count t (length n.children)) (more (length older) e))
    go false true e f less = omega (arith, less, ap (λ (t : Bool). count t (length n.children)) f)
    go false false e f less = omega (arith, less, ap (λ (t : Bool). count t (length n.children)) f, ap (λ (t : Bool). count t (length n.children)) e)

left_some : (old new : ℕ → Bool) (nodes : List Node) (place : ℕ) (n : Node) → ((other : ℕ) → old other ≡ true → new other ≡ true) → old place ≡ false → new place ≡ true
    → node_in nodes place ≡ Some n → length n.children + children_left new nodes ≤ children_left old nodes
left_some old new [] place n more was is e = cc
left_some old new (m ∷ older) place n more was is e = cases (left_some old new older place n more was is) (place == length older) refl e
  where
    step : (a b : Bool) → (a ≡ true → b ≡ true) → cond b 0 (length m.children) ≤ cond a 0 (length m.children)
    step true true h = omega arith
    step true false h = let same : false ≡ true = h refl in cc
    step false true h = omega arith
    step false false h = omega arith

    cases : (node_in older place ≡ Some n → length n.children + children_left new older ≤ children_left old older) → (b : Bool) → (place == length older) ≡ b → cond b (Some m) (node_in older place) ≡ Some n
        → length n.children + (cond (new (length older)) 0 (length m.children) + children_left new older) ≤ cond (old (length older)) 0 (length m.children) + children_left old older
    cases below true h f =
        let here : place ≡ length older = eqb-true place (length older) h in
        omega (
          arith,
          fewer old new older more,
          ap (λ (k : Node). length k.children) (unsome m n f),
          ap (λ (t : Bool). count t (length m.children)) (sym (ap new here) ∙ is),
          ap (λ (t : Bool). count t (length m.children)) (sym (ap old here) ∙ was),
        )
    cases below false h f = omega (arith, below f, step (old (length older)) (new (length older)) (more (length older)))

no_more : (bound : ℕ) (places : List ℕ) → length (filter (is_before bound) places) ≤ length places
no_more bound [] = omega arith
no_more bound (place ∷ more) = go (is_before bound place) (no_more bound more)
  where
    go : (b : Bool) → length (filter (is_before bound) more) ≤ length more → length (cond b (place ∷ filter (is_before bound) more) (filter (is_before bound) more)) ≤ suc (length more)
    go true less = omega (arith, less)
    go false less = omega (arith, less)

-- what is to be opened for a place was left before
pub left_at : (old new : ℕ → Bool) (nodes : List Node) (place : ℕ) → ((other : ℕ) → old other ≡ true → new other ≡ true) → old place ≡ false → new place ≡ true
    → length (children_at nodes place) + children_left new nodes ≤ children_left old nodes
left_at old new nodes place more was is = cases (node_in nodes place) refl
  where
    cases : (o : Option Node) → node_in nodes place ≡ o → length (option_map_or (λ (n : Node). filter (is_before place) n.children) o []) + children_left new nodes ≤ children_left old nodes
    cases None e = omega (arith, fewer old new nodes more)
    cases (Some n) e = omega (arith, left_some old new nodes place n more was is e, no_more place n.children)

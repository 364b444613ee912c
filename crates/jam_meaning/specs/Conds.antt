-- Conditions.
use Rattle.std.specs.Prelude.{ℕ, Bool, true, false, not, [], ◌∷◌, ◌&&◌}
use Rattle.std.specs.List.{list_all, list_any}
use Rattle.std.specs.Str.{bytes_eq}
use Rattle.jam_grammar.specs.Trees as tree
use Rattle.jam_grammar.specs.Trees.{ExprTree, ExprTrees}
use Rattle.jam_journal.specs.Scopes.{Value}
use Rattle.jam_meaning.specs.Faults.{Spot}
use Rattle.jam_meaning.specs.States.{State}
use Rattle.jam_meaning.specs.Outcomes.{Outcome, gives, then_do, either}
use Rattle.jam_meaning.specs.Levels.{Levels}
use Rattle.jam_meaning.specs.Args.{arg, args}

-- some element is not empty
abbrev pub is_true : Value → Bool
is_true = list_any (λ text. not (bytes_eq text []))

abbrev pub is_same : Value → Value → Bool
is_same [] [] = true
is_same [] (b ∷ bs) = false
is_same (a ∷ as_) [] = false
is_same (a ∷ as_) (b ∷ bs) = bytes_eq a b && is_same as_ bs

-- each element of the first list is in the second
abbrev pub is_within : Value → Value → Bool
is_within texts among = list_all (λ text. list_any (bytes_eq text) among) texts

module _ {R : Type 0} (budget : ℕ) (deep : Levels R) where
  -- both sides of a comparison, from left to right
  abbrev pub compared : (Value → Value → Bool) → Outcome R Value → (State R → Outcome R Value) → Outcome R Bool
  compared test left right = then_do left (λ a. λ s₁. then_do (right s₁) (λ b. λ s₂. gives (test a b) s₂))

  abbrev mutual
    -- `!` negates; members of `||` and `&&` are evaluated from the left until the answer is known
    pub expr : ExprTree → Spot → State R → Outcome R Bool
    expr (tree.Or members) spot s = any_of members spot s
    expr (tree.And members) spot s = all_of members spot s
    expr (tree.Not e) spot s = then_do (expr e spot s) (λ holds. λ s₁. gives (not holds) s₁)
    expr (tree.Group e) spot s = expr e spot s
    expr (tree.Bare a) spot s = then_do (arg budget deep a spot s) (λ value. λ s₁. gives (is_true value) s₁)
    expr (tree.Equal a b) spot s = compared is_same (arg budget deep a spot s) (arg budget deep b spot)
    expr (tree.Differ a b) spot s = compared (λ x y. not (is_same x y)) (arg budget deep a spot s) (arg budget deep b spot)
    expr (tree.Within a list) spot s = compared is_within (arg budget deep a spot s) (args budget deep list spot)

    pub any_of : ExprTrees → Spot → State R → Outcome R Bool
    any_of tree.NoExprs spot s = gives false s
    any_of (tree.ExprAnd first rest) spot s = then_do (expr first spot s) (λ holds. λ s₁. either holds (λ s₂. gives true s₂) (λ s₂. any_of rest spot s₂) s₁)

    pub all_of : ExprTrees → Spot → State R → Outcome R Bool
    all_of tree.NoExprs spot s = gives true s
    all_of (tree.ExprAnd first rest) spot s = then_do (expr first spot s) (λ holds. λ s₁. either holds (λ s₂. all_of rest spot s₂) (λ s₂. gives false s₂) s₁)

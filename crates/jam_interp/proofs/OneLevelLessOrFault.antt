-- Where levels are left, one less is within; where none is, what would open one is a fault: for all that nests.
use Rattle.std.proofs.Common.{◌≡◌, ◌-◌, ◌<◌, ℕ, zero, suc, List, refl, ap, arith}
use Rattle.jam_grammar.specs.Trees.{StmtTrees, InnerTree}
use Rattle.jam_journal.specs.Tables.{Text}
use Rattle.jam_journal.specs.Scopes.{Value}
use Rattle.jam_meaning.specs.Faults.{Spot, depth}
use Rattle.jam_meaning.specs.States.{State}
use Rattle.jam_meaning.specs.Settings.{Setting}
use Rattle.jam_meaning.specs.Outcomes.{fault_at}
use Rattle.jam_meaning.specs.Eval.{levels, one_level}

pub some_left : (n : ℕ) → (n ≡ 0 → ⊥) → 0 < n
some_left n some = omega (arith, some)

module _ {R : Type 0} (setting : Setting R) where
  -- where levels are left, one less is within
  pub one_less : (n : ℕ) → 0 < n → levels setting n ≡ one_level setting (levels setting (n - 1))
  one_less zero h = absurd (omega arith)
  one_less (suc n) h = let less : suc n - 1 ≡ n = omega arith in rw less refl

  pub no_stmts : (n : ℕ) (trees : StmtTrees) (path : Text) (spot : Spot) (s : State R) → n ≡ 0 → (levels setting n).stmts trees path spot s ≡ fault_at spot depth s
  no_stmts n trees path spot s e = ap (λ k. (levels setting k).stmts trees path spot s) e

  pub no_call : (n : ℕ) (name : Text) (given : List Value) (spot : Spot) (s : State R) → n ≡ 0 → (levels setting n).call name given spot s ≡ fault_at spot depth s
  no_call n name given spot s e = ap (λ k. (levels setting k).call name given spot s) e

  pub no_bracket : (n : ℕ) (i : InnerTree) (spot : Spot) (s : State R) → n ≡ 0 → (levels setting n).bracket i spot s ≡ fault_at spot depth s
  no_bracket n i spot s e = ap (λ k. (levels setting k).bracket i spot s) e

  pub no_bracket_call : (n : ℕ) (head first : Value) (spot : Spot) (s : State R) → n ≡ 0 → (levels setting n).bracket_call head first spot s ≡ fault_at spot depth s
  no_bracket_call n head first spot s e = ap (λ k. (levels setting k).bracket_call head first spot s) e

use Rattle.std.proofs.Common.{◌≡◌, ℕ, List, subst, arith, Less, nat_cmp}
use Rattle.std.specs.List.{Contains}
use Rattle.std.specs.Cmp.Lexicographic.{slice_cmp, nat_list_cmp_total}
use Rattle.b2_plan.specs.Closures.{Value, Values, IsClosure}
use Rattle.b2_base.specs.Bytes.{Before}
use Rattle.b2_runs.specs.ClosureLaws.{ClosureIsOne}
use Rattle.b2_runs.proofs.FirstElementOrLater.{same_ordered}

pub Before_irrefl : (p : List ℕ) → Before p p → ⊥
Before_irrefl p lt = let e = nat_list_cmp_total.antisymm p p in let f : slice_cmp nat_cmp p p ≡ Less = lt in grind (arith, e)

pub Before_trans : (p q r : List ℕ) → Before p q → Before q r → Before p r
Before_trans p q r = nat_list_cmp_total.trans p q r

-- the closure is one list
pub closure_is_one : (v : Values) → ClosureIsOne v
closure_is_one v b step xs ys one p q =
    same_ordered (λ x y. Before x.0 y.0) (λ x. Before_irrefl x.0) (λ x y z. Before_trans x.0 y.0 z.0) xs ys p.ordered q.ordered
    (λ m c. moves xs ys p q m.0 m.1 c) (λ m c. moves ys xs q p m.0 m.1 c)
  where
    moves : (xs ys : List (List ℕ × Value)) → IsClosure b v step xs → IsClosure b v step ys → (path : List ℕ) (x : Value) → Contains xs (path, x) → Contains ys (path, x)
    moves xs ys p q path x c =
        let (k, h) = p.each path x c in
        let (y, d) = q.whole path k in
        subst (λ z. Contains ys (path, z)) (one path y x (q.each path y d).1 h) d

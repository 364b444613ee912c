use Rattle.std.proofs.Common.{rules, ℕ, List, subst, map}
use Rattle.std.proofs.lemmas.List.Sorted.{answers_always, All-permutation, IsPermutation-map}
use Rattle.std.specs.List.Sorted.{IsPermutation}
use Rattle.b2_looks.specs.Numbers.{number_in, HasPath, is_before}
use Rattle.b2_looks.proofs.FilesAreNumbered.{ranks}
use Rattle.b2_looks.proofs.step_files.by_path.Goals as goal

pub returns-clause-numbers : goal.returns-clause-numbers
returns-clause-numbers c = subst (λ (ns : List ℕ). IsPermutation ns (map number_in c.sort_by.new.self.items)) c.in_ok-named.ensures.numbers (IsPermutation-map number_in c.in_ok-named.named.items c.sort_by.new.self.items c.in_ok-sort_by.ensures.permutation)

pub returns-clause-paths : goal.returns-clause-paths
returns-clause-paths c = All-permutation (HasPath c.args.facts.now) c.in_ok-named.named.items c.sort_by.new.self.items c.in_ok-sort_by.ensures.permutation c.in_ok-named.ensures.paths

pub returns-clause-sorted : goal.returns-clause-sorted
returns-clause-sorted c =
    let compares = answers_always _ _ _ (λ f a r g h. search rules) in
    c.in_ok-sort_by.ensures.sorted is_before ranks compares

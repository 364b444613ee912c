use Rattle.std.proofs.Common.{rules, map, ◌≡◌}
use Rattle.std.proofs.lemmas.Iterator.{YieldsList-from_slice}
use Rattle.std.proofs.lemmas.Iterator.Consumers.{map_from_collect}
use Rattle.std.proofs.lemmas.List.Sorted.{answers_always}
use Rattle.std.proofs.lemmas.Result.{IfOk-at_ok}
use Rattle.b2_files.specs.Stores.{input_of}
use Rattle.b2_memory.proofs.SortingPutsInputsByPath.{below, below_ranks, held_in_order}
use Rattle.b2_memory.proofs.made.sorted.Goals as goal

pub returns : goal.returns
returns c =
    let held = c.args.held.now in
    let collected = IfOk-at_ok (λ inputs. map (λ entry. entry.now) inputs.items ≡ held) c.in_ok-inputs.was (map_from_collect _ c.collect.ensures.ran (YieldsList-from_slice held cc)) in
    let compares = answers_always _ _ _ (λ f a r g h. search rules) in
    held_in_order held _ _ collected (c.in_ok-sort_by.ensures.sorted (below input_of) (below_ranks input_of) compares) (c.sort_by.ensures.stable (below input_of) (below_ranks input_of) compares)

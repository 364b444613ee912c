use Rattle.std.proofs.Common.{ap, ◌∙◌}
use Rattle.jam_natives.specs.Texts.{sorted}
use Rattle.jam_natives.proofs.StableSortPutsInPlace.{sorted_from_sort}
use Rattle.jam_natives.proofs.texts.sorted.Goals as goal

pub returns-clause-exact : goal.returns-clause-exact
returns-clause-exact c =
    c.from_vec.ensures ∙ sorted_from_sort c.into_vec-made.result.items c.sort.new.self.items c.in_ok-sort.ensures.sorted c.sort.ensures.stable
    ∙ ap sorted (c.into_vec-made.ensures ∙ c.in_ok-copies.ensures)

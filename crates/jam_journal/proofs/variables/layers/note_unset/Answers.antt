use Rattle.std.proofs.Common.{◌++◌, reverse, ap, sym, ◌∙◌}
use Rattle.jam_journal.specs.Stacks.{entries_of, unset_by}
use Rattle.jam_journal.specs.Layers.{layers_of}
use Rattle.jam_journal.proofs.UnsetNamesHaveNoVariable.{unset_then, noted_then}
use Rattle.jam_journal.proofs.TheNewestStandsLast.{layers_push}
use Rattle.jam_journal.proofs.variables.layers.note_unset.Goals as goal

pub layers-preserved : goal.layers-preserved
layers-preserved c =
    let home = c.args.home.now in
    let owner = c.layers.owner.now in
    let entries = reverse c.as_slice.result.now in
    let older = entries_of (layers_of c.in-Some.older.now) in
    let order = ap layers_of c.in-Some.ensures.cases.0 ∙ layers_push c.in-Some.older.now c.in-Some.newest.now in
    record {
      utf8 = c.in_ok-owner.ensures.utf8;
      rest = λ all more.
          c.layers.invariant.rest all (noted_then c.layers.unset c.note_unset.new.unset all (unset_by home owner entries) (unset_by home c.in_ok-owner.owner.now older)
          (unset_by home owner (entries_of (layers_of c.layers.left.now))) c.in_ok-owner.ensures.noted more
          (ap (λ l. unset_by home owner (entries_of l)) order ∙ ap (λ l. unset_by home owner (reverse l ++ older)) (sym c.as_slice.ensures.value)
          ∙ unset_then home owner entries older ∙ ap (λ o. unset_by home owner entries ++ unset_by home o older) (sym c.in_ok-owner.ensures.owner)));
    }

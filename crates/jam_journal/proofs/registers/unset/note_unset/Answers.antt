use Rattle.std.proofs.Common.{◌≡◌, [], ◌∷◌, ◌++◌, reverse, ap, sym, ◌∙◌}
use Rattle.jam_journal.specs.Stacks.{owner_before, unset_by}
use Rattle.jam_journal.proofs.NotedChangesKeepThePast.{reverse_push}
use Rattle.jam_journal.proofs.UnsetNamesHaveNoVariable.{owner_then, unset_then, noted_then}
use Rattle.jam_journal.proofs.registers.unset.note_unset.Goals as goal

pub entries-preserved : goal.entries-preserved
entries-preserved c =
    let home = c.args.home.now in
    let left = c.entries.left.now in
    let owner = c.entries.owner.now in
    let newest = c.in-Some.newest.now in
    let older = reverse c.in-Some.older.now in
    let order : reverse left ≡ newest ∷ older = ap reverse c.in-Some.ensures.cases.0 ∙ reverse_push c.in-Some.older.now newest in
    record {
      owner = c.entries.invariant.owner ∙ ap (owner_before owner) order ∙ owner_then owner (newest ∷ []) older ∙ ap (λ o. owner_before o older) (sym c.in_ok-owner.ensures.owner);
      utf8 = c.in_ok-owner.ensures.utf8;
      rest = λ all more.
          c.entries.invariant.rest all (noted_then c.entries.unset c.note_entry.new.unset all (unset_by home owner (newest ∷ [])) (unset_by home c.in_ok-owner.owner.now older)
          (unset_by home owner (reverse left)) c.in_ok-owner.ensures.noted more
          (ap (unset_by home owner) order ∙ unset_then home owner (newest ∷ []) older ∙ ap (λ o. unset_by home owner (newest ∷ []) ++ unset_by home o older) (sym c.in_ok-owner.ensures.owner)));
    }

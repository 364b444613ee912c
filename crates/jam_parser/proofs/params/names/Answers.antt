use Rattle.std.proofs.Common.{◌∷◌, [], length, ap, ◌∙◌, arith}
use Rattle.std.specs.Prelude.{codes}
use Rattle.std.specs.Str.{bytes_eq}
use Rattle.jam_grammar.specs.Grammar.{Names, NameTail}
use Rattle.jam_grammar.proofs.MarkTellsWhatTokenSays.{name_no_star}
use Rattle.jam_parser.specs.Params.{after_name}
use Rattle.jam_parser.proofs.ReadingsCompose.{composed}
use Rattle.jam_parser.proofs.ParametersAreReadInTurn.{still_names, more_names, name_comes, nothing_least}
use Rattle.jam_parser.proofs.params.names.Goals as goal

pub each-smaller : goal.each-smaller
each-smaller c =
    let at = c.in-Some.ensures in
    let mark = c.mark_after-mark in
    omega (arith, (mark.ensures 0).shorter, nothing_least mark.result.1, ap length at.1)

pub each-preserved : goal.each-preserved
each-preserved c =
    let d = c.args.depth in
    let left = c.each.left.now in
    let old = c.each.found.items in
    let new = c.push.new.self.items in
    let at = c.in-Some.ensures in
    let mark = c.mark_after-mark in
    let name = c.in_ok-name.name in
    let first = c.in-Some.first.now in
    let inv = c.each.invariant in
    let grown = c.in_ok-push.ensures.items in
    record {
      comes = rw (more_names old new record { name = name; mark = mark.result.0 } grown)
          (composed (Names ∷ []) (after_name c.each.may_come) (after_name mark.result.1) d inv.comes
          (composed (after_name c.each.may_come) (NameTail ∷ []) (after_name mark.result.1) d
          (name_comes c.each.may_come first left c.in-Some.after.now name d at.0 at.1 at.2 c.in_ok-name.ensures) (mark.ensures d)));
      named = still_names old new record { name = name; mark = mark.result.0 } grown (ap (λ x. bytes_eq x (codes "*")) c.in_ok-name.ensures ∙ name_no_star first at.2);
    }

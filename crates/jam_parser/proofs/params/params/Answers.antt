use Rattle.std.proofs.Common.{◌∷◌, []}
use Rattle.jam_grammar.specs.Grammar.{Params}
use Rattle.jam_parser.specs.Params.{after_list}
use Rattle.jam_parser.proofs.ReadingsCompose.{composed}
use Rattle.jam_parser.proofs.ParametersAreReadInTurn.{more_lists, list_comes}
use Rattle.jam_parser.proofs.params.params.Goals as goal

pub colon-preserved : goal.colon-preserved
colon-preserved c =
    let d = c.args.depth in
    let left = c.colon.left.now in
    let inv = c.colon.invariant in
    rw (more_lists c.args.rest.now left c.colon.found.items c.push-in-Some.new.self.items c.in_ok-one.one inv.spells c.in_ok-push-2.ensures.items)
    (composed (Params ∷ []) (after_list c.colon.last) (after_list c.in_ok-one.now_last) d inv
    (composed (after_list c.colon.last) (Params ∷ []) (after_list c.in_ok-one.now_last) d
    (list_comes c.colon.last left c.in-Some.after.now d c.in-Some.ensures.0 c.in-Some.ensures.1) c.in_ok-one.ensures))

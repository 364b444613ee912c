use Rattle.std.proofs.Common.{arith, ◌≡◌, ◌++◌, ◌∷◌, [], ap, sym, ◌∙◌, length, reverse, subst}
use Rattle.b2_generate.specs.Turning.{IsCompleted}
use Rattle.b2_generate.proofs.NewNodeIsDatedRightly.{completes}
use Rattle.b2_generate.proofs.completing.Nodes.complete.Goals as goal

pub returns : goal.returns
returns c = λ d ready set.
    let items = c.args.self.now.list.items in
    let place_is : c.len-place.result ≡ length c.args.self.now.list.items = omega (arith, c.len-place.ensures, c.args.self.now.list.ok.0) in
    subst (λ place. IsCompleted d (reverse items) c.args.frame.now c.args.made (reverse c.push.new.self.items) c.note.new.self.firsts place) (sym place_is)
    (completes d items c.push.new.self.items c.args.frame.now c.args.made c.in_ok-node.node c.args.self.now.firsts c.note.new.self.firsts c.in_ok-noted.noted.latest c.requires
    (c.in_ok-push.ensures.items ∙ ap (λ xs. xs ++ c.in_ok-node.node ∷ []) c.note.ensures.same) c.in_ok-node.ensures c.in_ok-noted.ensures.noted c.in_ok-noted.ensures.latest ready set)

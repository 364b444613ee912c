use Rattle.std.proofs.Common.{◌∙◌, ap, sym, cond, true, is_some}
use Rattle.std.specs.FinMap.{get, get-empty}
use Rattle.std.specs.Ordering.{nat_cmp}
use Rattle.std.specs.Cmp.Lexicographic.{slice_cmp}
use Rattle.std.specs.Str.{bytes_eq}
use Rattle.b2_references.proofs.LoopsTakeOneMore.{known_put, any_next}
use Rattle.b2_references.proofs.projects.known_names.Goals as goal

pub loop-name-init : goal.loop-name-init
loop-name-init c = λ name. ap is_some (ap (λ m. get m name) c.new-made.ensures ∙ get-empty (slice_cmp nat_cmp) name)

pub loop-name-preserved : goal.loop-name-preserved
loop-name-preserved c = λ name.
    ap (λ m. is_some (get m name)) c.in_ok-_before.ensures.ok ∙ known_put c.loop-name.made c.in_ok-copy.field-0 name
    ∙ ap (λ t. cond (bytes_eq name t) true (is_some (get c.loop-name.made name))) c.in_ok-copy.ensures ∙ ap (cond (bytes_eq name c.name-item.result) true) (c.loop-name.invariant name)
    ∙ sym (any_next c.args.names.now c.loop-name.name-index c.name-item.result c.loop-name-test.true c.name-item.is (bytes_eq name))

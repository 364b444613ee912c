use Rattle.std.proofs.Common.{◌∙◌, ap, sym, subst}
use Rattle.b2_base.specs.Bytes.{HasNoZero}
use Rattle.b2_virtual.proofs.PiecesBringNoZero.{clean_both, clean_root, clean_nothing, clean_ups}
use Rattle.b2_virtual.proofs.tails.shown_tail.Goals as goal
use Rattle.b2_virtual.proofs.tails.shown_tail.Goals.{then-is_rooted, else-is_rooted}

pub path_of-requires : goal.path_of-requires
path_of-requires c =
    let root : HasNoZero c.if-is_rooted.root.now =
    elim c.if-is_rooted.branch [
      | then-is_rooted w ↦ subst HasNoZero (sym (ap (λ r. r.now) w.root-is)) clean_root
      | else-is_rooted w ↦ subst HasNoZero (sym (ap (λ r. r.now) w.root-is)) clean_nothing
    ] in
    subst HasNoZero (sym (c.as_str.ensures.value ∙ c.in_ok-text.ensures.ok))
    (clean_both c.if-is_rooted.root.now _ root (subst HasNoZero (sym c.in_ok-rest.ensures) (clean_ups c.as_str-text.result.now (subst HasNoZero (sym c.as_str-text.ensures.value) c.as_str-text.ensures.no_zero))))

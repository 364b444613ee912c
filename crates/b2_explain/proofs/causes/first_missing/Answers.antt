use Rattle.std.proofs.Common.{◌+◌, get_or, take, sym, subst}
use Rattle.std.proofs.lemmas.List.{take_all}
use Rattle.std.proofs.lemmas.List.Elements.{Contains-get_or}
use Rattle.b2_reach.specs.Reaches.{IsMissingMember}
use Rattle.b2_explain.proofs.FirstMembers.{IsMissingFile, IsBest, best_skips, best_takes, missing_parts, missing_whole}
use Rattle.b2_explain.proofs.CausesAreTold.{not_missing, best_told}
use Rattle.b2_explain.proofs.causes.first_missing.Goals as goal
use Rattle.b2_explain.proofs.causes.first_missing.Goals.{then-is_missing, else-is_missing}

pub file-requires : goal.file-requires
file-requires c = c.requires (get_or c.args.members.now c.loop-number.number-index 0) (Contains-get_or c.args.members.now c.loop-number.number-index 0 c.loop-number-test.true)

pub loop-number-preserved : goal.loop-number-preserved
loop-number-preserved c =
    let f = c.args.facts.now in
    let ns = c.args.members.now in
    let i = c.loop-number.number-index in
    let low = c.loop-number-test.true in
    elim c.if-is_missing.branch [
      | then-is_missing w ↦ subst (IsBest f (IsMissingFile f) (take (i + 1) ns)) (sym w.best-is) (best_takes f (IsMissingFile f) ns i 0 low c.loop-number.best w.first_of_two.result (c.requires (get_or ns i 0) (Contains-get_or ns i 0 low))
          (c.file.result.now, c.file.ensures, c.is_missing.ensures.0 w.if-is_missing.true) w.first_of_two.ensures.either w.first_of_two.ensures.not_after w.first_of_two.ensures.not_after_best c.loop-number.invariant)
      | else-is_missing w ↦ subst (IsBest f (IsMissingFile f) (take (i + 1) ns)) (sym w.best-is) (best_skips f (IsMissingFile f) ns i 0 low c.loop-number.best (not_missing f (get_or ns i 0) c.file.result.now c.is_missing.result c.file.ensures c.is_missing.ensures w.if-is_missing.false) c.loop-number.invariant)
    ]

pub returns : goal.returns
returns c =
    let f = c.args.facts.now in
    let ns = c.args.members.now in
    best_told f (IsMissingFile f) (IsMissingMember f ns) ns c.loop-number.best (missing_parts f ns) (missing_whole f ns) (subst (λ l. IsBest f (IsMissingFile f) l c.loop-number.best) (take_all c.loop-number.number-index ns c.loop-number-test.false) c.loop-number.invariant)

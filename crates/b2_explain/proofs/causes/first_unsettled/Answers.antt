use Rattle.std.proofs.Common.{◌+◌, get_or, take, sym, subst}
use Rattle.std.proofs.lemmas.List.{take_all}
use Rattle.std.proofs.lemmas.List.Elements.{Contains-get_or}
use Rattle.b2_explain.specs.Sights.{IsUnsettledMember}
use Rattle.b2_explain.proofs.FirstMembers.{IsUnsettledFile, IsBest, best_skips, best_takes, unsettled_parts, unsettled_whole}
use Rattle.b2_explain.proofs.CausesAreTold.{not_unsettled, best_told}
use Rattle.b2_explain.proofs.causes.first_unsettled.Goals as goal
use Rattle.b2_explain.proofs.causes.first_unsettled.Goals.{then-is_unsettled, else-is_unsettled}

pub file-requires : goal.file-requires
file-requires c = c.requires.numbers (get_or c.args.members.now c.loop-number.number-index 0) (Contains-get_or c.args.members.now c.loop-number.number-index 0 c.loop-number-test.true)

pub first_of_two-requires-clause-number : goal.first_of_two-requires-clause-number
first_of_two-requires-clause-number c = c.requires.numbers (get_or c.args.members.now c.loop-number.number-index 0) (Contains-get_or c.args.members.now c.loop-number.number-index 0 c.loop-number-test.true)

pub loop-number-preserved : goal.loop-number-preserved
loop-number-preserved c =
    let s = c.args.sched.now in
    let f = c.args.facts.now in
    let ns = c.args.members.now in
    let i = c.loop-number.number-index in
    let low = c.loop-number-test.true in
    elim c.if-is_unsettled.branch [
      | then-is_unsettled w ↦ subst (IsBest f (IsUnsettledFile s f) (take (i + 1) ns)) (sym w.best-is) (best_takes f (IsUnsettledFile s f) ns i 0 low c.loop-number.best w.first_of_two.result (c.requires.numbers (get_or ns i 0) (Contains-get_or ns i 0 low))
          (c.file.result.now, c.file.ensures, c.is_unsettled.ensures.0 w.if-is_unsettled.true) w.first_of_two.ensures.either w.first_of_two.ensures.not_after w.first_of_two.ensures.not_after_best c.loop-number.invariant)
      | else-is_unsettled w ↦ subst (IsBest f (IsUnsettledFile s f) (take (i + 1) ns)) (sym w.best-is) (best_skips f (IsUnsettledFile s f) ns i 0 low c.loop-number.best (not_unsettled s f (get_or ns i 0) c.file.result.now c.is_unsettled.result c.file.ensures c.is_unsettled.ensures w.if-is_unsettled.false) c.loop-number.invariant)
    ]

pub returns : goal.returns
returns c =
    let s = c.args.sched.now in
    let f = c.args.facts.now in
    let ns = c.args.members.now in
    best_told f (IsUnsettledFile s f) (IsUnsettledMember s f ns) ns c.loop-number.best (unsettled_parts s f ns) (unsettled_whole s f ns) (subst (λ l. IsBest f (IsUnsettledFile s f) l c.loop-number.best) (take_all c.loop-number.number-index ns c.loop-number-test.false) c.loop-number.invariant)

use Rattle.std.proofs.Common.{◌++◌, sym, ap, ◌∙◌}
use Rattle.std.specs.FinMap.{get, insert}
use Rattle.std.proofs.lemmas.Result.{on_ok_weaker, on_err_weaker}
use Rattle.jam_journal.specs.declared.registers.Cell.{Cell}
use Rattle.jam_journal.specs.Tables.{put}
use Rattle.jam_journal.specs.Stacks.{value_of, stamp_of, put_cell}
use Rattle.jam_journal.proofs.ReplacingTouchesOnePair.{put_own}
use Rattle.jam_journal.proofs.GoingBackUndoesSetting.{replaced_twice}
use Rattle.jam_journal.proofs.registers.growing.extend.Goals as goal

pub returns-in-Some-clause-ok : goal.returns-in-Some-clause-ok
returns-in-Some-clause-ok c =
    let r = c.args.registers.now in
    let name = c.args.name.now in
    let new : Cell = record { value = c.joined-value.result.0; stamp = c.in-Some.cell.stamp } in
    let got = sym (ap (λ o. get r.cells (o, name)) c.as_str.ensures) ∙ sym c.replace.ensures.before ∙ c.in-Some.is in
    on_ok_weaker c.joined-value.result.1
    (λ e.
    ap (λ cells. record r { cells = cells })
    (replaced_twice r.cells c.replace.new.self c.replace-in-Some.new.self r.owner c.as_str.result.now c.as_str-in-Some.result.now name c.in-Some.cell (record { value = c.new.result; stamp = c.args.stamp }) new
    got c.as_str.ensures c.replace.ensures.after c.as_str-in-Some.ensures c.replace-in-Some.ensures.after)
    ∙ (λ i. put_cell r (r.owner, name) (record {
      value = (e ∙ (λ j. sym (ap value_of got) j ++ c.in_ok-more.ensures j)) i;
      stamp = (sym (ap stamp_of got) ∙ c.requires) i;
    })))
    c.joined-value.ensures.ok

pub returns-in-Some-clause-err : goal.returns-in-Some-clause-err
returns-in-Some-clause-err c =
    let r = c.args.registers.now in
    let name = c.args.name.now in
    let new : Cell = record { value = c.joined-value.result.0; stamp = c.in-Some.cell.stamp } in
    let got = sym (ap (λ o. get r.cells (o, name)) c.as_str.ensures) ∙ sym c.replace.ensures.before ∙ c.in-Some.is in
    on_err_weaker c.joined-value.result.1
    (λ e. ap (λ cells. record r { cells = cells })
    (replaced_twice r.cells c.replace.new.self c.replace-in-Some.new.self r.owner c.as_str.result.now c.as_str-in-Some.result.now name c.in-Some.cell (record { value = c.new.result; stamp = c.args.stamp }) new
    got c.as_str.ensures c.replace.ensures.after c.as_str-in-Some.ensures c.replace-in-Some.ensures.after
    ∙ (λ i. insert r.cells (r.owner, name) (record { value = e i; stamp = c.in-Some.cell.stamp }))
    ∙ ap (put r.cells (r.owner, name)) (sym got) ∙ put_own r.cells (r.owner, name)))
    c.joined-value.ensures.err

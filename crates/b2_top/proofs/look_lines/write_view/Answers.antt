use Rattle.std.proofs.Common.{◌∙◌, sym, ap, subst}
use Rattle.std.proofs.lemmas.List.Folds.{flat_map-map}
use Rattle.b2_generate.specs.Planning.{Line}
use Rattle.b2_request_plan.specs.Plans.{seen}
use Rattle.b2_request_plan.specs.declared.planned.Built.{Built}
use Rattle.b2_top.specs.Looks.{row_line, table_lines, steps_lines, view_lines}
use Rattle.b2_top.specs.Writing.{Writes}
use Rattle.b2_top.proofs.look_lines.write_view.Goals as goal

abbrev line_of : Built → Line
line_of b = record { target = b.target; alternative = b.alternative; set = b.set }

pub returns-in-Steps : goal.returns-in-Steps
returns-in-Steps g c =
    let x = g.S.Sink.output c.args.out.now in
    let y = g.S.Sink.output c.write_steps.new.out in
    subst (λ t. Writes t x y c.write_steps.result) (ap steps_lines c.as_slice.ensures ∙ ap (λ v. view_lines v (seen c.args.planned.now)) (sym c.in-Steps.is)) c.write_steps.ensures

pub returns-in-Table : goal.returns-in-Table
returns-in-Table g c =
    let x = g.S.Sink.output c.args.out.now in
    let y = g.S.Sink.output c.write_table.new.out in
    let table = c.args.planned.now.table in
    subst (λ t. Writes t x y c.write_table.result)
    (ap table_lines c.as_slice-in-Table.ensures ∙ sym (flat_map-map row_line line_of table) ∙ ap (λ v. view_lines v (seen c.args.planned.now)) (sym c.in-Table.is)) c.write_table.ensures

use Rattle.std.proofs.Common.{◌<◌, ℕ, ◌+◌, ◌*◌, drop}
use Rattle.jam_effects.specs.Does.{LeadsOn}
use Rattle.jam_interp.specs.FunctionParts.{args_at, lists_at, any_of_at, all_of_at, stmts_at, rounds_at, while_at, transformed_at, filtered_at, args_rest, lists_rest, transformed_rest, filtered_rest, while_rest}
use Rattle.jam_interp.proofs.+evaluation.Given as goal

abbrev pub decreases-arguments::arg : goal.decreases-arguments::arg
decreases-arguments::arg g l = 5000 * (l.turns.now.left + l.at.now.levels) + (1)

abbrev pub decreases-arguments::bracket : goal.decreases-arguments::bracket
decreases-arguments::bracket g l = 5000 * (l.turns.now.left + l.at.now.levels) + (0)

abbrev pub decreases-arguments::inside : goal.decreases-arguments::inside
decreases-arguments::inside g l = 5000 * (l.turns.now.left + l.at.now.levels) + (6 + 2 * l.nested)

abbrev pub decreases-arguments::on_inside : goal.decreases-arguments::on_inside
decreases-arguments::on_inside g l = 5000 * (l.turns.now.left + l.at.now.levels) + (5 + 2 * l.nested)

abbrev pub decreases-arguments::on_return : goal.decreases-arguments::on_return
decreases-arguments::on_return g l = 5000 * (l.turns.now.left + l.at.now.levels) + (5)

abbrev pub decreases-arguments::args : goal.decreases-arguments::args
decreases-arguments::args g l = 5000 * (l.turns.now.left + l.at.now.levels) + (2)

abbrev pub decreases-arguments::lists : goal.decreases-arguments::lists
decreases-arguments::lists g l = 5000 * (l.turns.now.left + l.at.now.levels) + (3)

abbrev pub decreases-calls::call_of : goal.decreases-calls::call_of
decreases-calls::call_of g l = 5000 * (l.turns.now.left + l.at.now.levels) + (4)

abbrev pub decreases-calls::call_head : goal.decreases-calls::call_head
decreases-calls::call_head g l = 5000 * (l.turns.now.left + l.at.now.levels) + (1)

abbrev pub decreases-calls::call : goal.decreases-calls::call
decreases-calls::call g l = 5000 * (l.turns.now.left + l.at.now.levels) + (0)

abbrev pub decreases-calls::applied : goal.decreases-calls::applied
decreases-calls::applied g l = 5000 * (l.turns.now.left + l.at.now.levels) + (4)

abbrev pub decreases-calls::ruled : goal.decreases-calls::ruled
decreases-calls::ruled g l = 5000 * (l.turns.now.left + l.at.now.levels) + (3)

abbrev pub decreases-calls::run_rule : goal.decreases-calls::run_rule
decreases-calls::run_rule g l = 5000 * (l.turns.now.left + l.at.now.levels) + (2)

abbrev pub decreases-calls::unruled : goal.decreases-calls::unruled
decreases-calls::unruled g l = 5000 * (l.turns.now.left + l.at.now.levels) + (3)

abbrev pub decreases-calls::stepped : goal.decreases-calls::stepped
decreases-calls::stepped g l = 5000 * (l.turns.now.left + l.at.now.levels) + (2)

abbrev pub decreases-calls::transformed : goal.decreases-calls::transformed
decreases-calls::transformed g l = 5000 * (l.turns.now.left + l.at.now.levels) + (1)

abbrev pub decreases-calls::filtered : goal.decreases-calls::filtered
decreases-calls::filtered g l = 5000 * (l.turns.now.left + l.at.now.levels) + (1)

abbrev pub decreases-calls::bracket_call : goal.decreases-calls::bracket_call
decreases-calls::bracket_call g l = 5000 * (l.turns.now.left + l.at.now.levels) + (0)

abbrev pub decreases-conditions::expr : goal.decreases-conditions::expr
decreases-conditions::expr g l = 5000 * (l.turns.now.left + l.at.now.levels) + (6 + 4 * l.nested)

abbrev pub decreases-conditions::within_expr : goal.decreases-conditions::within_expr
decreases-conditions::within_expr g l = 5000 * (l.turns.now.left + l.at.now.levels) + (3 + 4 * l.nested)

abbrev pub decreases-conditions::any_of : goal.decreases-conditions::any_of
decreases-conditions::any_of g l = 5000 * (l.turns.now.left + l.at.now.levels) + (4 + 4 * l.nested)

abbrev pub decreases-conditions::all_of : goal.decreases-conditions::all_of
decreases-conditions::all_of g l = 5000 * (l.turns.now.left + l.at.now.levels) + (4 + 4 * l.nested)

abbrev pub decreases-conditions::bare : goal.decreases-conditions::bare
decreases-conditions::bare g l = 5000 * (l.turns.now.left + l.at.now.levels) + (2)

abbrev pub decreases-conditions::same : goal.decreases-conditions::same
decreases-conditions::same g l = 5000 * (l.turns.now.left + l.at.now.levels) + (3)

abbrev pub decreases-conditions::among_list : goal.decreases-conditions::among_list
decreases-conditions::among_list g l = 5000 * (l.turns.now.left + l.at.now.levels) + (3)

abbrev pub decreases-statements::stmts : goal.decreases-statements::stmts
decreases-statements::stmts g l = 5000 * (l.turns.now.left + l.levels) + (1)

abbrev pub decreases-statements::started : goal.decreases-statements::started
decreases-statements::started g l = 5000 * (l.turns.now.left + l.levels) + (0)

abbrev pub decreases-statements::form : goal.decreases-statements::form
decreases-statements::form g l = 5000 * (l.turns.now.left + l.at.now.levels) + (4200)

abbrev pub decreases-statements::set_form : goal.decreases-statements::set_form
decreases-statements::set_form g l = 5000 * (l.turns.now.left + l.at.now.levels) + (4150)

abbrev pub decreases-statements::block : goal.decreases-statements::block
decreases-statements::block g l = 5000 * (l.turns.now.left + l.at.now.levels) + (1)

abbrev pub decreases-statements::deeper : goal.decreases-statements::deeper
decreases-statements::deeper g l = 5000 * (l.turns.now.left + l.at.now.levels) + (0)

abbrev pub decreases-statements::local : goal.decreases-statements::local
decreases-statements::local g l = 5000 * (l.turns.now.left + l.at.now.levels) + (4100)

abbrev pub decreases-statements::local_value : goal.decreases-statements::local_value
decreases-statements::local_value g l = 5000 * (l.turns.now.left + l.at.now.levels) + (3)

abbrev pub decreases-statements::assign : goal.decreases-statements::assign
decreases-statements::assign g l = 5000 * (l.turns.now.left + l.at.now.levels) + (4100)

abbrev pub decreases-statements::assign_on : goal.decreases-statements::assign_on
decreases-statements::assign_on g l = 5000 * (l.turns.now.left + l.at.now.levels) + (4100)

abbrev pub decreases-statements::include : goal.decreases-statements::include
decreases-statements::include g l = 5000 * (l.turns.now.left + l.at.now.levels) + (4100)

abbrev pub decreases-statements::returned : goal.decreases-statements::returned
decreases-statements::returned g l = 5000 * (l.turns.now.left + l.at.now.levels) + (4100)

abbrev pub decreases-statements::if_form : goal.decreases-statements::if_form
decreases-statements::if_form g l = 5000 * (l.turns.now.left + l.at.now.levels) + (4100)

abbrev pub decreases-statements::for_form : goal.decreases-statements::for_form
decreases-statements::for_form g l = 5000 * (l.turns.now.left + l.at.now.levels) + (4100)

abbrev pub decreases-statements::while_form : goal.decreases-statements::while_form
decreases-statements::while_form g l = 5000 * (l.turns.now.left + l.at.now.levels) + (4100)

abbrev pub decreases-statements::switch : goal.decreases-statements::switch
decreases-statements::switch g l = 5000 * (l.turns.now.left + l.at.now.levels) + (4100)

abbrev pub decreases-statements::module : goal.decreases-statements::module
decreases-statements::module g l = 5000 * (l.turns.now.left + l.at.now.levels) + (4100)

abbrev pub decreases-statements::on_form : goal.decreases-statements::on_form
decreases-statements::on_form g l = 5000 * (l.turns.now.left + l.at.now.levels) + (4100)

abbrev pub decreases-statements::called : goal.decreases-statements::called
decreases-statements::called g l = 5000 * (l.turns.now.left + l.at.now.levels) + (4100)

abbrev pub decreases-statements::included : goal.decreases-statements::included
decreases-statements::included g l = 5000 * (l.turns.now.left + l.at.now.levels) + (2)

abbrev pub decreases-statements::other : goal.decreases-statements::other
decreases-statements::other g l = 5000 * (l.turns.now.left + l.at.now.levels) + (2)

abbrev pub decreases-statements::rounds : goal.decreases-statements::rounds
decreases-statements::rounds g l = 5000 * (l.turns.now.left + l.at.now.levels) + (2)

abbrev pub invariant-arguments::args-each : goal.invariant-arguments::args-each
invariant-arguments::args-each g l =
    LeadsOn g.N.Natives.kept g.N.Natives.meaning g.F.Files.outside (args_at l.args l.at) (args_rest l.gathered (drop l.one-index l.args) l.at)
    l.fn.world l.fn.turns l.fn.natives l.fn.files l.world l.turns l.natives l.files

abbrev pub invariant-arguments::lists-each : goal.invariant-arguments::lists-each
invariant-arguments::lists-each g l =
    LeadsOn g.N.Natives.kept g.N.Natives.meaning g.F.Files.outside (lists_at l.lists l.at) (lists_rest l.made (drop l.list-index l.lists) l.at)
    l.fn.world l.fn.turns l.fn.natives l.fn.files l.world l.turns l.natives l.files

abbrev pub invariant-calls::transformed-each : goal.invariant-calls::transformed-each
invariant-calls::transformed-each g l =
    LeadsOn g.N.Natives.kept g.N.Natives.meaning g.F.Files.outside (transformed_at l.rule l.items l.at) (transformed_rest l.rule l.gathered (drop l.item-index l.items) l.at)
    l.fn.world l.fn.turns l.fn.natives l.fn.files l.world l.turns l.natives l.files

abbrev pub invariant-calls::filtered-each : goal.invariant-calls::filtered-each
invariant-calls::filtered-each g l =
    LeadsOn g.N.Natives.kept g.N.Natives.meaning g.F.Files.outside (filtered_at l.rule l.items l.at) (filtered_rest l.rule l.kept (drop l.item-index l.items) l.at)
    l.fn.world l.fn.turns l.fn.natives l.fn.files l.world l.turns l.natives l.files

abbrev pub invariant-conditions::any_of-each : goal.invariant-conditions::any_of-each
invariant-conditions::any_of-each g l =
    LeadsOn g.N.Natives.kept g.N.Natives.meaning g.F.Files.outside (any_of_at l.members l.at) (any_of_at (drop l.member-index l.members) l.at)
    l.fn.world l.fn.turns l.fn.natives l.fn.files l.world l.turns l.natives l.files

abbrev pub invariant-conditions::all_of-each : goal.invariant-conditions::all_of-each
invariant-conditions::all_of-each g l =
    LeadsOn g.N.Natives.kept g.N.Natives.meaning g.F.Files.outside (all_of_at l.members l.at) (all_of_at (drop l.member-index l.members) l.at)
    l.fn.world l.fn.turns l.fn.natives l.fn.files l.world l.turns l.natives l.files

abbrev pub invariant-statements::stmts-each : goal.invariant-statements::stmts-each
invariant-statements::stmts-each g l =
    LeadsOn g.N.Natives.kept g.N.Natives.meaning g.F.Files.outside (stmts_at l.stmts l.path l.levels) (stmts_at (drop l.stmt-index l.stmts) l.path l.levels)
    l.fn.world l.fn.turns l.fn.natives l.fn.files l.world l.turns l.natives l.files

abbrev pub invariant-statements::rounds-each : goal.invariant-statements::rounds-each
invariant-statements::rounds-each g l =
    LeadsOn g.N.Natives.kept g.N.Natives.meaning g.F.Files.outside (rounds_at l.name l.texts l.inner l.at) (rounds_at l.name (drop l.text-index l.texts) l.inner l.at)
    l.fn.world l.fn.turns l.fn.natives l.fn.files l.world l.turns l.natives l.files

abbrev pub invariant-statements::while_form-round : goal.invariant-statements::while_form-round
invariant-statements::while_form-round g l =
    (most : ℕ) × (l.turns.left < most)
    × LeadsOn g.N.Natives.kept g.N.Natives.meaning g.F.Files.outside (while_at l.test l.inner l.at) (while_rest most l.test l.inner l.at) l.fn.world l.fn.turns l.fn.natives l.fn.files l.world l.turns l.natives l.files

abbrev pub decreases-statements::while_form-round : goal.decreases-statements::while_form-round
decreases-statements::while_form-round g l = l.turns.left

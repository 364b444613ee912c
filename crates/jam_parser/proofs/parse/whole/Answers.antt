use Rattle.std.proofs.Common.{◌≡◌, [], ◌∷◌, refl, sym, ap, ◌∙◌, subst}
use Rattle.std.proofs.lemmas.Result.{err_from_is_err_and}
use Rattle.jam_grammar.specs.Grammar.{Stmts}
use Rattle.jam_grammar.specs.Machine.{Whole, Bad, run}
use Rattle.jam_grammar.specs.Spelling.{Spells, spell_stmts, stmts_syms}
use Rattle.jam_grammar.proofs.TreesAreThoseOfElements.{block_is}
use Rattle.jam_grammar.proofs.MachineStopsAtFirstFault.{first_fault, whole_is_file}
use Rattle.jam_parser.proofs.FirstFaultIsTold.{fault_is}
use Rattle.jam_parser.proofs.parse.whole.Goals as goal

pub returns-in_err-stmts : goal.returns-in_err-stmts
returns-in_err-stmts c =
    let p = err_from_is_err_and c.from_residual.result c.from_residual.ensures.1 in
    rw (p.1, p.2) (fault_is c.args.tokens.now c.in_err-stmts.field-0.0 c.in_err-stmts.ensures)

pub returns-in-None : goal.returns-in-None
returns-in-None c =
    let r = c.in_ok-stmts.ensures in
    let tokens = c.args.tokens.now in
    let all : run tokens (Stmts ∷ []) ≡ Whole = r.moves [] refl ∙ ap (λ x. run x []) c.in-None.ensures in
    record {
      file = whole_is_file tokens all;
      spelled =
          let s = subst (λ x. Spells tokens (stmts_syms c.in_ok-stmts.stmts.items) x) c.in-None.ensures r.spells in
          subst (λ x. Spells tokens (spell_stmts x) []) (sym (block_is c.in_ok-stmts.stmts)) s;
    }

pub returns-in-Some : goal.returns-in-Some
returns-in-Some c =
    let r = c.in_ok-stmts.ensures in
    let e = c.in-Some.ensures in
    first_fault c.args.tokens.now c.in_ok-stmts.left.now (r.moves [] refl ∙ ap (λ x. run x []) e.0 ∙ ap Bad (sym e.0))

-- How rules, actions, and the notes of a step, are stored as data.
use Rattle.std.specs.Prelude.{ℕ, Bool, List, refl}
use Rattle.std.specs.Coded.{Coded, code_by, coded×, coded_ℕ, coded_bool}
use Rattle.jam_grammar.specs.declared.tree.Param.{Param}
use Rattle.jam_grammar.specs.Trees.{StmtTrees}
use Rattle.jam_journal.specs.Tables.{Text}
use Rattle.jam_journal.specs.Scopes.{Value}
use Rattle.jam_journal.specs.ScopeCodes.{text_code, value_code}
use Rattle.jam_scope.specs.declared.notes.StepNotes.{StepNotes}
use Rattle.jam_scope.specs.Rules.{Body, Rule, Actions}
use Rattle.jam_scope.specs.TreeCodes.{params_code, stmts_code}

abbrev pub BodyParts : Type 0
BodyParts = List (List Param) × (StmtTrees × (Text × ℕ))

abbrev pub body_parts_code : Coded BodyParts
body_parts_code = coded× params_code (coded× stmts_code (coded× text_code coded_ℕ))

abbrev pub body_code : Coded Body
body_code =
    code_by BodyParts body_parts_code (λ b. (b.params, (b.block, (b.path, b.line))))
    (λ p. record { params = p.0; block = p.1.0; path = p.1.1.0; line = p.1.1.1 }) (λ _. refl)

abbrev pub rule_code : Coded Rule
rule_code =
    code_by (Text × BodyParts) (coded× text_code body_parts_code) (λ r. (r.home, (r.params, (r.block, (r.path, r.line)))))
    (λ p. record { home = p.0; params = p.1.0; block = p.1.1.0; path = p.1.1.1.0; line = p.1.1.1.1 }) (λ _. refl)

abbrev pub actions_code : Coded Actions
actions_code =
    code_by (Text × (Bool × (Bool × Bool))) (coded× text_code (coded× coded_bool (coded× coded_bool coded_bool)))
    (λ a. (a.text, (a.together, (a.existing, a.quietly))))
    (λ p. record { text = p.0; together = p.1.0; existing = p.1.1.0; quietly = p.1.1.1 }) (λ _. refl)

abbrev pub notes_code : Coded StepNotes
notes_code =
    code_by (Value × (Value × (Value × (Bool × Bool)))) (coded× value_code (coded× value_code (coded× value_code (coded× coded_bool coded_bool))))
    (λ n. (n.outs, (n.ins, (n.depends, (n.always, n.notfile)))))
    (λ p. record { outs = p.0; ins = p.1.0; depends = p.1.1.0; always = p.1.1.1.0; notfile = p.1.1.1.1 }) (λ _. refl)

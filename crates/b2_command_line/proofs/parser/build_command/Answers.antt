use Rattle.std.proofs.Common.{rules, ap₂, ◌≡◌, ◌∙◌}
use Rattle.std.proofs.lemmas.Result.{IfOk-weaker}
use Rattle.clap.specs.Words.{app_of, rule_of, with_rule}
use Rattle.b2_command_line.specs.Parser.{by_rule, show_rule, explain_rule, clean_rule, word_rule, build_app}
use Rattle.b2_command_line.proofs.parser.build_command.Goals as goal

pub returns : goal.returns
returns c =
    let by_is : rule_of c.action-by.result ≡ by_rule = search rules in
    let show_is : rule_of c.action-show.result ≡ show_rule = search rules in
    let explain_is : rule_of c.action-explain.result ≡ explain_rule = search rules in
    let clean_is : rule_of c.action-clean.result ≡ clean_rule = search rules in
    let word_is : rule_of c.action-word.result ≡ word_rule = search rules in
    let with_by_is = c.in_ok-with_by.ensures.shape (search rules) ∙ ap₂ with_rule c.in_ok-short.ensures by_is in
    let with_show_is = c.in_ok-with_show.ensures.shape (search rules) ∙ ap₂ with_rule with_by_is show_is in
    let with_explain_is = c.in_ok-with_explain.ensures.shape (search rules) ∙ ap₂ with_rule with_show_is explain_is in
    let with_clean_is = c.in_ok-with_clean.ensures.shape (search rules) ∙ ap₂ with_rule with_explain_is clean_is in
    IfOk-weaker c.arg-5.result _ (λ r. app_of r ≡ build_app) (λ r h. h.shape (search rules) ∙ ap₂ with_rule with_clean_is word_is) c.arg-5.ensures

use Rattle.std.proofs.Common.{rules, ap, ap₂, ◌≡◌, ◌∙◌, true}
use Rattle.std.proofs.lemmas.Result.{IfOk-weaker}
use Rattle.clap.specs.Words.{app_of, rule_of, with_rule}
use Rattle.clap.specs.Simple.{Shape, on_top, app_of_fields}
use Rattle.b2_command_line.specs.Parser.{jobs_rule, all_rule, quit_rule, steps_rule, empty_app, short_app}
use Rattle.b2_command_line.proofs.parser.short_options.Goals as goal

pub returns : goal.returns
returns c =
    let jobs_is : rule_of c.action-jobs.result ≡ jobs_rule = search rules in
    let all_is : rule_of c.action-all.result ≡ all_rule = search rules in
    let quit_is : rule_of c.action-quit.result ≡ quit_rule = search rules in
    let steps_is : rule_of c.action-steps.result ≡ steps_rule = search rules in
    let empty_is : app_of c.disable_help_flag-empty.result ≡ empty_app =
    ap app_of_fields c.disable_help_flag-empty.ensures
    ∙ ap (on_top (λ (s : Shape). record s { disable_help_flag = true })) (ap app_of_fields c.no_binary_name.ensures
    ∙ ap (on_top (λ (s : Shape). record s { no_binary_name = true })) c.new.ensures.app) in
    let with_jobs_is = c.in_ok-with_jobs.ensures.shape (search rules) ∙ ap₂ with_rule empty_is jobs_is in
    let with_all_is = c.in_ok-with_all.ensures.shape (search rules) ∙ ap₂ with_rule with_jobs_is all_is in
    let with_quit_is = c.in_ok-with_quit.ensures.shape (search rules) ∙ ap₂ with_rule with_all_is quit_is in
    IfOk-weaker c.arg-4.result _ (λ r. app_of r ≡ short_app) (λ r h. h.shape (search rules) ∙ ap₂ with_rule with_quit_is steps_is) c.arg-4.ensures

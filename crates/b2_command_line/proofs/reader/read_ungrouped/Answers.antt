use Rattle.std.proofs.Common.{◌≡◌, List, Some, map, sym, ap, ◌∙◌, subst, ⊎_elim}
use Rattle.std.specs.Prelude.{IfOk}
use Rattle.clap.specs.Words.{App, Text, app_of, fault_of, found_of, is_simple, is_simple_and_free, matches_of}
use Rattle.clap.specs.Kinds.{IsAmong}
use Rattle.clap.specs.Values.{kind_of}
use Rattle.b2_command_line.specs.Parser.{build_app}
use Rattle.b2_command_line.proofs.ClapReadsWhatGrammarGives.{simple, simple_and_free, matched, unmatched}
use Rattle.b2_command_line.proofs.reader.read_ungrouped.Goals as goal

pub asked_in-requires : goal.asked_in-requires
asked_in-requires c =
    let app : app_of c.in-Ok.command ≡ build_app = c.in-Ok.ensures in
    let words : List Text = map (λ s. s.now) c.args.words.now in
    let parse = c.in-Ok-try_get_matches_from.ensures in
    (matched words c.requires.utf8 c.requires.no_zero c.requires.ungrouped (found_of c.in-Ok-try_get_matches_from.matches)
    (ap (λ (a : App). fault_of a words) (sym app) ∙ parse.kinds (ap is_simple_and_free app ∙ simple_and_free))
    ((parse.matches (ap is_simple app ∙ simple)).0 ∙ ap (λ (a : App). matches_of a words) app)).1

pub returns-in-Ok-try_get_matches_from : goal.returns-in-Ok-try_get_matches_from
returns-in-Ok-try_get_matches_from c =
    let app : app_of c.in-Ok.command ≡ build_app = c.in-Ok.ensures in
    let words : List Text = map (λ s. s.now) c.args.words.now in
    let parse = c.in-Ok-try_get_matches_from.ensures in
    let read = (matched words c.requires.utf8 c.requires.no_zero c.requires.ungrouped (found_of c.in-Ok-try_get_matches_from.matches)
    (ap (λ (a : App). fault_of a words) (sym app) ∙ parse.kinds (ap is_simple_and_free app ∙ simple_and_free))
    ((parse.matches (ap is_simple app ∙ simple)).0 ∙ ap (λ (a : App). matches_of a words) app)).0 in
    record {
      ok = subst (λ o. IfOk c.asked_in.result (λ r. o ≡ Some r)) (sym read) c.asked_in.ensures.ok;
      usage = λ u. read ∙ c.asked_in.ensures.usage u;
    }

pub returns-clause-usage : goal.returns-clause-usage
returns-clause-usage c =
    let app : app_of c.in-Ok.command ≡ build_app = c.in-Ok.ensures in
    let words : List Text = map (λ s. s.now) c.args.words.now in
    let kinds = c.in-Err.ensures.kinds (ap is_simple_and_free app ∙ simple_and_free) in
    λ u. unmatched words c.requires.utf8 c.requires.no_zero c.requires.ungrouped
    (λ e. ⊎_elim (λ m. c.in_default-kind.not-OutOfMemory (c.kind.ensures ∙ m))
    (λ among. subst (IsAmong (kind_of c.in-Err.error)) (ap (λ (a : App). fault_of a words) app ∙ e) among) kinds)

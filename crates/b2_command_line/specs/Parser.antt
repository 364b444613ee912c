-- The command of which clap reads the words, and what its matches ask for.
use Rattle.std.specs.Prelude.{Bool, true, false, List, [], Option, Some, None, option_map, unwrap_or, codes}
use Rattle.std.specs.Str.{bytes_eq}
use Rattle.clap.specs.Words.{App, Shape, Rule, Text, new_app, new_rule, with_rule, first_value, raw_values, matched_of}
use Rattle.clap.specs.Simple.{on_top}
use Rattle.clap.specs.declared.builder.action.ArgAction.TheVariants.{Set, SetTrue, Append}
use Rattle.clap.specs.declared.parser.matches.Found.{Found}
use Rattle.b2_command_line.specs.declared.words.Command.{Command}
use Rattle.b2_command_line.specs.declared.words.Words.{Words}
use Rattle.b2_command_line.specs.Words.{small_a, small_j, small_q, command_asked, with_words}
use Rattle.b2_command_line.specs.Grouped.{small_n}

abbrev pub jobs_rule : Rule
jobs_rule = record (new_rule (codes "jobs")) { short = Some small_j; action = Some Set }

abbrev pub all_rule : Rule
all_rule = record (new_rule (codes "all")) { short = Some small_a; action = Some SetTrue }

abbrev pub quit_rule : Rule
quit_rule = record (new_rule (codes "quit")) { short = Some small_q; action = Some SetTrue }

abbrev pub steps_rule : Rule
steps_rule = record (new_rule (codes "steps")) { short = Some small_n; action = Some SetTrue }

abbrev pub by_rule : Rule
by_rule = record (new_rule (codes "by")) { long = Some (codes "by"); action = Some Set }

abbrev pub show_rule : Rule
show_rule = record (new_rule (codes "show")) { long = Some (codes "show"); action = Some SetTrue }

abbrev pub explain_rule : Rule
explain_rule = record (new_rule (codes "explain")) { long = Some (codes "explain"); action = Some SetTrue }

abbrev pub clean_rule : Rule
clean_rule = record (new_rule (codes "clean")) { long = Some (codes "clean"); action = Some SetTrue }

abbrev pub word_rule : Rule
word_rule = record (new_rule (codes "word")) { action = Some Append }

abbrev pub plain : Shape → Shape
plain s = record s { no_binary_name = true; disable_help_flag = true }

abbrev pub empty_app : App
empty_app = on_top plain (new_app (codes "b2"))

abbrev pub short_app : App
short_app = with_rule (with_rule (with_rule (with_rule empty_app jobs_rule) all_rule) quit_rule) steps_rule

abbrev pub build_app : App
build_app = with_rule (with_rule (with_rule (with_rule (with_rule short_app by_rule) show_rule) explain_rule) clean_rule) word_rule

-- whether a flag's value says that it stands
abbrev pub is_true : Option Text → Bool
is_true None = false
is_true (Some text) = bytes_eq text (codes "true")

-- the words that no option takes
abbrev pub words_found : Found → List Text
words_found f = unwrap_or (option_map raw_values (matched_of f (codes "word"))) []

-- the command that the matches ask for
unfoldable pub command_in : Found → Option Command
command_in f =
    command_asked (first_value f (codes "jobs")) (first_value f (codes "by")) (is_true (first_value f (codes "all")))
    (is_true (first_value f (codes "quit"))) (is_true (first_value f (codes "steps"))) (is_true (first_value f (codes "show")))
    (is_true (first_value f (codes "explain"))) (is_true (first_value f (codes "clean")))

-- what the matches ask for
abbrev pub asked_in : Found → Option Words
asked_in f = option_map (with_words (words_found f)) (command_in f)

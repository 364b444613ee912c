-- Words that ask for a build ask for one job or more, and for at most 64. So do words of plain Jam mode.
use Rattle.std.proofs.Common.{◌≡◌, ℕ, zero, suc, ◌≤◌, Bool, true, false, cond, List, [], ◌∷◌, codes, Option, Some, None, option_map, subst, arith}
use Rattle.std.specs.Prelude.{⊤, filter, option_and_then}
use Rattle.std.specs.List.{filter_map}
use Rattle.std.specs.Option.{IfSome}
use Rattle.std.specs.Str.{bytes_eq}
use Rattle.std.specs.Fmt.{decimal}
use Rattle.b2_command_line.specs.Words.{Word, Item, number, most_jobs, most_steps, jobs_meant, digest_meant, build_options, options_meant, command_meant, with_words, command_asked, meant, meaning, items, by_shape, after_lead, build_reading, drill_reading, reading_by, reading, stand_once, first, stands, jobs_in, by_in, word_in, is_all, is_quit, is_steps, is_table, is_explain, is_clean}
use Rattle.b2_command_line.specs.declared.words.BuildOptions.{BuildOptions}
use Rattle.b2_command_line.specs.declared.words.Command.{Command}
use Rattle.b2_command_line.specs.declared.words.Command.TheVariants as commands
use Rattle.b2_command_line.specs.declared.words.Words.{Words}
use Rattle.b2_top.specs.declared.build_command.BuildCommand.{BuildCommand}
use Rattle.b2_top.specs.Commands.{options_in, command_of, command_in, build_command}
use Rattle.b2_top.specs.Laws.{FewJobs, FewJamJobs}
use Rattle.b2_command_line.specs.JamWords.{jam_words, jam_meant, reading_file}
use Rattle.b2_top.specs.Askings.{asking_in, jam_command_of, jam_of}

-- a number is from 1 to the greatest
abbrev IsUpTo : ℕ → ℕ → Type 0
IsUpTo most n = (1 ≤ n) × (n ≤ most)

-- a build has some job, and few
abbrev HasJob : Command → Type 0
HasJob (commands.Build options) = IsUpTo most_jobs options.jobs
HasJob (commands.Look view) = ⊤
HasJob (commands.Explain all) = ⊤
HasJob commands.Clean = ⊤
HasJob (commands.Drill steps) = ⊤

one_more : (most : ℕ) (found : Option ℕ) → IfSome found (IsUpTo most) → IfSome found (IsUpTo (suc most))
one_more most None h = tt
one_more most (Some n) h = (h.0, let low = h.1 in omega (arith, low))

by_greatest : (n : ℕ) (word : Word) (is : Bool) → IfSome (number n word) (IsUpTo n) → IfSome (cond is (Some (suc n)) (number n word)) (IsUpTo (suc n))
by_greatest n word true h = (omega arith, omega arith)
by_greatest n word false h = one_more n (number n word) h

number_from_one : (most : ℕ) (word : Word) → IfSome (number most word) (IsUpTo most)
unfolding number
number_from_one zero word = tt
number_from_one (suc n) word = by_greatest n word (bytes_eq (decimal (suc n)) word) (number_from_one n word)

jobs_from_one : (value : Option Word) → IfSome (jobs_meant value) (IsUpTo most_jobs)
jobs_from_one None = (omega arith, omega arith)
jobs_from_one (Some word) = number_from_one most_jobs word

options_from_one : (all quit : Bool) (jobs : Option ℕ) (digest : Option Bool) → IfSome jobs (IsUpTo most_jobs)
    → IfSome (option_and_then (λ count. option_map (build_options count all quit) digest) jobs) (λ (o : BuildOptions). IsUpTo most_jobs o.jobs)
options_from_one all quit None digest h = tt
options_from_one all quit (Some count) None h = tt
options_from_one all quit (Some count) (Some digest) h = h

explain_has : (digest all : Bool) → IfSome (cond digest None (Some (commands.Explain all))) HasJob
explain_has true all = tt
explain_has false all = tt

command_has : (options : Option BuildOptions) (steps table explain clean : Bool) → IfSome options (λ (o : BuildOptions). IsUpTo most_jobs o.jobs)
    → IfSome (option_and_then (λ o. command_meant o steps table explain clean) options) HasJob
command_has None steps table explain clean h = tt
command_has (Some o) false false false false h = h
command_has (Some o) false false false true h = tt
command_has (Some o) false false true false h = explain_has o.digest o.all
command_has (Some o) false false true true h = tt
command_has (Some o) false true false false h = tt
command_has (Some o) false true false true h = tt
command_has (Some o) false true true false h = tt
command_has (Some o) false true true true h = tt
command_has (Some o) true false false false h = tt
command_has (Some o) true false false true h = tt
command_has (Some o) true false true false h = tt
command_has (Some o) true false true true h = tt
command_has (Some o) true true false false h = tt
command_has (Some o) true true false true h = tt
command_has (Some o) true true true false h = tt
command_has (Some o) true true true true h = tt

words_have : (once : Bool) (free : List Word) (command : Option Command) → IfSome command HasJob
    → IfSome (cond once (option_map (with_words free) command) None) (λ (read : Words). HasJob read.command)
words_have true free None h = tt
words_have true free (Some command) h = h
words_have false free command h = tt

abbrev Read : Option Words → Type 0
Read found = IfSome found (λ (read : Words). HasJob read.command)

meant_has : (jobs by : List Word) (all quit steps table explain clean : List Item) (free : List Word) → Read (meant jobs by all quit steps table explain clean free)
meant_has jobs by all quit steps table explain clean free =
    words_have (stand_once jobs by all quit steps table explain clean) free (command_asked (first jobs) (first by) (stands all) (stands quit) (stands steps) (stands table) (stands explain) (stands clean))
    (command_has (options_meant (first jobs) (first by) (stands all) (stands quit)) (stands steps) (stands table) (stands explain) (stands clean)
    (options_from_one (stands all) (stands quit) (jobs_meant (first jobs)) (digest_meant (first by)) (jobs_from_one (first jobs))))

meaning_has : (found : Option (List Item)) → Read (option_and_then meaning found)
unfolding meaning
meaning_has None = tt
meaning_has (Some all_items) =
    meant_has (filter_map jobs_in all_items) (filter_map by_in all_items) (filter is_all all_items) (filter is_quit all_items)
    (filter is_steps all_items) (filter is_table all_items) (filter is_explain all_items) (filter is_clean all_items) (filter_map word_in all_items)

drill_has : (steps : Option ℕ) → Read (option_map (λ n. with_words [] (commands.Drill n)) steps)
drill_has None = tt
drill_has (Some n) = tt

reading_has : (words : List Word) → Read (reading words)
reading_has [] = meaning_has (items by_shape [])
reading_has (word ∷ rest) = by_lead (after_lead (codes "--drill=") word)
  where
    by_rest : (count : Word) (after : List Word) → Read (drill_reading count after)
    by_rest count [] = drill_has (number most_steps count)
    by_rest count (other ∷ after) = tt

    by_lead : (count : Option Word) → Read (reading_by count word rest)
    by_lead None = meaning_has (items by_shape (word ∷ rest))
    by_lead (Some count) = by_rest count rest

asked_jobs : (words : List Word) (command : BuildCommand) → build_command words ≡ Some command → IsUpTo most_jobs command.options.jobs
asked_jobs words command asked = by_reading (reading words) (reading_has words) asked
  where
    by_command : (free : List Word) (read : Command) → HasJob read → option_map (command_of free) (options_in read) ≡ Some command → IsUpTo most_jobs command.options.jobs
    by_command free (commands.Build options) h is = let same : command_of free options ≡ command = cc in subst (λ (c : BuildCommand). IsUpTo most_jobs c.options.jobs) same h
    by_command free (commands.Look view) h is = absurd cc
    by_command free (commands.Explain all) h is = absurd cc
    by_command free commands.Clean h is = absurd cc
    by_command free (commands.Drill steps) h is = absurd cc

    by_reading : (found : Option Words) → Read found → command_in found ≡ Some command → IsUpTo most_jobs command.options.jobs
    by_reading None h is = absurd cc
    by_reading (Some read) h is = by_command read.words read.command h is

pub some_job : (words : List Word) (command : BuildCommand) → build_command words ≡ Some command → 1 ≤ command.options.jobs
some_job words command asked = (asked_jobs words command asked).0

pub few_jobs : FewJobs
few_jobs words command asked = (asked_jobs words command asked).1

-- so do words of plain Jam mode
jam_has : (file : Word) (free : List Word) (read : Command) → HasJob read → (command : BuildCommand) → (asking_in (jam_meant file free read)).command ≡ Some command → IsUpTo most_jobs command.options.jobs
jam_has file free (commands.Build options) h command is =
    let same : jam_command_of (jam_words file free options) ≡ command = cc in subst (λ (c : BuildCommand). IsUpTo most_jobs c.options.jobs) same h
jam_has file free (commands.Look view) h command is = absurd cc
jam_has file free (commands.Explain all) h command is = absurd cc
jam_has file free commands.Clean h command is = absurd cc
jam_has file free (commands.Drill steps) h command is = absurd cc

rest_has : (file : Word) (found : Option Words) → Read found → (command : BuildCommand)
    → (asking_in (option_and_then (λ (read : Words). jam_meant file read.words read.command) found)).command ≡ Some command → IsUpTo most_jobs command.options.jobs
rest_has file None h command is = absurd cc
rest_has file (Some read) h command is = jam_has file read.words read.command h command is

file_has : (words : List Word) (command : BuildCommand) → (asking_in (reading_file words)).command ≡ Some command → IsUpTo most_jobs command.options.jobs
file_has [] command is = absurd cc
file_has ([] ∷ rest) command is = absurd cc
file_has ((byte ∷ bytes) ∷ rest) command is = rest_has (byte ∷ bytes) (build_reading rest) (meaning_has (items by_shape rest)) command is

lead_has : (is_lead : Bool) (rest : List Word) (command : BuildCommand) → (asking_in (cond is_lead (reading_file rest) None)).command ≡ Some command → IsUpTo most_jobs command.options.jobs
lead_has true rest command is = file_has rest command is
lead_has false rest command is = absurd cc

jam_asked_jobs : (words : List Word) (command : BuildCommand) → (jam_of words).command ≡ Some command → IsUpTo most_jobs command.options.jobs
jam_asked_jobs [] command is = absurd cc
jam_asked_jobs (word ∷ rest) command is = lead_has (bytes_eq word (codes "-f")) rest command is

pub jam_jobs : (words : List Word) (command : BuildCommand) → (jam_of words).command ≡ Some command → 1 ≤ command.options.jobs
jam_jobs words command asked = (jam_asked_jobs words command asked).0

pub few_jam_jobs : FewJamJobs
few_jam_jobs words command asked = (jam_asked_jobs words command asked).1

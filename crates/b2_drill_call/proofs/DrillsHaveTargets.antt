-- Words that ask for a drill ask for one target or more, and for at most 2,000.
use Rattle.std.proofs.Common.{◌≡◌, ℕ, zero, suc, ◌≤◌, ◌<◌, Bool, true, false, cond, List, [], ◌∷◌, codes, Option, Some, None, option_map, subst, arith}
use Rattle.std.specs.Prelude.{⊤, filter, option_and_then}
use Rattle.std.specs.List.{filter_map}
use Rattle.std.specs.Option.{IfSome}
use Rattle.std.specs.Str.{bytes_eq}
use Rattle.std.specs.Fmt.{decimal}
use Rattle.b2_command_line.specs.Words.{Word, Item, number, most_steps, options_meant, command_meant, with_words, command_asked, meant, meaning, items, by_shape, after_lead, drill_reading, reading_by, reading, stand_once, first, stands, jobs_in, by_in, word_in, is_all, is_quit, is_steps, is_table, is_explain, is_clean}
use Rattle.b2_command_line.specs.declared.words.BuildOptions.{BuildOptions}
use Rattle.b2_command_line.specs.declared.words.Command.{Command}
use Rattle.b2_command_line.specs.declared.words.Command.TheVariants as commands
use Rattle.b2_command_line.specs.declared.words.Words.{Words}
use Rattle.b2_drill_call.specs.Asked.{steps_in, drill_in, drill_of}

-- a drill has some target, and no more than there may be
abbrev IsOfDrill : ℕ → ℕ → Type 0
IsOfDrill most k = (0 < k) × (k ≤ most)

abbrev HasTarget : Command → Type 0
HasTarget (commands.Build options) = ⊤
HasTarget (commands.Look view) = ⊤
HasTarget (commands.Explain all) = ⊤
HasTarget commands.Clean = ⊤
HasTarget (commands.Drill steps) = IsOfDrill most_steps steps

abbrev Has : Option Words → Type 0
Has found = IfSome found (λ (read : Words). HasTarget read.command)

by_greatest : (n : ℕ) (is : Bool) (found : Option ℕ) → IfSome found (IsOfDrill n) → IfSome (cond is (Some (suc n)) found) (IsOfDrill (suc n))
by_greatest n true found h = (omega arith, omega arith)
by_greatest n false None h = tt
by_greatest n false (Some k) h = let most : k ≤ n = h.1 in (h.0, omega (arith, most))

number_in : (most : ℕ) (word : Word) → IfSome (number most word) (IsOfDrill most)
unfolding number
number_in zero word = tt
number_in (suc n) word = by_greatest n (bytes_eq (decimal (suc n)) word) (number n word) (number_in n word)

explain_has : (digest all : Bool) → IfSome (cond digest None (Some (commands.Explain all))) HasTarget
explain_has true all = tt
explain_has false all = tt

command_has : (options : Option BuildOptions) (steps table explain clean : Bool) → IfSome (option_and_then (λ o. command_meant o steps table explain clean) options) HasTarget
command_has None steps table explain clean = tt
command_has (Some o) false false false false = tt
command_has (Some o) false false false true = tt
command_has (Some o) false false true false = explain_has o.digest o.all
command_has (Some o) false false true true = tt
command_has (Some o) false true false false = tt
command_has (Some o) false true false true = tt
command_has (Some o) false true true false = tt
command_has (Some o) false true true true = tt
command_has (Some o) true false false false = tt
command_has (Some o) true false false true = tt
command_has (Some o) true false true false = tt
command_has (Some o) true false true true = tt
command_has (Some o) true true false false = tt
command_has (Some o) true true false true = tt
command_has (Some o) true true true false = tt
command_has (Some o) true true true true = tt

words_have : (once : Bool) (free : List Word) (command : Option Command) → IfSome command HasTarget
    → IfSome (cond once (option_map (with_words free) command) None) (λ (read : Words). HasTarget read.command)
words_have true free None h = tt
words_have true free (Some command) h = h
words_have false free command h = tt

meant_has : (jobs by : List Word) (all quit steps table explain clean : List Item) (free : List Word) → Has (meant jobs by all quit steps table explain clean free)
meant_has jobs by all quit steps table explain clean free =
    words_have (stand_once jobs by all quit steps table explain clean) free (command_asked (first jobs) (first by) (stands all) (stands quit) (stands steps) (stands table) (stands explain) (stands clean))
    (command_has (options_meant (first jobs) (first by) (stands all) (stands quit)) (stands steps) (stands table) (stands explain) (stands clean))

meaning_has : (found : Option (List Item)) → Has (option_and_then meaning found)
unfolding meaning
meaning_has None = tt
meaning_has (Some all_items) =
    meant_has (filter_map jobs_in all_items) (filter_map by_in all_items) (filter is_all all_items) (filter is_quit all_items)
    (filter is_steps all_items) (filter is_table all_items) (filter is_explain all_items) (filter is_clean all_items) (filter_map word_in all_items)

drill_has : (steps : Option ℕ) → IfSome steps (IsOfDrill most_steps) → Has (option_map (λ n. with_words [] (commands.Drill n)) steps)
drill_has None h = tt
drill_has (Some n) h = h

reading_has : (words : List Word) → Has (reading words)
reading_has [] = meaning_has (items by_shape [])
reading_has (word ∷ rest) = by_lead (after_lead (codes "--drill=") word)
  where
    by_rest : (count : Word) (after : List Word) → Has (drill_reading count after)
    by_rest count [] = drill_has (number most_steps count) (number_in most_steps count)
    by_rest count (other ∷ after) = tt

    by_lead : (count : Option Word) → Has (reading_by count word rest)
    by_lead None = meaning_has (items by_shape (word ∷ rest))
    by_lead (Some count) = by_rest count rest

targets_in : (words : List Word) (n : ℕ) → drill_of words ≡ Some n → IsOfDrill most_steps n
targets_in words n asked = by_reading (reading words) (reading_has words) asked
  where
    by_command : (read : Command) → HasTarget read → steps_in read ≡ Some n → IsOfDrill most_steps n
    by_command (commands.Build options) h is = absurd cc
    by_command (commands.Look view) h is = absurd cc
    by_command (commands.Explain all) h is = absurd cc
    by_command commands.Clean h is = absurd cc
    by_command (commands.Drill steps) h is = let same : steps ≡ n = cc in subst (IsOfDrill most_steps) same h

    by_reading : (found : Option Words) → Has found → drill_in found ≡ Some n → IsOfDrill most_steps n
    by_reading None h is = absurd cc
    by_reading (Some read) h is = by_command read.command h is

pub some_target : (words : List Word) (n : ℕ) → drill_of words ≡ Some n → 0 < n
some_target words n asked = (targets_in words n asked).0

pub few_targets : (words : List Word) (n : ℕ) → drill_of words ≡ Some n → n ≤ 2000
few_targets words n asked = (targets_in words n asked).1

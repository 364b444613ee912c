-- The grammar of the command line: which lists of words are of it, and what each of them asks for.
use Rattle.std.specs.Prelude.{ℕ, zero, suc, ◌==◌, ◌&&◌, ◌++◌, Bool, true, false, not, List, [], ◌∷◌, map, filter, Option, Some, None, is_some, option_map, option_and_then, if◌then◌else◌, codes}
use Rattle.std.specs.List.{list_any, filter_map, before_first, after_first}
use Rattle.std.specs.Option.{option_map_or}
use Rattle.std.specs.Str.{bytes_eq}
use Rattle.std.specs.Fmt.{decimal}
use Rattle.b2_command_line.specs.declared.words.BuildOptions.{BuildOptions}
use Rattle.b2_command_line.specs.declared.words.Command.{Command}
use Rattle.b2_command_line.specs.declared.words.Command.TheVariants as commands
use Rattle.b2_command_line.specs.declared.words.View.TheVariants as views
use Rattle.b2_command_line.specs.declared.words.Words.{Words}

abbrev pub Word : Type 0
Word = List ℕ

-- ---- numbers

-- the greatest number of jobs, and of steps of a drill
abbrev pub most_jobs : ℕ
most_jobs = 64

abbrev pub most_steps : ℕ
most_steps = 2000

-- the number from 1 to `most` that a word is in decimal, without a sign and without leading zeros
unfoldable pub number : ℕ → Word → Option ℕ
number zero word = None
number (suc n) word = if bytes_eq (decimal (suc n)) word then Some (suc n) else number n word

-- ---- what each word says

-- an option, with its value as it is written, or a word that is no option
pub data Item : Type 0 where
  with_jobs : Word → Item
  with_all : Item
  with_quit : Item
  with_by : Word → Item
  with_steps : Item
  with_table : Item
  with_explain : Item
  with_clean : Item
  free_word : Word → Item

-- how the next word is read: by its shape, or as the value of `-j` or of `--by`
pub data Next : Type 0 where
  by_shape : Next
  jobs_value : Next
  by_value : Next

-- the items that a word gives, and how the word after it is read
abbrev pub Said : Type 0
Said = List Item × Next

abbrev pub says : Item → Said
says item = (item ∷ [], by_shape)

abbrev pub says_first : Item → Option Said → Option Said
says_first item said = option_map (λ more. (item ∷ more.0, more.1)) said

-- the bytes of `-`, `=`, `a`, `j` and `q`
abbrev pub hyphen : ℕ
hyphen = 45

abbrev pub equals : ℕ
equals = 61

abbrev pub small_a : ℕ
small_a = 97

abbrev pub small_j : ℕ
small_j = 106

abbrev pub small_q : ℕ
small_q = 113

-- what follows `-j` in its group is its value, without one `=` before it; where nothing follows, the next word is
abbrev pub jobs_said : Word → Said
jobs_said [] = ([], jobs_value)
jobs_said (byte ∷ rest) = says (with_jobs (if byte == equals then rest else byte ∷ rest))

-- the letters of a group, as in `-aqj4`
unfoldable pub group_said : Word → Option Said
group_said [] = Some ([], by_shape)
group_said (letter ∷ rest) =
    if letter == small_a then says_first with_all (group_said rest)
    else if letter == small_q then says_first with_quit (group_said rest)
    else if letter == small_j then Some (jobs_said rest)
    else None

abbrev pub is_equals : ℕ → Bool
is_equals byte = byte == equals

-- `--by=VALUE`, or `--by` with its value in the next word
abbrev pub by_said : Option Word → Option Said
by_said (Some value) = Some (says (with_by value))
by_said None = Some ([], by_value)

-- a flag, which has no value
abbrev pub flag_said : Item → Option Word → Option Said
flag_said item (Some value) = None
flag_said item None = Some (says item)

-- what follows `--`: a name, and a value after the first `=`, if there is one
abbrev pub long_said : Word → Option Word → Option Said
long_said name value =
    if bytes_eq (codes "by") name then by_said value
    else if bytes_eq (codes "show") name then flag_said with_table value
    else if bytes_eq (codes "explain") name then flag_said with_explain value
    else if bytes_eq (codes "clean") name then flag_said with_clean value
    else None

abbrev pub value_in : Word → Option Word
value_in text = if list_any is_equals text then Some (after_first is_equals text) else None

-- what follows `-`; `-n` is a word of its own
abbrev pub option_said : Word → Option Said
option_said [] = None
option_said (head ∷ rest) =
    if head == hyphen then long_said (before_first is_equals rest) (value_in rest)
    else if bytes_eq (head ∷ rest) (codes "n") then Some (says with_steps)
    else group_said (head ∷ rest)

-- what follows the first `-` of an option; `-` and the empty word are no options
abbrev pub after_hyphen : Word → Option Word
after_hyphen [] = None
after_hyphen (byte ∷ []) = None
after_hyphen (byte ∷ next ∷ rest) = if byte == hyphen then Some (next ∷ rest) else None

-- a word that is no value and no `--`
abbrev pub word_said : Word → Option Said
word_said word = option_map_or option_said (after_hyphen word) (Some (says (free_word word)))

-- the items of words, in order; after the first `--` that is no value all words are free
unfoldable pub items : Next → List Word → Option (List Item)
items by_shape [] = Some []
items jobs_value [] = None
items by_value [] = None
items by_shape (word ∷ rest) =
    if bytes_eq word (codes "--") then Some (map free_word rest)
    else option_and_then (λ said. option_map (λ more. said.0 ++ more) (items said.1 rest)) (word_said word)
items jobs_value (word ∷ rest) = option_map (λ more. with_jobs word ∷ more) (items by_shape rest)
items by_value (word ∷ rest) = option_map (λ more. with_by word ∷ more) (items by_shape rest)

-- ---- what the items ask for

abbrev pub jobs_in : Item → Option Word
jobs_in (with_jobs value) = Some value
jobs_in _ = None

abbrev pub by_in : Item → Option Word
by_in (with_by value) = Some value
by_in _ = None

abbrev pub word_in : Item → Option Word
word_in (free_word word) = Some word
word_in _ = None

abbrev pub is_all : Item → Bool
is_all with_all = true
is_all _ = false

abbrev pub is_quit : Item → Bool
is_quit with_quit = true
is_quit _ = false

abbrev pub is_steps : Item → Bool
is_steps with_steps = true
is_steps _ = false

abbrev pub is_table : Item → Bool
is_table with_table = true
is_table _ = false

abbrev pub is_explain : Item → Bool
is_explain with_explain = true
is_explain _ = false

abbrev pub is_clean : Item → Bool
is_clean with_clean = true
is_clean _ = false

abbrev pub first : {A : Type 0} → List A → Option A
first [] = None
first (x ∷ rest) = Some x

abbrev pub at_most_one : {A : Type 0} → List A → Bool
at_most_one [] = true
at_most_one (x ∷ rest) = not (is_some (first rest))

-- each option stands at most once
abbrev pub stand_once : List Word → List Word → List Item → List Item → List Item → List Item → List Item → List Item → Bool
stand_once jobs by all quit steps table explain clean =
    at_most_one jobs && (at_most_one by && (at_most_one all && (at_most_one quit && (at_most_one steps
    && (at_most_one table && (at_most_one explain && at_most_one clean))))))

-- the number of jobs, 1 where none is given
abbrev pub jobs_meant : Option Word → Option ℕ
jobs_meant None = Some 1
jobs_meant (Some value) = number most_jobs value

-- whether files are judged by digests, which `--by=digest` asks for
abbrev pub digest_meant : Option Word → Option Bool
digest_meant None = Some false
digest_meant (Some value) = if bytes_eq value (codes "digest") then Some true else None

abbrev pub build_options : ℕ → Bool → Bool → Bool → BuildOptions
build_options jobs all quit digest = record { jobs = jobs; all = all; quit = quit; digest = digest }

abbrev pub options_meant : Option Word → Option Word → Bool → Bool → Option BuildOptions
options_meant jobs by all quit =
    option_and_then (λ count. option_map (build_options count all quit) (digest_meant by)) (jobs_meant jobs)

-- an explanation, which is by stamps alone
abbrev pub explain_meant : BuildOptions → Option Command
explain_meant options = if options.digest then None else Some (commands.Explain options.all)

-- a build; or a look, an explanation or cleaning, where exactly one of `-n`, `--show`, `--explain` and `--clean` stands
abbrev pub command_meant : BuildOptions → Bool → Bool → Bool → Bool → Option Command
command_meant options false false false false = Some (commands.Build options)
command_meant options true false false false = Some (commands.Look views.Steps)
command_meant options false true false false = Some (commands.Look views.Table)
command_meant options false false true false = explain_meant options
command_meant options false false false true = Some commands.Clean
command_meant options _ _ _ _ = None

abbrev pub with_words : List Word → Command → Words
with_words free command = record { command = command; words = free }

abbrev pub command_asked : Option Word → Option Word → Bool → Bool → Bool → Bool → Bool → Bool → Option Command
command_asked jobs by all quit steps table explain clean =
    option_and_then (λ options. command_meant options steps table explain clean) (options_meant jobs by all quit)

-- whether a flag stands
abbrev pub stands : List Item → Bool
stands same = is_some (first same)

-- what the uses of each option and the free words ask for
abbrev pub meant : List Word → List Word → List Item → List Item → List Item → List Item → List Item → List Item → List Word → Option Words
meant jobs by all quit steps table explain clean free =
    if stand_once jobs by all quit steps table explain clean
    then option_map (with_words free) (command_asked (first jobs) (first by) (stands all) (stands quit) (stands steps) (stands table)
    (stands explain) (stands clean))
    else None

-- what items ask for
unfoldable pub meaning : List Item → Option Words
meaning all_items =
    meant (filter_map jobs_in all_items) (filter_map by_in all_items) (filter is_all all_items) (filter is_quit all_items)
    (filter is_steps all_items) (filter is_table all_items) (filter is_explain all_items) (filter is_clean all_items)
    (filter_map word_in all_items)

-- ---- command lines

-- what follows a lead in a word that begins with it
unfoldable pub after_lead : Word → Word → Option Word
after_lead [] word = Some word
after_lead (byte ∷ lead) [] = None
after_lead (byte ∷ lead) (head ∷ word) = if byte == head then after_lead lead word else None

-- the words of a build, a look, an explanation or of cleaning
abbrev pub build_reading : List Word → Option Words
build_reading words = option_and_then meaning (items by_shape words)

-- `--drill=N` and no word after it
abbrev pub drill_reading : Word → List Word → Option Words
drill_reading count [] = option_map (λ steps. with_words [] (commands.Drill steps)) (number most_steps count)
drill_reading count (word ∷ rest) = None

abbrev pub reading_by : Option Word → Word → List Word → Option Words
reading_by None word rest = build_reading (word ∷ rest)
reading_by (Some count) word rest = drill_reading count rest

-- what a list of words asks for, where it is of the grammar; a first word that begins with `--drill=` makes it a drill
abbrev pub reading : List Word → Option Words
reading [] = build_reading []
reading (word ∷ rest) = reading_by (after_lead (codes "--drill=") word) word rest

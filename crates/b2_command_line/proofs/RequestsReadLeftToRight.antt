-- What clap is shown to read: options as they are used, from left to right, with `n` as a letter like the others.
use Rattle.std.proofs.Common.{◌==◌, cond, List, [], ◌∷◌, ◌++◌, Option, None, Some, is_some, option_map, codes, option_and_then}
use Rattle.std.specs.Option.{option_map_or}
use Rattle.std.specs.Str.{bytes_eq}
use Rattle.std.specs.List.{before_first}
use Rattle.b2_command_line.specs.declared.words.Command.{Command}
use Rattle.b2_command_line.specs.declared.words.Words.{Words}
use Rattle.b2_command_line.specs.Words.{Word, Next, by_shape, jobs_value, by_value, is_equals, value_in, after_hyphen, command_asked, with_words}

-- the value of each option that was used, and the words so far
pub record Request : Type 0 where
  pub given : Word → Option Word
  pub words : List Word

abbrev pub nothing : Request
nothing = record { given = λ id. None; words = [] }

abbrev pub put : Word → Word → Request → Request
put id value r = record r { given = λ other. cond (bytes_eq id other) (Some value) (r.given other) }

-- an option is used at most once
abbrev pub use_option : Word → Word → Request → Option Request
use_option id value r = cond (is_some (r.given id)) None (Some (put id value r))

abbrev pub use_flag : Word → Request → Option Request
use_flag id r = use_option id (codes "true") r

abbrev pub with_word : Word → Request → Request
with_word word r = record r { words = r.words ++ word ∷ [] }

-- a request, and how the next word is read
abbrev pub Point : Type 0
Point = Request × Next

abbrev pub free_point : Request → Point
free_point r = (r, by_shape)

abbrev pub jobs_in_group : Word → Request → Option Point
jobs_in_group [] r = Some (r, jobs_value)
jobs_in_group (byte ∷ rest) r = option_map free_point (use_option (codes "jobs") (cond (byte == 61) rest (byte ∷ rest)) r)

unfoldable pub letters : Word → Request → Option Point
letters [] r = Some (r, by_shape)
letters (c ∷ rest) r =
    cond (c == 97) (option_and_then (letters rest) (use_flag (codes "all") r))
    (cond (c == 113) (option_and_then (letters rest) (use_flag (codes "quit") r))
    (cond (c == 110) (option_and_then (letters rest) (use_flag (codes "steps") r))
    (cond (c == 106) (jobs_in_group rest r) None)))

abbrev pub by_read : Option Word → Request → Option Point
by_read (Some value) r = option_map free_point (use_option (codes "by") value r)
by_read None r = Some (r, by_value)

abbrev pub flag_read : Word → Option Word → Request → Option Point
flag_read id (Some value) r = None
flag_read id None r = option_map free_point (use_flag id r)

abbrev pub long_read : Word → Option Word → Request → Option Point
long_read name value r =
    cond (bytes_eq (codes "by") name) (by_read value r)
    (cond (bytes_eq (codes "show") name) (flag_read (codes "show") value r)
    (cond (bytes_eq (codes "explain") name) (flag_read (codes "explain") value r)
    (cond (bytes_eq (codes "clean") name) (flag_read (codes "clean") value r) None)))

abbrev pub option_read : Word → Request → Option Point
option_read [] r = None
option_read (c ∷ rest) r = cond (c == 45) (long_read (before_first is_equals rest) (value_in rest) r) (letters (c ∷ rest) r)

abbrev pub word_read : Word → Request → Option Point
word_read word r = option_map_or (λ text. option_read text r) (after_hyphen word) (Some (with_word word r, by_shape))

abbrev pub after_dashes : List Word → Request → Request
after_dashes [] r = r
after_dashes (w ∷ rest) r = after_dashes rest (with_word w r)

-- a word that has the shape of an option is no value
abbrev pub value_read : Word → Word → Request → Option Request
value_read id word r = cond (is_some (after_hyphen word)) None (use_option id word r)

unfoldable pub read_from : List Word → Point → Option Request
read_from [] (r, by_shape) = Some r
read_from [] (r, jobs_value) = None
read_from [] (r, by_value) = None
read_from (w ∷ rest) (r, by_shape) =
    cond (bytes_eq w (codes "--")) (Some (after_dashes rest r)) (option_and_then (read_from rest) (word_read w r))
read_from (w ∷ rest) (r, jobs_value) = option_and_then (λ s. read_from rest (s, by_shape)) (value_read (codes "jobs") w r)
read_from (w ∷ rest) (r, by_value) = option_and_then (λ s. read_from rest (s, by_shape)) (value_read (codes "by") w r)

abbrev pub read_all : List Word → Option Request
read_all words = read_from words (nothing, by_shape)

-- what a request asks for
abbrev pub command_requested : Request → Option Command
command_requested r =
    command_asked (r.given (codes "jobs")) (r.given (codes "by")) (is_some (r.given (codes "all"))) (is_some (r.given (codes "quit")))
    (is_some (r.given (codes "steps"))) (is_some (r.given (codes "show"))) (is_some (r.given (codes "explain")))
    (is_some (r.given (codes "clean")))

abbrev pub requested : Request → Option Words
requested r = option_map (with_words r.words) (command_requested r)

-- What comes of a file.
use Rattle.std.specs.Prelude.{ℕ, List, [], Result, Ok, Err}
use Rattle.jam_lexer.specs.declared.fault.LexFault.{LexFault}
use Rattle.jam_journal.specs.Tables.{Text}
use Rattle.jam_scope.specs.Changes.{first_worlds}
use Rattle.jam_meaning.specs.Faults.{Fault}
use Rattle.jam_meaning.specs.States.{State}
use Rattle.jam_meaning.specs.Settings.{Reading, is_missing, is_too_big, has_no_tokens, has_no_tree, is_file, Setting}
use Rattle.jam_meaning.specs.Outcomes.{Outcome, gives, faults}
use Rattle.jam_meaning.specs.Eval.{run}
use Rattle.jam_graph.specs.declared.graph.Graph.{Graph}
use Rattle.jam_graph.specs.Graphs.{GraphKept, nothing_kept, graph_of}

-- why there is no graph, or no plan
pub data Refusal : Type 0 where
  no_file : Text → Refusal
  too_big : Text → ℕ → Refusal
  lex : Text → LexFault → Refusal
  syntax_at : Text → ℕ → Text → Refusal
  eval : Fault → Refusal
  no_target : Text → Refusal
  too_many : ℕ → Refusal
  mixed : Text → Refusal
  outside : Text → Refusal
  clash : Text → Refusal

-- the lines of ECHO, and the graph or why there is none
pub record Ending : Type 0 where
  pub echoes : List Text
  pub result : Result Graph Refusal

-- nothing ran
abbrev pub refused : Refusal → Ending
refused why = record { echoes = []; result = Err why }

-- a file that ran to its end, or not
abbrev pub after_run : Text → Outcome GraphKept (Unit {0}) → Ending
after_run path (gives ended s) = record { echoes = s.kept.jam.echoes; result = Ok (graph_of path s.worlds s.kept.said) }
after_run path (faults fault s) = record { echoes = s.kept.jam.echoes; result = Err (eval fault) }

-- so many turns, and nothing recorded, in the first world
abbrev pub begun : ℕ → State GraphKept
begun left = record { worlds = first_worlds; left = left; kept = nothing_kept }

-- by how the file reads
abbrev pub after_reading : Setting GraphKept → Text → ℕ → Reading → Ending
after_reading setting path left is_missing = refused (no_file path)
after_reading setting path left (is_too_big size) = refused (too_big path size)
after_reading setting path left (has_no_tokens fault) = refused (lex path fault)
after_reading setting path left (has_no_tree line found) = refused (syntax_at path line found)
after_reading setting path left (is_file tree) = after_run path (run setting path tree (begun left))

-- What comes of a file. It is read wherever it lies: output roots hide files from globs and includes alone.
abbrev pub loads : Setting GraphKept → Text → ℕ → Ending
loads setting path left = after_reading setting path left (setting.reading path)

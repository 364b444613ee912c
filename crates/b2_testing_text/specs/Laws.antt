-- What is so of the build text of tests.
use Rattle.std.specs.Prelude.{◌≡◌, ◌↔◌, ℕ, ◌+◌, List, length, codes}
use Rattle.b2_base.specs.declared.token.Token.{Token}
use Rattle.jam_meaning.specs.Eval.{run}
use Rattle.jam_meaning.specs.Outcomes.{gives}
use Rattle.jam_meaning.specs.Settings.{Reading, is_file, Setting}
use Rattle.jam_grammar.specs.Readings.{ReadsTree}
use Rattle.jam_lexer.specs.Tokens.{AreTokens}
use Rattle.jam_natives.specs.Keeping.{Kept}
use Rattle.jam_scope.specs.Worlds.{Worlds}
use Rattle.jam_values.specs.FileReadings.{ReadsAny}
use Rattle.b2_testing_text.specs.Texts.{testing_text}
use Rattle.b2_testing_text.specs.Trees.{testing_tree}
use Rattle.b2_testing_text.specs.Definitions.{definitions, equipped}

-- its tokens read as its tree
pub record HasTree : Type 0 where
  pub tokens : List Token
  pub are_tokens : AreTokens testing_text tokens
  pub reads : ReadsTree tokens testing_tree

-- it reads as a file of its tree, and in no other way
abbrev pub TextReads : Type 0
TextReads = (reading : Reading) → ReadsAny testing_text reading ↔ (reading ≡ is_file testing_tree)

-- With eight turns or more its statements run to their end in any worlds, whatever natives there are and whatever is seen of the
-- outside. They take eight turns, and leave the worlds with its definitions.
abbrev pub TextRuns : Type 0
TextRuns = (setting : Setting Kept) (worlds : Worlds) (left : ℕ) (kept : Kept)
    → run setting (codes "gcc") testing_tree (record { worlds = worlds; left = 8 + left; kept = kept }) ≡ gives tt (record { worlds = equipped worlds; left = left; kept = kept })

-- it has six definitions
abbrev pub SixDefinitions : Type 0
SixDefinitions = length definitions ≡ 6

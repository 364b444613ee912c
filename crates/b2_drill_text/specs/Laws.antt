-- What the project file of a drill is.
use Rattle.std.specs.Prelude.{◌≡◌, ℕ, ◌<◌, ◌≤◌, ◌^◌, List, length}
use Rattle.b2_base.specs.declared.token.Token.{Token}
use Rattle.b2_drill.specs.Drills.{jamroot}
use Rattle.jam_grammar.specs.Readings.{ReadsTree}
use Rattle.jam_lexer.specs.Tokens.{AreTokens}
use Rattle.b2_drill_text.specs.Trees.{drill_tree}

-- The file of so many targets is a text. Its tokens read as the tree of the drill, on whatever lines its statements stand.
pub record IsFileOf (n : ℕ) : Type 0 where
  pub tokens : List Token
  pub line : ℕ
  pub lines : List ℕ
  pub count : length lines ≡ n
  pub are_tokens : AreTokens (jamroot n) tokens
  pub reads : ReadsTree tokens (drill_tree line lines)

abbrev pub DrillReads : Type 0
DrillReads = (n : ℕ) → n < 2 ^ 64 → IsFileOf n

-- a file of at most 2,000 targets has at most 1,048,576 bytes
abbrev pub DrillIsSmall : Type 0
DrillIsSmall = (n : ℕ) → n ≤ 2000 → length (jamroot n) ≤ 1048576

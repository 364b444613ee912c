use Rattle.std.specs.Prelude.{ℕ, List}
use Rattle.b2_log.specs.declared.line.LogLine.{LogLine}

-- what a log holds: its lines in order, and how many of the bytes that it was read from are good lines
pub record Contents : Type 0 where
  pub lines : List LogLine
  pub good : ℕ

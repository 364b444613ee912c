-- What a statement begins with.
use Rattle.std.specs.Prelude.{◌≡◌, List, true, false}
use Rattle.b2_base.specs.declared.token.Token.{Token}
use Rattle.jam_grammar.specs.declared.mark.TokenMark.TheVariants as m
use Rattle.jam_parser.specs.declared.start.Start.{Start}
use Rattle.jam_parser.specs.declared.start.Start.TheVariants as s
use Rattle.jam_parser.specs.Starts.{starts_arg, starts_stmt, starts_with, StandsAfter}

-- the tokens begin so; nothing where no statement begins
abbrev pub IsStart : List Token → Start → Type 0
IsStart tokens s.Argument = starts_arg tokens ≡ true
IsStart tokens s.Brace = starts_with m.BraceOpen tokens ≡ true
IsStart tokens (s.Local after) = StandsAfter m.Local tokens after.now
IsStart tokens (s.Include after) = StandsAfter m.Include tokens after.now
IsStart tokens (s.Return after) = StandsAfter m.Return tokens after.now
IsStart tokens (s.If after) = StandsAfter m.If tokens after.now
IsStart tokens (s.For after) = StandsAfter m.For tokens after.now
IsStart tokens (s.While after) = StandsAfter m.While tokens after.now
IsStart tokens (s.Switch after) = StandsAfter m.Switch tokens after.now
IsStart tokens (s.Module after) = StandsAfter m.Module tokens after.now
IsStart tokens (s.Rule after) = StandsAfter m.Rule tokens after.now
IsStart tokens (s.Actions after) = StandsAfter m.Actions tokens after.now
IsStart tokens (s.On after) = StandsAfter m.On tokens after.now
IsStart tokens s.Nothing = starts_stmt tokens ≡ false

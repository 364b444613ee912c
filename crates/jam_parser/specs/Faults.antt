-- The faults of tokens without a tree.
use Rattle.std.specs.Prelude.{◌≡◌, List}
use Rattle.b2_base.specs.declared.token.Token.{Token}
use Rattle.jam_grammar.specs.Readings.{IsFirstFault, IsFirstFaultAt, line_at, text_at}
use Rattle.jam_parser.specs.declared.fault.SyntaxFault.{SyntaxFault}
use Rattle.jam_parser.specs.declared.fault.SyntaxFault.TheVariants as faults
use Rattle.jam_parser.specs.declared.reading.ReadingFault.{ReadingFault}
use Rattle.jam_parser.specs.declared.reading.ReadingFault.TheVariants as here

-- the first fault of the tokens; nothing is said where memory runs out
abbrev pub IsFault : List Token → SyntaxFault → Type 0
IsFault tokens (faults.At line found) = IsFirstFault tokens line found
IsFault tokens faults.OutOfMemory = Unit {0}

-- the same by the tokens that are left
abbrev pub IsFaultHere : List Token → ReadingFault → Type 0
IsFaultHere tokens here.Memory = Unit {0}
IsFaultHere tokens (here.At rest) = IsFirstFaultAt tokens rest.now

-- what is told of a fault there
abbrev pub IsToldAt : List Token → List Token → SyntaxFault → Type 0
IsToldAt tokens rest (faults.At line found) = (line ≡ line_at tokens rest) × (found ≡ text_at rest)
IsToldAt tokens rest faults.OutOfMemory = Unit {0}

-- Where reading a file stops, the first fault stands, and it is told as found; and the line of the last token.
use Rattle.std.proofs.Common.{◌≡◌, List, [], ◌∷◌, ◌++◌, refl}
use Rattle.b2_base.specs.declared.token.Token.{Token}
use Rattle.jam_grammar.specs.Grammar.{Stmts}
use Rattle.jam_grammar.specs.Readings.{last_line, IsFirstFaultAt}
use Rattle.jam_grammar.proofs.MachineStopsAtFirstFault.{first_fault}
use Rattle.jam_parser.specs.declared.reading.ReadingFault.{ReadingFault}
use Rattle.jam_parser.specs.declared.reading.ReadingFault.TheVariants as here
use Rattle.jam_parser.specs.declared.fault.SyntaxFault.{SyntaxFault}
use Rattle.jam_parser.specs.declared.fault.SyntaxFault.TheVariants as faults
use Rattle.jam_parser.specs.PartReadings.{EndsBy}
use Rattle.jam_parser.specs.Faults.{IsFault, IsFaultHere, IsToldAt}

pub last_is : (ts : List Token) (t : Token) → last_line (ts ++ t ∷ []) ≡ t.line
last_is [] t = refl
last_is (u ∷ []) t = refl
last_is (u ∷ v ∷ ts) t = last_is (v ∷ ts) t

-- where reading ends, the first fault is
pub fault_is : (ts : List Token) (e : ReadingFault) → EndsBy (Stmts ∷ []) ts 0 e → IsFaultHere ts e
fault_is ts here.Memory h = tt
fault_is ts (here.At rest) h = first_fault ts rest.now (h [] refl)

-- a fault that is told as it is
pub told_is : (ts rest : List Token) (f : SyntaxFault) → IsFirstFaultAt ts rest → IsToldAt ts rest f → IsFault ts f
told_is ts rest (faults.At line found) h e = record { at = rest; is = h; line_is = e.0; found_is = e.1 }
told_is ts rest faults.OutOfMemory h e = tt

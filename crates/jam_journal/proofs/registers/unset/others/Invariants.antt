use Rattle.std.proofs.Common.{◌≡◌, not, is_some, take, map as each, string_bytes}
use Rattle.std.specs.List.{filter}
use Rattle.std.specs.FinMap as map
use Rattle.jam_journal.proofs.registers.unset.others.Given as goal

abbrev pub invariant-loop-name : goal.invariant-loop-name
invariant-loop-name l = each (λ name. string_bytes name.now) l.names.items ≡ filter (λ name. not (is_some (map.get l.unset name))) (each (λ entry. string_bytes entry.0.now) (take l.name-index l.row))

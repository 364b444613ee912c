use Rattle.std.proofs.Common.{◌≡◌, take, map, string_bytes}
use Rattle.std.specs.List.{filter}
use Rattle.jam_scope.specs.Names.{is_text}
use Rattle.jam_scope.proofs.world.listing.row_texts.Given as goal

abbrev pub invariant-loop-name : goal.invariant-loop-name
invariant-loop-name g l = l.texts ≡ filter is_text (map (λ entry. string_bytes entry.0.now) (take l.name-index l.row))

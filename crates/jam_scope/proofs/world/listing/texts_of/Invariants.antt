use Rattle.std.proofs.Common.{◌≡◌, take, map, string_bytes}
use Rattle.std.specs.List.{filter}
use Rattle.jam_scope.specs.Names.{is_text}
use Rattle.jam_scope.proofs.world.listing.texts_of.Given as goal

abbrev pub invariant-loop-name : goal.invariant-loop-name
invariant-loop-name l = l.texts ≡ filter is_text (map (λ name. string_bytes name.now) (take l.name-index l.names))

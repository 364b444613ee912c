-- What a list of pairs does not name.
use Rattle.std.specs.Prelude.{List, not, filter}
use Rattle.b2_props.specs.Sets.{Pair}
use Rattle.b2_props.specs.Refinement.{names}

-- the pairs, such as those of a `default-build`, whose features a set does not name
abbrev pub missing : List Pair → List Pair → List Pair
missing set defaults = filter (λ p. not (names set p.0)) defaults

use Rattle.std.specs.Prelude.{ℕ, List, ◌++◌, codes}
use Rattle.b2_props.specs.Sets.{Pair}

-- a property as a text, `<feature>value`
abbrev pub property_text : Pair → List ℕ
property_text p = codes "<" ++ p.0 ++ codes ">" ++ p.1

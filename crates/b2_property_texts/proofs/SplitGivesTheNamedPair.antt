-- After `<`, what `split_once` gives at `>` is the defined pair, and it has no zero bytes; for `pair_after`.
use Rattle.std.proofs.Common.{◌≡◌, ℕ, List, ◌∷◌, [], Option, Some, None, refl, lit<}
use Rattle.std.specs.Option.{option_map, IfSome}
use Rattle.std.specs.Borrow.{Bor}
use Rattle.std.proofs.lemmas.Str.Pattern.{IsSplitOnceResult, split_parts}
use Rattle.std.proofs.Common.{subst}
use Rattle.b2_base.specs.Bytes.{HasNoZero}
use Rattle.b2_property_texts.specs.Cuts.{named_pair, AreClean}
use Rattle.b2_property_texts.proofs.CutIsAtFirstMark.{ends_clean}
use Rattle.b2_property_texts.proofs.NamesBeginWithTheirSign.{named_of}

-- what `split_once` gives at `>`, which is 62
pub pair_of : (rest : List ℕ) (r : Option (Bor (List ℕ) × Bor (List ℕ))) → IsSplitOnceResult 62 rest r → option_map (λ parts. (parts.0.now, parts.1.now)) r ≡ named_pair (60 ∷ rest)
pair_of rest r h = named_of (60 ∷ rest) rest r refl h

pub pair_clean : (rest : List ℕ) (r : Option (Bor (List ℕ) × Bor (List ℕ))) → HasNoZero rest → IsSplitOnceResult 62 rest r → IfSome r (λ parts. AreClean (parts.0.now, parts.1.now))
pair_clean rest None clean h = tt
pair_clean rest (Some x) clean h = ends_clean x.0.now (62 ∷ []) x.1.now (subst HasNoZero (split_parts 62 rest (Some x) h (lit< tt)).0 clean)

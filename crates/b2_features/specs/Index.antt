use Rattle.std.specs.Prelude.{◌≡◌, ℕ, true, List, map, position, String, string_bytes}
use Rattle.std.specs.Global.{Global}
use Rattle.std.specs.List.{list_all}
use Rattle.std.specs.Map.{lookup}
use Rattle.std.specs.Str.{bytes_eq}
use Rattle.b2_features.specs.declared.feature.Feature.{Feature}
use Rattle.b2_features.specs.Table.{seen, is_implicit_in, is_whole}

-- The key of each feature is its name, each implicit value leads to the first feature that has it, and each feature that is
-- neither free nor optional has a value.
pub record IsIndexed (entries : List (String Global × Feature)) (implicit : List (List ℕ × ℕ)) : Type 0 where
  pub keys : map (λ e. string_bytes e.0) entries ≡ map (λ e. e.1.name) entries
  pub places : (value : List ℕ) → lookup (bytes_eq value) implicit ≡ position (is_implicit_in value) (map (λ e. seen e.1) entries)
  pub whole : list_all is_whole (map (λ e. seen e.1) entries) ≡ true

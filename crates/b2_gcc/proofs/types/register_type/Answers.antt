use Rattle.std.specs.List.{list_all}
use Rattle.std.proofs.lemmas.Bool.{and_parts}
use Rattle.b2_base.specs.Segments.{texts}
use Rattle.b2_gcc.specs.Rows.{is_clean}
use Rattle.b2_gcc.proofs.CleanTextsHaveNoZero.{none_zero}
use Rattle.b2_gcc.proofs.types.register_type.Goals as goal

pub owned_texts-requires : goal.owned_texts-requires
owned_texts-requires c = let row = c.args.row.now in none_zero (texts row.suffixes.now) (and_parts (is_clean row.name.now) (list_all is_clean (texts row.suffixes.now)) c.requires).1

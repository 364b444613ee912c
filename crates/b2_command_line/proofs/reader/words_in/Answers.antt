use Rattle.std.proofs.Common.{ℕ, List, [], Option, All, unwrap_or, subst, sym}
use Rattle.b2_base.specs.Bytes.{HasNoZero}
use Rattle.b2_command_line.proofs.reader.words_in.Goals as goal

pub owned_texts-requires : goal.owned_texts-requires
owned_texts-requires c = subst (λ (o : Option (List (List ℕ))). All HasNoZero (unwrap_or o [])) (sym c.in-Some.ensures) c.requires

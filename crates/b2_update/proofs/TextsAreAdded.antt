-- What is written by one call and then another.
use Rattle.std.proofs.Common.{List, ◌++◌, ℕ, Option, Some, None, ap, ◌∙◌, append_assoc}
use Rattle.std.specs.Option.{option_map}
use Rattle.b2_endings.specs.Writings.{Adds}

-- one text, and then another
pub adds_both : (a b : List ℕ) (x y z : Option (List ℕ)) → Adds a x y → Adds b y z → Adds (a ++ b) x z
adds_both a b None y z p q = q ∙ ap (option_map (λ so_far. so_far ++ b)) p
adds_both a b (Some t) y z p q = q ∙ ap (option_map (λ so_far. so_far ++ b)) p ∙ ap Some (append_assoc t a b)

-- Three pieces without zero bytes make a text without any, and `//` has none; for references to targets.
use Rattle.std.proofs.Common.{ℕ, ◌<◌, List, ◌++◌, lit<}
use Rattle.std.specs.Prelude.{codes}
use Rattle.std.proofs.lemmas.List.Elements.{All-append, All-from_recursion}
use Rattle.b2_base.specs.Bytes.{HasNoZero}

-- three pieces without zero bytes
pub clean_pieces : (xs ys zs : List ℕ) → HasNoZero xs → HasNoZero ys → HasNoZero zs → HasNoZero (xs ++ (ys ++ zs))
clean_pieces xs ys zs x y z = All-append (λ byte. 0 < byte) xs (ys ++ zs) x (All-append (λ byte. 0 < byte) ys zs y z)

pub clean_slashes : HasNoZero (codes "//")
clean_slashes = All-from_recursion (λ byte. 0 < byte) (codes "//") (lit< tt, (lit< tt, tt))

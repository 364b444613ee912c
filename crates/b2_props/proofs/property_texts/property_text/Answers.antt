use Rattle.std.proofs.Common.{ℕ, ◌<◌, List, ◌++◌, lit<, sym, subst}
use Rattle.std.specs.Prelude.{codes}
use Rattle.std.proofs.lemmas.List.Elements.{All-append, All-from_recursion}
use Rattle.b2_base.specs.Bytes.{HasNoZero}
use Rattle.b2_props.proofs.property_texts.property_text.Goals as goal

joined : (xs ys : List ℕ) → HasNoZero xs → HasNoZero ys → HasNoZero (xs ++ ys)
joined = All-append (λ byte. 0 < byte)

clean_text : (feature value : List ℕ) → HasNoZero feature → HasNoZero value → HasNoZero (codes "<" ++ (feature ++ (codes ">" ++ value)))
clean_text feature value f v =
    joined (codes "<") (feature ++ (codes ">" ++ value)) (All-from_recursion (λ byte. 0 < byte) (codes "<") (lit< tt, tt))
    (joined feature (codes ">" ++ value) f (joined (codes ">") value (All-from_recursion (λ byte. 0 < byte) (codes ">") (lit< tt, tt)) v))

pub from_string-requires : goal.from_string-requires
from_string-requires c =
    subst HasNoZero (sym c.in_ok-format.ensures.ok)
    (clean_text c.as_str-feature.result.now c.as_str-value.result.now (subst HasNoZero (sym c.as_str-feature.ensures.value) c.as_str-feature.ensures.no_zero) (subst HasNoZero (sym c.as_str-value.ensures.value) c.as_str-value.ensures.no_zero))

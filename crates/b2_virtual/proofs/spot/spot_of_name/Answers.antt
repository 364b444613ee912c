use Rattle.std.proofs.Common.{◌≡◌, ◌++◌, ◌||◌, List, ℕ, codes, IfOk, sym, ◌∙◌, subst}
use Rattle.std.proofs.lemmas.Bool.{cond-true, cond-false}
use Rattle.b2_base.specs.Segments.{is_rooted, is_up}
use Rattle.b2_base.specs.Normal.{first_part}
use Rattle.b2_virtual.specs.Spots.{spot}
use Rattle.b2_virtual.proofs.FolderSpotBeginsThoseInside.{spot_is}
use Rattle.b2_virtual.proofs.spot.spot_of_name.Goals as goal

pub returns-then-is_led : goal.returns-then-is_led
returns-then-is_led c =
    let text : List ℕ = c.args.text.now in
    let short : spot text ≡ text ++ codes "/" =
    spot_is text c.requires.normal c.requires.not_here c.requires.not_root
    ∙ cond-true (is_rooted text || is_up (first_part text)) (text ++ codes "/") (codes "./" ++ (text ++ codes "/")) (sym c.is_led.ensures ∙ c.if-is_led.true) in
    subst (λ (s : List ℕ). IfOk c.slashed.result (λ made. made ≡ s)) (sym short) c.slashed.ensures

pub returns : goal.returns
returns c =
    let text : List ℕ = c.args.text.now in
    let long : spot text ≡ codes "./" ++ (text ++ codes "/") =
    spot_is text c.requires.normal c.requires.not_here c.requires.not_root
    ∙ cond-false (is_rooted text || is_up (first_part text)) (text ++ codes "/") (codes "./" ++ (text ++ codes "/")) (sym c.is_led.ensures ∙ c.if-is_led.false) in
    subst (λ (s : List ℕ). IfOk c.slashed_here.result (λ made. made ≡ s)) (sym long) c.slashed_here.ensures

use Rattle.std.proofs.Common.{◌≡◌, ◌∙◌, ◌++◌, IfOk, cond, sym, ap, subst}
use Rattle.std.specs.Prelude.{codes}
use Rattle.b2_base.specs.Segments.{is_rooted, normal_of}
use Rattle.jam_engine.proofs.scene.placed.Goals as goal

pub returns : goal.returns
returns c =
    let dir = c.args.dir.now in
    let text = c.args.text.now in
    let whole : (dir ++ codes "/") ++ text ≡ cond (is_rooted text) text ((dir ++ codes "/") ++ text) =
    ap (λ b. cond b text ((dir ++ codes "/") ++ text)) (sym c.if-is_rooted.false ∙ c.is_rooted.ensures) in
    subst (λ t. IfOk c.joined_path.result (λ path. path ≡ normal_of t)) whole c.joined_path.ensures

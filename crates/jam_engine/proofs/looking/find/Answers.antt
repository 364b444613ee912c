use Rattle.std.proofs.Common.{◌≡◌, ◌&&◌, refl, sym, ap₂, subst, ◌∙◌}
use Rattle.b2_host.specs.Outside.{Outside}
use Rattle.jam_engine.specs.declared.scene.Found.{Found}
use Rattle.jam_engine.specs.Tables.{is_in, Sees}
use Rattle.jam_engine.specs.Targets.{is_source_of, place_if}
use Rattle.jam_engine.proofs.Looks.{asked_by, found_more}
use Rattle.jam_engine.proofs.MeetsByLook.{by_look, or_then, or_else}
use Rattle.jam_engine.proofs.looking.find.Goals as goal
use Rattle.jam_engine.proofs.looking.find.Goals.{then-is_nocare, else-is_nocare}

pub returns-clause-found : goal.returns-clause-found
returns-clause-found g c =
    let outside = g.F.Files.outside in
    let scene = c.args.scene.now in
    let asked = c.args.asked.now in
    let text = c.args.text.now in
    let one : Found = record { path = c.in_ok-path.path; is_source = c.in_ok-is_source.is_source } in
    let asks : c.if-is_nocare.is_asked ≡ asked_by scene asked text = elim c.if-is_nocare.branch [
      | then-is_nocare w ↦ or_then (is_in scene.index.nocare text) (is_in asked text) _ (w.is_asked-is ∙ w.if-is_nocare.true) (sym c.is_nocare.ensures ∙ w.if-is_nocare.true)
      | else-is_nocare w ↦ or_else (is_in scene.index.nocare text) (is_in asked text) _
          (w.is_asked-is ∙ sym (by_look asked text w.get-else-is_nocare.result w.is_some-is_asked.result w.is_some-is_asked.result w.get-else-is_nocare.ensures w.is_some-is_asked.ensures refl))
          (sym c.is_nocare.ensures ∙ w.if-is_nocare.false)
    ] in (
      c.in_ok-is_source.ensures.0 ∙ c.in_ok-path.ensures.0,
      λ stands sees. found_more c.args.graph.now stands asked scene (record scene { found = c.insert.new.self }) text c.in_ok-key.key one c.requires.asked c.in_ok-key.ensures refl refl c.in_ok-_before.ensures.ok
          (c.in_ok-path.ensures.1 stands sees ∙ ap₂ (λ r b. place_if c.args.graph.now.world.now r stands b text) c.as_slice-roots.ensures c.is_acted-is_acted.ensures)
          (c.in_ok-is_source.ensures.1 stands (subst (λ (o : Outside). Sees o.disk stands) (sym c.in_ok-path.ensures.0) sees) ∙ ap₂ (λ b r. b && is_source_of r stands c.in_ok-path.path) asks c.as_slice-roots.ensures),
    )

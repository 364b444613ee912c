use Rattle.std.proofs.Common.{◌≡◌, ◌∙◌, ◌+◌, ◌++◌, ◌∷◌, [], length, ap, sym, subst, arith}
use Rattle.std.specs.List.{join_with_byte}
use Rattle.std.proofs.lemmas.List.{length-map, take-map}
use Rattle.b2_base.specs.Bytes.{HasNoZero}
use Rattle.b2_base.specs.Segments.{normal_of, texts}
use Rattle.b2_project_walk.proofs.CuttingAddsNoZeroBytes.{beginning_clean}
use Rattle.b2_project_walk.proofs.BeginningsGrowByOne.{paths_more}
use Rattle.b2_project_walk.proofs.directories.paths_of.Goals as goal

pub loop-place-preserved : goal.loop-place-preserved
loop-place-preserved c =
    let segments = c.args.segments.now in
    let place = c.loop-place.place in
    let count : length (texts segments) ≡ length segments = length-map segments (λ text. text.now) in
    c.in_ok-push.ensures.ok
    ∙ ap (λ path. c.loop-place.paths ++ path ∷ []) (c.in_ok-path_of.ensures ∙ ap normal_of (c.as_str.ensures.value ∙ c.in_ok-text.ensures ∙ ap (join_with_byte 47) (sym (take-map (λ text. text.now) (place + 1) segments))))
    ∙ paths_more (texts segments) place c.loop-place.paths (let inside = c.loop-place-test.true in omega (arith, inside, count)) c.loop-place.invariant

pub path_of-requires : goal.path_of-requires
path_of-requires c =
    let segments = c.args.segments.now in
    let place = c.loop-place.place in
    subst HasNoZero (sym (c.as_str.ensures.value ∙ c.in_ok-text.ensures ∙ ap (join_with_byte 47) (sym (take-map (λ text. text.now) (place + 1) segments))))
    (beginning_clean (place + 1) (texts segments) c.requires)

use Rattle.std.proofs.Common.{◌∙◌, sym, ap, subst, lit<, cond, Some, None}
use Rattle.std.specs.Str.{chars}
use Rattle.std.proofs.lemmas.Str.Pattern.{split_parts}
use Rattle.b2_base.proofs.NamesAreCutAtLastSigns.{lacks_from_places}
use Rattle.jam_path.specs.Steps.{Leads}
use Rattle.jam_path.proofs.ClassUpToBracket.{open_bracket, class_at, after_cut, utf8_back, none_closed}
use Rattle.jam_path.proofs.piece.after_bracket.Goals as goal

pub returns-then-rest-unclosed : goal.returns-then-rest-unclosed
returns-then-rest-unclosed c =
    let bytes = c.args.rest.now in
    subst (λ r. Leads c.after_exact.result r bytes) (sym (open_bracket bytes c.args.character c.utf8.rest (none_closed c.args.unclosed bytes c.requires c.if-rest-unclosed.true))) c.after_exact.ensures

pub returns-in-None : goal.returns-in-None
returns-in-None c =
    let bytes = c.args.rest.now in
    subst (λ r. Leads c.after_exact-in-None.result r bytes) (sym (open_bracket bytes c.args.character c.utf8.rest (lacks_from_places 93 bytes (split_parts 93 bytes None c.in-None.ensures.cases (lit< tt))))) c.after_exact-in-None.ensures

pub returns-then-is_taken : goal.returns-then-is_taken
returns-then-is_taken c =
    let bytes = c.args.rest.now in
    let p = split_parts 93 bytes (Some (c.in-Some.members, c.in-Some.after)) c.in-Some.ensures.cases (lit< tt) in (
      class_at bytes c.in-Some.members.now c.in-Some.after.now c.args.character c.utf8.rest p.0 (lacks_from_places 93 c.in-Some.members.now p.1)
          ∙ ap (λ t. cond t (Some (chars c.in-Some.after.now)) None) (sym c.is_taken.ensures ∙ c.if-is_taken.true),
      after_cut bytes c.in-Some.members.now c.in-Some.after.now p.0,
      utf8_back bytes c.in-Some.members.now c.in-Some.after.now c.utf8.rest p.0,
    )

pub returns-else-is_taken : goal.returns-else-is_taken
returns-else-is_taken c =
    let bytes = c.args.rest.now in
    let p = split_parts 93 bytes (Some (c.in-Some.members, c.in-Some.after)) c.in-Some.ensures.cases (lit< tt) in
    class_at bytes c.in-Some.members.now c.in-Some.after.now c.args.character c.utf8.rest p.0 (lacks_from_places 93 c.in-Some.members.now p.1)
    ∙ ap (λ t. cond t (Some (chars c.in-Some.after.now)) None) (sym c.is_taken.ensures ∙ c.if-is_taken.false)

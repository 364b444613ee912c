-- The project number of each recorded call is below the count of visits, for what a new walk promises.
use Rattle.std.proofs.Common.{◌<◌, List, [], ◌∷◌, ◌++◌, length, arith}
use Rattle.std.specs.Prelude.{map as each}
use Rattle.std.proofs.lemmas.List.{length-append}
use Rattle.std.proofs.lemmas.List.Elements.{All-nil, All-append, All-map, All-weaker}
use Rattle.b2_declared.specs.declared.visit.Visit.{Visit}
use Rattle.b2_declared.specs.declared.visit.Call.{Call}
use Rattle.jam_journal.specs.Tables.{Text}
use Rattle.jam_natives.specs.declared.decl.Decl.{Decl}
use Rattle.b2_project_walk.specs.Directories.{visit_of}
use Rattle.b2_project_walk.specs.Walking.{AreOfProjects, AreVisited, none_yet, one_more}
use Rattle.b2_project_walk.specs.RecordedCalls.{call_of}

-- with one more project, and calls that its file made
of_one_more : (visits : List Visit) (visit : Visit) (calls : List Call) (decls : List Decl) → AreOfProjects visits calls → AreOfProjects (visits ++ visit ∷ []) (calls ++ each (call_of (length visits)) decls)
of_one_more visits visit calls decls h =
    let count = length-append visits (visit ∷ []) in
    All-append (λ (call : Call). call.project < length (visits ++ visit ∷ [])) calls (each (call_of (length visits)) decls)
    (All-weaker (λ (call : Call). call.project < length visits) (λ (call : Call). call.project < length (visits ++ visit ∷ [])) (λ call below. omega (arith, below, count)) calls h)
    (All-map (λ (call : Call). call.project < length (visits ++ visit ∷ [])) (call_of (length visits)) decls (λ place d inside. omega (arith, count)))

-- of projects that were visited so
pub of_visited : (visits : List Visit) (calls : List Call) (named : List Text) → AreVisited visits calls named → AreOfProjects visits calls
of_visited _ _ _ none_yet = All-nil _
of_visited _ _ _ (one_more visits calls named dir file decls before new) = of_one_more visits (visit_of dir file visits) calls decls (of_visited visits calls named before)

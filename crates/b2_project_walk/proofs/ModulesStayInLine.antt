-- Modules stand below those of visited projects alone, so that of a further project may be put there; for visits.
use Rattle.std.proofs.Common.{◌≡◌, ◌≢◌, ◌⊎◌, inl, inr, ℕ, zero, suc, Bool, true, false, cond, not, IsTrue, List, [], ◌∷◌, ◌++◌, codes, Option, Some, None, is_some, refl, sym, ap, ◌∙◌, subst}
use Rattle.std.specs.Prelude.{slice_get, if◌then◌else◌}
use Rattle.std.specs.FinMap as map
use Rattle.std.specs.List.{list_any}
use Rattle.std.specs.Option.{option_map}
use Rattle.std.specs.Str.{bytes_eq}
use Rattle.std.proofs.lemmas.List.{append_cancel_left, append_cancel_right}
use Rattle.std.proofs.lemmas.Option.{same_Some}
use Rattle.std.proofs.lemmas.Slice.Eq.{bytes_eq-Decides}
use Rattle.b2_declared.specs.declared.visit.Visit.{Visit}
use Rattle.jam_journal.specs.Tables.{Text, Table}
use Rattle.jam_journal.proofs.ReplacingTouchesOnePair.{key_order}
use Rattle.jam_scope.specs.Lines.{upward, line_by, line}
use Rattle.b2_project_walk.specs.Directories.{module_name, place_after, is_visited, module_at, module_above}
use Rattle.b2_project_walk.specs.Running.{MayBePut}
use Rattle.b2_project_walk.specs.Walks.{Walk, put_below}
use Rattle.b2_project_walk.specs.WalkParts.{AreInLine}
use Rattle.b2_project_walk.proofs.VisitsGrowByOne.{visited_more}

-- one directory has one module
pub one_module : (dir other : Text) → module_name dir ≡ module_name other → dir ≡ other
one_module dir other e = append_cancel_right dir other (codes ">") (append_cancel_left (codes "Jamfile<") (dir ++ codes ">") (other ++ codes ">") e)

none_first : (owner first : Text) (texts : List Text) → bytes_eq owner first ≡ false → list_any (bytes_eq owner) texts ≡ false → list_any (bytes_eq owner) (first ∷ texts) ≡ false
none_first owner first texts one rest = rw one rest

module _ (parents : Table Text) (owner : Text) (apart : (below above : Text) → map.get parents (below, []) ≡ Some above → bytes_eq owner above ≡ false) where
  -- a module that stands above none is not above another one
  apart_line : (count : ℕ) (below : Text) → list_any (bytes_eq owner) (line_by count parents below) ≡ false
  apart_line zero below = refl
  apart_line (suc count) below = go (map.get parents (below, [])) refl (λ above. apart_line count above)
    where
      go : (found : Option Text) → map.get parents (below, []) ≡ found → ((above : Text) → list_any (bytes_eq owner) (line_by count parents above) ≡ false)
          → list_any (bytes_eq owner) (upward found (line_by count parents)) ≡ false
      go None is more = refl
      go (Some above) is more = none_first owner above (line_by count parents above) (apart below above is) (more above)

differ_false : (a b : Text) (r : Bool) → bytes_eq a b ≡ r → a ≢ b → r ≡ false
differ_false a b true is differ = absurd (differ ((bytes_eq-Decides a b).0 is))
differ_false a b false is differ = refl

pub is_apart : (dir other : Text) (visits : List Visit) → is_visited dir visits ≡ false → is_visited other visits ≡ true → bytes_eq (module_name dir) (module_name other) ≡ false
is_apart dir other visits new old =
    differ_false (module_name dir) (module_name other) (bytes_eq (module_name dir) (module_name other)) refl
    (λ e. let same : dir ≡ other = one_module dir other e in let both : false ≡ true = sym new ∙ ap (λ d. is_visited d visits) same ∙ old in cc)

none_again : (b : Bool) → b ≡ false → IsTrue (not b)
none_again true h = cc
none_again false h = refl

some_choice : (b : Bool) (count : ℕ) (rest : Option ℕ) → is_some rest ≡ true → is_some (if b then Some count else rest) ≡ true
some_choice true count rest h = refl
some_choice false count rest h = h

here_choice : (b : Bool) (count : ℕ) (rest : Option ℕ) → b ≡ true → is_some (if b then Some count else rest) ≡ true
here_choice true count rest h = refl
here_choice false count rest h = cc

-- the directory of each project was visited
visited_at : (count : ℕ) (visits : List Visit) (place : ℕ) (visit : Visit) → slice_get visits place ≡ Some visit → is_some (place_after count visit.dir visits) ≡ true
visited_at count [] place visit is = cc
visited_at count (first ∷ visits) zero visit is =
    here_choice (bytes_eq visit.dir first.dir) count (place_after (suc count) visit.dir visits) ((bytes_eq-Decides visit.dir first.dir).1 (ap (λ v. v.dir) (sym (same_Some first visit is))))
visited_at count (first ∷ visits) (suc place) visit is =
    some_choice (bytes_eq visit.dir first.dir) count (place_after (suc count) visit.dir visits) (visited_at (suc count) visits place visit is)

-- a module of a project
abbrev IsOfProject : List Visit → Text → Type 0
IsOfProject visits above = (dir : Text) × (is_visited dir visits ≡ true) × (above ≡ module_name dir)

parent_module : (w : Walk) (parent : Option ℕ) (above : Text) → AreInLine w → module_at w.visits parent ≡ Some above → IsOfProject w.visits above
parent_module w None above line is = cc
parent_module w (Some place) above line is = go (slice_get w.visits place) refl is
  where
    go : (found : Option Visit) → slice_get w.visits place ≡ found → option_map (λ visit. visit.«module») found ≡ Some above → IsOfProject w.visits above
    go None at e = cc
    go (Some visit) at e = (visit.dir, visited_at 0 w.visits place visit at, sym (same_Some visit.«module» above e) ∙ line.modules place visit at)

apart_from : (w : Walk) (dir : Text) → AreInLine w → is_visited dir w.visits ≡ false → (below above : Text) → map.get w.state.worlds.now.parents (below, []) ≡ Some above
    → bytes_eq (module_name dir) above ≡ false
apart_from w dir line new below above is =
    let (other, old, e) = line.parents below above is in ap (bytes_eq (module_name dir)) e ∙ is_apart dir other w.visits new old

-- the module of a project that was not visited may be put below that of its parent
pub may_be_put : (w : Walk) (dir : Text) (parent : Option ℕ) → AreInLine w → is_visited dir w.visits ≡ false → MayBePut (module_name dir) (module_at w.visits parent) w.state.worlds.now
may_be_put w dir parent line new = go (module_at w.visits parent) refl
  where
    go : (found : Option Text) → module_at w.visits parent ≡ found → MayBePut (module_name dir) found w.state.worlds.now
    go None is = tt
    go (Some above) is =
        let (other, old, e) = parent_module w parent above line is in
        none_again _ (none_first (module_name dir) above (line_by (map.len w.state.worlds.now.parents) w.state.worlds.now.parents above)
        (ap (bytes_eq (module_name dir)) e ∙ is_apart dir other w.visits new old)
        (apart_line w.state.worlds.now.parents (module_name dir) (apart_from w dir line new) (map.len w.state.worlds.now.parents) above))

at_more : (visits : List Visit) (last : Visit) (place : ℕ) (visit : Visit) → slice_get (visits ++ last ∷ []) place ≡ Some visit → (slice_get visits place ≡ Some visit) ⊎ (visit ≡ last)
at_more [] last zero visit is = inr (sym (same_Some last visit is))
at_more [] last (suc place) visit is = cc
at_more (first ∷ visits) last zero visit is = inl is
at_more (first ∷ visits) last (suc place) visit is = at_more visits last place visit is

of_more : (visits : List Visit) (last : Visit) (above : Text) → IsOfProject visits above → IsOfProject (visits ++ last ∷ []) above
of_more visits last above (dir, old, is) = (dir, visited_more visits last dir old, is)

inserted : (b : Bool) (above found : Text) (rest : Option Text) → cond b (Some above) rest ≡ Some found → (above ≡ found) ⊎ (rest ≡ Some found)
inserted true above found rest is = inl (same_Some above found is)
inserted false above found rest is = inr is

-- with one more project, whose module was put below that of its parent, all is as it was
pub in_line_more : (w : Walk) (last : Visit) (next : Walk) → AreInLine w → last.«module» ≡ module_name last.dir → next.visits ≡ w.visits ++ last ∷ []
    → next.state.worlds.now.parents ≡ (put_below last.«module» (module_above last w.visits) w.state.worlds.now).parents → AreInLine next
in_line_more w last next line named visits put = record {
  modules = λ place visit at. go_at place visit (at_more w.visits last place visit (ap (λ vs. slice_get vs place) (sym visits) ∙ at));
  parents = λ owner above at. subst (λ vs. IsOfProject vs above) (sym visits) (go_put (module_above last w.visits) refl owner above (ap (λ ps. map.get ps (owner, [])) (sym put) ∙ at));
}
  where
    go_at : (place : ℕ) (visit : Visit) → (slice_get w.visits place ≡ Some visit) ⊎ (visit ≡ last) → visit.«module» ≡ module_name visit.dir
    go_at place visit (inl at) = line.modules place visit at
    go_at place visit (inr e) = subst (λ v. v.«module» ≡ module_name v.dir) (sym e) named

    go_in : (parent : Text) → module_above last w.visits ≡ Some parent → (owner above : Text) → (parent ≡ above) ⊎ (map.get w.state.worlds.now.parents (owner, []) ≡ Some above) → IsOfProject (w.visits ++ last ∷ []) above
    go_in parent e owner above (inl same) = of_more w.visits last above (subst (IsOfProject w.visits) same (parent_module w last.parent parent line e))
    go_in parent e owner above (inr at) = of_more w.visits last above (line.parents owner above at)

    go_put : (found : Option Text) → module_above last w.visits ≡ found → (owner above : Text) → map.get (put_below last.«module» found w.state.worlds.now).parents (owner, []) ≡ Some above → IsOfProject (w.visits ++ last ∷ []) above
    go_put None e owner above at = of_more w.visits last above (line.parents owner above at)
    go_put (Some parent) e owner above at =
        go_in parent e owner above (inserted _ parent above _ (sym (map.get-insert key_order w.state.worlds.now.parents (last.«module», []) parent (owner, [])) ∙ at))

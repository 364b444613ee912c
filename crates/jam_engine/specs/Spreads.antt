-- What a list of targets comes to, with what they include and depend on.
use Rattle.std.specs.Prelude.{◌≡◌, Bool, true, false, not, ◌||◌, ◌&&◌, [], ◌∷◌, ◌++◌, filter, if◌then◌else◌}
use Rattle.jam_journal.specs.Tables.{Text}
use Rattle.jam_journal.specs.Scopes.{Value}
use Rattle.jam_graph.specs.declared.graph.Graph.{Graph}
use Rattle.jam_engine.specs.Targets.{has, is_acted, is_notfile, is_nocare, includes_of, depends_of, is_source, place}

module _ (g : Graph) where
  -- what a target that is not made leads to by its DEPENDS
  abbrev pub behind : Text → Value
  behind target = if is_acted g target then [] else depends_of g target

  -- what comes behind a target: its INCLUDES, then, where it is not made, its DEPENDS
  abbrev pub next : Text → Value
  next target = includes_of g target ++ behind target

  -- With these seen, a list meets these, each once, depth first: each target in order, and what comes behind it.
  pub data Meets : Value → Value → Value → Type 0 where
    none : {seen : Value} → Meets seen [] []
    again : {seen more met : Value} {target : Text} → has seen target ≡ true → Meets seen more met → Meets seen (target ∷ more) met
    first : {seen more below others : Value} {target : Text} → has seen target ≡ false → Meets (target ∷ seen) (next target) below → Meets (below ++ target ∷ seen) more others → Meets seen (target ∷ more) (target ∷ below ++ others)

  module _ (stands : Text → Bool) where
    -- left out are groups that are not made, and targets that are not made, do not stand and may be missing
    abbrev pub counts : Text → Bool
    counts target = is_acted g target || not (is_notfile g target || (is_nocare g target && not (is_source g stands (place g stands target))))

    -- what the list comes to
    pub record Spreads (list found : Value) : Type 0 where
      pub met : Value
      pub meets : Meets [] list met
      pub counted : found ≡ filter counts met

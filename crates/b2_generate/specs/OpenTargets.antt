-- Where a main target stands while what it depends on is generated.
use Rattle.std.specs.Prelude.{List, [], ◌∷◌, ◌++◌, Option, map}
use Rattle.b2_props.specs.Sets.{Pair}
use Rattle.b2_props.specs.Elements.{propagated}
use Rattle.b2_props.specs.Refinement.{refined}
use Rattle.b2_references.specs.Names.{Name, features}
use Rattle.b2_alternatives.specs.Choosing.{Chosen}
use Rattle.b2_alternatives.specs.declared.need.Next.{Next}
use Rattle.b2_alternatives.specs.declared.conflict.Conflict.{Conflict}
use Rattle.b2_alternatives.specs.Needs as needs
use Rattle.b2_generate.specs.Answers.{Generated}
use Rattle.b2_declared.specs.declared.whole.Declared.{Declared}

-- the set of its properties so far, the usage requirements that it has met, and what was generated for it, in order
pub record Standing : Type 0 where
  pub set : List Pair
  pub usage : List Pair
  pub done : List (Name × Generated)

-- without what was generated itself
abbrev pub under : Standing → needs.Under
under s = record { set = s.set; usage = s.usage; done = map (λ d. d.0) s.done }

abbrev pub at_first : Chosen → Standing
at_first c = record { set = c.set; usage = []; done = [] }

module _ (d : Declared) where
  -- what comes next for an alternative
  abbrev pub next : Chosen → Standing → Next
  next c s = needs.next d c.target (under s)

  -- what is handed on to what it depends on
  abbrev pub hands_on : Standing → List Pair
  hands_on s = propagated (features d) s.set

  -- what does not go together with what stands
  abbrev pub conflict : Standing → Generated → Option Conflict
  conflict s given = needs.conflict d (under s) given.usage

  -- after a main target was generated: its usage requirements refine the set
  abbrev pub with_target : Standing → Name → Generated → Standing
  with_target s name given = record {
    set = refined (features d) s.set given.usage;
    usage = s.usage ++ given.usage;
    done = s.done ++ (name, given) ∷ [];
  }

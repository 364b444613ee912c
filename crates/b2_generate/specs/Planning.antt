-- The plan of a request.
use Rattle.std.specs.Prelude.{◌≡◌, ℕ, ◌==◌, Bool, not, ◌&&◌, List, [], ◌∷◌, Result, Ok, Err, filter, map}
use Rattle.std.specs.List.{flat_map}
use Rattle.std.specs.Cmp.Lexicographic.{pointwise}
use Rattle.b2_plan.specs.declared.step.Step.{Step}
use Rattle.b2_props.specs.Sets.{Pair, same}
use Rattle.b2_declared.specs.declared.whole.Declared.{Declared}
use Rattle.b2_references.specs.Names.{Name, is_same, target_text}
use Rattle.b2_references.specs.Requests.{asked}
use Rattle.b2_references.specs.declared.asked.AskedPiece.{AskedPiece}
use Rattle.b2_references.specs.declared.asked.AskedPiece.TheVariants.{Main, NoTarget}
use Rattle.b2_generate.specs.Faults.{Fault, no_target}
use Rattle.b2_generate.specs.LoadedProjects.{LoadedProject}
use Rattle.b2_generate.specs.Answers.{Row, Generated, Outcome}
use Rattle.b2_generate.specs.Generation.{Generates}

-- a line of the table of main targets: the target as it is written, its alternative and the set of its properties
pub record Line : Type 0 where
  pub target : List ℕ
  pub alternative : ℕ
  pub set : List Pair

-- What a request asks to build: steps, wanted files and output roots; the rows of the main targets that were opened for it, each
-- different one once; and the table, which has a line for each row.
pub record Planned : Type 0 where
  pub steps : List Step
  pub wanted : List (List ℕ)
  pub roots : List (List ℕ)
  pub rows : List Row
  pub table : List Line

-- ---- the table

abbrev pub is_same_row : Row → Row → Bool
is_same_row a b = is_same a.name b.name && a.alternative == b.alternative && pointwise same a.set b.set

-- the rows in order, each at its first place alone
abbrev pub first_rows : List Row → List Row
first_rows [] = []
first_rows (row ∷ more) = row ∷ filter (λ other. not (is_same_row row other)) (first_rows more)

-- a row as it is written
abbrev pub line : Declared → Row → Line
line d row = record { target = target_text d row.name; alternative = row.alternative; set = row.set }

module _ {E : Type 0} (l : LoadedProject E) where
  -- What a request asks for is generated in order, each with the steps that were joined for those before. A word that names nothing
  -- is refused in its turn. The first refusal is the outcome.
  pub data Answers : List AskedPiece → List Step → Outcome E (List Generated) → Type 0 where
    all_given : (before : List Step) → Answers [] before (Ok ([], before))
    names_nothing : (word : List ℕ) (more : List AskedPiece) (before : List Step) → Answers (NoTarget word ∷ more) before (Err (no_target word))
    refused : (name : Name) (set : List Pair) (more : List AskedPiece) (before : List Step) (fault : Fault E) →
        Generates l [] name set before (Err fault) → Answers (Main name set ∷ more) before (Err fault)
    refused_later : (name : Name) (set : List Pair) (more : List AskedPiece) (before between : List Step) (given : Generated) (fault : Fault E) →
        Generates l [] name set before (Ok (given, between)) → Answers more between (Err fault) → Answers (Main name set ∷ more) before (Err fault)
    given : (name : Name) (set : List Pair) (more : List AskedPiece) (before between after : List Step) (first : Generated) (others : List Generated) →
        Generates l [] name set before (Ok (first, between)) → Answers more between (Ok (others, after)) →
        Answers (Main name set ∷ more) before (Ok (first ∷ others, after))

  -- the wanted files are the entries of what was asked for, in order
  abbrev pub planned : List Generated → List Step → Planned
  planned made steps = record {
    steps = steps;
    wanted = flat_map (λ g. map (λ e. e.path) g.supply.entries) made;
    roots = l.roots;
    rows = first_rows (flat_map (λ g. g.rows) made);
    table = map (line l.declared) (first_rows (flat_map (λ g. g.rows) made));
  }

  abbrev pub planned_of : Outcome E (List Generated) → Result Planned (Fault E)
  planned_of (Ok (made, steps)) = Ok (planned made steps)
  planned_of (Err fault) = Err fault

  -- the plan of a request, by its sets and its target words, or the first refusal
  pub record Plans (sets : List (List Pair)) (words : List (List ℕ)) (result : Result Planned (Fault E)) : Type 0 where
    pub outcome : Outcome E (List Generated)
    pub answers : Answers (asked l.declared sets words) [] outcome
    pub is : result ≡ planned_of outcome

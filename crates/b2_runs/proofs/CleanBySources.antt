use Rattle.std.proofs.Common.{◌≡◌, ℕ, zero, suc, List, [], ◌∷◌, length, inl, inr, sym, ap, ◌∙◌, Some, option_map}
use Rattle.std.specs.List.{AllByRecursion}
use Rattle.b2_host.specs.Disks.{File, Folder}
use Rattle.b2_plan.specs.declared.step.Step.{Step}
use Rattle.b2_plan.specs.Sources.{Build, IsInRoots, IsSource, IsGiven, IsMissing, Includes}
use Rattle.b2_plan.specs.Closures.{Value, Values, Known, Known.input, Known.include, IsClosure}
use Rattle.b2_plan.specs.Cleans.{IsSourceValue, IsBuilt, Val, Clean}
use Rattle.b2_runs.specs.ClosureLaws.{Extends}
use Rattle.b2_runs.specs.AfterLaws.{CleanBySources}

-- the files outside the roots are the same
abbrev pub SameSources : Build → Folder → Type 0
SameSources b now = (path : List ℕ) → (IsInRoots b.roots path → ⊥) → now path ≡ b.folder path

-- the same build, with these files before it
abbrev pub moved : Build → Folder → Build
moved b now = record b { folder = now }

pub source_to : (b : Build) (now : Folder) → SameSources b now → (path bytes : List ℕ) → IsSource b path bytes → IsSource (moved b now) path bytes
source_to b now same path bytes s = record { outside = s.outside; stands = ap (option_map (λ (file : File). file.bytes)) (same path s.outside) ∙ s.stands }

given_to : (b : Build) (now : Folder) → SameSources b now → (path : List ℕ) → IsGiven b path → IsGiven (moved b now) path
given_to b now same path (inl (bytes, s)) = inl (bytes, source_to b now same path bytes s)
given_to b now same path (inr made) = inr made

-- the same, from the other to the one
back : (b : Build) (now : Folder) → SameSources b now → SameSources (moved b now) b.folder
back b now same path outside = sym (same path outside)

missing_to : (b : Build) (now : Folder) → SameSources b now → (path : List ℕ) → IsMissing b path → IsMissing (moved b now) path
missing_to b now same path missing given = missing (given_to (moved b now) b.folder (back b now same) path given)

all_missing_to : (b : Build) (now : Folder) → SameSources b now → (paths : List (List ℕ)) → AllByRecursion (IsMissing b) paths → AllByRecursion (IsMissing (moved b now)) paths
all_missing_to b now same [] all = tt
all_missing_to b now same (p ∷ ps) (first, rest) = (missing_to b now same p first, all_missing_to b now same ps rest)

includes_to : (b : Build) (now : Folder) → SameSources b now → (step : Step) (path bytes found : List ℕ) → Includes b step path bytes found → Includes (moved b now) step path bytes found
includes_to b now same step path bytes found i = record {
  include = i.include;
  listed = i.listed;
  first = record { before = i.first.before; after = i.first.after; places_are = i.first.places_are; there = given_to b now same found i.first.there; none_before = all_missing_to b now same i.first.before i.first.none_before };
}

pub known_to : (b : Build) (now : Folder) → SameSources b now → (v w : Values) → Extends v w → (step : Step) (path : List ℕ) → Known b v step path → Known (moved b now) w step path
known_to b now same v w extends step path (input p c) = input p c
known_to b now same v w extends step path (include p bytes found k says inc) =
    include p bytes found (known_to b now same v w extends step p k) (extends p (Some bytes) says) (includes_to b now same step p bytes found inc)

pub close_to : (b : Build) (now : Folder) → SameSources b now → (v w : Values) → Extends v w → Extends w v → (step : Step) (members : List (List ℕ × Value)) → IsClosure b v step members → IsClosure (moved b now) w step members
close_to b now same v w there here step members closure = record {
  ordered = closure.ordered;
  each = λ path value c. let (k, x) = closure.each path value c in (known_to b now same v w there step path k, there path value x);
  whole = λ path k. closure.whole path (known_to (moved b now) b.folder (back b now same) w v here step path k);
}

source_value_to : (b : Build) (now : Folder) → SameSources b now → (path : List ℕ) (value : Value) → IsSourceValue b path value → IsSourceValue (moved b now) path value
source_value_to b now same path value (bytes, s, e) = (bytes, source_to b now same path bytes s, e)

built_to : (b : Build) (now : Folder) → SameSources b now → (v w : Values) → Extends v w → Extends w v → (path : List ℕ) (value : Value) → IsBuilt b v path value → IsBuilt (moved b now) w path value
built_to b now same v w there here path value m = record { number = m.number; step = m.step; makes = m.makes; members = m.members; closure = close_to b now same v w there here m.step m.members m.closure; is = m.is }

val_both : (b : Build) (now : Folder) → SameSources b now → (n : ℕ) → Extends (Val b n) (Val (moved b now) n) × Extends (Val (moved b now) n) (Val b n)
val_both b now same zero = (λ path value s. source_value_to b now same path value s, λ path value s. source_value_to (moved b now) b.folder (back b now same) path value s)
val_both b now same (suc n) =
    let (there, here) = val_both b now same n in (
      λ path value x. elim x [
        | inl s ↦ inl (source_value_to b now same path value s)
        | inr m ↦ inr (built_to b now same (Val b n) (Val (moved b now) n) there here path value m)
      ],
      λ path value x. elim x [
        | inl s ↦ inl (source_value_to (moved b now) b.folder (back b now same) path value s)
        | inr m ↦ inr (built_to (moved b now) b.folder (back b now same) (Val (moved b now) n) (Val b n) here there path value m)
      ],
    )

pub clean_to : (b : Build) (now : Folder) → SameSources b now → Extends (Clean b) (Clean (moved b now))
clean_to b now same = (val_both b now same (length b.steps)).0

pub clean_from : (b : Build) (now : Folder) → SameSources b now → Extends (Clean (moved b now)) (Clean b)
clean_from b now same = (val_both b now same (length b.steps)).1

-- the clean build depends on files outside the roots alone
pub clean_by_sources : CleanBySources
clean_by_sources b now path value same = (clean_to b now same path value, clean_from b now same path value)

-- so do closures by the clean build
pub clean_close_to : (b : Build) (now : Folder) → SameSources b now → (step : Step) (members : List (List ℕ × Value)) → IsClosure b (Clean b) step members → IsClosure (moved b now) (Clean (moved b now)) step members
clean_close_to b now same step members closure = close_to b now same (Clean b) (Clean (moved b now)) (clean_to b now same) (clean_from b now same) step members closure

-- what is known by fewer values of the other build
pub known_from : (b : Build) (now : Folder) → SameSources b now → (v w : Values) → Extends v w → (step : Step) (path : List ℕ) → Known (moved b now) v step path → Known b w step path
known_from b now same v w extends step path k = known_to (moved b now) b.folder (back b now same) v w extends step path k

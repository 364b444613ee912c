-- Laws of what files and words come to.
use Rattle.std.specs.Prelude.{◌≡◌, ℕ, List, [], Option, Result}
use Rattle.b2_host.specs.Disks.{Disk}
use Rattle.jam_journal.specs.Tables.{Text}
use Rattle.b2_generate.specs.Planning.{Planned}
use Rattle.b2_prepare.specs.Meaning.{Refusal, Means, AsksTests}

-- they come to one thing, whatever pattern is refused
abbrev pub OneMeaning : Type 0
OneMeaning = (disk : Disk) (refused : Option (ℕ × Text)) (words lines others : List Text) (a b : Result Planned Refusal) →
    Means disk refused words lines a → Means disk refused words others b → (lines ≡ others) × (a ≡ b)

-- a plan asks for its tests in one way
abbrev pub OneAsking : Type 0
OneAsking = (disk : Disk) (words : List Text) (plan : Planned) (tests others : List (List ℕ × ℕ)) → AsksTests disk words plan tests → AsksTests disk words plan others → tests ≡ others

-- a plan asks for no test where the load declared none
abbrev pub NoneAsked : Type 0
NoneAsked = (disk : Disk) (words : List Text) (plan : Planned) (tests : List (List ℕ × ℕ)) (asks : AsksTests disk words plan tests) → asks.found.tests ≡ [] → tests ≡ []

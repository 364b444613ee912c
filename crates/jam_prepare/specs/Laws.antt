-- Laws of what a file and words come to.
use Rattle.std.specs.Prelude.{◌≡◌, ℕ, List, Option, Result}
use Rattle.b2_host.specs.Disks.{Disk}
use Rattle.jam_journal.specs.Tables.{Text}
use Rattle.jam_graph.specs.Loads.{Refusal}
use Rattle.jam_engine.specs.Plans.{Target}
use Rattle.jam_prepare.specs.Meaning.{Means}

-- they come to one thing, whatever pattern is refused
abbrev pub OneMeaning : Type 0
OneMeaning = (disk : Disk) (refused : Option (ℕ × Text)) (file : Text) (words lines others : List Text) (a b : Result Target Refusal)
    → Means disk refused file words lines a → Means disk refused file words others b → (lines ≡ others) × (a ≡ b)

-- What holds of every visible disk is told of bytes that were written.
use Rattle.std.proofs.Common.{◌≡◌, ℕ, List, ◌++◌, Option, Some, None, IfSome, ap}
use Rattle.std.specs.Option.{option_map}
use Rattle.b2_host.specs.Disks.{Disk}
use Rattle.b2_host.specs.Output.{Output, with_written}
use Rattle.b2_runs.specs.Moments.{Moment}
use Rattle.b2_top.specs.BetweenMoments.{WrittenTold}

pub if_map : {P Q : Disk → Type 0} (d : Option Disk) → ((disk : Disk) → P disk → Q disk) → IfSome d P → IfSome d Q
if_map None f h = tt
if_map (Some disk) f h = f disk h

pub if_all : {Q : Disk → Type 0} (d : Option Disk) → ((disk : Disk) → Q disk) → IfSome d Q
if_all None f = tt
if_all (Some disk) f = f disk

-- these bytes were written
pub written_told : (before after : Moment) (bytes : List ℕ) (Holds : Disk → List ℕ → Type 0) → after.out.written ≡ option_map (λ so_far. so_far ++ bytes) before.out.written
    → IfSome before.host.disk (λ disk. Holds disk bytes) → WrittenTold before after Holds
written_told before after bytes Holds e h = go before.host.disk before.out.written after.out.written e h
  where
    go : (d : Option Disk) (text later : Option (List ℕ)) → later ≡ option_map (λ so_far. so_far ++ bytes) text → IfSome d (λ disk. Holds disk bytes)
        → IfSome d (λ disk. IfSome text (λ so_far. (written : List ℕ) × (later ≡ Some (so_far ++ written)) × Holds disk written))
    go None text later e h = tt
    go (Some disk) None later e h = tt
    go (Some disk) (Some so_far) later e h = (bytes, e, h)

pub text_of : (bytes : List ℕ) (x y : Output) → y ≡ with_written bytes x → y.written ≡ option_map (λ so_far. so_far ++ bytes) x.written
text_of bytes x y p = ap (λ (o : Output). o.written) p

pub faults_of : (bytes : List ℕ) (x y : Output) → y ≡ with_written bytes x → y.faults ≡ x.faults
faults_of bytes x y p = ap (λ (o : Output). o.faults) p

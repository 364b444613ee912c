-- Calls that ask for files compose, and each exit of one is such a call.
use Rattle.std.proofs.Common.{◌≡◌, ◌∙◌, ℕ, List, Result, Ok, Err, refl, sym, ap, subst}
use Rattle.std.specs.Option.{IfSome}
use Rattle.b2_host.specs.Disks.{Disk}
use Rattle.b2_host.specs.Outside.{Outside}
use Rattle.b2_plan.specs.declared.step.Step.{Step}
use Rattle.b2_facts.specs.declared.stop.FilesStop.{FilesStop}
use Rattle.b2_facts.specs.declared.stop.FilesStop.TheVariants as stops
use Rattle.b2_facts.specs.Facts.{Knowledge}
use Rattle.b2_facts.specs.Growth.{Learns, OfNone}
use Rattle.b2_facts.specs.Truth.{StaysTrue}
use Rattle.b2_facts.proofs.FactsGrow.{learns_then, told_map, told_all, told_then}
use Rattle.b2_endings.specs.Endings.{StopLooks}
use Rattle.b2_endings.specs.Missing.{AsksFiles}

-- a stop is one of any result
looks_err : (T S : Type 0) (x y : Outside) (stop : FilesStop) → StopLooks {T = T} x y (Err stop) → StopLooks {T = S} x y (Err stop)
looks_err T S x y stops.Host looks = looks
looks_err T S x y stops.OutOfMemory looks = looks
looks_err T S x y (stops.TooBig number size) looks = looks

module _ (steps : List Step) (roots : List (List ℕ)) where
  -- a call that looked, and did not fail
  pub asks_looked : (f g : Knowledge) (x y : Outside) → y ≡ x → Learns steps roots OfNone f g
      → IfSome x.disk (λ disk. (s : List Step) (r : List (List ℕ)) → StaysTrue s r disk.now f g) → AsksFiles {T = Unit {0}} steps roots f x g y (Ok tt)
  asks_looked f g x y same learns told = record {
    host = same;
    learns = learns;
    told = told_map x.disk (λ disk. (s : List Step) (r : List (List ℕ)) → StaysTrue s r disk.now f g) (λ disk. StaysTrue steps roots disk.now f g) (λ disk so. so steps roots) told;
  }

  -- a call that asks the host for nothing
  pub asks_quiet : (f g : Knowledge) (x : Outside) → Learns steps roots OfNone f g → ((disk : Disk) → StaysTrue steps roots disk.now f g)
      → AsksFiles {T = Unit {0}} steps roots f x g x (Ok tt)
  asks_quiet f g x learns told = record { host = refl; learns = learns; told = told_all x.disk _ told }

  -- one call, and then another
  pub asks_then : {T : Type 0} (f g h : Knowledge) (x y z : Outside) (r : Result T FilesStop) → AsksFiles {T = Unit {0}} steps roots f x g y (Ok tt)
      → AsksFiles steps roots g y h z r → AsksFiles steps roots f x h z r
  asks_then f g h x y z r one two = record {
    host = subst (λ o. StopLooks o z r) one.host two.host;
    learns = learns_then steps roots OfNone f g h one.learns two.learns;
    told = told_then steps roots OfNone x.disk y.disk f g h (ap (λ (o : Outside). o.disk) one.host) one.learns one.told two.told;
  }

  -- what a call stopped with
  pub asks_err : {S : Type 0} (T : Type 0) (f g : Knowledge) (x y : Outside) (r : Result S FilesStop) (stop : FilesStop) → r ≡ Err stop
      → AsksFiles {T = T} steps roots f x g y (Err stop) → AsksFiles steps roots f x g y r
  asks_err {S} T f g x y r stop e asks = subst (λ z. AsksFiles steps roots f x g y z) (sym e) (record { host = looks_err T S x y stop asks.host; learns = asks.learns; told = asks.told })

  -- no memory was left
  pub asks_no_memory : {S : Type 0} (f g : Knowledge) (x y : Outside) (r : Result S FilesStop) (stop : FilesStop) → r ≡ Err stop → stop ≡ stops.OutOfMemory
      → AsksFiles {T = Unit {0}} steps roots f x g y (Ok tt) → AsksFiles steps roots f x g y r
  asks_no_memory {S} f g x y r stop e q asks = subst (λ z. AsksFiles {T = S} steps roots f x g y z) (sym (e ∙ ap Err q)) (record { host = asks.host; learns = asks.learns; told = asks.told })

  -- it is so of whatever is answered
  pub asks_ok : {S : Type 0} (f g : Knowledge) (x y : Outside) (v : S) → AsksFiles {T = Unit {0}} steps roots f x g y (Ok tt) → AsksFiles steps roots f x g y (Ok v)
  asks_ok f g x y v asks = record { host = asks.host; learns = asks.learns; told = asks.told }

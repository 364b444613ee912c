-- Files are asked for, and then more of them.
use Rattle.std.proofs.Common.{◌≡◌, ℕ, List, [], Option, Some, None, Result, Ok, Err, refl, sym, ap, subst, ◌∙◌}
use Rattle.std.specs.Prelude.{IfErr}
use Rattle.std.specs.List.{Contains}
use Rattle.std.specs.Option.{IfSome}
use Rattle.b2_base.specs.Counts.{Rose}
use Rattle.b2_host.specs.declared.fault.Failed.{Failed}
use Rattle.b2_host.specs.Disks.{Folder, Disk}
use Rattle.b2_host.specs.Outside.{Outside, Risks, Looks}
use Rattle.b2_plan.specs.declared.step.Step.{Step}
use Rattle.b2_facts.specs.declared.fault.ReadFault.{ReadFault}
use Rattle.b2_facts.specs.declared.fault.ReadFault.TheVariants as faults
use Rattle.b2_facts.specs.declared.file_facts.FileFacts.{FileFacts}
use Rattle.b2_facts.specs.declared.stop.FilesStop.{FilesStop}
use Rattle.b2_facts.specs.declared.stop.FilesStop.TheVariants as stops
use Rattle.b2_facts.specs.Facts.{Knowledge, IsNumber, IsFile, path_at, file_at}
use Rattle.b2_facts.specs.Growth.{Grows, Learns, OfOne, IncludesStay}
use Rattle.b2_facts.specs.Truth.{StaysTrue}
use Rattle.b2_facts.specs.Asks.{ReadsAtMost, IsTooBigFor}
use Rattle.b2_facts.specs.Stops.{stop_of_read, StopTold}
use Rattle.b2_facts.proofs.ListsAtPlaces.{some_is, get_some}
use Rattle.b2_verdicts.specs.declared.step_numbers.StepNumbers.{StepNumbers}
use Rattle.b2_verdicts.specs.Sights.{digest_in}
use Rattle.b2_verdicts.specs.VerdictCalls.{IsOfStep, IsUndigested, ReadsOnly, IsTooBigOf, KnowsMore, Always, Asks}
use Rattle.b2_verdicts.specs.Digested.{IsGoneIfUnknown}
use Rattle.b2_verdicts.proofs.WhatIsKnownStays.{unknown_before}
use Rattle.b2_verdicts.proofs.MoreIsKnown.{knows_then, knows_weaker, knows_grows, knows_by, outs_of_step, ins_of_step}
use Rattle.b2_verdicts.proofs.OnlyReadsAreAdded.{reads_none, reads_then, reads_weaker, reads_look, reads_at_most, counts_ok, counts_err}

-- a path that is read stays one, where more is known after
read_before : (P : ℕ → Type 0) (f g h : Knowledge) → Grows g h → (path : List ℕ) → IsUndigested P f g path → IsUndigested P f h path
read_before P f g h grows path (n, p, unknown, name) = (n, p, unknown, grows.paths n path name)

-- and where less was known before
read_after : (P : ℕ → Type 0) (f g h : Knowledge) → Grows f g → (path : List ℕ) → IsUndigested P g h path → IsUndigested P f h path
read_after P f g h grows path (n, p, unknown, name) = (n, p, unknown_before f g n grows unknown, name)

told_none : (disk : Option Disk) → IfSome disk (λ d. Unit {0})
told_none None = tt
told_none (Some d) = tt

-- the answer may be another
pub asks_ok : {T U : Type 0} (P : ℕ → Type 0) (Q : Folder → Type 0) (f g : Knowledge) (x y : Outside) (a : T) (b : U) → Asks {T = T} P Q f g x y (Ok a) → Asks {T = U} P Q f g x y (Ok b)
asks_ok P Q f g x y a b asks = record { effect = asks.effect; counts = asks.counts; learns = asks.learns; too_big = tt }

-- memory ran out behind it
pub asks_memory : {T U : Type 0} (P : ℕ → Type 0) (Q : Folder → Type 0) (f g : Knowledge) (x y : Outside) (a : T) → Asks {T = T} P Q f g x y (Ok a) → Asks {T = U} P Q f g x y (Err stops.OutOfMemory)
asks_memory P Q f g x y a asks = record { effect = asks.effect; counts = asks.counts; learns = asks.learns; too_big = told_none x.disk }

-- a stop that a call answered is handed on
pub asks_stop : {T U : Type 0} (P : ℕ → Type 0) (Q : Folder → Type 0) (f g : Knowledge) (x y : Outside) (stop : FilesStop) → Asks {T = T} P Q f g x y (Err stop) → Asks {T = U} P Q f g x y (Err stop)
asks_stop P Q f g x y stops.Host asks = record { effect = asks.effect; counts = asks.counts; learns = asks.learns; too_big = asks.too_big }
asks_stop P Q f g x y stops.OutOfMemory asks = record { effect = asks.effect; counts = asks.counts; learns = asks.learns; too_big = asks.too_big }
asks_stop P Q f g x y (stops.TooBig number size) asks = record { effect = asks.effect; counts = asks.counts; learns = asks.learns; too_big = asks.too_big }

-- nothing was asked of the host
pub asks_quiet : {T : Type 0} (P : ℕ → Type 0) (Q : Folder → Type 0) (f g : Knowledge) (x y : Outside) (a : T) → y ≡ x → KnowsMore P x.disk Q f g → Asks {T = T} P Q f g x y (Ok a)
asks_quiet P Q f g x y a same knows = record { effect = reads_none (IsUndigested P f g) x y same; counts = ap (λ (o : Outside). o.faults) same; learns = knows; too_big = tt }

-- the host was looked at, and failed
pub asks_look_fails : (T : Type 0) {U : Type 0} (P : ℕ → Type 0) (Q : Folder → Type 0) (f g : Knowledge) (x y : Outside) (e : Failed) → Looks {T = T} x y (Err e) → KnowsMore P x.disk Q f g → Asks {T = U} P Q f g x y (Err stops.Host)
asks_look_fails T P Q f g x y e failed knows = record { effect = reads_look {T = T} (IsUndigested P f g) x y (Err e) failed; counts = (failed.may_fail, failed.rose); learns = knows; too_big = told_none x.disk }

counts_then : {U : Type 0} (x y z : Outside) (r : Result U FilesStop) → y.risks ≡ x.risks → y.faults ≡ x.faults → StopTold y z r → StopTold x z r
counts_then x y z (Ok b) risks same told = told ∙ same
counts_then x y z (Err stops.Host) risks same told = (ap (λ (r : Risks). r.may_fail) (sym risks) ∙ told.0, subst (λ n. Rose n z.faults) same told.1)
counts_then x y z (Err stops.OutOfMemory) risks same told = told ∙ same
counts_then x y z (Err (stops.TooBig number size)) risks same told = told ∙ same

big_then : {U : Type 0} (P : ℕ → Type 0) (h : Knowledge) (x y : Option Disk) (r : Result U FilesStop) → y ≡ x → IfErr r (λ stop. IfSome y (λ disk. IsTooBigOf P h disk.now stop)) → IfErr r (λ stop. IfSome x (λ disk. IsTooBigOf P h disk.now stop))
big_then P h x y r same told = subst (λ d. IfErr r (λ stop. IfSome d (λ disk. IsTooBigOf P h disk.now stop))) same told

-- files are asked for, and then more of them
pub asks_then : {T U : Type 0} (P : ℕ → Type 0) (Q : Folder → Type 0) (f g h : Knowledge) (x y z : Outside) (a : T) (r : Result U FilesStop) → Asks {T = T} P Q f g x y (Ok a) → Asks {T = U} P Q g h y z r → Asks {T = U} P Q f h x z r
asks_then {T} {U} P Q f g h x y z a r first next = record {
  effect = reads_then (IsUndigested P f h) x y z
      (reads_weaker (IsUndigested P f g) (IsUndigested P f h) x y (read_before P f g h (knows_grows P y.disk Q g h next.learns)) first.effect)
      (reads_weaker (IsUndigested P g h) (IsUndigested P f h) y z (read_after P f g h (knows_grows P x.disk Q f g first.learns)) next.effect);
  counts = counts_then {U = U} x y z r first.effect.only_log.risks first.counts next.counts;
  learns = knows_then P x.disk Q f g h first.learns (subst (λ d. KnowsMore P d Q g h) first.effect.files next.learns);
  too_big = big_then {U = U} P h x.disk y.disk r first.effect.files next.too_big;
}

big_weaker : {U : Type 0} (P R : ℕ → Type 0) (g : Knowledge) (x : Option Disk) (r : Result U FilesStop) → ((n : ℕ) → P n → R n) → IfErr r (λ stop. IfSome x (λ disk. IsTooBigOf P g disk.now stop)) → IfErr r (λ stop. IfSome x (λ disk. IsTooBigOf R g disk.now stop))
big_weaker P R g x (Ok a) more told = tt
big_weaker P R g None (Err stop) more told = tt
big_weaker P R g (Some d) (Err stops.Host) more told = tt
big_weaker P R g (Some d) (Err stops.OutOfMemory) more told = tt
big_weaker P R g (Some d) (Err (stops.TooBig number size)) more told = (more number told.0, told.1)

-- of more files, or where more is asked
pub asks_weaker : {T : Type 0} (P R : ℕ → Type 0) (Q S : Folder → Type 0) (f g : Knowledge) (x y : Outside) (r : Result T FilesStop) → ((n : ℕ) → P n → R n) → ((now : Folder) → S now → Q now) → Asks {T = T} P Q f g x y r → Asks {T = T} R S f g x y r
asks_weaker {T} P R Q S f g x y r more asks_for asks = record {
  effect = reads_weaker (IsUndigested P f g) (IsUndigested R f g) x y (λ path p. (p.0, more p.0 p.1, p.2, p.3)) asks.effect;
  counts = asks.counts;
  learns = knows_weaker P R x.disk Q S f g more asks_for asks.learns;
  too_big = big_weaker {U = T} P R g x.disk r more asks.too_big;
}

-- more became known without the host, and then it was asked
pub asks_after : {T : Type 0} (P : ℕ → Type 0) (Q : Folder → Type 0) (f g h : Knowledge) (x y : Outside) (r : Result T FilesStop) → KnowsMore P x.disk Q f g → Asks {T = T} P Always g h x y r → Asks {T = T} P Q f h x y r
asks_after {T} P Q f g h x y r knows asks =
    asks_then {T = Unit {0}} {U = T} P Q f g h x x y tt r (asks_quiet P Q f g x x tt refl knows) (asks_weaker {T = T} P P Always Q g h x y r (λ n p. p) (λ now q. tt) asks)

-- more became known by looks, and then files are asked for
pub asks_behind : {T : Type 0} (P : ℕ → Type 0) (Q : Folder → Type 0) (f g h : Knowledge) (x y z : Outside) (r : Result T FilesStop) → y ≡ x → KnowsMore P x.disk Q f g → Asks {T = T} P Q g h y z r → Asks {T = T} P Q f h x z r
asks_behind {T} P Q f g h x y z r same knows asks = asks_then {T = Unit {0}} {U = T} P Q f g h x y z tt r (asks_quiet P Q f g x y tt same knows) asks

-- ---- files of a step

pub asks_outs : {T : Type 0} (numbers : StepNumbers) (Q : Folder → Type 0) (f g : Knowledge) (x y : Outside) (r : Result T FilesStop) (ns : List ℕ) → ns ≡ numbers.outs → Asks {T = T} (Contains ns) Q f g x y r → Asks {T = T} (IsOfStep numbers) Q f g x y r
asks_outs {T} numbers Q f g x y r ns e asks = asks_weaker {T = T} (Contains ns) (IsOfStep numbers) Q Q f g x y r (outs_of_step numbers ns e) (λ now q. q) asks

pub asks_ins : {T : Type 0} (numbers : StepNumbers) (Q : Folder → Type 0) (f g : Knowledge) (x y : Outside) (r : Result T FilesStop) (ns : List ℕ) → ns ≡ numbers.ins → Asks {T = T} (Contains ns) Q f g x y r → Asks {T = T} (IsOfStep numbers) Q f g x y r
asks_ins {T} numbers Q f g x y r ns e asks = asks_weaker {T = T} (Contains ns) (IsOfStep numbers) Q Q f g x y r (ins_of_step numbers ns e) (λ now q. q) asks

-- ---- exits

-- a stop is handed on
pub asks_exit : {T U : Type 0} (P : ℕ → Type 0) (Q : Folder → Type 0) (f g : Knowledge) (x y : Outside) (stop : FilesStop) (r : Result U FilesStop) → r ≡ Err stop → Asks {T = T} P Q f g x y (Err stop) → Asks {T = U} P Q f g x y r
asks_exit {T} {U} P Q f g x y stop r e asks = subst (Asks {T = U} P Q f g x y) (sym e) (asks_stop {T = T} {U = U} P Q f g x y stop asks)

-- memory ran out before the host was asked
pub asks_no_memory : {U : Type 0} (P : ℕ → Type 0) (Q : Folder → Type 0) (f g : Knowledge) (x : Outside) (r : Result U FilesStop) → r ≡ Err stops.OutOfMemory → KnowsMore P x.disk Q f g → Asks {T = U} P Q f g x x r
asks_no_memory {U} P Q f g x r e knows = subst (Asks {T = U} P Q f g x x) (sym e) (asks_memory {T = Unit {0}} {U = U} P Q f g x x tt (asks_quiet P Q f g x x tt refl knows))

-- memory ran out behind what was asked
pub asks_memory_exit : {T U : Type 0} (P : ℕ → Type 0) (Q : Folder → Type 0) (f g : Knowledge) (x y : Outside) (a : T) (r : Result U FilesStop) → r ≡ Err stops.OutOfMemory → Asks {T = T} P Q f g x y (Ok a) → Asks {T = U} P Q f g x y r
asks_memory_exit {T} {U} P Q f g x y a r e asks = subst (Asks {T = U} P Q f g x y) (sym e) (asks_memory {T = T} {U = U} P Q f g x y a asks)

-- a look at the host failed
pub asks_failed : (T : Type 0) {U : Type 0} (P : ℕ → Type 0) (Q : Folder → Type 0) (f g : Knowledge) (x y : Outside) (error : Failed) (r : Result U FilesStop) → r ≡ Err stops.Host → Looks {T = T} x y (Err error) → KnowsMore P x.disk Q f g → Asks {T = U} P Q f g x y r
asks_failed T {U} P Q f g x y error r e failed knows = subst (Asks {T = U} P Q f g x y) (sym e) (asks_look_fails T {U = U} P Q f g x y error failed knows)

-- ---- a digest is found

name_after : (f g : Knowledge) (n : ℕ) → IsNumber f n → Grows f g → (path : List ℕ) × (path_at f n ≡ Some path) × (path_at g n ≡ Some path)
name_after f g n number grows = let (path, name) = get_some f.paths n number.0 in (path, name, grows.paths n path name)

found_reads : {T : Type 0} (f g : Knowledge) (n : ℕ) (x y : Outside) (r : Result T ReadFault) → IsNumber f n → Grows f g
    → ((path : List ℕ) → path_at f n ≡ Some path → ReadsAtMost {T = T} path x y r)
    → ((file : FileFacts) (digest : List ℕ) → file_at f n ≡ Some file → file.digest ≡ Some digest → y ≡ x)
    → ReadsOnly (IsUndigested (OfOne n) f g) x y
found_reads {T} f g n x y r number grows reads known =
    let (file, at) = get_some f.files n number.1 in
    let (path, before, after) = name_after f g n number grows in
    go file at path before after file.digest refl
  where
    go : (file : FileFacts) → file_at f n ≡ Some file → (path : List ℕ) → path_at f n ≡ Some path → path_at g n ≡ Some path → (digest : Option (List ℕ)) → file.digest ≡ digest → ReadsOnly (IsUndigested (OfOne n) f g) x y
    go file at path before after None e = reads_at_most {T = T} (IsUndigested (OfOne n) f g) path x y r (n, refl, ap digest_in at ∙ e, after) (reads path before)
    go file at path before after (Some digest) e = reads_none (IsUndigested (OfOne n) f g) x y (known file digest at e)

pub found_ok : {T U : Type 0} (f g : Knowledge) (n : ℕ) (x y : Outside) (a : T) (b : U) → IsNumber f n
    → ((path : List ℕ) → path_at f n ≡ Some path → ReadsAtMost {T = T} path x y (Ok a))
    → ((file : FileFacts) (digest : List ℕ) → file_at f n ≡ Some file → file.digest ≡ Some digest → y ≡ x)
    → ((steps : List Step) (roots : List (List ℕ)) → Learns steps roots (OfOne n) f g)
    → IncludesStay f g
    → IfSome x.disk (λ d. (steps : List Step) (roots : List (List ℕ)) → StaysTrue steps roots d.now f g)
    → Asks {T = U} (OfOne n) Always f g x y (Ok b)
found_ok {T} f g n x y a b number reads known learns includes told =
    let (path, name) = get_some f.paths n number.0 in record {
      effect = found_reads {T = T} f g n x y (Ok a) number (learns [] []).grows reads known;
      counts = counts_ok {T = T} path x y a (reads path name);
      learns = knows_by (OfOne n) x.disk Always f g learns includes told;
      too_big = tt;
    }

big_found : (disk : Option Disk) (f g : Knowledge) (n : ℕ) (fault : ReadFault) → IsNumber f n → Grows f g
    → IfSome disk (λ d. (path : List ℕ) → path_at f n ≡ Some path → IsTooBigFor 268435456 path d.now fault)
    → IfSome disk (λ d. IsTooBigOf (OfOne n) g d.now (stop_of_read fault n))
big_found None f g n fault number grows told = tt
big_found (Some d) f g n faults.Failed number grows told = tt
big_found (Some d) f g n faults.OutOfMemory number grows told = tt
big_found (Some d) f g n (faults.TooBig size) number grows told =
    (refl, λ path name. let (own, before, after) = name_after f g n number grows in told path (before ∙ ap Some (some_is own path (sym after ∙ name))))

pub found_err : (T : Type 0) {U : Type 0} (f g : Knowledge) (n : ℕ) (x y : Outside) (fault : ReadFault) → IsNumber f n
    → ((path : List ℕ) → path_at f n ≡ Some path → ReadsAtMost {T = T} path x y (Err fault))
    → ((file : FileFacts) (digest : List ℕ) → file_at f n ≡ Some file → file.digest ≡ Some digest → y ≡ x)
    → ((steps : List Step) (roots : List (List ℕ)) → Learns steps roots (OfOne n) f g)
    → IncludesStay f g
    → IfSome x.disk (λ d. (steps : List Step) (roots : List (List ℕ)) → StaysTrue steps roots d.now f g)
    → IfSome x.disk (λ d. (path : List ℕ) → path_at f n ≡ Some path → IsTooBigFor 268435456 path d.now fault)
    → Asks {T = U} (OfOne n) Always f g x y (Err (stop_of_read fault n))
found_err T {U} f g n x y fault number reads known learns includes told big =
    let (path, name) = get_some f.paths n number.0 in record {
      effect = found_reads {T = T} f g n x y (Err fault) number (learns [] []).grows reads known;
      counts = counts_err T U path x y fault n (reads path name);
      learns = knows_by (OfOne n) x.disk Always f g learns includes told;
      too_big = big_found x.disk f g n fault number (learns [] []).grows big;
    }

-- where the digest stays unknown no file stands
pub found_gone : (disk : Option Disk) (f g : Knowledge) (n : ℕ) → IsNumber f n → Grows f g → IfSome disk (λ d. (path : List ℕ) (file : FileFacts) → IsFile g n path file → file.digest ≡ None → d.now path ≡ None) → IsGoneIfUnknown disk g n
found_gone None f g n number grows told unknown = tt
found_gone (Some d) f g n number grows told unknown = λ path name.
    (let (before, at) = get_some f.files n number.1 in
    let (file, here, more) = grows.files n before at in
    told path file (record { path_is = name; file_is = here }) (sym (ap digest_in here) ∙ unknown))

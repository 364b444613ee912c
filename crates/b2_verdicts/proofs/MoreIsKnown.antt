-- More is known, and then more.
use Rattle.std.proofs.Common.{◌≡◌, inl, inr, ℕ, List, [], Option, Some, None, sym, ap, subst, ◌∙◌}
use Rattle.std.specs.List.{Contains}
use Rattle.std.specs.Option.{IfSome}
use Rattle.b2_host.specs.Disks.{Folder, Disk}
use Rattle.b2_host.specs.Outside.{Outside}
use Rattle.b2_plan.specs.declared.step.Step.{Step}
use Rattle.b2_facts.specs.Facts.{Knowledge}
use Rattle.b2_facts.specs.Growth.{Grows, Learns, OfOne, IncludesStay}
use Rattle.b2_facts.specs.Truth.{StaysTrue}
use Rattle.b2_facts.proofs.IncludesAreNotLearned.{includes_same}
use Rattle.b2_facts.proofs.FactsGrow.{learns_same, learns_then, learns_more, true_same, true_then}
use Rattle.b2_verdicts.specs.declared.step_numbers.StepNumbers.{StepNumbers}
use Rattle.b2_verdicts.specs.VerdictCalls.{IsOfStep, KnowsMore, Always}

-- what files include stays, and stays again
includes_then : (f g h : Knowledge) → Grows f g → IncludesStay f g → IncludesStay g h → IncludesStay f h
includes_then f g h grows a b n file later at there = let (middle, is, more) = grows.files n file at in b n middle later is there ∙ a n file middle at is

-- the facts are the same
pub knows_same : (P : ℕ → Type 0) (disk : Option Disk) (Q : Folder → Type 0) (f : Knowledge) → KnowsMore P disk Q f f
knows_same P disk Q f = record { learns = λ steps roots. learns_same steps roots P f; includes = includes_same f; stays = same disk }
  where
    same : (disk : Option Disk) → IfSome disk (λ d. Q d.now → (steps : List Step) (roots : List (List ℕ)) → StaysTrue steps roots d.now f f)
    same None = tt
    same (Some d) = λ q steps roots. true_same steps roots d.now f

-- more is known, and then more
pub knows_then : (P : ℕ → Type 0) (disk : Option Disk) (Q : Folder → Type 0) (f g h : Knowledge) → KnowsMore P disk Q f g → KnowsMore P disk Q g h → KnowsMore P disk Q f h
knows_then P disk Q f g h a b = record {
  learns = λ steps roots. learns_then steps roots P f g h (a.learns steps roots) (b.learns steps roots);
  includes = includes_then f g h (a.learns [] []).grows a.includes b.includes;
  stays = go disk a.stays b.stays;
}
  where
    go : (disk : Option Disk) → IfSome disk (λ d. Q d.now → (steps : List Step) (roots : List (List ℕ)) → StaysTrue steps roots d.now f g) → IfSome disk (λ d. Q d.now → (steps : List Step) (roots : List (List ℕ)) → StaysTrue steps roots d.now g h)
        → IfSome disk (λ d. Q d.now → (steps : List Step) (roots : List (List ℕ)) → StaysTrue steps roots d.now f h)
    go None x y = tt
    go (Some d) x y = λ q steps roots. true_then steps roots P d.now f g h (a.learns steps roots) (x q steps roots) (y q steps roots)

-- it is known of more files, or where more is asked
pub knows_weaker : (P R : ℕ → Type 0) (disk : Option Disk) (Q S : Folder → Type 0) (f g : Knowledge) → ((n : ℕ) → P n → R n) → ((now : Folder) → S now → Q now) → KnowsMore P disk Q f g → KnowsMore R disk S f g
knows_weaker P R disk Q S f g more asks a = record { learns = λ steps roots. learns_more steps roots P R f g more (a.learns steps roots); includes = a.includes; stays = go disk a.stays }
  where
    go : (disk : Option Disk) → IfSome disk (λ d. Q d.now → (steps : List Step) (roots : List (List ℕ)) → StaysTrue steps roots d.now f g) → IfSome disk (λ d. S d.now → (steps : List Step) (roots : List (List ℕ)) → StaysTrue steps roots d.now f g)
    go None x = tt
    go (Some d) x = λ s. x (asks d.now s)

-- what is known has grown
pub knows_grows : (P : ℕ → Type 0) (disk : Option Disk) (Q : Folder → Type 0) (f g : Knowledge) → KnowsMore P disk Q f g → Grows f g
knows_grows P disk Q f g a = (a.learns [] []).grows

-- what a call of the facts learns
pub knows_by : (P : ℕ → Type 0) (disk : Option Disk) (Q : Folder → Type 0) (f g : Knowledge) → ((steps : List Step) (roots : List (List ℕ)) → Learns steps roots P f g) → IncludesStay f g → IfSome disk (λ d. (steps : List Step) (roots : List (List ℕ)) → StaysTrue steps roots d.now f g) → KnowsMore P disk Q f g
knows_by P disk Q f g learns includes told = record { learns = learns; includes = includes; stays = go disk told }
  where
    go : (disk : Option Disk) → IfSome disk (λ d. (steps : List Step) (roots : List (List ℕ)) → StaysTrue steps roots d.now f g) → IfSome disk (λ d. Q d.now → (steps : List Step) (roots : List (List ℕ)) → StaysTrue steps roots d.now f g)
    go None x = tt
    go (Some d) x = λ q. x

-- more is known of some files, and then of one of them, where the files stay as they are
pub knows_one : (P : ℕ → Type 0) (n : ℕ) (disk later : Option Disk) (Q : Folder → Type 0) (f g h : Knowledge) → later ≡ disk → P n → KnowsMore P disk Q f g → KnowsMore (OfOne n) later Q g h → KnowsMore P disk Q f h
knows_one P n disk later Q f g h same p a b = knows_then P disk Q f g h a (knows_weaker (OfOne n) P disk Q Q g h (λ m e. subst P (sym e) p) (λ now q. q) (subst (λ d. KnowsMore (OfOne n) d Q g h) same b))

-- ---- files of a step

pub outs_of_step : (numbers : StepNumbers) (ns : List ℕ) → ns ≡ numbers.outs → (n : ℕ) → Contains ns n → IsOfStep numbers n
outs_of_step numbers ns e n among = inl (subst (λ l. Contains l n) e among)

pub ins_of_step : (numbers : StepNumbers) (ns : List ℕ) → ns ≡ numbers.ins → (n : ℕ) → Contains ns n → IsOfStep numbers n
ins_of_step numbers ns e n among = inr (subst (λ l. Contains l n) e among)

pub knows_outs : (numbers : StepNumbers) (ns : List ℕ) (disk : Option Disk) (Q : Folder → Type 0) (f g : Knowledge) → ns ≡ numbers.outs → KnowsMore (Contains ns) disk Always f g → KnowsMore (IsOfStep numbers) disk Q f g
knows_outs numbers ns disk Q f g e knows = knows_weaker (Contains ns) (IsOfStep numbers) disk Always Q f g (outs_of_step numbers ns e) (λ now q. tt) knows

pub knows_ins : (numbers : StepNumbers) (ns : List ℕ) (disk : Option Disk) (Q : Folder → Type 0) (f g : Knowledge) → ns ≡ numbers.ins → KnowsMore (Contains ns) disk Always f g → KnowsMore (IsOfStep numbers) disk Q f g
knows_ins numbers ns disk Q f g e knows = knows_weaker (Contains ns) (IsOfStep numbers) disk Always Q f g (ins_of_step numbers ns e) (λ now q. tt) knows

-- more is known, and then more, where the files stay as they are
pub knows_after : (P : ℕ → Type 0) (disk later : Option Disk) (Q : Folder → Type 0) (f g h : Knowledge) → later ≡ disk → KnowsMore P disk Q f g → KnowsMore P later Q g h → KnowsMore P disk Q f h
knows_after P disk later Q f g h same a b = knows_then P disk Q f g h a (subst (λ d. KnowsMore P d Q g h) same b)

-- the outputs were asked for, and then the members
pub knows_both : (numbers : StepNumbers) (outs ins : List ℕ) (x y : Outside) (Q : Folder → Type 0) (f g h : Knowledge) → outs ≡ numbers.outs → ins ≡ numbers.ins → y ≡ x → KnowsMore (Contains outs) x.disk Always f g → KnowsMore (Contains ins) y.disk Always g h → KnowsMore (IsOfStep numbers) x.disk Q f h
knows_both numbers outs ins x y Q f g h e d same a b =
    knows_after (IsOfStep numbers) x.disk y.disk Q f g h (ap (λ (o : Outside). o.disk) same) (knows_outs numbers outs x.disk Q f g e a) (knows_ins numbers ins y.disk Q g h d b)

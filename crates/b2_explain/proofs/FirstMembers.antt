-- The first of some members in byte order of path, as they are gone through.
use Rattle.std.proofs.Common.{◌≡◌, ◌⊎◌, inl, inr, ℕ, ◌+◌, ◌<◌, ◌≤◌, List, [], ◌∷◌, Option, Some, None, length, get_or, take, refl, sym, ap, subst, ◌∙◌}
use Rattle.std.specs.List.{Contains}
use Rattle.std.proofs.lemmas.List.{take_more}
use Rattle.std.proofs.lemmas.List.Elements.{Contains-append_left, Contains-push}
use Rattle.b2_base.specs.Bytes.{Before}
use Rattle.b2_sched.specs.Schedules.{Schedule, IsSettled}
use Rattle.b2_facts.specs.declared.file_facts.FileFacts.{FileFacts}
use Rattle.b2_facts.specs.Facts.{Knowledge, IsNumber, path_at, file_at}
use Rattle.b2_facts.specs.Asks.{IsNotGivenBy}
use Rattle.b2_facts.proofs.ListsAtPlaces.{some_is, none_some, get_some}
use Rattle.b2_reach.proofs.MembersAreAdded.{taken_more, take_whole}
use Rattle.b2_reach.specs.Reaches.{IsMissingMember}
use Rattle.b2_explain.specs.Sights.{IsFirstFile, IsFirstNumber, IsUnsettledMember}
use Rattle.b2_explain.proofs.OrderOfPaths.{not_same, before_through}

-- no file is given there; so a member is missing
abbrev pub IsMissingFile : Knowledge → ℕ → Type 0
IsMissingFile f n = (file : FileFacts) × (file_at f n ≡ Some file) × IsNotGivenBy file

-- it is an output of a step that is not settled; so a step that reads it waits
abbrev pub IsUnsettledFile : Schedule → Knowledge → ℕ → Type 0
IsUnsettledFile s f n = (file : FileFacts) × (file_at f n ≡ Some file) × ((maker : ℕ) × (file.maker ≡ Some maker) × (IsSettled s maker → ⊥))

-- one of those so far is one of those with the next
pub among_more : (ns : List ℕ) (i d n : ℕ) → i < length ns → Contains (take i ns) n → Contains (take (i + 1) ns) n
among_more ns i d n low among = subst (λ l. Contains l n) (sym (take_more ns i d low)) (Contains-append_left (take i ns) (get_or ns i d ∷ []) n among)

-- the next one is
pub among_last : (ns : List ℕ) (i d : ℕ) → i < length ns → Contains (take (i + 1) ns) (get_or ns i d)
among_last ns i d low = subst (λ l. Contains l (get_or ns i d)) (sym (take_more ns i d low)) (Contains-push (take i ns) (get_or ns i d))

module _ (f : Knowledge) (P : ℕ → Type 0) where
  -- the file has the property, and of these none with it stands before it
  pub record IsLeast (ns : List ℕ) (n : ℕ) : Type 0 where
    pub number : IsNumber f n
    pub among : Contains ns n
    pub so : P n
    pub none_before : (other : ℕ) (path one : List ℕ) → Contains ns other → P other → path_at f n ≡ Some path → path_at f other ≡ Some one → Before one path → ⊥

  -- of these files the first one with the property, or that there is none
  abbrev pub IsBest : List ℕ → Option ℕ → Type 0
  IsBest ns None = (n : ℕ) → Contains ns n → P n → ⊥
  IsBest ns (Some n) = IsLeast ns n

  module _ (ns : List ℕ) (i d : ℕ) (low : i < length ns) where
    -- the next one has not the property
    pub best_skips : (best : Option ℕ) → (P (get_or ns i d) → ⊥) → IsBest (take i ns) best → IsBest (take (i + 1) ns) best
    best_skips None not best = λ n among so. elim (taken_more ns i d n low among) [
      | inl old ↦ best n old so
      | inr e ↦ not (subst P (sym e) so)
    ]
    best_skips (Some b) not best = record {
      number = best.number;
      among = among_more ns i d b low best.among;
      so = best.so;
      none_before = λ other path one among so path_is one_is less. elim (taken_more ns i d other low among) [
        | inl old ↦ best.none_before other path one old so path_is one_is less
        | inr e ↦ not (subst P (sym e) so)
      ];
    }

    -- the next one has it, and the one of both that stands first was taken
    pub best_takes : (best : Option ℕ) (result : ℕ) → IsNumber f (get_or ns i d) → P (get_or ns i d) → (result ≡ get_or ns i d) ⊎ (best ≡ Some result)
        → ((one other : List ℕ) → path_at f result ≡ Some one → path_at f (get_or ns i d) ≡ Some other → Before other one → ⊥)
        → ((n : ℕ) (one other : List ℕ) → best ≡ Some n → path_at f result ≡ Some one → path_at f n ≡ Some other → Before other one → ⊥)
        → IsBest (take i ns) best → IsBest (take (i + 1) ns) (Some result)
    best_takes None result number so either not_after not_after_best best = elim either [
      | inl e ↦ subst (IsLeast (take (i + 1) ns)) (sym e) (record {
        number = number;
        among = among_last ns i d low;
        so = so;
        none_before = λ other path one among has path_is one_is less. elim (taken_more ns i d other low among) [
          | inl old ↦ best other old has
          | inr same ↦ not_same one path less (some_is one path (sym one_is ∙ ap (path_at f) (sym same) ∙ path_is))
        ];
      })
      | inr e ↦ absurd (none_some result e)
    ]
    best_takes (Some b) result number so either not_after not_after_best best = record {
      number = elim either [ inl e ↦ subst (IsNumber f) (sym e) number | inr e ↦ subst (IsNumber f) (some_is b result e) best.number ];
      among = elim either [
        | inl e ↦ subst (Contains (take (i + 1) ns)) (sym e) (among_last ns i d low)
        | inr e ↦ subst (Contains (take (i + 1) ns)) (some_is b result e) (among_more ns i d b low best.among)
      ];
      so = elim either [ inl e ↦ subst P (sym e) so | inr e ↦ subst P (some_is b result e) best.so ];
      none_before = λ other path one among has path_is one_is less. elim (taken_more ns i d other low among) [
        | inl old ↦ (
            let (own, own_is) = get_some f.paths b best.number.0 in
            best.none_before other own one old has own_is one_is (before_through one path own less (λ behind. not_after_best b path own refl path_is own_is behind)))
        | inr same ↦ not_after path one path_is (ap (path_at f) same ∙ one_is) less
      ];
    }

  -- all were gone through
  pub best_whole : (ns : List ℕ) (i : ℕ) (best : Option ℕ) → length ns ≤ i → IsBest (take i ns) best → IsBest ns best
  best_whole ns i best past is = subst (λ l. IsBest l best) (take_whole ns i past) is

-- the first of the files is the first number
pub first_number : (f : Knowledge) (P Q : ℕ → Type 0) (ns : List ℕ) (n : ℕ) → ((k : ℕ) → Q k → Contains ns k × P k) → ((k : ℕ) → Contains ns k → P k → Q k) → IsLeast f P ns n → IsFirstNumber f Q n
first_number f P Q ns n parts whole is = record {
  so = whole n is.among is.so;
  none_before = λ other path one has path_is one_is less. let (a, p) = parts other has in is.none_before other path one a p path_is one_is less;
}

-- a first number that has a path makes it the first file
pub number_is_file : (f : Knowledge) (Q : ℕ → Type 0) (n : ℕ) (path : List ℕ) → path_at f n ≡ Some path → IsFirstNumber f Q n → IsFirstFile f Q path
number_is_file f Q n path at first = record { number = n; so = first.so; path_is = at; none_before = λ other one so one_is less. first.none_before other path one so at one_is less }

-- ---- members that are missing, or wait

pub missing_parts : (f : Knowledge) (ns : List ℕ) (n : ℕ) → IsMissingMember f ns n → Contains ns n × IsMissingFile f n
missing_parts f ns n is = (is.among, (is.file, is.file_is, is.missing))

pub missing_whole : (f : Knowledge) (ns : List ℕ) (n : ℕ) → Contains ns n → IsMissingFile f n → IsMissingMember f ns n
missing_whole f ns n among (file, file_is, missing) = record { among = among; file = file; file_is = file_is; missing = missing }

pub unsettled_parts : (s : Schedule) (f : Knowledge) (ns : List ℕ) (n : ℕ) → IsUnsettledMember s f ns n → Contains ns n × IsUnsettledFile s f n
unsettled_parts s f ns n is = (is.among, (is.file, is.file_is, (is.maker, is.made, is.unsettled)))

pub unsettled_whole : (s : Schedule) (f : Knowledge) (ns : List ℕ) (n : ℕ) → Contains ns n → IsUnsettledFile s f n → IsUnsettledMember s f ns n
unsettled_whole s f ns n among (file, file_is, (maker, made, unsettled)) = record { among = among; file = file; file_is = file_is; maker = maker; made = made; unsettled = unsettled }

-- Lists of paths in byte order: each list of paths has one with the same paths, and a record's inputs are compared with one.
use Rattle.std.proofs.Common.{◌≡◌, ◌⊎◌, inl, inr, ℕ, zero, suc, List, [], ◌∷◌, Option, Some, None, get_or, refl, sym, ap, subst, ◌∙◌, arith}
use Rattle.std.specs.List.{Contains, AllPairs, AllZip}
use Rattle.std.proofs.lemmas.Bool.{cases_eq}
use Rattle.std.proofs.lemmas.Option.{slice_get-get_or}
use Rattle.b2_base.specs.Bytes.{Before}
use Rattle.b2_host.specs.Disks.{Folder}
use Rattle.b2_host.specs.FileCalls.{stamp_at}
use Rattle.b2_log.specs.Good.{IsRising}
use Rattle.b2_runs.proofs.FirstElementOrLater.{Contains_here, Contains_there, Contains_cases, Contains_nil, AllPairs_head, AllPairs_tail}
use Rattle.b2_runs.proofs.ClosureIsOne.{Before_trans}
use Rattle.b2_facts.proofs.ListsAtPlaces.{some_is, none_some, among_at}
use Rattle.b2_explain.proofs.OrderOfPaths.{before_or, not_behind, not_same}

-- ---- a list in order

-- a list in order, with one more element before all
pub pairs_more : {X : Type 0} (R : X → X → Type 0) (x : X) (xs : List X) → ((y : X) → Contains xs y → R x y) → AllPairs R xs → AllPairs R (x ∷ xs)
pairs_more R x xs first rest zero zero d low high = absurd (omega (arith, low))
pairs_more R x xs first rest zero (suc j) d low high = first (get_or xs j d) (among_at xs j (get_or xs j d) (slice_get-get_or xs j d (omega (arith, high))))
pairs_more R x xs first rest (suc i) zero d low high = absurd (omega (arith, low))
pairs_more R x xs first rest (suc i) (suc j) d low high = rest i j d (omega (arith, low)) (omega (arith, high))

-- the list has these paths, in byte order
pub record IsSorted (names : List (List ℕ)) (list : List (List ℕ)) : Type 0 where
  pub rising : AllPairs Before list
  pub each : (path : List ℕ) → Contains list path → Contains names path
  pub whole : (path : List ℕ) → Contains names path → Contains list path

-- a path comes into a list in order
pub put_in : (name : List ℕ) (list : List (List ℕ)) → AllPairs Before list → (more : List (List ℕ)) × AllPairs Before more
    × ((path : List ℕ) → Contains more path → (path ≡ name) ⊎ Contains list path) × Contains more name × ((path : List ℕ) → Contains list path → Contains more path)
put_in name [] rising =
    (name ∷ [], pairs_more Before name [] (λ y among. absurd (Contains_nil y among)) rising, λ path among. elim (Contains_cases name path [] among) [ inl e ↦ inl (sym e) | inr c ↦ inr c ], Contains_here name [], λ path among. absurd (Contains_nil path among))
put_in name (first ∷ list) rising = elim (before_or name first) [
  | inl same ↦ (first ∷ list, rising, λ path among. inr among, subst (λ p. Contains (first ∷ list) p) (sym same) (Contains_here first list), λ path among. among)
  | inr apart ↦ elim apart [
    | inl less ↦ (
      name ∷ first ∷ list,
      pairs_more Before name (first ∷ list) (λ y among. elim (Contains_cases first y list among) [ inl e ↦ subst (Before name) e less | inr later ↦ Before_trans name first y less (AllPairs_head Before first y list rising later) ]) rising,
      λ path among. elim (Contains_cases name path (first ∷ list) among) [ inl e ↦ inl (sym e) | inr later ↦ inr later ],
      Contains_here name (first ∷ list),
      λ path among. Contains_there name path (first ∷ list) among,
    )
    | inr more ↦ (let (rest, rest_rising, each, here, whole) = put_in name list (AllPairs_tail Before first list rising) in (
      first ∷ rest,
      pairs_more Before first rest (λ y among. elim (each y among) [ inl e ↦ subst (Before first) (sym e) more | inr later ↦ AllPairs_head Before first y list rising later ]) rest_rising,
      λ path among. elim (Contains_cases first path rest among) [
        | inl e ↦ inr (subst (Contains (first ∷ list)) e (Contains_here first list))
        | inr later ↦ elim (each path later) [ inl e ↦ inl e | inr old ↦ inr (Contains_there first path list old) ]
      ],
      Contains_there first name rest here,
      λ path among. elim (Contains_cases first path list among) [ inl e ↦ subst (Contains (first ∷ rest)) e (Contains_here first rest) | inr later ↦ Contains_there first path rest (whole path later) ],
    ))
  ]
]

pub sorted : (names : List (List ℕ)) → (list : List (List ℕ)) × IsSorted names list
sorted [] = ([], record { rising = λ i j d low high. absurd (omega (arith, high)); each = λ path among. among; whole = λ path among. among })
sorted (name ∷ names) =
    let (list, is) = sorted names in
    let (more, rising, each, here, whole) = put_in name list is.rising in (
      more,
      record {
        rising = rising;
        each = λ path among. elim (each path among) [ inl e ↦ subst (Contains (name ∷ names)) (sym e) (Contains_here name names) | inr old ↦ Contains_there name path names (is.each path old) ];
        whole = λ path among. elim (Contains_cases name path names among) [ inl e ↦ subst (Contains more) e here | inr later ↦ whole path (is.whole path later) ];
      },
    )

-- ---- inputs and files

-- the list has the path with this stamp, or has it not
abbrev pub IsWith : List (List ℕ × ℕ) → List ℕ → Option ℕ → Type 0
IsWith files path (Some stamp) = Contains files (path, stamp)
IsWith files path None = (stamp : ℕ) → Contains files (path, stamp) → ⊥

-- one of the paths is this one, where a file stands with this stamp; or that is not so of any stamp
abbrev pub IsAmong : Folder → List (List ℕ) → List ℕ → Option ℕ → Type 0
IsAmong now names path (Some stamp) = Contains names path × (stamp_at now path ≡ Some stamp)
IsAmong now names path None = (stamp : ℕ) → Contains names path → stamp_at now path ≡ Some stamp → ⊥

-- they differ nowhere
abbrev pub DifferNowhere : Folder → List (List ℕ) → List (List ℕ × ℕ) → Type 0
DifferNowhere now names files = (path : List ℕ) (logged found : Option ℕ) → IsWith files path logged → IsAmong now names path found → (logged ≡ found → ⊥) → ⊥

abbrev pub IsStampedSo : Folder → List ℕ → List ℕ × ℕ → Type 0
IsStampedSo now path stamped = (stamped.0 ≡ path) × (stamp_at now path ≡ Some stamped.1)

abbrev InOrder : List ℕ × ℕ → List ℕ × ℕ → Type 0
InOrder x y = Before x.0 y.0

-- what is behind the first path is not that path
later_not : {A : Type 0} (name : List ℕ) (names : List (List ℕ)) (path : List ℕ) → AllPairs Before (name ∷ names) → Contains names path → path ≡ name → A
later_not name names path rising among same = not_same name path (AllPairs_head Before name path names rising among) (sym same)

file_not : {A : Type 0} (file : List ℕ × ℕ) (files : List (List ℕ × ℕ)) (path : List ℕ) (stamp : ℕ) → IsRising (file ∷ files) → Contains files (path, stamp) → path ≡ file.0 → A
file_not file files path stamp rising among same = not_same file.0 path (AllPairs_head InOrder file (path, stamp) files rising among) (sym same)

-- where the first of both are the same, they differ nowhere behind them
tails_differ : (now : Folder) (name : List ℕ) (names : List (List ℕ)) (file : List ℕ × ℕ) (files : List (List ℕ × ℕ)) → AllPairs Before (name ∷ names) → IsRising (file ∷ files) → file.0 ≡ name → DifferNowhere now (name ∷ names) (file ∷ files) → DifferNowhere now names files
tails_differ now name names file files rising files_rise same nowhere path logged found with among other =
    nowhere path logged found (up_with logged found with among other) (up_among logged found with among other) other
  where
    both_none : (logged found : Option ℕ) → IsWith files path logged → IsAmong now names path found → (logged ≡ found → ⊥) → path ≡ name → ⊥
    both_none None None with among other here = other refl
    both_none None (Some s) with among other here = later_not name names path rising among.0 here
    both_none (Some t) found with among other here = file_not file files path t files_rise with (here ∙ sym same)

    up_with : (logged found : Option ℕ) → IsWith files path logged → IsAmong now names path found → (logged ≡ found → ⊥) → IsWith (file ∷ files) path logged
    up_with (Some t) found with among other = Contains_there file (path, t) files with
    up_with None found with among other = λ t there. elim (Contains_cases file (path, t) files there) [
      | inl e ↦ both_none None found with among other (sym (ap (λ (x : List ℕ × ℕ). x.0) e) ∙ same)
      | inr later ↦ with t later
    ]

    up_among : (logged found : Option ℕ) → IsWith files path logged → IsAmong now names path found → (logged ≡ found → ⊥) → IsAmong now (name ∷ names) path found
    up_among logged (Some s) with among other = (Contains_there name path names among.0, among.1)
    up_among logged None with among other = λ s there at. elim (Contains_cases name path names there) [
      | inl e ↦ both_none logged None with among other (sym e)
      | inr later ↦ among s later at
    ]

-- lists that differ nowhere are the same, where a file stands at each path
pub alike : (now : Folder) (names : List (List ℕ)) (files : List (List ℕ × ℕ)) → AllPairs Before names → IsRising files → ((path : List ℕ) → Contains names path → (stamp : ℕ) × (stamp_at now path ≡ Some stamp)) → DifferNowhere now names files → AllZip (IsStampedSo now) names files
alike now [] [] rising files_rise stand nowhere = tt
alike now [] (file ∷ files) rising files_rise stand nowhere =
    absurd (nowhere file.0 (Some file.1) None (Contains_here file files) (λ s among. absurd (Contains_nil file.0 among)) (λ e. none_some file.1 (sym e)))
alike now (name ∷ names) [] rising files_rise stand nowhere =
    let (s, at) = stand name (Contains_here name names) in
    absurd (nowhere name None (Some s) (λ t among. Contains_nil (name, t) among) (Contains_here name names, at) (λ e. none_some s e))
alike now (name ∷ names) (file ∷ files) rising files_rise stand nowhere =
    let (s, at) = stand name (Contains_here name names) in
    elim (before_or name file.0) [
      | inl same ↦ elim (cases_eq s file.1) [
        | inl stamps ↦ (
          (sym same, at ∙ ap Some stamps),
          alike now names files (AllPairs_tail Before name names rising) (AllPairs_tail InOrder file files files_rise) (λ path among. stand path (Contains_there name path names among)) (tails_differ now name names file files rising files_rise (sym same) nowhere),
        )
        | inr other ↦ absurd (nowhere name (Some file.1) (Some s) (subst (λ p. Contains (file ∷ files) (p, file.1)) (sym same) (Contains_here file files)) (Contains_here name names, at) (λ e. other (sym (some_is file.1 s e))))
      ]
      | inr apart ↦ elim apart [
        | inl less ↦ absurd (nowhere name None (Some s) (λ t among. elim (Contains_cases file (name, t) files among) [
          | inl e ↦ not_same name file.0 less (sym (ap (λ (x : List ℕ × ℕ). x.0) e))
          | inr later ↦ not_behind name file.0 less (AllPairs_head InOrder file (name, t) files files_rise later)
        ]) (Contains_here name names, at) (λ e. none_some s e))
        | inr more ↦ absurd (nowhere file.0 (Some file.1) None (Contains_here file files) (λ t among found. elim (Contains_cases name file.0 names among) [
          | inl e ↦ not_same file.0 name more (sym e)
          | inr later ↦ not_behind file.0 name more (AllPairs_head Before name file.0 names rising later)
        ]) (λ e. none_some file.1 (sym e)))
      ]
    ]

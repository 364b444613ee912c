-- What is known of a file stays as facts grow.
use Rattle.std.proofs.Common.{◌≡◌, ℕ, List, [], Option, Some, None, get_or, refl, sym, ap, subst, ◌∙◌}
use Rattle.std.proofs.lemmas.Option.{slice_get_within, slice_get-get_or}
use Rattle.b2_facts.specs.declared.file_facts.FileLook.{FileLook}
use Rattle.b2_facts.specs.declared.file_facts.FileLook.TheVariants as seen
use Rattle.b2_facts.specs.declared.file_facts.FileFacts.{FileFacts}
use Rattle.b2_facts.specs.Facts.{Knowledge, IsNumber, file_at}
use Rattle.b2_facts.specs.Asks.{seen_of}
use Rattle.b2_facts.specs.Growth.{StaysSeen, Stays, Grows}
use Rattle.b2_facts.proofs.ListsAtPlaces.{get_some, none_some}
use Rattle.b2_verdicts.specs.Sights.{seen_in, seen_at, stamp_in, stamp_of, IsAsked, digest_in, digest_at, AreNumbers, AllAsked, AllStand}

-- a file is unasked or gone, not both
pub unasked_gone : {A : Type 0} → seen.Unasked ≡ seen.Gone → A
unasked_gone e = let f : seen.Unasked ≡ seen.Gone = e in cc

asked_stays : (s later : FileLook) → s ≡ seen_of (stamp_in s) → StaysSeen s later → later ≡ s
asked_stays seen.Unasked later asked stays = unasked_gone asked
asked_stays seen.Gone later asked stays = stays
asked_stays (seen.Stands stamp) later asked stays = stays

-- what was asked for stays as it was seen
pub seen_stays : (f g : Knowledge) (n : ℕ) → Grows f g → IsAsked f n → seen_at g n ≡ seen_at f n
seen_stays f g n grows asked = go (file_at f n) refl asked
  where
    go : (facts : Option FileFacts) → file_at f n ≡ facts → seen_in facts ≡ seen_of (stamp_in (seen_in facts)) → seen_at g n ≡ seen_in facts
    go None e a = unasked_gone a
    go (Some file) e a = let (later, at, more) = grows.files n file e in ap seen_in at ∙ asked_stays file.seen later.seen a more.seen

pub asked_more : (f g : Knowledge) (n : ℕ) → Grows f g → IsAsked f n → IsAsked g n
asked_more f g n grows asked = subst (λ s. s ≡ seen_of (stamp_in s)) (sym (seen_stays f g n grows asked)) asked

pub stamp_stays : (f g : Knowledge) (n : ℕ) → Grows f g → IsAsked f n → stamp_of g n ≡ stamp_of f n
stamp_stays f g n grows asked = ap stamp_in (seen_stays f g n grows asked)

standing_seen : (s : FileLook) (stamp : ℕ) → stamp_in s ≡ Some stamp → s ≡ seen_of (stamp_in s)
standing_seen seen.Unasked stamp e = absurd (none_some stamp e)
standing_seen seen.Gone stamp e = absurd (none_some stamp e)
standing_seen (seen.Stands own) stamp e = refl

-- a file that was seen to stand was asked for
pub standing_asked : (g : Knowledge) (n stamp : ℕ) → stamp_of g n ≡ Some stamp → IsAsked g n
standing_asked g n stamp e = standing_seen (seen_at g n) stamp e

pub standing_stays : (f g : Knowledge) (n stamp : ℕ) → Grows f g → stamp_of f n ≡ Some stamp → stamp_of g n ≡ Some stamp
standing_stays f g n stamp grows e = stamp_stays f g n grows (standing_asked f n stamp e) ∙ e

-- a digest that is known stays
pub digest_stays : (f g : Knowledge) (n : ℕ) (digest : List ℕ) → Grows f g → digest_at f n ≡ Some digest → digest_at g n ≡ Some digest
digest_stays f g n digest grows known = go (file_at f n) refl known
  where
    go : (facts : Option FileFacts) → file_at f n ≡ facts → digest_in facts ≡ Some digest → digest_at g n ≡ Some digest
    go None e k = absurd (none_some digest k)
    go (Some file) e k = let (later, at, more) = grows.files n file e in ap digest_in at ∙ subst (λ o. Stays o later.digest) k more.digest

-- a digest that is not known was not known before
pub unknown_before : (f g : Knowledge) (n : ℕ) → Grows f g → digest_at g n ≡ None → digest_at f n ≡ None
unknown_before f g n grows unknown = go (digest_at f n) refl
  where
    go : (known : Option (List ℕ)) → digest_at f n ≡ known → digest_at f n ≡ None
    go None e = e
    go (Some digest) e = absurd (none_some digest (sym unknown ∙ digest_stays f g n digest grows e))

-- a number stays one
pub number_stays : (f g : Knowledge) (n : ℕ) → Grows f g → IsNumber f n → IsNumber g n
number_stays f g n grows (a_path, a_file) =
    let path = grows.paths n (get_or f.paths n []) (slice_get-get_or f.paths n [] a_path) in
    let (file, at) = get_some f.files n a_file in
    let (later, here, more) = grows.files n file at in
    (slice_get_within g.paths n (get_or f.paths n []) path, slice_get_within g.files n later here)

-- ---- of a list

pub numbers_stay : (f g : Knowledge) (ns : List ℕ) → Grows f g → AreNumbers f ns → AreNumbers g ns
numbers_stay f g ns grows numbers k within = number_stays f g (get_or ns k 0) grows (numbers k within)

pub all_asked_more : (f g : Knowledge) (ns : List ℕ) → Grows f g → AllAsked f ns → AllAsked g ns
all_asked_more f g ns grows asked k within = asked_more f g (get_or ns k 0) grows (asked k within)

pub all_stand_more : (f g : Knowledge) (ns : List ℕ) → Grows f g → AllStand f ns → AllStand g ns
all_stand_more f g ns grows stand k within = let (stamp, e) = stand k within in (stamp, standing_stays f g (get_or ns k 0) stamp grows e)

-- files that were seen to stand were asked for
pub stands_asked : (g : Knowledge) (ns : List ℕ) → AllStand g ns → AllAsked g ns
stands_asked g ns stand k within = let (stamp, e) = stand k within in standing_asked g (get_or ns k 0) stamp e

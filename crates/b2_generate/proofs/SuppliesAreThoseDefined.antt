-- The sources, parts, order and final set that an open main target is made from are those of the definition.
use Rattle.std.proofs.Common.{arith, ◌≡◌, ◌==◌, ℕ, Bool, true, false, ◌&&◌, ◌||◌, ◌+◌, ◌<◌, List, [], ◌∷◌, ◌++◌, Option, None, filter, get_or, length, map, slice_get, take, codes, refl, sym, ap, ap₂, ◌∙◌, if◌then◌else◌}
use Rattle.std.specs.Prelude.{unwrap_or}
use Rattle.std.specs.List.{flat_map, list_any}
use Rattle.std.proofs.lemmas.Bool.{false≢true, eqb-true}
use Rattle.std.specs.Option.{option_map_or}
use Rattle.b2_generators.specs.Table.{FileType}
use Rattle.b2_declared.specs.declared.whole.Declared.{Declared}
use Rattle.b2_declared.specs.declared.place.Place.{Place}
use Rattle.b2_props.specs.Sets.{Pair, IsSet, value_of, firsts, free_of, written}
use Rattle.b2_props.specs.Refinement.{refined}
use Rattle.b2_references.specs.Names.{dir_of, features}
use Rattle.b2_alternatives.specs.Picking.{seen}
use Rattle.b2_alternatives.specs.declared.need.Need.{Need}
use Rattle.b2_alternatives.specs.declared.need.NeedKind.{NeedKind}
use Rattle.b2_alternatives.specs.declared.need.NeedKind.TheVariants.{Source, Library, Order as OrderWay}
use Rattle.b2_virtual.specs.declared.entry.Supply.{Supply}
use Rattle.std.proofs.lemmas.List.{append-nil, append_assoc, map-append}
use Rattle.std.proofs.lemmas.List.Elements.{filter-append}
use Rattle.b2_virtual.specs.declared.entry.Entry.{Entry}
use Rattle.b2_virtual.specs.Supplies.{is_header, directory_of, entries_of, header_directories}
use Rattle.b2_generate.proofs.SupplyGathersPartByPart.{further}
use Rattle.b2_generate.specs.Gathering.{test_of, named_by, supplied_to}
use Rattle.b2_generate.specs.Machine.{IsKept, standing_of}
use Rattle.b2_generate.specs.Making.{AreSupplied, IsApart}
use Rattle.b2_generate.specs.Nodes.{entry_in}
use Rattle.b2_generate.specs.Supplies.{is_source, is_library, is_part, parts_of, supplied, supplied_by}
use Rattle.b2_generate.specs.declared.frame.Frame.{Frame}
use Rattle.b2_generate.specs.declared.node.Node.{Node}
use Rattle.b2_generate.specs.declared.supplies.Wanted.{Wanted}
use Rattle.b2_generate.specs.declared.supplies.Wanted.TheVariants.{Sources, Parts, Order}

-- a project that is not there has the folder as its directory
pub no_dir : (d : Declared) (project : ℕ) → slice_get d.places project ≡ None → dir_of d project ≡ codes "."
unfolding dir_of
no_dir d project e = ap (λ (o : Option Place). option_map_or (λ p. p.dir) o (codes ".")) e

-- ---- what is supplied

-- the needs of some ways supply what those of the definition do
one_supplied : (d : Declared) (nodes : List Node) (f : Frame) (wanted : Wanted) (types : List FileType) → IsKept nodes d f → types ≡ d.types.types
    → supplied types (map (entry_in nodes) f.done) [] (named_by wanted (f.needs.sources.needs ++ f.needs.properties.needs)) ≡ supplied_by d (test_of wanted) (seen f.name f.chosen) (standing_of nodes f)
one_supplied d nodes f wanted types kept same =
    ap₂ (λ (ts : List FileType) (ns : List Need). supplied ts (map (entry_in nodes) f.done) [] (named_by wanted ns)) same (ap₂ (λ (xs ys : List Need). xs ++ ys) kept.stand.sources kept.stand.properties)

-- a need that is no library is a source where it is a part
one_same : (way : NeedKind) (x : Need) (xs : List Need) (others : Bool) → (is_library way || others) ≡ false → (others ≡ false → filter (λ n. is_part n.way) xs ≡ filter (λ n. is_source n.way) xs)
    → (if is_part way then x ∷ filter (λ n. is_part n.way) xs else filter (λ n. is_part n.way) xs) ≡ (if is_source way then x ∷ filter (λ n. is_source n.way) xs else filter (λ n. is_source n.way) xs)
one_same Source x xs others e same = ap (λ ys. x ∷ ys) (same e)
one_same Library x xs others e same = absurd (false≢true (sym e))
one_same OrderWay x xs others e same = same e

-- where no need is a library, the sources are all parts
same_parts : (xs ys : List Need) → list_any (λ n. is_library n.way) xs ≡ false → list_any (λ n. is_library n.way) ys ≡ false → filter (λ n. is_part n.way) (xs ++ ys) ≡ filter (λ n. is_source n.way) (xs ++ ys)
same_parts [] [] e f = refl
same_parts [] (y ∷ ys) e f = one_same y.way y ([] ++ ys) (list_any (λ n. is_library n.way) ys) f (same_parts [] ys e)
same_parts (x ∷ xs) ys e f = one_same x.way x (xs ++ ys) (list_any (λ n. is_library n.way) xs) e (λ others. same_parts xs ys others f)

named_same : (xs ys : List Need) → list_any (λ n. is_library n.way) xs ≡ false → list_any (λ n. is_library n.way) ys ≡ false → named_by Parts (xs ++ ys) ≡ named_by Sources (xs ++ ys)
named_same xs ys e f = ap (flat_map (λ (n : Need). parts_of n.meaning)) (same_parts xs ys e f)

neither : (a b : Bool) → (a || b) ≡ false → (a ≡ false) × (b ≡ false)
neither true b e = absurd (false≢true (sym e))
neither false b e = (refl, e)

-- then nothing is kept apart
pub none_apart : (types : List FileType) (nodes : List Node) (f : Frame) → (list_any (λ n. is_library n.way) f.needs.sources.needs || list_any (λ n. is_library n.way) f.needs.properties.needs) ≡ false
    → IsApart (supplied_to types nodes f) None
none_apart types nodes f e =
    let both = neither (list_any (λ n. is_library n.way) f.needs.sources.needs) (list_any (λ n. is_library n.way) f.needs.properties.needs) e in
    ap (supplied types (map (entry_in nodes) f.done) []) (named_same f.needs.sources.needs f.needs.properties.needs both.0 both.1)

pub are_supplied : (d : Declared) (nodes : List Node) (f : Frame) (types : List FileType) (apart : Option (List Supply)) (parts : List Supply) (paths : List (List ℕ)) (set : List Pair) → IsKept nodes d f → types ≡ d.types.types
    → IsApart (supplied_to types nodes f) apart
    → parts ≡ supplied_to types nodes f Parts
    → paths ≡ map (λ e. e.path) (entries_of (supplied_to types nodes f Order)) → set ≡ refined (features d) f.needs.set (header_directories (entries_of parts)) → IsSet (features d) set
    → AreSupplied d (seen f.name f.chosen) (standing_of nodes f) (record { apart = apart; parts = parts; order = paths; set = set })
are_supplied d nodes f types apart parts paths set kept same first second listed final is =
    record {
      sources = ap (unwrap_or apart) second ∙ first ∙ one_supplied d nodes f Sources types kept same;
      parts = second ∙ one_supplied d nodes f Parts types kept same;
      order = listed ∙ ap (λ (xs : List Supply). map (λ e. e.path) (entries_of xs)) (one_supplied d nodes f Order types kept same);
      set = final ∙ ap (λ (xs : List Supply). refined (features d) f.needs.set (header_directories (entries_of xs))) (second ∙ one_supplied d nodes f Parts types kept same);
      is_set = is;
    }

-- ---- the directories of headers

-- a set that nothing refines stays as it is
refined_nothing : (table : _) (set : List Pair) → IsSet table set → refined table set [] ≡ set
refined_nothing table set is = ap (λ (ps : List Pair). written table (value_of set) (firsts (free_of table ps))) (append-nil set) ∙ is

no_pairs : (pairs : List Pair) → (length pairs == 0) ≡ true → [] ≡ pairs
no_pairs [] e = refl
no_pairs (p ∷ pairs) e = absurd (omega (arith, eqb-true (length (p ∷ pairs)) 0 e))

pub stays_set : (table : _) (set pairs made : List Pair) → IsSet table set → (length pairs == 0) ≡ true → made ≡ set → made ≡ refined table set pairs
stays_set table set pairs made is none same = same ∙ sym (refined_nothing table set is) ∙ ap (refined table set) (no_pairs pairs none)

directories_join : (xs ys : List Entry) → header_directories (xs ++ ys) ≡ header_directories xs ++ header_directories ys
directories_join xs ys = ap (map (λ (e : Entry). (codes "include", directory_of e.path))) (filter-append (λ (e : Entry). e.is_made && is_header e) xs ys) ∙ map-append (λ (e : Entry). (codes "include", directory_of e.path)) (filter (λ e. e.is_made && is_header e) xs) (filter (λ e. e.is_made && is_header e) ys)

entries_more : (xs : List Supply) (x : Supply) → entries_of (xs ++ x ∷ []) ≡ entries_of xs ++ x.entries
entries_more [] x = append-nil x.entries
entries_more (y ∷ xs) x = ap (λ es. y.entries ++ es) (entries_more xs x) ∙ sym (append_assoc y.entries (entries_of xs) x.entries)

-- those of one more part
pub directories_next : (parts : List Supply) (at : ℕ) (part : Supply) → at < length parts → part ≡ get_or parts at part
    → header_directories (entries_of (take at parts)) ++ header_directories part.entries ≡ header_directories (entries_of (take (at + 1) parts))
directories_next parts at part inside is =
    sym (ap (λ ps. header_directories (entries_of ps)) (further parts at part inside is) ∙ ap header_directories (entries_more (take at parts) part) ∙ directories_join (entries_of (take at parts)) part.entries)

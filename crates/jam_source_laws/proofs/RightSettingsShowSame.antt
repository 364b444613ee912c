-- Right settings over files that agree outside the output roots show the same.
use Rattle.std.proofs.Common.{◌≡◌, List, All}
use Rattle.b2_base.specs.Segments.{normal_of}
use Rattle.b2_base.specs.Normal.{IsNormal}
use Rattle.b2_base.proofs.NormalMakesNormalForms.{is_normal_normal}
use Rattle.b2_host.specs.Disks.{Folder}
use Rattle.jam_journal.specs.Tables.{Text}
use Rattle.jam_meaning.specs.Settings.{Reading, Setting, IsSetting}
use Rattle.jam_natives.specs.Keeping.{Kept}
use Rattle.jam_natives.specs.Rows.{jam_meaning}
use Rattle.jam_source_laws.specs.Sources.{over, ShowSame, BytesAgree}
use Rattle.jam_source_laws.proofs.FilesOutsideRoots.{names_agree, reading_agrees}
use Rattle.jam_source_laws.proofs.NativesBySources.{show_same}

pub files_show_same : (roots : List Text) (setting : Setting Kept) (folder : Folder) (names : Text → List Text) (reading : Text → Reading)
    → All IsNormal roots → setting.natives ≡ jam_meaning → IsSetting setting → IsSetting (over setting folder names reading)
    → BytesAgree roots setting.sight.folder folder → ShowSame roots setting (over setting folder names reading)
files_show_same roots setting folder names reading normal natives right other agree =
    show_same roots setting folder names reading natives
    (λ text outside. names_agree roots normal setting.sight.folder folder (normal_of text) _ _ agree (is_normal_normal text) outside (right.sees.lists (normal_of text)) (other.sees.lists (normal_of text)))
    (λ path hidden. reading_agrees setting.sight.folder folder path _ _ (agree path hidden) (right.reads path) (other.reads path))

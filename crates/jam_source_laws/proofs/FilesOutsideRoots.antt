-- What is seen of two folders that agree outside the output roots.
use Rattle.std.proofs.Common.{◌≡◌, ℕ, false, List, All, Option, Some, None, refl, sym, ap, ◌∙◌}
use Rattle.std.specs.Option.{option_map}
use Rattle.b2_base.specs.Normal.{IsNormal}
use Rattle.b2_host.specs.Disks.{File, Folder, bytes_at}
use Rattle.b2_host.specs.Listings.{IsDirectlyIn, IsListed}
use Rattle.jam_journal.specs.Tables.{Text}
use Rattle.jam_meaning.specs.Settings.{Reading, is_missing, is_too_big, has_no_tokens, has_no_tree, is_file, IsReading}
use Rattle.jam_natives.specs.Globs.{is_output_dir}
use Rattle.jam_natives.proofs.OutputDirsHideTheirFiles.{hides_outputs}
use Rattle.jam_natives.proofs.DirectoriesHaveOneListing.{one_listing}
use Rattle.jam_values.proofs.OneReading.{one_reading}
use Rattle.jam_source_laws.specs.Sources.{is_hidden, BytesAgree}

-- where a file has bytes it stands, and where none has bytes none stands
stands : (folder : Folder) (path : Text) (bytes : List ℕ) → bytes_at folder path ≡ Some bytes → (file : File) × (folder path ≡ Some file)
stands folder path bytes e = go (folder path) refl
  where
    go : (f : Option File) → folder path ≡ f → (file : File) × (folder path ≡ Some file)
    go None is = let clash : None ≡ Some bytes = sym (ap (option_map (λ (file : File). file.bytes)) is) ∙ e in cc
    go (Some file) is = (file, is)

missing : (folder : Folder) (path : Text) → bytes_at folder path ≡ None → folder path ≡ None
missing folder path e = go (folder path) refl
  where
    go : (f : Option File) → folder path ≡ f → folder path ≡ None
    go None is = is
    go (Some file) is = let clash : None ≡ Some file.bytes = sym e ∙ ap (option_map (λ (file : File). file.bytes)) is in cc

module _ (roots : List Text) (normal : All IsNormal roots) where
  -- a file directly in a directory that is no output directory stands in the other folder too
  moves : (one two : Folder) (dir name : Text) → BytesAgree roots one two → IsNormal dir → is_output_dir roots dir ≡ false → IsDirectlyIn two dir name → IsDirectlyIn one dir name
  moves one two dir name agree normal_dir outside d =
      let hidden : is_hidden roots d.path ≡ false = hides_outputs two roots dir name normal normal_dir d ∙ outside in
      let file = stands one d.path d.file.bytes (agree d.path hidden ∙ ap (option_map (λ (file : File). file.bytes)) d.visible) in
      record { path = d.path; file = file.0; visible = file.1; rooted = d.rooted; goes_on = d.goes_on; not_above = d.not_above }

  pub names_agree : (one two : Folder) (dir : Text) (xs ys : List Text) → BytesAgree roots one two → IsNormal dir → is_output_dir roots dir ≡ false
      → IsListed one dir xs → IsListed two dir ys → xs ≡ ys
  names_agree one two dir xs ys agree normal_dir outside first second =
      one_listing one dir xs ys first (record {
        each = λ name. (
          (λ listed. moves one two dir name agree normal_dir outside ((second.each name).0 listed)),
          (λ d. (second.each name).1 (moves two one dir name (λ path hidden. sym (agree path hidden)) normal_dir outside d)),
        );
        rising = second.rising;
      })

-- a file with the same bytes reads the same
reading_moves : (one two : Folder) (path : Text) (r : Reading) → bytes_at one path ≡ bytes_at two path → IsReading two path r → IsReading one path r
reading_moves one two path is_missing e h = missing one path (e ∙ ap (option_map (λ (file : File). file.bytes)) h)
reading_moves one two path (is_too_big size) e h = (h.0, e ∙ h.1, h.2, h.3)
reading_moves one two path (has_no_tokens fault) e h = (h.0, e ∙ h.1, h.2, h.3)
reading_moves one two path (has_no_tree line found) e h = (h.0, h.1, e ∙ h.2, h.3, h.4, h.5)
reading_moves one two path (is_file tree) e h = (h.0, h.1, e ∙ h.2, h.3, h.4, h.5)

pub reading_agrees : (one two : Folder) (path : Text) (r other : Reading) → bytes_at one path ≡ bytes_at two path → IsReading one path r → IsReading two path other → r ≡ other
reading_agrees one two path r other e first second = one_reading one path r other first (reading_moves one two path other e second)

-- The entries of the sections of a list.
use Rattle.std.specs.Prelude.{ℕ, List, [], ◌∷◌, map}
use Rattle.std.specs.List.{flat_map}
use Rattle.krl_types.specs.Entry.{Entry, SerialsEntry, RangeEntry, BitmapEntry, IdEntry, KeyEntry}
use Rattle.krl_types.specs.Entry.{Sha1Entry, Sha256Entry}
use Rattle.krl_format.specs.Krl.{SpelledSection, Certificates, Keys, Sha1s, Sha256s, Signature}
use Rattle.krl_format.specs.Krl.{Extension, Subsection, Serials, Range, Bitmap, Ids}
use Rattle.krl_format.specs.Krl.{SubsectionExtension}

-- the entries of a subsection of an authority's section
abbrev pub subsection_entries : List ℕ → Subsection → List Entry
subsection_entries authority (Serials numbers) = SerialsEntry authority numbers ∷ []
subsection_entries authority (Range min max) = RangeEntry authority min max ∷ []
subsection_entries authority (Bitmap offset number) = BitmapEntry authority offset number ∷ []
subsection_entries authority (Ids texts) = map (IdEntry authority) texts
subsection_entries authority SubsectionExtension = []

-- the entries of a section
abbrev pub section_entries : SpelledSection → List Entry
section_entries (Certificates authority subsections) =
    flat_map (subsection_entries authority) subsections
section_entries (Keys blobs) = map KeyEntry blobs
section_entries (Sha1s hashes) = map Sha1Entry hashes
section_entries (Sha256s hashes) = map Sha256Entry hashes
section_entries Signature = []
section_entries Extension = []

-- the entries of the sections, in order
abbrev pub entries_of : List SpelledSection → List Entry
entries_of sections = flat_map section_entries sections

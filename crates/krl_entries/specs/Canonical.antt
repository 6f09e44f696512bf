-- One entry for each thing that revocations hold.
use Rattle.std.specs.Prelude.{List, ◌++◌, map}
use Rattle.std.specs.List.{flat_map}
use Rattle.krl_entries.specs.Changes.{run_entries}
use Rattle.krl_entries.specs.Revocations.{Revocations, Section}
use Rattle.krl_types.specs.Entry.{Entry, IdEntry, KeyEntry, Sha1Entry, Sha256Entry}

-- an entry for each span and each key ID of a section
abbrev pub section_entries : Section → List Entry
section_entries section =
    run_entries section.authority section.spans ++ map (IdEntry section.authority) section.ids

-- an entry for each span, key ID, key and hash that is held
abbrev pub entries_in : Revocations → List Entry
entries_in r =
    flat_map section_entries r.sections
    ++ (map KeyEntry r.keys ++ (map Sha1Entry r.sha1s ++ map Sha256Entry r.sha256s))

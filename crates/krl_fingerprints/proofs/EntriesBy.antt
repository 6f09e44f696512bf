-- Entries for a query are those of each part of a list.
use Rattle.std.proofs.Common.{◌≡◌, List, [], ◌++◌, refl}
use Rattle.std.proofs.lemmas.List.Elements.{filter_map-append}
use Rattle.krl_types.specs.Entry.{Entry}
use Rattle.krl_fingerprints.specs.KeysBy.{entries_by}
use Rattle.krl_fingerprints.specs.Printed.{printed_entry}
use Rattle.krl_fingerprints.specs.declared.keys_by.KeysBy.{KeysBy}
use Rattle.krl_fingerprints.specs.declared.keys_by.KeysBy.TheVariants.{Blob, Fingerprint}

pub none_by : (by : KeysBy) → entries_by by [] ≡ []
none_by Blob = refl
none_by Fingerprint = refl

pub append_by : (by : KeysBy) (first later : List Entry) → entries_by by (first ++ later) ≡ entries_by by first ++ entries_by by later
append_by Blob first later = refl
append_by Fingerprint first later = filter_map-append printed_entry first later

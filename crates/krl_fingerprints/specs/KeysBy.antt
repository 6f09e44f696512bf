-- Entries for queries that give keys by their blobs or by fingerprints.
use Rattle.std.specs.Prelude.{List, Option, Some, None}
use Rattle.krl_types.specs.Entry.{Entry}
use Rattle.krl_fingerprints.specs.Printed.{printed, printed_entry}
use Rattle.krl_fingerprints.specs.declared.keys_by.KeysBy.{KeysBy}
use Rattle.krl_fingerprints.specs.declared.keys_by.KeysBy.TheVariants.{Blob, Fingerprint}

-- the entries, as such a query asks them
abbrev pub entries_by : KeysBy → List Entry → List Entry
entries_by Blob entries = entries
entries_by Fingerprint entries = printed entries

-- the same for an entry, if there is one
abbrev pub entry_by : KeysBy → Option Entry → Option Entry
entry_by Blob entry = entry
entry_by Fingerprint None = None
entry_by Fingerprint (Some entry) = printed_entry entry

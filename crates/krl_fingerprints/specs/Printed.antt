-- Entries by the fingerprints of what they name: the SHA-256 is in place of each blob.
use Rattle.std.specs.Prelude.{◌≡◌, ℕ, List, [], ◌∷◌, Option, Some, None}
use Rattle.std.specs.List.{filter_map}
use Rattle.sha2.specs.Sha256.{sha256}
use Rattle.krl_types.specs.Entry.{BitmapEntry, Entry, IdEntry, KeyEntry, RangeEntry}
use Rattle.krl_types.specs.Entry.{SerialsEntry, Sha1Entry, Sha256Entry}
use Rattle.krl_types.specs.Naming.{IdOf, KeyOf, Name, SerialOf, Sha1Of, Sha256Of}

-- an authority by its fingerprint; no bytes mean all authorities
abbrev pub authority_print : List ℕ → List ℕ
authority_print [] = []
authority_print (byte ∷ bytes) = sha256 (byte ∷ bytes)

-- An entry by fingerprints. The fingerprint of a hash of a key cannot be told, but a SHA-256 has the
-- SHA-256 of itself in its place, as it is the SHA-256 of the key's fingerprint.
abbrev pub printed_entry : Entry → Option Entry
printed_entry (SerialsEntry authority numbers) =
    Some (SerialsEntry (authority_print authority) numbers)
printed_entry (RangeEntry authority min max) =
    Some (RangeEntry (authority_print authority) min max)
printed_entry (BitmapEntry authority offset number) =
    Some (BitmapEntry (authority_print authority) offset number)
printed_entry (IdEntry authority text) = Some (IdEntry (authority_print authority) text)
printed_entry (KeyEntry blob) = Some (KeyEntry (sha256 blob))
printed_entry (Sha1Entry hash) = None
printed_entry (Sha256Entry hash) = Some (Sha256Entry (sha256 hash))

abbrev pub printed : List Entry → List Entry
printed entries = filter_map printed_entry entries

-- a name by fingerprints
abbrev pub name_print : Name → Option Name
name_print (SerialOf authority serial) = Some (SerialOf (authority_print authority) serial)
name_print (IdOf authority text) = Some (IdOf (authority_print authority) text)
name_print (KeyOf blob) = Some (KeyOf (sha256 blob))
name_print (Sha1Of hash) = None
name_print (Sha256Of hash) = Some (Sha256Of (sha256 hash))

-- something with this name by fingerprints is named
pub record PrintsTo (Named : Name → Type 0) (name : Name) : Type 0 where
  pub source : Name
  pub named : Named source
  pub printed : name_print source ≡ Some name

-- The names that texts give to certificate authorities.
use Rattle.std.specs.Prelude.{◌≡◌, ℕ, Bool, true, ◌==◌, ◌&&◌, ◌||◌, not, nat_lt, List, []}
use Rattle.std.specs.Prelude.{◌∷◌, length, map, Option, Some, None, Result, Ok, Err}
use Rattle.std.specs.Prelude.{if◌then◌else◌}
use Rattle.std.specs.BTreeMap.{insert_entry, is_at}
use Rattle.std.specs.Char.{is_ascii_alphanumeric}
use Rattle.std.specs.Global.{Vec}
use Rattle.std.specs.Cmp.Lexicographic.{slice_cmp}
use Rattle.std.specs.List.{list_all}
use Rattle.std.specs.Map.{lookup}
use Rattle.std.specs.Ordering.{nat_cmp}
use Rattle.std.specs.Str.{bytes_eq}
use Rattle.sha2.specs.Sha256.{sha256}
use Rattle.ssh_wire.specs.Ascii.{dot, hyphen, underscore}
use Rattle.text_entries.specs.Values.{is_all}
use Rattle.text_entries.specs.declared.text_cause.TextCause.{TextCause}
use Rattle.text_entries.specs.declared.text_cause.TextCause.TheVariants.{UnknownName}

-- names, each with the bytes of its key
abbrev pub NamedKeys : Type 0
NamedKeys = List (List ℕ × List ℕ)

abbrev pub named_keys : List (Vec ℕ × List ℕ) → NamedKeys
named_keys entries = map (λ entry. (entry.0.items, entry.1)) entries

-- the bytes of the key that has this name
abbrev pub key_named : NamedKeys → (name : List ℕ) → Option (List ℕ)
key_named names name = lookup (is_at (slice_cmp nat_cmp name)) names

-- Names are in the order of their bytes.
abbrev pub with_name : NamedKeys → (name key : List ℕ) → NamedKeys
with_name names name key = insert_entry (slice_cmp nat_cmp) names name key

-- ---- the name of a key

-- the name of each key, if it has one
abbrev pub NameOfKey : Type 0
NameOfKey = (key : List ℕ) → Option (List ℕ)

-- the name that was found, or this one if the other key has it
abbrev pub or_named : (found : Option (List ℕ)) → (key name other : List ℕ) → Option (List ℕ)
or_named (Some found) key name other = Some found
or_named None key name other = if bytes_eq other key then Some name else None

-- the first name that this key has
unfoldable pub name_of : NamedKeys → NameOfKey
name_of [] key = None
name_of (entry ∷ names) key = if bytes_eq key entry.1 then Some entry.0 else name_of names key

-- the names, each with the SHA-256 of its key
abbrev pub printed_names : NamedKeys → NamedKeys
printed_names names = map (λ entry. (entry.0, sha256 entry.1)) names

-- ---- a name that a line gives

-- a letter or a digit of ASCII, a hyphen, an underscore or a dot
abbrev pub is_name_byte : ℕ → Bool
is_name_byte byte =
    is_ascii_alphanumeric byte || (byte == hyphen || (byte == underscore || byte == dot))

-- 1 to 64 such bytes, and not the word for all authorities
abbrev pub is_name : List ℕ → Bool
is_name name =
    not (length name == 0)
    && (not (nat_lt 64 (length name)) && (list_all is_name_byte name && not (is_all name)))

abbrev pub is_free_for : (known : Option (List ℕ)) → (key : List ℕ) → Bool
is_free_for None key = true
is_free_for (Some known) key = bytes_eq known key

-- No key has the name yet, or this one has it.
abbrev pub can_have : NamedKeys → (name key : List ℕ) → Bool
can_have names name key = is_free_for (key_named names name) key

-- ---- a name that a line uses

abbrev pub unless_unknown : Option (List ℕ) → Result (List ℕ) TextCause
unless_unknown None = Err UnknownName
unless_unknown (Some key) = Ok key

-- the authority that has this name, by its bytes: no bytes mean all authorities
abbrev pub authority_named : NamedKeys → (name : List ℕ) → Result (List ℕ) TextCause
authority_named names name = if is_all name then Ok [] else unless_unknown (key_named names name)

abbrev pub IsNamed : (authority : Option (List ℕ)) → Result (List ℕ) TextCause → Type 0
IsNamed None named = ⊥
IsNamed (Some authority) named = named ≡ Ok authority

abbrev pub IsUnknown : TextCause → Result (List ℕ) TextCause → Type 0
IsUnknown cause named = (cause ≡ UnknownName) × (named ≡ Err UnknownName)

-- The section of one authority, as contracts see it.
use Rattle.std.specs.Prelude.{ℕ, List, map, Option, Some, None}
use Rattle.std.specs.Global.{Vec}
use Rattle.serial_set.specs.declared.span.Span.{Span}
use Rattle.krl_entries.specs.declared.authority_entries.Apart.{Apart}
use Rattle.krl_entries.specs.declared.authority_entries.AuthorityEntries.{AuthorityEntries}
use Rattle.krl_entries.specs.Revocations.{Section}

module _ {S : Type 0} where
  -- the authority of a held section, as bytes
  abbrev pub name_of : List ℕ × AuthorityEntries S → List ℕ
  name_of entry = entry.0

  -- the held sections of a map, with the bytes of their authorities
  abbrev pub named_sections : List (Vec ℕ × AuthorityEntries S) → List (List ℕ × AuthorityEntries S)
  named_sections entries = map (λ entry. (entry.0.items, entry.1)) entries

module _ {S : Type 0} (spans : S → List Span) where
  -- the section that contracts see, where `spans` gives the spans of a set of serials
  abbrev pub section_of : List ℕ × AuthorityEntries S → Section
  section_of entry = record {
    authority = entry.0;
    spans = spans entry.1.spans;
    ids = entry.1.ids;
  }

  abbrev pub sections_of : List (List ℕ × AuthorityEntries S) → List Section
  sections_of named = map section_of named

  -- the section that is kept apart, with its authority
  abbrev pub apart_of : Option (Apart S) → Option Section
  apart_of None = None
  apart_of (Some apart) = Some (section_of (apart.name.items, apart.section))

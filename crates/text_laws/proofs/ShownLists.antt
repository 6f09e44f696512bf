-- The texts of lists that are read from bytes name what the lists name.
use Rattle.std.proofs.Common.{ℕ, ◌<◌, Bool, true, false, List, [], ◌∷◌, length, All, Contains, Some, refl, sym, subst, arith, inl, inr, ⊎_elim}
use Rattle.std.proofs.lemmas.List.Elements.{All-cons, All-contains_itself, All-head, All-nil, All-tail, All-weaker}
use Rattle.serial_set.specs.Span.{Covers, RunsFrom}
use Rattle.serial_set.specs.declared.span.Span.{Span}
use Rattle.ssh_wire.specs.Rows.{BeginsWithTable}
use Rattle.ssh_wire.specs.Wire.{IsBytes}
use Rattle.krl_types.specs.Entry.{Entry, SerialsEntry, RangeEntry, BitmapEntry, IdEntry, KeyEntry, Sha1Entry, Sha256Entry}
use Rattle.krl_types.specs.Naming.{EntryNames, IdOf, KeyOf, Name, SerialOf, Sha1Of, Sha256Of, SomeNames}
use Rattle.krl_entries.specs.Revocations.{HoldsId, HoldsName, HoldsSerial, IsOrderlySection, Means, Revocations, Section}
use Rattle.krl_format.specs.Krl.{SpelledSection, Spells, header_fields, header_of}
use Rattle.krl_format.specs.declared.header.Header.{Header}
use Rattle.plain_list.specs.Any.{Names, NamesIf, begins_list}
use Rattle.text_laws.specs.FactLines.{HasNumbers}
use Rattle.text_laws.specs.ReadBack.{CanBeShown, HasNoZeroIds, IsStored, Shown}
use Rattle.text_laws.proofs.ReadBytes.{AreBytes, EntryIsBytes, IsReadAsSpelled, list_bytes, plain_bytes}

-- ---- names

NameIsBytes : Name → Type 0
NameIsBytes (SerialOf authority serial) = IsBytes authority
NameIsBytes (IdOf authority text) = IsBytes authority × IsBytes text
NameIsBytes (KeyOf blob) = IsBytes blob
NameIsBytes (Sha1Of hash) = IsBytes hash
NameIsBytes (Sha256Of hash) = IsBytes hash

entry_bytes : (entry : Entry) (name : Name) → EntryIsBytes entry → EntryNames entry name → NameIsBytes name
unfolding NameIsBytes
entry_bytes (SerialsEntry authority numbers) (SerialOf a s) bytes names = subst IsBytes names.0 bytes
entry_bytes (RangeEntry authority min max) (SerialOf a s) bytes names = subst IsBytes names.0 bytes
entry_bytes (BitmapEntry authority offset number) (SerialOf a s) bytes names = subst IsBytes names.0 bytes
entry_bytes (IdEntry authority id) (IdOf a text) bytes names = (subst IsBytes names.0 bytes.0, subst IsBytes names.1 bytes.1)
entry_bytes (KeyEntry key) (KeyOf blob) bytes names = subst IsBytes names bytes
entry_bytes (Sha1Entry of_key) (Sha1Of hash) bytes names = subst IsBytes names bytes
entry_bytes (Sha256Entry of_key) (Sha256Of hash) bytes names = subst IsBytes names bytes
entry_bytes _ _ bytes names = absurd names

some_bytes : (entries : List Entry) (name : Name) → AreBytes entries → SomeNames entries name → NameIsBytes name
some_bytes [] name bytes names = absurd names
some_bytes (entry ∷ entries) name bytes names = ⊎_elim (λ here. entry_bytes entry name bytes.0 here) (λ later. some_bytes entries name bytes.1 later) names

-- ---- what is held

-- what is held in sections is bytes
record AreNamedByBytes (sections : List Section) : Type 0 where
  serial : (a : List ℕ) (s : ℕ) → HoldsSerial sections a s → IsBytes a
  id : (a text : List ℕ) → HoldsId sections a text → IsBytes a × IsBytes text

first_serial : (spans : List Span) → RunsFrom 0 spans → 0 < length spans → (s : ℕ) × Covers spans s
first_serial [] runs some = absurd (omega arith)
first_serial (span ∷ spans) runs some = (span.lo, inl (omega arith, runs.1))

first_id : (ids : List (List ℕ)) → 0 < length ids → (id : List ℕ) × Contains ids id
first_id [] some = absurd (omega arith)
first_id (id ∷ ids) some = (id, (0, omega arith, refl))

authority_bytes : (section : Section) (sections : List Section) → IsOrderlySection section
    → AreNamedByBytes (section ∷ sections) → IsBytes section.authority
authority_bytes section sections listed named = elim (listed.some) [
  | inl spans ↦ let first = first_serial section.spans listed.runs spans in named.serial section.authority first.0 (inl (refl, first.1))
  | inr ids ↦ let first = first_id section.ids ids in (named.id section.authority first.0 (inl (refl, first.1))).0
]

later_named : (section : Section) (sections : List Section) → AreNamedByBytes (section ∷ sections)
    → AreNamedByBytes sections
later_named section sections named = record { serial = λ a s held. named.serial a s (inr held); id = λ a text held. named.id a text (inr held) }

abbrev HasBytes : Section → Type 0
HasBytes section = IsBytes section.authority

abbrev HasIds : Section → Type 0
HasIds section = All IsBytes section.ids

authorities_bytes : (sections : List Section) → All IsOrderlySection sections → AreNamedByBytes sections
    → All HasBytes sections
authorities_bytes [] listed named = All-nil HasBytes
authorities_bytes (section ∷ sections) listed named =
    All-cons HasBytes section sections (authority_bytes section sections (All-head IsOrderlySection section sections listed) named)
    (authorities_bytes sections (All-tail IsOrderlySection section sections listed) (later_named section sections named))

ids_bytes : (sections : List Section) → AreNamedByBytes sections → All HasIds sections
ids_bytes [] named = All-nil HasIds
ids_bytes (section ∷ sections) named =
    All-cons HasIds section sections
    (All-weaker (Contains section.ids) IsBytes (λ text held. (named.id section.authority text (inl (refl, held))).1) section.ids (All-contains_itself section.ids))
    (ids_bytes sections (later_named section sections named))

pub stored_bytes : (r : Revocations) (entries : List Entry) → Means r entries → AreBytes entries → HasNoZeroIds r → IsStored r
unfolding NameIsBytes
stored_bytes r entries means bytes whole =
    let each = λ (name : Name) (held : HoldsName r name). some_bytes entries name bytes ((means.names name).0 held) in
    let named : AreNamedByBytes r.sections = record { serial = λ a s held. each (SerialOf a s) held; id = λ a text held. each (IdOf a text) held } in
    record {
      orderly = means.orderly;
      authorities = authorities_bytes r.sections means.orderly.listed named;
      ids = ids_bytes r.sections named;
      whole_ids = whole;
      keys = All-weaker (Contains r.keys) IsBytes (λ text held. each (KeyOf text) held) r.keys (All-contains_itself r.keys);
      sha1s = All-weaker (Contains r.sha1s) IsBytes (λ text held. each (Sha1Of text) held) r.sha1s (All-contains_itself r.sha1s);
      sha256s = All-weaker (Contains r.sha256s) IsBytes (λ text held. each (Sha256Of text) held) r.sha256s (All-contains_itself r.sha256s);
    }

-- ---- the header

header_numbers : (bytes : List ℕ) (values : List (List ℕ)) (body : List ℕ) → BeginsWithTable header_fields [] bytes values body
    → HasNumbers (Some (header_of values))
header_numbers bytes values body (
  magic,
  after_magic,
  is_magic,
  magic_passed,
  (
    format,
    after_format,
    is_format,
    format_passed,
    (
      version,
      after_version,
      is_version,
      version_passed,
      (
        date,
        after_date,
        is_date,
        date_passed,
        (
          flags,
          after_flags,
          is_flags,
          flags_passed,
          (
            reserved,
            after_reserved,
            is_reserved,
            reserved_passed,
            (comment, after_comment, is_comment, comment_passed, (same, ended)),
          ),
        ),
      ),
    ),
  ),
) =
    subst (λ (vs : List (List ℕ)). HasNumbers (Some (header_of vs))) same (omega (arith, is_version.is_part.1), omega (arith, is_date.is_part.1))

spelled_numbers : (bytes : List ℕ) (header : Header) (sections : List SpelledSection) → Spells bytes header sections
    → HasNumbers (Some header)
spelled_numbers bytes header sections spelled = subst (λ (h : Header). HasNumbers (Some h)) spelled.header_is (header_numbers bytes spelled.values spelled.body spelled.fields)

-- ---- any list

by_magic : IsReadAsSpelled → (begins : Bool) (bytes : List ℕ) (list : Shown) (entries : List Entry) → IsBytes bytes
    → NamesIf begins bytes list.header entries → Means list.contents entries → HasNoZeroIds list.contents
    → CanBeShown list
by_magic law true bytes list entries fits names means whole =
    let is = names.is in
    record {
      numbers = subst HasNumbers (sym names.header_is) (spelled_numbers bytes is.header is.sections is.spelled);
      stored = stored_bytes list.contents entries means (subst AreBytes (sym is.entries_are) (list_bytes bytes is.header is.sections is.spelled fits)) whole;
    }
by_magic law false bytes list entries fits names means whole = record {
  numbers = subst HasNumbers (sym names.header_is) tt;
  stored = stored_bytes list.contents entries means (subst AreBytes (sym names.is.entries_are) (plain_bytes law bytes fits)) whole;
}

pub can_be_shown : IsReadAsSpelled → (bytes : List ℕ) (list : Shown) (entries : List Entry) → IsBytes bytes
    → Names bytes list.header entries → Means list.contents entries → HasNoZeroIds list.contents → CanBeShown list
can_be_shown law bytes list entries fits names means whole = by_magic law (begins_list bytes) bytes list entries fits names means whole

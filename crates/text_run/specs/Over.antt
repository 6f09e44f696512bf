-- Making a list of texts over what is under its name (krl(1), KRL MAKE).
use Rattle.std.specs.Prelude.{◌≡◌, ◌≢◌, ◌↔◌, ℕ, ◌||◌, ◌≤◌, nat_lt, true, false}
use Rattle.std.specs.Prelude.{if◌then◌else◌, List, length, Option, Some, None, unwrap_or}
use Rattle.std.specs.Prelude.{Result, Ok, Err}
use Rattle.std.specs.Borrow.{Bor}
use Rattle.std.specs.List.{find}
use Rattle.std.specs.Option.{ok_or}
use Rattle.krl_entries.specs.Revocations.{Revocations, nothing}
use Rattle.krl_entries.specs.Revoked.{Revoked}
use Rattle.krl_format.specs.Entries.{entries_of}
use Rattle.krl_format.specs.Front.{limit}
use Rattle.krl_format.specs.Krl.{SpelledSection, Spells}
use Rattle.krl_format.specs.declared.header.Header.{Header}
use Rattle.krl_types.specs.Entry.{Entry}
use Rattle.krl_types.specs.Subject.{Subject}
use Rattle.krl_writer.specs.KrlText.{IsKrlText}
use Rattle.list_diff.specs.Without.{HoldsWithout}
use Rattle.list_making.specs.Making.{WhyUnput}
use Rattle.list_making.specs.Target.{Old}
use Rattle.list_making.specs.Version.{version_of}
use Rattle.run_faults.specs.declared.cause.Cause.{Cause}
use Rattle.run_faults.specs.declared.cause.Cause.TheVariants as causes
use Rattle.text_run.specs.Base.{IsReadOver, IsUnread, is_read, takes_contents}
use Rattle.text_run.specs.Content.{is_mute}
use Rattle.text_run.specs.Fault.{MakeFault, whole_fault}
use Rattle.text_run.specs.Making.{HoldsMore, IsMakeFault, IsWritten, LacksMemoryAt, Makes, Text}
use Rattle.text_entries.specs.AuthorityNames.{NamedKeys}
use Rattle.text_run.specs.Making.{GivesNames, Wanted, day_at, texts_entries, texts_over}
use Rattle.text_run.specs.declared.base.Base.{Base}
use Rattle.text_run.specs.declared.inputs.Inputs.{Inputs}
use Rattle.text_run.specs.declared.listed.Merged.{Merged}
use Rattle.text_run.specs.declared.make_fault.MakeCause.{MakeCause}
use Rattle.text_run.specs.declared.make_fault.MakeCause.TheVariants.{Run, Empty, NoEntry}
use Rattle.text_run.specs.declared.make_fault.MakeCause.TheVariants.{OldVersion}

-- the given comment, otherwise that of the old list
abbrev pub comment_over : (given : Option (Bor (List ℕ))) → (old : List ℕ) → List ℕ
comment_over None old = old
comment_over (Some given) old = given.now

-- The list that the inputs ask for, with this comment of the old one and this version. It may name
-- nothing if that is allowed, and if it names all that the old one names.
abbrev pub wanted_over : Inputs → (old : List ℕ) → (version : ℕ) → Wanted
wanted_over inputs old version = record {
  name = inputs.name.now;
  header = record {
    version = version;
    date = inputs.date;
    comment = comment_over inputs.comment old;
  };
  allow_empty = inputs.allow_empty || takes_contents inputs.over;
}

abbrev pub wanted_of : Inputs → Base → (version : ℕ) → Wanted
wanted_of inputs base version = wanted_over inputs base.comment version

-- the fault of the list as a whole
abbrev pub fault_of : Inputs → Cause → MakeFault
fault_of inputs cause = whole_fault inputs.name.now (Run cause)

-- ---- the texts

-- the entries of the texts on the date of the list
abbrev pub entries_asked : Inputs → Result (List Entry) MakeFault
entries_asked inputs = texts_entries (day_at inputs.date) inputs.texts.now

-- how many of their lines had a last day that is over
abbrev pub over_asked : Inputs → Result ℕ MakeFault
over_asked inputs = texts_over (day_at inputs.date) inputs.texts.now

-- The names that the texts give to authorities, by their keys.
abbrev pub HasNames : Inputs → NamedKeys → Type 0
HasNames inputs names = GivesNames (day_at inputs.date) inputs.texts.now names

-- The texts have this fault first, or an allocation failed at one of them.
abbrev pub IsUnadded : Inputs → MakeFault → Type 0
IsUnadded inputs fault =
    IsMakeFault (LacksMemoryAt (day_at inputs.date) inputs.texts.now) fault.cause
    (entries_asked inputs) fault

-- Each text has an entry or needs none, and one has an entry, unless nothing may be there.
pub record IsEnough (inputs : Inputs) (contents : Revocations) : Type 0 where
  pub each : inputs.allow_empty ≡ false → find is_mute inputs.texts.now ≡ None
  pub some : inputs.allow_empty || takes_contents inputs.over ≡ false → contents ≢ nothing

-- The texts have no fault, and this is what they name, which is enough.
pub record IsHeld (inputs : Inputs) (contents : Revocations) : Type 0 where
  pub entries : List Entry
  pub read : entries_asked inputs ≡ Ok entries
  pub adds : HoldsMore nothing contents entries
  pub enough : IsEnough inputs contents

-- Why texts without a fault are refused: one has no entry although it needs one, or none has one.
pub data IsTooLittle (inputs : Inputs) (contents : Revocations) (fault : MakeFault) : Type 0 where
  mute : (text : Text) → inputs.allow_empty ≡ false → find is_mute inputs.texts.now ≡ Some text
      → fault ≡ whole_fault text.name NoEntry → IsTooLittle inputs contents fault
  empty : inputs.allow_empty || takes_contents inputs.over ≡ false → contents ≡ nothing
      → fault ≡ whole_fault inputs.name.now Empty → IsTooLittle inputs contents fault

-- Why texts are refused: the first fault, or an allocation failed at a text; or one has no entry,
-- or none has one; or an allocation failed for the names of authorities.
pub data IsRefused (inputs : Inputs) (fault : MakeFault) : Type 0 where
  faulty : IsUnadded inputs fault → IsRefused inputs fault
  too_little : (entries : List Entry) → (contents : Revocations)
      → entries_asked inputs ≡ Ok entries → HoldsMore nothing contents entries
      → IsTooLittle inputs contents fault → IsRefused inputs fault
  unnamed : fault ≡ whole_fault inputs.name.now (Run causes.NoMemory) → IsRefused inputs fault

-- ---- the version

-- The version is the given one, which is above that of the old list; otherwise one more than that;
-- otherwise 1.
abbrev pub version_over : (given stated : Option ℕ) → Result ℕ MakeCause
version_over None stated = ok_or (version_of 1 None stated) (Run causes.VersionFull)
version_over (Some given) None = Ok given
version_over (Some given) (Some stated) = if nat_lt stated given then Ok given else Err OldVersion

-- ---- the list

-- The old list's contents are taken over, and those of the texts were added; or they are not.
abbrev pub IsMerged : Inputs → (taken : Revocations) → Option Revocations → Type 0
IsMerged inputs taken None = takes_contents inputs.over ≡ false
IsMerged inputs taken (Some merged) =
    (takes_contents inputs.over ≡ true)
    × ((entries : List Entry) × (entries_asked inputs ≡ Ok entries)
    × HoldsMore taken merged entries)

-- The bytes are the list of what is held of the texts and taken over from the old list.
pub record IsMadeOver (inputs : Inputs) (listed : Revocations) (old : Old) (bytes : List ℕ)
    (merged : Merged) : Type 0 where
  pub base : Base
  pub over : IsReadOver inputs.over inputs.version old (Ok base)
  pub has_version : version_over inputs.version base.version ≡ Ok merged.version
  pub is_merged : IsMerged inputs base.revocations merged.revocations
  pub loses : HoldsWithout (unwrap_or merged.revocations listed) base.before merged.lost
  pub written : IsKrlText (wanted_of inputs base merged.version).header
      (unwrap_or merged.revocations listed) bytes
  pub within : length bytes ≤ limit

-- Why no list is made of what is held of the texts: the old list is not read; there is no version;
-- an allocation failed while the texts were added to the old list; or it would be too long to be
-- read, or an allocation failed.
pub data Refuses (inputs : Inputs) (listed : Revocations) (old : Old) (fault : MakeFault)
    : Type 0 where
  unread : (cause : Cause) → IsUnread inputs.over inputs.version old cause
      → fault ≡ fault_of inputs cause → Refuses inputs listed old fault
  without_version : (base : Base) (cause : MakeCause)
      → IsReadOver inputs.over inputs.version old (Ok base)
      → version_over inputs.version base.version ≡ Err cause
      → fault ≡ whole_fault inputs.name.now cause → Refuses inputs listed old fault
  unmerged : IsUnadded inputs fault → Refuses inputs listed old fault
  unwritten : (base : Base) (version : ℕ) (merged : Option Revocations)
      → IsReadOver inputs.over inputs.version old (Ok base)
      → version_over inputs.version base.version ≡ Ok version
      → IsMerged inputs base.revocations merged
      → IsWritten {X = List ℕ} (λ bytes. bytes) (wanted_of inputs base version)
      (unwrap_or merged listed) (Err fault)
      → Refuses inputs listed old fault

-- The bytes and what they name are the list of the texts, with what it has of the old list. What
-- that names beside is lost.
pub record MakesOver (inputs : Inputs) (old : Old) (bytes : List ℕ) (version : ℕ)
    (contents lost : Revocations) : Type 0 where
  pub base : Base
  pub over : IsReadOver inputs.over inputs.version old (Ok base)
  pub has_version : version_over inputs.version base.version ≡ Ok version
  pub makes : Makes (wanted_of inputs base version) base.revocations inputs.texts.now bytes
      contents
  pub loses : HoldsWithout contents base.before lost
  pub each : inputs.allow_empty ≡ false → find is_mute inputs.texts.now ≡ None

-- Why no list is made and put: the texts are refused; or the list of what they name is not made
-- over the one that it follows, or not put.
pub data WhyUnmade {P : Type 0} (base : P → Old → Type 0) (inputs : Inputs) (new : P)
    (fault : MakeFault) : Type 0 where
  texts : IsRefused inputs fault → WhyUnmade base inputs new fault
  place : (listed : Revocations) → IsHeld inputs listed
      → WhyUnput base (is_read inputs.over) (Refuses inputs listed) (fault_of inputs) new fault
      → WhyUnmade base inputs new fault

-- ---- what a list revokes

-- The bytes are a list with this header that revokes exactly what the entries revoke.
pub record RevokesSame (header : Header) (bytes : List ℕ) (entries : List Entry) : Type 0 where
  pub sections : List SpelledSection
  pub spelled : Spells bytes header sections
  pub same : (asked : Subject) → Revoked (entries_of sections) asked ↔ Revoked entries asked

-- The meaning of lines, and the changes that they made.
use Rattle.std.proofs.lemmas.Bool.{cases_Bool, false≢true}
use Rattle.std.proofs.Common.{◌≡◌, ◌==◌, length, true, false, ℕ, List, [], ◌∷◌, Option, Some, None, Result, Ok, Err, refl, ap, arith, inl, inr, ◌+◌, ◌≤◌}
use Rattle.ssh_wire.specs.Reading.{◌>>=◌, in_fault}
use Rattle.run_faults.specs.declared.spec_cause.SpecCause.{SpecCause}
use Rattle.run_faults.specs.declared.spec_cause.SpecCause.TheVariants as specs
use Rattle.key_text.specs.LineReading.{KeyLine, line_at}
use Rattle.krl_entries.specs.Changes.{MeansMore}
use Rattle.krl_entries.specs.Revocations.{Revocations, held}
use Rattle.krl_spec.specs.Adding.{AddsEntry, MayLackMemory as MayLackSpec, Reports as ReportsSpec}
use Rattle.keyed_lines.specs.Keys.{subject_in}
use Rattle.keyed_lines.specs.declared.key_cause.KeyCause.{KeyCause}
use Rattle.keyed_lines.specs.declared.key_cause.KeyCause.TheVariants as keys
use Rattle.krl_types.specs.Entry.{Entry, IdEntry}
use Rattle.krl_spec.specs.Entries.{bare_entry, names_entry}
use Rattle.krl_types.specs.Subject.{CertNames, Subject}
use Rattle.ssh_cert.specs.SubjectReading.{subject_of}
use Rattle.ssh_cert.specs.declared.subject_fault.SubjectFault.{SubjectFault}
use Rattle.text_entries.specs.AuthorityNames.{NamedKeys}
use Rattle.text_entries.specs.Reading.{DeclaresName, LacksMemory, ReportsLine, TakesEntry, TakesLine}
use Rattle.text_entries.specs.Says.{Declares, Names, Over, Saying, Under, bare_key_entry, has_zero_id, key_line_says, name_says, names_says, one_more_over, spec_entry, under_says, unless_over, whole_entry}
use Rattle.text_entries.specs.TextCause.{MayLackMemory, Reports}
use Rattle.text_entries.specs.Values.{authority_key_in, begins_with_key, has_zero, unless_certified}
use Rattle.text_entries.specs.declared.standing.Standing.{Standing}
use Rattle.text_entries.specs.declared.text_cause.TextCause.{TextCause}
use Rattle.text_entries.specs.declared.text_cause.TextCause.TheVariants.{Spec}

-- ---- authorities

-- the fault of two steps is that of the first one that fails
in_fault_then : {A B F G : Type 0} (give : F → G) (first : Result A F) (next : A → Result B F)
    → in_fault give (first >>= next) ≡ (in_fault give first >>= λ (a : A). in_fault give (next a))
in_fault_then give (Ok a) next = refl
in_fault_then give (Err fault) next = refl

abbrev line_in : List ℕ → Result KeyLine KeyCause
line_in text = in_fault keys.Line (line_at text)

abbrev asked_in : KeyLine → Result Subject KeyCause
asked_in line = in_fault keys.Subject (subject_of line.blob)

abbrev plain_of : Result Subject KeyCause → Result (List ℕ) TextCause
plain_of read = in_fault Spec (in_fault specs.Key read) >>= λ (asked : Subject). unless_certified asked.plain asked.cert

unless_may : (plain : List ℕ) (cert : Option CertNames) → MayLackMemory (unless_certified plain cert)
unless_may plain None = tt
unless_may plain (Some names) = tt

subject_may : (read : Result Subject SubjectFault) → MayLackMemory (plain_of (in_fault keys.Subject read))
subject_may (Ok asked) = unless_may asked.plain asked.cert
subject_may (Err fault) = tt

-- Memory may run out where it may for the line, since the subject needs some.
line_may : (read : Result KeyLine KeyCause) → MayLackSpec (in_fault specs.Key read) → MayLackMemory (plain_of (read >>= asked_in))
line_may (Ok line) may = subject_may (subject_of line.blob)
line_may (Err cause) may = may

pub key_read : (text : List ℕ) (line : KeyLine) (asked : Subject) → in_fault specs.Key (line_in text) ≡ Ok line
    → in_fault specs.Key (asked_in line) ≡ Ok asked → authority_key_in text ≡ unless_certified asked.plain asked.cert
unfolding authority_key_in subject_in
key_read text line asked read is = rw (in_fault_then specs.Key (line_in text) asked_in, read, is) refl

pub line_stops : (text : List ℕ) (cause : SpecCause) → ReportsSpec cause (in_fault specs.Key (line_in text)) → Reports (Spec cause) (authority_key_in text)
unfolding authority_key_in subject_in
line_stops text specs.NoMemory is = line_may (line_in text) is
line_stops text cause is = rw (in_fault_then specs.Key (line_in text) asked_in, is) refl

pub subject_stops : (text : List ℕ) (line : KeyLine) (cause : SpecCause) → in_fault specs.Key (line_in text) ≡ Ok line
    → ReportsSpec cause (in_fault specs.Key (asked_in line)) → Reports (Spec cause) (authority_key_in text)
unfolding authority_key_in subject_in
subject_stops text line specs.NoMemory read is = rw (in_fault_then specs.Key (line_in text) asked_in, read) (subject_may (subject_of line.blob))
subject_stops text line cause read is = rw (in_fault_then specs.Key (line_in text) asked_in, read, is) refl

-- ---- entries

-- an entry as in a specification file
pub entry_added : (read : Result Entry SpecCause) (old new : Revocations) → AddsEntry {A = Unit {0}} read (Ok tt) old new
    → TakesEntry {A = Unit {0}} (spec_entry read) (Ok tt) old new
entry_added read old new (entry, is, adds, few) = (entry, ap spec_entry is, (adds, few))

-- an entry of bytes that a line gives
pub bytes_added : (read : Result (List ℕ) TextCause) (value : List ℕ) (entry : List ℕ → Entry) (old new : Revocations)
    → read ≡ Ok value → MeansMore old new (entry value ∷ []) → held new ≡ held old
    → TakesEntry {A = Unit {0}} (read >>= λ v. Ok (entry v)) (Ok tt) old new
bytes_added read value entry old new is means same = (entry value, rw is refl, (means, omega (arith, same)))

-- an entry that is no key ID with a zero byte
pub whole_added : (entry : Entry) (old new : Revocations) → has_zero_id entry ≡ false
    → MeansMore old new (entry ∷ []) → held new ≤ held old + 1
    → TakesEntry {A = Unit {0}} (whole_entry entry) (Ok tt) old new
whole_added entry old new whole means few = (entry, rw whole refl, (means, few))

-- a key ID that a line gives by its bytes
pub id_added : (read : Result (List ℕ) TextCause) (authority id : List ℕ) (old new : Revocations) → read ≡ Ok id → has_zero id ≡ false
    → MeansMore old new (IdEntry authority id ∷ []) → held new ≡ held old
    → TakesEntry {A = Unit {0}} (read >>= λ i. whole_entry (IdEntry authority i)) (Ok tt) old new
id_added read authority id old new is whole means same =
    (IdEntry authority id, rw (is, whole) refl, (means, omega (arith, same)))

-- ---- the lines of entries

names_lacks : (read : Result Entry TextCause) → MayLackMemory read → LacksMemory (names_says read)
names_lacks (Ok entry) may = tt
names_lacks (Err cause) may = may

names_reports : (cause : TextCause) (read : Result Entry TextCause) → Reports cause read → ReportsLine cause (names_says read)
names_reports (Spec specs.NoMemory) read is = names_lacks read is
names_reports cause read is = rw is refl

-- No authority is current after the entry of a line was added.
pub names_line : (read : Result Entry TextCause) (standing : Standing) (old new : Revocations)
    → TakesEntry {A = Unit {0}} read (Ok tt) old new
    → TakesLine {A = Unit {0}} (names_says read) (Ok tt) standing (record standing { current = None }) old new
names_line read standing old new (entry, is, held) = (Names entry, ap names_says is, (refl, held))

pub names_stops : (read : Result Entry TextCause) (standing : Standing) (cause : TextCause) (old new : Revocations)
    → TakesEntry {A = Unit {0}} read (Err cause) old new → TakesLine {A = Unit {0}} (names_says read) (Err cause) standing standing old new
names_stops read standing cause old new (is, same) = (names_reports cause read is, refl, same)

under_lacks : (read : Result Entry TextCause) → MayLackMemory read → LacksMemory (under_says read)
under_lacks (Ok entry) may = tt
under_lacks (Err cause) may = may

under_reports : (cause : TextCause) (read : Result Entry TextCause) → Reports cause read → ReportsLine cause (under_says read)
under_reports (Spec specs.NoMemory) read is = under_lacks read is
under_reports cause read is = rw is refl

-- An entry that is added under an authority changes nothing of what stands.
pub under_line : (read : Result Entry TextCause) (result : Result (Unit {0}) TextCause) (standing : Standing) (old new : Revocations)
    → TakesEntry read result old new → TakesLine (under_says read) result standing standing old new
under_line read (Ok done) standing old new (entry, is, held) = (Under entry, ap under_says is, (refl, held))
under_line read (Err cause) standing old new (is, same) = (under_reports cause read is, refl, same)

-- A line that is over leaves what is held as it is.
pub over_line : (says : Result Saying TextCause) (before after : Standing) (old new r : Revocations)
    → TakesLine {A = Unit {0}} says (Ok tt) before after old new
    → TakesLine {A = Unit {0}} (unless_over true says) (Ok tt) before (one_more_over after) r r
over_line says before after old new r (saying, is, taken) = (Over saying, ap (unless_over true) is, (ap one_more_over taken.0, refl))

-- ---- names

name_lacks : (name : List ℕ) (read : Result (List ℕ) TextCause) → MayLackMemory read → LacksMemory (name_says name read)
name_lacks name (Ok key) may = tt
name_lacks name (Err cause) may = may

name_reports : (name : List ℕ) (cause : TextCause) (read : Result (List ℕ) TextCause) → Reports cause read → ReportsLine cause (name_says name read)
name_reports name (Spec specs.NoMemory) read is = name_lacks name read is
name_reports name cause read is = rw is refl

-- An authority has a name after a line that gives it one.
pub name_line : (name : List ℕ) (read : Result (List ℕ) TextCause) (result : Result (Unit {0}) TextCause) (standing : Standing) (names : NamedKeys)
    (r : Revocations) → DeclaresName name read result standing.names names
    → TakesLine (name_says name read) result standing (record standing { names = names }) r r
name_line name read (Ok done) standing names r (key, is, has) = (Declares name key, ap (name_says name) is, (rw has refl, refl))
name_line name read (Err cause) standing names r (is, same) = (name_reports name cause read is, rw same refl, refl)

-- ---- key lines

abbrev bare_of : Result Subject KeyCause → Result Entry TextCause
bare_of read = spec_entry (in_fault specs.Key read >>= λ (asked : Subject). Ok (names_entry asked.plain asked.cert)) >>= whole_entry

whole_may : (entry : Entry) → MayLackMemory (whole_entry entry)
whole_may entry = elim (cases_Bool (has_zero_id entry)) [
  | inl zero ↦ rw zero tt
  | inr whole ↦ rw whole tt
]

asked_may : (read : Result Subject SubjectFault) → MayLackMemory (bare_of (in_fault keys.Subject read))
asked_may (Ok asked) = whole_may (names_entry asked.plain asked.cert)
asked_may (Err fault) = tt

bare_may : (read : Result KeyLine KeyCause) → MayLackSpec (in_fault specs.Key read) → MayLackMemory (bare_of (read >>= asked_in))
bare_may (Ok line) may = asked_may (subject_of line.blob)
bare_may (Err cause) may = may

-- what content that begins with a key names
abbrev whole_bare : List ℕ → Result Entry TextCause
whole_bare text = spec_entry (bare_entry text) >>= whole_entry

pub bare_is : (content : List ℕ) → begins_with_key content ≡ true → bare_key_entry content ≡ whole_bare content
bare_is content begins = rw begins refl

pub bare_read : (text : List ℕ) (line : KeyLine) (asked : Subject) → in_fault specs.Key (line_in text) ≡ Ok line
    → in_fault specs.Key (asked_in line) ≡ Ok asked → whole_bare text ≡ whole_entry (names_entry asked.plain asked.cert)
unfolding subject_in
bare_read text line asked read is = rw (in_fault_then specs.Key (line_in text) asked_in, read, is) refl

pub bare_line_stops : (text : List ℕ) (cause : SpecCause) → ReportsSpec cause (in_fault specs.Key (line_in text))
    → Reports (Spec cause) (whole_bare text)
unfolding subject_in
bare_line_stops text specs.NoMemory is = bare_may (line_in text) is
bare_line_stops text cause is = rw (in_fault_then specs.Key (line_in text) asked_in, is) refl

pub bare_subject_stops : (text : List ℕ) (line : KeyLine) (cause : SpecCause) → in_fault specs.Key (line_in text) ≡ Ok line
    → ReportsSpec cause (in_fault specs.Key (asked_in line)) → Reports (Spec cause) (whole_bare text)
unfolding subject_in
bare_subject_stops text line specs.NoMemory read is = rw (in_fault_then specs.Key (line_in text) asked_in, read) (asked_may (subject_of line.blob))
bare_subject_stops text line cause read is = rw (in_fault_then specs.Key (line_in text) asked_in, read, is) refl

-- content that is not empty
pub key_line_is : (content : List ℕ) → false ≡ (length content == 0) → key_line_says content ≡ names_says (bare_key_entry content)
key_line_is [] some = absurd (false≢true some)
key_line_is (byte ∷ bytes) some = refl

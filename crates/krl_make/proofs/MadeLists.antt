-- Making a list: reading the old one, the authority's file and the files.
use Rattle.std.proofs.Common.{◌≡◌, ℕ, ◌+◌, ◌<◌, ◌≤◌, List, [], ◌∷◌, ◌++◌, length, take, drop, get_or, Option, Some, None, Result, Ok, Err, inl, inr, refl, sym, ap, subst, ◌∙◌, arith, append_assoc, length-append}
use Rattle.std.proofs.lemmas.List.{append-nil, take_more, take-append-drop}
use Rattle.std.proofs.Math.Logic.Iff as Iff
use Rattle.std.proofs.lemmas.Bool.{cases_Bool}
use Rattle.std.specs.List.{slice_split}
use Rattle.std.specs.Option.{ok_or}
use Rattle.ssh_wire.specs.Reading.{◌>>=◌, in_fault}
use Rattle.key_text.specs.Armour.{begins_container}
use Rattle.key_text.specs.ContainerReading.{Opened, private_at}
use Rattle.key_text.specs.KeyFile.{has_key}
use Rattle.key_text.specs.LineReading.{KeyLine, line_at}
use Rattle.key_text.specs.Lines.{is_newline}
use Rattle.key_text.specs.declared.line_fault.LineFault.{LineFault}
use Rattle.key_text.specs.declared.private_fault.PrivateFault.{PrivateFault}
use Rattle.krl_writer.proofs.ReadBack.{written_spelled}
use Rattle.krl_entries.proofs.RevokedTests.{revokes_meant}
use Rattle.krl_entries.specs.Revocations.{Revocations, Means, held}
use Rattle.krl_format.specs.Entries.{entries_of}
use Rattle.krl_types.specs.Entry.{Entry}
use Rattle.krl_format.specs.Front.{IsFirstKrlFault, limit}
use Rattle.krl_writer.specs.KrlText.{IsKrlText}
use Rattle.krl_core.specs.Reading.{IsList}
use Rattle.krl_format.specs.declared.header.Header.{Header}
use Rattle.krl_types.specs.declared.krl_fault.KrlFault.{KrlFault}
use Rattle.krl_make.specs.declared.base.Base.{Base}
use Rattle.krl_make.specs.Making.{Added, HasNumbers, IsCurrentName, IsCurrentFile, authority_file, lines, new_list, old_list, IsOldList, HoldsMore, IsRunFault, Parts, Makes, NamesSame, Returns, WritesList, WritesMade, WritesMore, after_old, base_of, cause_run_fault, file_entries, file_key, file_run_fault, files_entries, first_blob, first_key_of, header_of, parts_of, make_run_of, named_blob, key_blob, text_entries, then_entries, paid}
use Rattle.list_making.specs.Version.{version_of}
use Rattle.run_faults.specs.RunFault.{krl_cause}
use Rattle.run_faults.specs.declared.cause.Cause.TheVariants as causes
use Rattle.krl_job.specs.declared.job.AuthorityOption.{AuthorityOption}
use Rattle.krl_job.specs.declared.job.AuthorityOption.TheVariants.{File as FileOf}
use Rattle.krl_types.specs.declared.krl_fault.KrlFault.TheVariants as faults
use Rattle.run_faults.specs.Keys.{Named, FileKey, GivesKey, IsRefused, key_of_container, content_keys, file_name, key_in, keys_from, keys_of, key_of_line}
use Rattle.run_faults.specs.declared.file_fault.FileFault.{FileFault}
use Rattle.run_faults.specs.declared.file_fault.FileFault.TheVariants as files
use Rattle.krl_spec.specs.Lines.{ReadsSpec, StopsAt, lines_of}
use Rattle.run_faults.specs.declared.spec_cause.SpecCause.{SpecCause}
use Rattle.run_faults.specs.declared.spec_cause.SpecCause.TheVariants as specs
use Rattle.run_faults.specs.RunFault.{RunFault, EndedBy, ByInput, ByMemory, ByOutput, ended_by, run_fault_of}

-- ---- the old list

pub old_read : (text : List ℕ) (header : Header) (contents : Revocations) → IsList text header contents → IsFirstKrlFault text None
    → IsOldList text (base_of header contents)
old_read text header contents list none = record {
  header = header;
  list = list;
  no_fault = none;
  version_is = refl;
  comment_is = refl;
}

-- ---- the authority

content_first : (name : List ℕ) (content : Result (List ℕ) FileFault) → (in_fault (file_run_fault name) content >>= first_key_of name) ≡ first_blob name (content_keys name content)
unfolding first_key_of
content_first name (Ok text) = refl
content_first name (Err fault) = refl

-- the first key of a file is the first of its keys
file_first : (file : Named) (keys : List (Result FileKey RunFault)) → keys_of file ≡ keys → file_key file ≡ first_blob file.name keys
unfolding keys_of
file_first file keys is = content_first file.name file.content ∙ ap (first_blob file.name) is

pub no_key_first : (file : Named) → keys_of file ≡ [] → file_key file ≡ Err (file_run_fault file.name files.NoKeys)
no_key_first file none = file_first file [] none

line_named : (name : List ℕ) (number : ℕ) (line : Result KeyLine LineFault) → file_name (key_of_line name number line) ≡ name
line_named name number (Ok line) = refl
line_named name number (Err fault) = refl

container_named : (name : List ℕ) (read : Result Opened PrivateFault) → file_name (key_of_container name read) ≡ name
container_named name (Ok opened) = refl
container_named name (Err fault) = refl

-- the first key is one of the file with this name
abbrev FirstNamed : List ℕ → List (Result FileKey RunFault) → Type 0
FirstNamed name [] = Unit {0}
FirstNamed name (next ∷ later) = file_name next ≡ name

lines_named : (name : List ℕ) (number : ℕ) (texts : List (List ℕ)) → FirstNamed name (keys_from name number texts)
unfolding key_in
lines_named name number [] = tt
lines_named name number (line ∷ texts) = elim (cases_Bool (has_key line)) [
  | inl has ↦ rw has (line_named name number (line_at line))
  | inr none ↦ rw none (lines_named name (number + 1) texts)
]

content_named : (name : List ℕ) (content : Result (List ℕ) FileFault) → FirstNamed name (content_keys name content)
content_named name (Err fault) = refl
content_named name (Ok text) = elim (cases_Bool (begins_container text)) [
  | inl begins ↦ rw begins (container_named name (private_at text))
  | inr plain ↦ rw plain (lines_named name 1 (slice_split is_newline text))
]

-- the file name in the first key, or in its fault, is that of the file
first_named : (file : Named) (next : Result FileKey RunFault) (later : List (Result FileKey RunFault)) → keys_of file ≡ next ∷ later → file_name next ≡ file.name
unfolding keys_of
first_named file next later is = subst (FirstNamed file.name) is (content_named file.name file.content)

-- The first key was returned, and its plain key determines the result.
pub first_given : {X : Type 0} (view : X → List ℕ) (file : Named) (key : FileKey) (later : List (Result FileKey RunFault)) (result : Result X RunFault) → keys_of file ≡ Ok key ∷ later
    → Returns view (λ at. key.name ≡ at) (key_blob key) result → Returns view (λ at. file.name ≡ at) (file_key file) result
first_given view file key later result is returned =
    rw (file_first file (Ok key ∷ later) is, ← first_named file (Ok key) later is) returned

-- or the file stopped the run, or an allocation failed
pub first_refused : (file : Named) (next : Result FileKey RunFault) (later : List (Result FileKey RunFault)) (stop : RunFault) → keys_of file ≡ next ∷ later → GivesKey next (Err stop)
    → IsRunFault (ended_by stop.cause) (λ at. file.name ≡ at) (file_key file) stop
first_refused file next later stop is refused = rw (file_first file (next ∷ later) is, ← first_named file next later is) (key_stops (ended_by stop.cause) file.name next later stop refused)
  where
    key_stops : (ended : EndedBy) (name : List ℕ) (next : Result FileKey RunFault) (later : List (Result FileKey RunFault)) (stop : RunFault) → IsRefused ended next stop
        → IsRunFault ended (λ at. file_name next ≡ at) (first_blob name (next ∷ later)) stop
    key_stops ByInput name next later stop given = rw given refl
    key_stops ByMemory name next later stop given = (file_name next, (refl, given))
    key_stops (ByOutput count) name next later stop given = absurd given

-- ---- the files

pub text_added : (authority : Option (List ℕ)) (name text : List ℕ) (old new : Revocations)
    → ReadsSpec authority text (Ok (tt {0})) old new → held new ≤ held old + length (lines_of authority text).entries
    → Added (text_entries authority name text) old new
text_added authority name text old new reads more =
    ((lines_of authority text).entries, (rw reads.0 refl, record { means = reads.1; held_is = more }))

-- If the lines of a text stop, the run stops.
pub text_stops : (authority : Option (List ℕ)) (name text : List ℕ) (number : ℕ) (cause : SpecCause) (old new : Revocations)
    → StopsAt authority text number cause old new
    → IsRunFault (ended_by (cause_run_fault name number cause).cause) (λ at. name ≡ at) (text_entries authority name text) (cause_run_fault name number cause)
text_stops authority name text number specs.NoMemory old new stops = (name, (refl, refl))
text_stops authority name text number cause old new (reported, adds) = rw reported refl

nothing_before : (read : Result (List Entry) RunFault) → read ≡ then_entries (Ok []) read
nothing_before (Ok entries) = refl
nothing_before (Err stop) = refl

regrouped : (a b c : Result (List Entry) RunFault)
    → then_entries a (then_entries b c) ≡ then_entries (then_entries a b) c
regrouped (Ok a) (Ok b) (Ok c) = ap (λ (x : List Entry). Ok x) (sym (append_assoc a b c))
regrouped (Ok a) (Ok b) (Err c) = refl
regrouped (Ok a) (Err b) c = refl
regrouped (Err a) b c = refl

files_parts : (authority : Option (List ℕ)) (front back : List Named)
    → files_entries authority (front ++ back) ≡ then_entries (files_entries authority front) (files_entries authority back)
files_parts authority [] back = nothing_before (files_entries authority back)
files_parts authority (file ∷ front) back =
    ap (then_entries (file_entries authority file)) (files_parts authority front back) ∙ regrouped (file_entries authority file) (files_entries authority front) (files_entries authority back)

one_file : (authority : Option (List ℕ)) (file : Named) (read : Result (List Entry) RunFault) → then_entries read (Ok []) ≡ read
one_file authority file (Ok entries) = ap (λ (x : List Entry). Ok x) (append-nil entries)
one_file authority file (Err stop) = refl

files_take : (authority : Option (List ℕ)) (files : List Named) (i : ℕ) (file : Named) → i < length files → file ≡ get_or files i file
    → files_entries authority (take (i + 1) files) ≡ then_entries (files_entries authority (take i files)) (file_entries authority file)
files_take authority files i file lt item =
    let more : take (i + 1) files ≡ take i files ++ file ∷ [] = take_more files i file lt ∙ ap (λ (x : Named). take i files ++ x ∷ []) (sym item) in
    rw more (files_parts authority (take i files) (file ∷ []) ∙ ap (then_entries (files_entries authority (take i files))) (one_file authority file (file_entries authority file)))

pub no_files : (r : Revocations) → Added (Ok []) r r
no_files r = ([], (refl, record { means = λ entries means. rw (append-nil entries) means; held_is = omega arith }))

pub file_added : (authority : Option (List ℕ)) (files : List Named) (i : ℕ) (file : Named) (old mid new : Revocations)
    → i < length files → file ≡ get_or files i file
    → Added (files_entries authority (take i files)) old mid
    → Added (file_entries authority file) mid new
    → Added (files_entries authority (take (i + 1) files)) old new
file_added authority files i file old mid new lt item (front, (read, adds)) (named, (read', adds')) = (
  front ++ named,
  (
    rw (files_take authority files i file lt item, read, read') refl,
    record {
      means = λ entries means. rw (← append_assoc entries front named) (adds'.means (entries ++ front) (adds.means entries means));
      held_is = omega (arith, adds.held_is, adds'.held_is, length-append front named);
    },
  ),
)

-- ---- the fault that stopped the run

-- A stop in a part is a stop of the whole, if the current file of the part is the current file of the whole.
pub run_fault_of_part : {X Y : Type 0} (ended : EndedBy) (Part Whole : List ℕ → Type 0) (read : Result X RunFault) (whole : Result Y RunFault) (stop : RunFault)
    → ((at : List ℕ) → Part at → Whole at)
    → (read ≡ Err stop → whole ≡ Err stop) → IsRunFault ended Part read stop → IsRunFault ended Whole whole stop
run_fault_of_part ByInput Part Whole read whole stop more same is = same is
run_fault_of_part ByMemory Part Whole read whole stop more same (at, (has, is)) = (at, (more at has, is))
run_fault_of_part (ByOutput count) Part Whole read whole stop more same is = absurd is

stopped_at : (authority : Option (List ℕ)) (files : List Named) (i : ℕ) (file : Named) (front : List Entry) (stop : RunFault) → i < length files → file ≡ get_or files i file
    → files_entries authority (take i files) ≡ Ok front → file_entries authority file ≡ Err stop → files_entries authority files ≡ Err stop
stopped_at authority files i file front stop lt item read read' =
    let first : files_entries authority (take (i + 1) files) ≡ Err stop = rw (files_take authority files i file lt item, read, read') refl in
    ap (files_entries authority) (sym (take-append-drop (i + 1) files)) ∙ files_parts authority (take (i + 1) files) (drop (i + 1) files) ∙ ap (λ (x : Result (List Entry) RunFault). then_entries x (files_entries authority (drop (i + 1) files))) first

current_file : (authority : Option (List ℕ)) (files : List Named) (i : ℕ) (file : Named) (front : List Entry) (at : List ℕ) → i < length files → file ≡ get_or files i file
    → files_entries authority (take i files) ≡ Ok front → file.name ≡ at → IsCurrentFile authority files at
current_file authority files i file front at lt item read named = record {
  front = take i files;
  file = file;
  back = drop (i + 1) files;
  parts = sym (take-append-drop (i + 1) files) ∙ ap (λ (x : List Named). x ++ drop (i + 1) files) (take_more files i file lt ∙ ap (λ (x : Named). take i files ++ x ∷ []) (sym item)) ∙ append_assoc (take i files) (file ∷ []) (drop (i + 1) files);
  entries = front;
  faultless = read;
  named = named;
}

pub file_stops : (authority : Option (List ℕ)) (files : List Named) (i : ℕ) (file : Named) (stop : RunFault) (old mid : Revocations)
    → i < length files → file ≡ get_or files i file
    → Added (files_entries authority (take i files)) old mid
    → IsRunFault (ended_by stop.cause) (λ at. file.name ≡ at) (file_entries authority file) stop
    → IsRunFault (ended_by stop.cause) (IsCurrentFile authority files) (files_entries authority files) stop
file_stops authority files i file stop old mid lt item (front, (read, adds)) is =
    run_fault_of_part (ended_by stop.cause) (λ at. file.name ≡ at) (IsCurrentFile authority files) (file_entries authority file) (files_entries authority files) stop
    (λ at named. current_file authority files i file front at lt item read named)
    (λ same. stopped_at authority files i file front stop lt item read same)
    is

-- ---- the list that is written

pub names_same : (header : Header) (contents : Revocations) (text : List ℕ) → IsKrlText header contents text
    → length text ≤ limit → HasNumbers header → (entries : List Entry) → Means contents entries → NamesSame header text entries
names_same header contents text written within numbers entries means =
    let w = written_spelled header contents text written within numbers.0 numbers.1 means.orderly in
    record {
      sections = w.sections;
      spelled = w.spelled;
      same = λ asked. Iff.trans (Iff.symm (revokes_meant contents (entries_of w.sections) w.means asked)) (revokes_meant contents entries means asked);
    }

pub made_written : {X : Type 0} (view : X → List ℕ) (name : List ℕ) (made : Parts) (contents : Revocations) (result : Result X RunFault)
    → HoldsMore made.old contents made.entries → WritesList view name made.header contents result → WritesMade view name made result
made_written view name made contents (Ok text) adds (written, within, names) =
    record {
      contents = contents;
      adds = adds;
      written = written;
      within = within;
      names = λ olds means. names (olds ++ made.entries) (adds.means olds means);
    }
made_written view name made contents (Err stop) adds (inl ran_out) = inl ran_out
made_written view name made contents (Err stop) adds (inr (reported, long)) =
    inr (reported, record { contents = contents; adds = adds; long = long })

-- ---- the run

-- the current file or list of the run, given what was read
abbrev IsCurrent : List ℕ → Base → AuthorityOption Named → Option ℕ → List Named → Result Parts RunFault → List ℕ → Type 0
IsCurrent name base authority given files read = IsCurrentName name (Ok base) authority given files read

-- The fault of the old list stops the run.
pub base_refused : (name : List ℕ) (authority : AuthorityOption Named) (version : Option ℕ) (files : List Named) (moment : ℕ) (fault : KrlFault)
    → IsRunFault (ended_by (krl_cause fault)) (IsCurrentName name (Err fault) authority version files (make_run_of name (Err fault) authority version files moment)) (make_run_of name (Err fault) authority version files moment) (run_fault_of name (krl_cause fault))
unfolding make_run_of
base_refused name authority version files moment faults.NoMemory = (name, (old_list refl refl, refl))
base_refused name authority version files moment fault = refl

-- The fault of the authority's file stops the run.
pub key_stops : (name : List ℕ) (given : Option ℕ) (authority : AuthorityOption Named) (file : Named) (moment : ℕ) (base : Base) (files : List Named) (version : ℕ) (stop : RunFault)
    → version_of 0 given base.version ≡ Some version → authority ≡ FileOf file
    → IsRunFault (ended_by stop.cause) (λ at. file.name ≡ at) (file_key file) stop
    → IsRunFault (ended_by stop.cause) (IsCurrent name base authority given files (after_old name authority given moment files base)) (after_old name authority given moment files base) stop
key_stops name given authority file moment base files version stop is names stops =
    let read = after_old name (FileOf file) given moment files base in
    rw names (run_fault_of_part (ended_by stop.cause) (λ at. file.name ≡ at) (IsCurrent name base (FileOf file) given files read) (file_key file) read stop
    (λ at has. authority_file base version refl is has)
    (λ same. rw (is, same) refl)
    stops)

-- the authority of the first key of a file
pub named_by : (authority : AuthorityOption Named) (file : Named) (blob : List ℕ) → authority ≡ FileOf file → file_key file ≡ Ok blob → named_blob authority ≡ Ok (Some blob)
named_by authority file blob names read = rw (names, read) refl

-- The fault of a file or of a line stops the run.
files_stop : (name : List ℕ) (given : Option ℕ) (authority : AuthorityOption Named) (moment : ℕ) (base : Base) (files : List Named) (version : ℕ) (signer : Option (List ℕ)) (stop : RunFault)
    → version_of 0 given base.version ≡ Some version → named_blob authority ≡ Ok signer
    → IsRunFault (ended_by stop.cause) (IsCurrentFile signer files) (files_entries signer files) stop
    → IsRunFault (ended_by stop.cause) (IsCurrent name base authority given files (after_old name authority given moment files base)) (after_old name authority given moment files base) stop
files_stop name given authority moment base files version signer stop is signed stops =
    let read = after_old name authority given moment files base in
    run_fault_of_part (ended_by stop.cause) (IsCurrentFile signer files) (IsCurrent name base authority given files read) (files_entries signer files) read stop
    (λ at has. lines base version signer refl is signed has)
    (λ same. rw (is, signed, same) refl)
    stops

-- If reading succeeds, the list is made, or its text stops the run.
made_read : {X : Type 0} (view : X → List ℕ) (name : List ℕ) (given : Option ℕ) (authority : AuthorityOption Named) (base : Base) (files : List Named) (read : Result Parts RunFault) (made : Parts) (result : Result X RunFault)
    → read ≡ Ok made → WritesMade view name made result → Makes view name (Ok base) authority given files read result
made_read view name given authority base files read made (Ok text) whole is = (made, (whole, is))
made_read view name given authority base files read made (Err stop) whole (inl ran_out) =
    inl (rw ran_out (name, (new_list made whole refl, refl)))
made_read view name given authority base files read made (Err stop) whole (inr (reported, long)) =
    inr (record { made = made; read_as = whole; long = long; stop_is = reported })

-- The list is written from the old revocations and the files, or the run stops there.
pub list_written : {X : Type 0} (view : X → List ℕ) (name : List ℕ) (given : Option ℕ) (authority : AuthorityOption Named) (moment : ℕ) (base : Base) (files : List Named) (version : ℕ) (signer : Option (List ℕ)) (result : Result X RunFault)
    → version_of 0 given base.version ≡ Some version → named_blob authority ≡ Ok signer
    → WritesMore view name (header_of version moment base) base.revocations (IsCurrentFile signer files) (files_entries signer files) result
    → Makes view name (Ok base) authority given files (after_old name authority given moment files base) result
list_written view name given authority moment base files version signer result is signed (inl (entries, (read, written))) =
    let whole = after_old name authority given moment files base in
    made_read view name given authority base files whole (parts_of (header_of version moment base) base.revocations entries) result (rw (is, signed, read) refl) written
list_written view name given authority moment base files version signer result is signed (inr (stop, (stopped, stops))) =
    rw stopped (inl (files_stop name given authority moment base files version signer stop is signed stops))

-- ---- the revocations in it

-- the old revocations of the new list are those of the old list
pub old_of : (version : Result ℕ RunFault) (signer : Result (Option (List ℕ)) RunFault) (entries : Option (List ℕ) → Result (List Entry) RunFault) (header : ℕ → Header) (old : Revocations) (made : Parts)
    → (version >>= (λ v. signer >>= (λ s. entries s >>= (λ e. Ok (parts_of (header v) old e))))) ≡ Ok made → made.old ≡ old
old_of (Err fault) signer entries header old made is = absurd (cc)
old_of (Ok v) (Err fault) entries header old made is = absurd (cc)
old_of (Ok v) (Ok s) entries header old made is = by (entries s) is
  where
    by : (read : Result (List Entry) RunFault) → (read >>= (λ e. Ok (parts_of (header v) old e))) ≡ Ok made → made.old ≡ old
    by (Err fault) same = absurd (cc)
    by (Ok e) same = cc

pub held_paid : (name text : List ℕ) (base : Base) (authority : AuthorityOption Named) (version : Option ℕ) (files : List Named) (moment : ℕ) (made : Parts) (contents : Revocations)
    → IsOldList text base → make_run_of name (Ok base) authority version files moment ≡ Ok made → HoldsMore made.old contents made.entries
    → held contents ≤ paid (length text) (length made.entries)
unfolding make_run_of
held_paid name text base authority version files moment made contents is read more =
    let old : made.old ≡ base.revocations = old_of (ok_or (version_of 0 version base.version) (run_fault_of name causes.VersionFull)) (named_blob authority) (λ s. files_entries s files) (λ v. header_of v moment base) base.revocations made read in
    omega (arith, more.held_is, ap held old, is.list.holds.held_is)

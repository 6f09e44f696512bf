-- Answering the keys of a file, and files, one after another.
use Rattle.std.proofs.Common.{◌≡◌, ℕ, ◌+◌, ◌<◌, ◌||◌, Bool, true, false, List, [], ◌∷◌, ◌++◌, length, map, take, drop, get_or, Option, None, Some, Result, Ok, Err, refl, sym, ap, subst, ◌∙◌, append_assoc}
use Rattle.std.proofs.lemmas.List.{append-nil, take_more, take-append-drop}
use Rattle.std.proofs.lemmas.List.Concat.{flat_map-append}
use Rattle.run_faults.specs.declared.cause.Cause.TheVariants.{File, NoMemory}
use Rattle.krl_types.specs.Subject.{Subject}
use Rattle.ssh_cert.specs.SubjectReading.{subject_of}
use Rattle.ssh_cert.specs.declared.subject_fault.SubjectFault.{SubjectFault}
use Rattle.ssh_key.specs.Key.{PublicKey}
use Rattle.ssh_key.specs.KeyReading.{key_at}
use Rattle.ssh_key.specs.declared.fault.KeyFault.{KeyFault}
use Rattle.run_output.specs.Carries.{Carries}
use Rattle.run_output.specs.declared.answer.Answer.{Answer}
use Rattle.run_output.specs.Printer.{Printer}
use Rattle.run_faults.specs.Keys.{Named as NamedOf, FileKey, GivesKey, IsRefused, file_name, keys_of, run_fault_in}
use Rattle.run_output.specs.Run.{IsWithheld, Item, Answered, Answering, Passed, Stopped, file_items, files_items, file_key_item, key_item, name_of, said, unanswered_of, subject_item, is_answered}
use Rattle.run_faults.specs.RunFault.{RunFault, EndedBy, ByInput, ByMemory, ByOutput, ended_by, run_fault_of}
use Rattle.run_output.proofs.RunParts.{carries_as, carries_more, carries_none, carries_then, carries_withheld}

-- ---- a key

said-name : (name : List ℕ) (answer : Option Answer) → name_of (said name answer) ≡ name
said-name name None = refl
said-name name (Some answer) = refl

key_item-name : (answer : Answering) (key : FileKey) (asked : Subject) (plain : Result PublicKey KeyFault) → name_of (key_item answer key asked plain) ≡ key.name
key_item-name answer key asked (Ok plain) = said-name key.name (answer.say key.name key.number key.line asked plain)
key_item-name answer key asked (Err fault) = refl

subject_item-name : (answer : Answering) (key : FileKey) (read : Result Subject SubjectFault) → name_of (subject_item answer key read) ≡ key.name
subject_item-name answer key (Ok asked) = key_item-name answer key asked (key_at asked.plain)
subject_item-name answer key (Err fault) = refl

-- the item of a key has the name of its file
file_key_item-name : (answer : Answering) (next : Result FileKey RunFault) → name_of (file_key_item answer next) ≡ file_name next
file_key_item-name answer (Ok key) = subject_item-name answer key (subject_of key.line.blob)
file_key_item-name answer (Err stop) = refl

-- an allocation failed before a key was answered
pub ran_out : (answer : Answering) (key : FileKey) → IsWithheld ByMemory (file_key_item answer (Ok key)) (run_fault_of key.name NoMemory)
ran_out answer key = ap (λ (name : List ℕ). run_fault_of name NoMemory) (sym (file_key_item-name answer (Ok key)))

-- a blob was answered
pub blob_answered : (answer : Answering) (key : FileKey) (asked : Subject) (plain : PublicKey) → subject_of key.line.blob ≡ Ok asked → key_at asked.plain ≡ Ok plain
    → file_key_item answer (Ok key) ≡ said key.name (answer.say key.name key.number key.line asked plain)
blob_answered answer key asked plain is_asked is_plain = ap (subject_item answer key) is_asked ∙ ap (key_item answer key asked) is_plain

-- a blob has a first fault
pub blob_refused : (answer : Answering) (key : FileKey) (fault : SubjectFault) → subject_of key.line.blob ≡ Err fault → file_key_item answer (Ok key) ≡ Stopped (run_fault_in key fault)
blob_refused answer key fault is_fault = ap (subject_item answer key) is_fault

-- ---- the keys of a file

is_answered-append : (items more : List Item) → is_answered items || is_answered more ≡ is_answered (items ++ more)
is_answered-append [] more = refl
is_answered-append (Answered name answer ∷ items) more = refl
is_answered-append (Passed name ∷ items) more = is_answered-append items more
is_answered-append (Stopped stop ∷ items) more = refl

-- The items are those that were printed so far, followed by those of the keys that are left.
pub record IsReached (answer : Answering) (items : List Item) (left : List (Result FileKey RunFault)) (reported : Bool) (old now : Printer) : Type 0 where
  pub done : List Item
  pub parts : items ≡ done ++ map (file_key_item answer) left
  pub carried : Carries done (Ok (tt {0})) old now
  pub any : reported ≡ is_answered done

-- the items of the keys of a file
abbrev pub key_items : Answering → NamedOf → List Item
key_items answer file = map (file_key_item answer) (keys_of file)

pub none_reached : (answer : Answering) (file : NamedOf) (now : Printer) → IsReached answer (key_items answer file) (keys_of file) false now now
none_reached answer file now = record { done = []; parts = refl; carried = carries_none tt now; any = refl }

-- the item of the next key is printed
pub key_said : {A : Type 0} (answer : Answering) (items : List Item) (next : Result FileKey RunFault) (left : List (Result FileKey RunFault)) (reported : Bool) (value : A) (old now new : Printer)
    → IsReached answer items (next ∷ left) reported old now → Carries (file_key_item answer next ∷ []) (Ok value) now new
    → IsReached answer items left (reported || is_answered (file_key_item answer next ∷ [])) old new
key_said answer items next left reported value old now new reached carries =
    let item = file_key_item answer next in
    record {
      done = reached.done ++ item ∷ [];
      parts = reached.parts ∙ sym (append_assoc reached.done (item ∷ []) (map (file_key_item answer) left));
      carried = carries_then reached.done (item ∷ []) tt (Ok tt) old now new reached.carried (carries_as (item ∷ []) (Ok value) (Ok tt) now new refl carries);
      any = ap (λ (b : Bool). b || is_answered (item ∷ [])) reached.any ∙ is_answered-append reached.done (item ∷ []);
    }

-- or ends the run
pub key_stops : {A B : Type 0} (answer : Answering) (items : List Item) (next : Result FileKey RunFault) (left : List (Result FileKey RunFault)) (reported : Bool) (stop : RunFault) (old now new : Printer)
    → IsReached answer items (next ∷ left) reported old now → Carries {A = A} (file_key_item answer next ∷ []) (Err stop) now new
    → Carries {A = B} items (Err stop) old new
key_stops {A} {B} answer items next left reported stop old now new reached carries =
    let item = file_key_item answer next in
    let later = map (file_key_item answer) left in
    let front = carries_then {B = A} reached.done (item ∷ []) tt (Err stop) old now new reached.carried carries in
    subst (λ (xs : List Item). Carries {A = B} xs (Err stop) old new) (append_assoc reached.done (item ∷ []) later ∙ sym reached.parts) (carries_more {A = A} {B = B} (reached.done ++ item ∷ []) later stop old new front)

-- a key that was not returned has no item
refused_item : (answer : Answering) (ended : EndedBy) (next : Result FileKey RunFault) (stop : RunFault) → IsRefused ended next stop → IsWithheld ended (file_key_item answer next) stop
refused_item answer ByInput next stop is = ap (file_key_item answer) is
refused_item answer ByMemory next stop is = is ∙ ap (λ (name : List ℕ). run_fault_of name NoMemory) (sym (file_key_item-name answer next))
refused_item answer (ByOutput count) next stop is = absurd is

pub key_refused : {B : Type 0} (answer : Answering) (items : List Item) (next : Result FileKey RunFault) (left : List (Result FileKey RunFault)) (reported : Bool) (stop : RunFault) (old now : Printer)
    → IsReached answer items (next ∷ left) reported old now → GivesKey next (Err stop) → Carries {A = B} items (Err stop) old now
key_refused {B} answer items next left reported stop old now reached is =
    key_stops {A = B} {B = B} answer items next left reported stop old now now reached
    (carries_withheld (file_key_item answer next) stop now (refused_item answer (ended_by stop.cause) next stop is))

-- ---- a file

-- a fault ended the run
pub file_stopped : {A : Type 0} (answer : Answering) (file : NamedOf) (stop : RunFault) (old new : Printer) → Carries {A = A} (key_items answer file) (Err stop) old new
    → Carries {A = A} (file_items answer file) (Err stop) old new
unfolding file_items
file_stopped {A} answer file stop old new carries =
    carries_more {A = A} {B = A} (key_items answer file) (unanswered_of answer file.name (is_answered (key_items answer file))) stop old new carries

-- all keys were answered
all_said : (answer : Answering) (items : List Item) (reported : Bool) (old now : Printer) → IsReached answer items [] reported old now → Carries items (Ok (tt {0})) old now × (reported ≡ is_answered items)
all_said answer items reported old now reached =
    let same : items ≡ reached.done = reached.parts ∙ append-nil reached.done in
    (subst (λ (xs : List Item). Carries xs (Ok (tt {0})) old now) (sym same) reached.carried, reached.any ∙ ap is_answered (sym same))

-- and the file has an answer
pub file_ends : (answer : Answering) (file : NamedOf) (old now : Printer) → IsReached answer (key_items answer file) [] true old now → Carries (file_items answer file) (Ok (tt {0})) old now
unfolding file_items
file_ends answer file old now reached =
    let items = key_items answer file in
    let whole = all_said answer items true old now reached in
    let unanswered : Carries (unanswered_of answer file.name (is_answered items)) (Ok (tt {0})) now now = rw (sym whole.1) (carries_none tt now) in
    carries_then items (unanswered_of answer file.name (is_answered items)) tt (Ok tt) old now now whole.0 unanswered

-- or none
pub file_is_unanswered : {A : Type 0} (answer : Answering) (file : NamedOf) (old now : Printer) → IsReached answer (key_items answer file) [] false old now
    → Carries {A = A} (file_items answer file) (Err (run_fault_of file.name (File answer.unanswered))) old now
unfolding file_items
file_is_unanswered {A} answer file old now reached =
    let items = key_items answer file in
    let stop = run_fault_of file.name (File answer.unanswered) in
    let whole = all_said answer items false old now reached in
    let unanswered : Carries {A = A} (unanswered_of answer file.name (is_answered items)) (Err stop) now now = rw (sym whole.1) (carries_withheld (Stopped stop) stop now refl) in
    carries_then items (unanswered_of answer file.name (is_answered items)) tt (Err stop) old now now whole.0 unanswered

-- ---- files

pub none_answered : (answer : Answering) (now : Printer) → Carries (files_items answer []) (Ok (tt {0})) now now
unfolding files_items
none_answered answer now = carries_none tt now

files_items-take : (answer : Answering) (files : List NamedOf) (i : ℕ) (file : NamedOf) → i < length files → file ≡ get_or files i file → files_items answer (take (i + 1) files) ≡ files_items answer (take i files) ++ file_items answer file
unfolding files_items
files_items-take answer files i file lt item =
    let more : take (i + 1) files ≡ take i files ++ file ∷ [] = take_more files i file lt ∙ ap (λ (x : NamedOf). take i files ++ x ∷ []) (sym item) in
    rw more (flat_map-append (file_items answer) (take i files) (file ∷ []) ∙ ap (λ (xs : List _). files_items answer (take i files) ++ xs) (append-nil (file_items answer file)))

pub file_carried : (answer : Answering) (files : List NamedOf) (i : ℕ) (file : NamedOf) (old mid new : Printer) → i < length files → file ≡ get_or files i file
    → Carries (files_items answer (take i files)) (Ok (tt {0})) old mid → Carries (file_items answer file) (Ok (tt {0})) mid new → Carries (files_items answer (take (i + 1) files)) (Ok (tt {0})) old new
file_carried answer files i file old mid new lt item first second =
    rw (files_items-take answer files i file lt item) (carries_then (files_items answer (take i files)) (file_items answer file) tt (Ok tt) old mid new first second)

files_items-split : (answer : Answering) (files : List NamedOf) (i : ℕ) → files_items answer files ≡ files_items answer (take i files) ++ files_items answer (drop i files)
unfolding files_items
files_items-split answer files i = ap (files_items answer) (sym (take-append-drop i files)) ∙ flat_map-append (file_items answer) (take i files) (drop i files)

pub file_stops : {A B : Type 0} (answer : Answering) (files : List NamedOf) (i : ℕ) (file : NamedOf) (stop : RunFault) (old mid new : Printer) → i < length files → file ≡ get_or files i file
    → Carries (files_items answer (take i files)) (Ok (tt {0})) old mid → Carries {A = A} (file_items answer file) (Err stop) mid new → Carries {A = B} (files_items answer files) (Err stop) old new
file_stops {A} {B} answer files i file stop old mid new lt item first second =
    let front = carries_then {B = A} (files_items answer (take i files)) (file_items answer file) tt (Err stop) old mid new first second in
    let whole = carries_more {A = A} {B = B} (files_items answer (take (i + 1) files)) (files_items answer (drop (i + 1) files)) stop old new (rw (files_items-take answer files i file lt item) front) in
    rw (files_items-split answer files (i + 1)) whole

-- Two tests that agree give the same answers.
use Rattle.krl_runs.proofs.Common.{[], ◌++◌, ◌∙◌, ◌∷◌, ◌≡◌, answer_of, ap, ap₂, ask_by, Bool, Err}
use Rattle.krl_runs.proofs.Common.{false, file_items, file_key_item, FileKey, files_items}
use Rattle.krl_runs.proofs.Common.{is_answered, Item, key_item, keys_of, List, map, Named, Ok, refl}
use Rattle.krl_runs.proofs.Common.{Result, RunFault, said, Some, Subject, subject_item, true}
use Rattle.krl_runs.proofs.Common.{unanswered_of}
use Rattle.ssh_cert.specs.SubjectReading.{subject_of}
use Rattle.ssh_cert.specs.declared.subject_fault.SubjectFault.{SubjectFault}
use Rattle.ssh_key.specs.Key.{PublicKey}
use Rattle.ssh_key.specs.KeyReading.{key_at}
use Rattle.ssh_key.specs.declared.fault.KeyFault.{KeyFault}

-- for a key
next_same : (one other : Subject → Bool) → ((asked : Subject) → one asked ≡ other asked) → (next : Result FileKey RunFault) → file_key_item (ask_by one) next ≡ file_key_item (ask_by other) next
next_same one other same (Err stop) = refl
next_same one other same (Ok key) = by (subject_of key.line.blob)
  where
    by_key : (asked : Subject) (read : Result PublicKey KeyFault) → key_item (ask_by one) key asked read ≡ key_item (ask_by other) key asked read
    by_key asked (Err fault) = refl
    by_key asked (Ok plain) = ap (λ (b : Bool). said key.name (Some (answer_of key.name key.line b))) (same asked)

    by : (read : Result Subject SubjectFault) → subject_item (ask_by one) key read ≡ subject_item (ask_by other) key read
    by (Err fault) = refl
    by (Ok asked) = by_key asked (key_at asked.plain)

-- for the keys of a file
keys_same : (one other : Subject → Bool) → ((asked : Subject) → one asked ≡ other asked) → (keys : List (Result FileKey RunFault)) → map (file_key_item (ask_by one)) keys ≡ map (file_key_item (ask_by other)) keys
keys_same one other same [] = refl
keys_same one other same (next ∷ keys) = ap₂ (λ x xs. x ∷ xs) (next_same one other same next) (keys_same one other same keys)

ends_same : (one other : Subject → Bool) (name : List _) (answered : Bool) → unanswered_of (ask_by one) name answered ≡ unanswered_of (ask_by other) name answered
ends_same one other name true = refl
ends_same one other name false = refl

-- for a file
file_same : (one other : Subject → Bool) → ((asked : Subject) → one asked ≡ other asked) → (file : Named) → file_items (ask_by one) file ≡ file_items (ask_by other) file
unfolding file_items
file_same one other same file =
    ap (λ (items : List Item). items ++ unanswered_of (ask_by one) file.name (is_answered items)) (keys_same one other same (keys_of file))
    ∙ ap (λ (items : List Item). map (file_key_item (ask_by other)) (keys_of file) ++ items) (ends_same one other file.name (is_answered (map (file_key_item (ask_by other)) (keys_of file))))

-- for several files
pub files_same : (one other : Subject → Bool) → ((asked : Subject) → one asked ≡ other asked) → (files : List Named) → files_items (ask_by one) files ≡ files_items (ask_by other) files
unfolding files_items
files_same one other same [] = refl
files_same one other same (file ∷ files) = ap₂ (λ xs ys. xs ++ ys) (file_same one other same file) (files_same one other same files)

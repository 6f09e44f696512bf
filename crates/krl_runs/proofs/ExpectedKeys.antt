-- Keys that are expected are answered for.
use Rattle.krl_runs.proofs.Common.{[], ◌+◌, ◌<◌, ◌∙◌, ◌∷◌, ◌≡◌, ◌≢◌, AreExpected, arith, Asks}
use Rattle.krl_runs.proofs.Common.{AsksMore, ended_by, Err, FileKey, get_or, GivesKey}
use Rattle.krl_runs.proofs.Common.{IfOk, inl, inr, IsRefused, keys_of, length, List}
use Rattle.krl_runs.proofs.Common.{Named, None, Ok, Option, refl, Result, Revocations, RunFault}
use Rattle.krl_runs.proofs.Common.{Some, Subject, subst, sym, ℕ}
use Rattle.std.proofs.lemmas.Bool.{cases_lt}
use Rattle.std.proofs.lemmas.List.{get_or_default}
use Rattle.ssh_cert.specs.SubjectReading.{subject_of}
use Rattle.ssh_cert.specs.declared.subject_fault.SubjectFault.{SubjectFault}
use Rattle.run_faults.specs.declared.cause.Cause.{Cause}
use Rattle.krl_types.specs.Naming.{IdOf, KeyOf, Name, SerialOf, Sha1Of, Sha256Of}
use Rattle.krl_entries.specs.Reasons.{name_asked}
use Rattle.krl_queries.specs.Questions.{EachName, IsAsked}
use Rattle.std.proofs.Math.Logic.{⊎_map}
use Rattle.run_faults.specs.declared.cause.Cause.TheVariants as causes

-- so is a fault of the file
pub fault_expected : (Expected : Subject → Type 0) (next : Result FileKey RunFault) (stop : RunFault) (keys : List (Result FileKey RunFault)) → GivesKey next (Err stop) → stop.cause ≢ causes.NoMemory → AreExpected Expected (next ∷ keys)
fault_expected Expected next stop keys is known = by stop.cause is known
  where
    by : (cause : Cause) → IsRefused (ended_by cause) next stop → cause ≢ causes.NoMemory → AreExpected Expected (next ∷ keys)
    by causes.NoMemory is known = absurd (known refl)
    by (causes.Output count) is known = absurd is
    by cause is known = subst (λ (n : Result FileKey RunFault). AreExpected Expected (n ∷ keys)) (sym is) tt

-- ---- more queries

asked_more : (old new : Revocations) (asked : Subject) → AsksMore old new → Asks old asked → Asks new asked
asked_more old new asked more h = record { names = λ reason. by (name_asked reason asked) (h.names reason) }
  where
    stays : (name : Name) → IsAsked old name → IsAsked new name
    stays (SerialOf a s) h = ⊎_map (λ zero. zero) (more (SerialOf a s)) h
    stays (IdOf a text) h = more (IdOf a text) h
    stays (KeyOf blob) h = more (KeyOf blob) h
    stays (Sha1Of hash) h = more (Sha1Of hash) h
    stays (Sha256Of hash) h = more (Sha256Of hash) h

    by : (name : Option Name) → EachName (IsAsked old) name → EachName (IsAsked new) name
    by None h = tt
    by (Some name) h = stays name h

-- keys that were expected are still expected
pub keys_more : (old new : Revocations) (keys : List (Result FileKey RunFault)) → AsksMore old new → AreExpected (Asks old) keys → AreExpected (Asks new) keys
keys_more old new [] more h = tt
keys_more old new (Err stop ∷ keys) more h = tt
keys_more old new (Ok key ∷ keys) more h = by (subject_of key.line.blob) (keys_more old new keys more) h
  where
    by : (read : Result Subject SubjectFault) → (AreExpected (Asks old) keys → AreExpected (Asks new) keys) → IfOk read (λ asked. Asks old asked × AreExpected (Asks old) keys) → IfOk read (λ asked. Asks new asked × AreExpected (Asks new) keys)
    by (Ok asked) rest h = (asked_more old new asked more h.0, rest h.1)
    by (Err fault) rest h = tt

-- a key that is in the queries, before keys that are expected
pub key_expected : (old new : Revocations) (key : FileKey) (keys : List (Result FileKey RunFault)) → AsksMore old new → IfOk (subject_of key.line.blob) (Asks old) → AreExpected (Asks new) keys → AreExpected (Asks new) (Ok key ∷ keys)
key_expected old new key keys more h rest = by (subject_of key.line.blob) h
  where
    by : (read : Result Subject SubjectFault) → IfOk read (Asks old) → IfOk read (λ asked. Asks new asked × AreExpected (Asks new) keys)
    by (Ok asked) h = (asked_more old new asked more h, rest)
    by (Err fault) h = tt

-- If the files so far were expected and the next one is, all of them are.
pub files_more : (old new : Revocations) (files : List Named) (i : ℕ) (file : Named) → AsksMore old new → ((k : ℕ) (d : Named) → k < i → AreExpected (Asks old) (keys_of (get_or files k d)))
    → i < length files → file ≡ get_or files i file → AreExpected (Asks new) (keys_of file) → (k : ℕ) (d : Named) → k < i + 1 → AreExpected (Asks new) (keys_of (get_or files k d))
files_more old new files i file more before lt is now k d next =
    elim (cases_lt k i) [
      | inl less ↦ keys_more old new (keys_of (get_or files k d)) more (before k d less)
      | inr over ↦ (
          let same : i ≡ k = omega (arith, next, over) in
          subst (λ (n : ℕ). AreExpected (Asks new) (keys_of (get_or files n d))) same (subst (λ (f : Named). AreExpected (Asks new) (keys_of f)) (is ∙ get_or_default files i file d lt) now)
          )
    ]

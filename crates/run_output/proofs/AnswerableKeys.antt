-- Keys that are expected when they are answered, one after another.
use Rattle.std.proofs.Common.{List, [], ◌∷◌, Result, Ok, Err}
use Rattle.std.specs.Prelude.{IfOk}
use Rattle.std.specs.Result.{IsOk}
use Rattle.krl_types.specs.Subject.{Subject}
use Rattle.ssh_cert.specs.SubjectReading.{subject_of}
use Rattle.ssh_cert.specs.declared.subject_fault.SubjectFault.{SubjectFault}
use Rattle.run_faults.specs.Keys.{FileKey}
use Rattle.run_faults.specs.RunFault.{RunFault}
use Rattle.run_output.specs.Expected.{AreExpected}

-- if everything is expected, each key is
pub all_expected : (Expected : Subject → Type 0) → ((asked : Subject) → Expected asked) → (keys : List (Result FileKey RunFault)) → AreExpected Expected keys
all_expected Expected all [] = tt
all_expected Expected all (Err stop ∷ keys) = tt
all_expected Expected all (Ok key ∷ keys) = by (subject_of key.line.blob) (all_expected Expected all keys)
  where
    by : (read : Result Subject SubjectFault) → AreExpected Expected keys → IfOk read (λ asked. Expected asked × AreExpected Expected keys)
    by (Ok asked) rest = (all asked, rest)
    by (Err fault) rest = tt

-- the first of the keys is expected
pub first_expected : (Expected : Subject → Type 0) (key : FileKey) (keys : List (Result FileKey RunFault)) → AreExpected Expected (Ok key ∷ keys) → IfOk (subject_of key.line.blob) Expected
first_expected Expected key keys h = by (subject_of key.line.blob) h
  where
    by : (read : Result Subject SubjectFault) → IfOk read (λ asked. Expected asked × AreExpected Expected keys) → IfOk read Expected
    by (Ok asked) h = h.0
    by (Err fault) h = tt

-- and if it can be read, the others are
pub rest_expected : (Expected : Subject → Type 0) (key : FileKey) (keys : List (Result FileKey RunFault)) → IsOk (subject_of key.line.blob) → AreExpected Expected (Ok key ∷ keys) → AreExpected Expected keys
rest_expected Expected key keys ok h = by (subject_of key.line.blob) ok h
  where
    by : (read : Result Subject SubjectFault) → IsOk read → IfOk read (λ asked. Expected asked × AreExpected Expected keys) → AreExpected Expected keys
    by (Ok asked) ok h = h.1
    by (Err fault) ok h = absurd (cc)

-- Keys of files that are expected when they are answered.
use Rattle.std.specs.Prelude.{List, [], ◌∷◌, Result, Ok, Err, IfOk, All, ⊤}
use Rattle.ssh_cert.specs.SubjectReading.{subject_of}
use Rattle.krl_types.specs.Subject.{Subject}
use Rattle.run_faults.specs.Keys.{Named, FileKey, keys_of}
use Rattle.run_faults.specs.RunFault.{RunFault}

-- Each key is expected, up to the first fault.
abbrev pub AreExpected : (Subject → Type 0) → List (Result FileKey RunFault) → Type 0
AreExpected Expected [] = ⊤
AreExpected Expected (Err stop ∷ keys) = ⊤
AreExpected Expected (Ok key ∷ keys) =
    IfOk (subject_of key.line.blob) (λ asked. Expected asked × AreExpected Expected keys)

-- the same in each file
abbrev pub AllExpected : (Subject → Type 0) → List Named → Type 0
AllExpected Expected files = All (λ file. AreExpected Expected (keys_of file)) files

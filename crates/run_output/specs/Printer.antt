-- The state of a printer, and what it has printed in all.
use Rattle.std.specs.Prelude.{◌≡◌, ℕ, ◌+◌, ◌-◌, ◌^◌, ◌<◌, ◌||◌, Bool, true, false, List, [], ◌++◌}
use Rattle.std.specs.Prelude.{Option, Some, None, Result, Ok, Err, length, min, take}
use Rattle.std.specs.Io.KnownBytes.{Appends}
use Rattle.std.specs.Result.{result_err}
use Rattle.run_output.specs.declared.answer.Answer.{Answer}
use Rattle.run_output.specs.Run.{Item, outcome_of}
use Rattle.run_faults.specs.RunFault.{RunFault, output_run_fault}

-- The end of the text, which waits to be written; the number of bytes written; whether some line
-- reports REVOKED; and the state of the writer: what it has taken, whether it has failed, and which
-- writer it is.
pub record Printer : Type 0 where
  pub waiting : List ℕ
  pub sent : ℕ
  pub revoked : Bool
  pub taken : Option (List ℕ)
  pub failed : Bool
  pub writer : ℕ

abbrev pub nothing_printed : Option (List ℕ) → Bool → ℕ → Printer
nothing_printed taken failed writer =
    record {
      waiting = [];
      sent = 0;
      revoked = false;
      taken = taken;
      failed = failed;
      writer = writer;
    }

abbrev pub and_answer : Printer → Answer → Printer
and_answer old answer =
    record old { waiting = old.waiting ++ answer.text; revoked = old.revoked || answer.revoked }

-- the number of bytes of complete lines that are written together, except the last ones
abbrev pub batch : ℕ
batch = 65536

-- a count of bytes as it is reported: at most 2^64-1
abbrev pub reported_count : ℕ → ℕ
reported_count count = min count (2 ^ 64 - 1)

-- All waiting bytes were written.
pub record IsSent (old new : Printer) : Type 0 where
  pub none_waits : new.waiting ≡ []
  pub counted : new.sent ≡ reported_count (old.sent + length old.waiting)
  pub revoked : new.revoked ≡ old.revoked
  pub taken : Appends old.taken new.taken old.waiting
  pub working : new.failed ≡ false

-- The writer failed after some of the waiting bytes.
pub record IsPartSent (stop : RunFault) (old new : Printer) : Type 0 where
  pub count : ℕ
  pub short : count < length old.waiting
  pub counted : new.sent ≡ reported_count (old.sent + count)
  pub named : stop ≡ output_run_fault new.sent
  pub taken : Appends old.taken new.taken (take count old.waiting)
  pub broken : new.failed ≡ true

abbrev pub Sends : {A : Type 0} → Result A RunFault → Printer → Printer → Type 0
Sends (Ok value) old new = IsSent old new
Sends (Err stop) old new = IsPartSent stop old new

-- A printer that has failed reports the same fault again, and nothing changes.
abbrev pub FailsAgain : {A : Type 0} → Result A RunFault → Printer → Printer → Type 0
FailsAgain result old new = old.failed ≡ true
    → (result_err result ≡ Some (output_run_fault old.sent)) × (new ≡ old)

-- A printer was given exactly these items, with a writer that had taken some bytes before: the
-- writer has taken the front of their text, and the rest waits.
pub record HasAdded (before : Option (List ℕ)) (items : List Item) (now : Printer) : Type 0 where
  pub unstopped : (outcome_of items).stop ≡ None
  pub gone : List ℕ
  pub parts : (outcome_of items).text ≡ gone ++ now.waiting
  pub taken : Appends before now.taken gone
  pub counted : now.sent ≡ reported_count (length gone)
  pub revoked : now.revoked ≡ (outcome_of items).revoked
  pub working : now.failed ≡ false

-- It has printed them: less than a batch waits.
pub record HasSaid (before : Option (List ℕ)) (items : List Item) (now : Printer) : Type 0 where
  pub added : HasAdded before items now
  pub short : length now.waiting < batch

-- A writer had taken some bytes before, and then a proper prefix of a text.
pub record IsCut (text : List ℕ) (before after : Option (List ℕ)) (count : ℕ) : Type 0 where
  pub gone : ℕ
  pub counted : count ≡ reported_count gone
  pub taken : Appends before after (take gone text)
  pub short : gone < length text

-- How an audit of the file system ends. Nothing is claimed of what the file system states.
use Rattle.std.specs.Prelude.{◌≡◌, ℕ, Bool, List, Option, None, Some, option_map}
use Rattle.std.specs.Borrow.{Bor}
use Rattle.krl_arguments.specs.declared.task.Audit.{Audit}
use Rattle.krl_arguments.specs.Task.{audit_by, list_name}
use Rattle.krl_entries.specs.Revocations.{Revocations}
use Rattle.krl_fingerprints.specs.declared.keys_by.KeysBy.TheVariants.{Blob}
use Rattle.audit_run.specs.Fact.{Fact}
use Rattle.audit_run.specs.Order.{IsOrder}
use Rattle.audit_run.specs.Run.{EndsAuditRun, Readers}
use Rattle.audit_run.specs.declared.options.Terminal.{Terminal}
use Rattle.audit_run.specs.declared.order.Loaded.{Loaded}
use Rattle.audit_run.specs.declared.order.Order.{Order}
use Rattle.audit_run.specs.declared.run.Audited.{Audited}
use Rattle.krl.specs.Ending.{audit_status}
use Rattle.krl.specs.Sshd.{AreSought, AreTexts}
use Rattle.krl.specs.Texts.{AreAsked}
use Rattle.krl.specs.declared.sshd.Sought.{Sought}
use Rattle.krl.specs.declared.sshd.SshdTexts.{SshdTexts}
use Rattle.sshd_files.specs.declared.files.SshdFile.{SshdFile}
use Rattle.text_index.specs.declared.indexing.TextIndex.{TextIndex}

-- The status is that of an audit that the task asks for, by a list with these bytes, by some
-- canaries, and by what was read beside them.
pub record EndsAudit (task : Audit) (bytes : List ℕ) (loaded : Loaded) (readers : Readers)
    (status : ℕ) : Type 0 where
  pub terminal : Terminal
  pub order : Order
  pub is_order : IsOrder task loaded terminal order
  pub before : Option (List ℕ)
  pub after : Option (List ℕ)
  pub failed : Bool
  pub audited : Audited
  pub ends : EndsAuditRun (λ (fact : Fact). Unit {0}) order bytes readers before after failed
      audited
  pub status_is : status ≡ audit_status audited

-- the readers that are given, by the bytes that they have left as far as that is known
abbrev pub readers_by : (NamesFailed InputFailed : Type 0) → Option (Option (List ℕ))
    → Option (List ℕ) → Readers
readers_by NamesFailed InputFailed names input = record {
  names = names;
  input = input;
  NamesFailed = NamesFailed;
  InputFailed = InputFailed;
}

-- the index that is lent
abbrev pub index_now : Option (Bor TextIndex) → Option TextIndex
index_now texts = option_map (λ index. index.now) texts

-- what was read, with these canaries
abbrev pub with_canaries : Option (Bor Revocations) → Loaded → Loaded
with_canaries canaries loaded = record {
  list = loaded.list;
  canaries = canaries;
  texts = loaded.texts;
  sought = loaded.sought;
}

-- The task was audited with this status, by a list with these bytes, by what was read beside it and
-- by the names of a file or of standard input, if any are given; or it was not begun.
pub data IsAuditedBy (FileFailed InputFailed : Type 0) (task : Audit) (bytes : List ℕ)
    (loaded : Loaded) (status : ℕ) : Type 0 where
  not_begun : status ≡ 255 → IsAuditedBy FileFailed InputFailed task bytes loaded status
  by_file : (canaries : Option (Bor Revocations)) (names : Option (Option (List ℕ)))
      (input : Option (List ℕ)) → EndsAudit task bytes (with_canaries canaries loaded)
      (readers_by FileFailed InputFailed names input) status
      → IsAuditedBy FileFailed InputFailed task bytes loaded status
  by_input : (canaries : Option (Bor Revocations)) (names : Option (Option (List ℕ)))
      (input : Option (List ℕ)) → EndsAudit task bytes (with_canaries canaries loaded)
      (readers_by InputFailed InputFailed names input) status
      → IsAuditedBy FileFailed InputFailed task bytes loaded status

-- The task was audited with this status by this list, or by the one that its texts make under this
-- name, and first these files that sshds read; or a text or the list is refused.
pub data IsAuditedWith (FileFailed InputFailed : Type 0) (task : Audit)
    (given : Option (Bor (List ℕ))) (name : List ℕ) (files : List SshdFile) (status : ℕ) : Type 0
  where
    no_list : status ≡ 255 → IsAuditedWith FileFailed InputFailed task given name files status
    by_list : (bytes : List ℕ) (loaded : Loaded) → loaded.list.now ≡ name
        → loaded.sought.now ≡ files
        → AreAsked Blob task.texts.items given name bytes (index_now loaded.texts)
        → IsAuditedBy FileFailed InputFailed task bytes loaded status
        → IsAuditedWith FileFailed InputFailed task given name files status

-- the list of the task, or else that of sshds
abbrev pub given_list : (own other : Option (Bor (List ℕ))) → Option (Bor (List ℕ))
given_list None other = other
given_list (Some own) other = Some own

-- the name of this list, or else that of the first text
abbrev pub asked_name : Audit → Option (Bor (List ℕ)) → List ℕ
asked_name task None = list_name (audit_by task)
asked_name task (Some list) = list.now

-- The task was audited with this status by what sshds read, as the texts state that the task names;
-- or these are refused.
pub data IsAudited (FileFailed InputFailed : Type 0) (task : Audit) (status : ℕ) : Type 0 where
  refused : status ≡ 255 → IsAudited FileFailed InputFailed task status
  audited : (texts : SshdTexts) (sought : Sought) (given : Option (Bor (List ℕ)))
      → AreTexts task texts → AreSought task texts sought
      → given ≡ given_list task.list sought.list
      → IsAuditedWith FileFailed InputFailed task given (asked_name task given)
      sought.files.items status → IsAudited FileFailed InputFailed task status

-- The files so far were checked.
use Rattle.std.proofs.Common.{◌≡◌, Ok, List, take}
use Rattle.krl_entries.specs.Reasons.{reasons_of}
use Rattle.krl_entries.specs.Revocations.{Means}
use Rattle.krl_types.specs.Entry.{Entry}
use Rattle.any_list.specs.Told.{Tells}
use Rattle.check_run.specs.Files.{ChecksFiles, named_all}
use Rattle.check_run.proofs.files.check_each.Given as goal

abbrev pub invariant-loop-name : goal.invariant-loop-name
invariant-loop-name g l = record {
  checks : Tells (g.H.Lists.told l.initial.host) (g.H.Lists.told l.host) (λ told. (entries : List Entry) → Means l.initial.checker.auditor.judge.list.now entries
      → ChecksFiles told l.initial.checker.auditor.judge.shown.format (reasons_of entries) (named_all l.role (take l.name-index l.names)) (Ok (tt {0})) l.initial.checker.auditor.run.printer l.checker.auditor.run.printer
      l.initial.checker.refused l.checker.refused l.initial.checker.unread l.checker.unread);
  list : l.checker.auditor.judge.list ≡ l.initial.checker.auditor.judge.list;
  form : l.checker.auditor.judge.shown.format ≡ l.initial.checker.auditor.judge.shown.format;
}

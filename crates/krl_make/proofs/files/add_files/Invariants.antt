-- The entries of the files so far were added.
use Rattle.std.proofs.Common.{Ok, take}
use Rattle.krl_make.specs.Making.{AddsFiles, IsCurrentFile, files_entries}
use Rattle.krl_spec.specs.Under.{authority_under}
use Rattle.krl_make.proofs.files.add_files.Given as goal

abbrev pub invariant-loop-file : goal.invariant-loop-file
invariant-loop-file g l =
    AddsFiles (IsCurrentFile (authority_under l.under) l.files) (files_entries (authority_under l.under) (take l.file-index l.files)) (Ok (tt {0})) l.initial.revocations l.revocations

-- The list is made over the old one, or not.
use Rattle.std.proofs.Common.{◌∙◌, inl, sym}
use Rattle.text_run.specs.Over.{unmerged, unread, unwritten, without_version}
use Rattle.text_run.proofs.listed.ListedMaker.make.Goals as goal

pub returns-in-Err-clause-refused : goal.returns-in-Err-clause-refused
returns-in-Err-clause-refused g c = unread c.in-Err.cause c.in-Err.ensures.unread c.fault.ensures

pub returns-in-Err-version_over-clause-refused : goal.returns-in-Err-version_over-clause-refused
returns-in-Err-version_over-clause-refused g c =
    without_version c.in-Ok.base c.in-Err-version_over.cause c.in-Ok.ensures.read (sym c.version_over.ensures.value ∙ c.in-Err-version_over.is) c.whole.ensures

pub returns-in-Err-merge-clause-refused : goal.returns-in-Err-merge-clause-refused
returns-in-Err-merge-clause-refused g c = unmerged c.in-Err-merge.ensures.refused

pub returns-in-Ok-write-clause-made : goal.returns-in-Ok-write-clause-made
returns-in-Ok-write-clause-made g c =
    let written = rw c.held_of-held.ensures at c.in-Ok-write.ensures in
    record {
      base = c.in-Ok.base;
      over = c.in-Ok.ensures.read;
      has_version = sym c.version_over.ensures.value ∙ c.in-Ok-version_over.is;
      is_merged = c.in-Ok-merge.ensures.merged;
      loses = rw c.held_of-held.ensures at c.in-Ok-difference.ensures.holds;
      written = written.0;
      within = written.1;
    }

pub returns-in-Err-difference-clause-refused : goal.returns-in-Err-difference-clause-refused
returns-in-Err-difference-clause-refused g c =
    unwritten c.in-Ok.base c.in-Ok-version_over.version c.in-Ok-merge.merged c.in-Ok.ensures.read (sym c.version_over.ensures.value ∙ c.in-Ok-version_over.is) c.in-Ok-merge.ensures.merged (inl c.fault-in-Err-difference.ensures)

pub returns-clause-refused : goal.returns-clause-refused
returns-clause-refused g c =
    let written = rw c.held_of-held.ensures at c.in-Err-write.ensures in
    unwritten c.in-Ok.base c.in-Ok-version_over.version c.in-Ok-merge.merged c.in-Ok.ensures.read (sym c.version_over.ensures.value ∙ c.in-Ok-version_over.is) c.in-Ok-merge.ensures.merged written

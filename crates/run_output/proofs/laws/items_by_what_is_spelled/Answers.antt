-- Each law of reading lines and blobs gives its part.
use Rattle.std.proofs.Common.{Some, sym, ap, ◌∙◌}
use Rattle.ssh_key.specs.KeyReading.{key_at}
use Rattle.key_text.specs.LineReading.{content}
use Rattle.run_faults.specs.Keys.{file_key_of}
use Rattle.run_output.proofs.AnsweredFiles.{blob_answered, blob_refused}
use Rattle.run_output.proofs.Items.{answered_line, faulty_line, line_item, no_item_of, spelled_line}
use Rattle.run_output.proofs.laws.items_by_what_is_spelled.Goals as goal

pub returns-clause-none : goal.returns-clause-none
returns-clause-none c = no_item_of

pub returns-clause-answered : goal.returns-clause-answered
returns-clause-answered c = λ answer name number text line asked key has spells.
    let is_line = c.line_read_where_spelled.ensures.read text line.word line.blob line.comment spells.is_line in
    let is_asked = (c.asked_where_spelled.ensures line.blob asked spells.is_line.bytes).1 spells.is_asked in
    let read = c.blob_read_back.ensures asked.plain key spells.is_key in
    let is_key = sym (ap key_at read.0) ∙ read.1 in
    line_item answer name number text line has is_line ∙ ap Some (blob_answered answer (file_key_of name (Some number) line) asked key is_asked is_key)

pub returns-clause-only : goal.returns-clause-only
returns-clause-only c = λ answer name number text other reply bytes item.
    let from = answered_line answer name number text other reply item in
    let is_line = c.line_read_where_spelled.ensures.spelled text from.line bytes from.is_line in
    let is_asked = (c.asked_where_spelled.ensures from.line.blob from.asked is_line.bytes).0 from.is_asked in
    spelled_line answer name number text reply from is_line is_asked (λ key is_key.
    let read = c.blob_read_back.ensures from.asked.plain key is_key in sym (ap key_at read.0) ∙ read.1)

pub returns-clause-line_fault : goal.returns-clause-line_fault
returns-clause-line_fault c = λ answer name number text fault bytes has first.
    faulty_line answer name number text fault has ((c.line_refused_by_first_fault.ensures text fault bytes).1 first)

pub returns-clause-blob_fault : goal.returns-clause-blob_fault
returns-clause-blob_fault c = λ answer name number text word blob comment fault has is_line first.
    let line = content word blob comment in
    let is_fault = (c.not_asked_by_first_fault.ensures blob fault is_line.bytes).1 first in
    line_item answer name number text line has (c.line_read_where_spelled.ensures.read text word blob comment is_line) ∙ ap Some (blob_refused answer (file_key_of name (Some number) line) fault is_fault)

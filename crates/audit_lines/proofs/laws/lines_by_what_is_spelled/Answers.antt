-- Each law of reading lines and blobs proves a part.
use Rattle.std.proofs.Common.{None, Some, Ok, Err, true, false, ap, ◌∙◌}
use Rattle.key_text.specs.Blanks.{trimmed}
use Rattle.key_text.specs.LineReading.{content}
use Rattle.key_text.specs.Marker.{unmarked}
use Rattle.audit_lines.specs.Outcome.{asked_outcome, hosts_of, one, options_of}
use Rattle.audit_lines.proofs.Spelled.{hosts_read, marked_read, nothing_there, options_read}
use Rattle.audit_lines.proofs.laws.lines_by_what_is_spelled.Goals as goal

pub returns-clause-none : goal.returns-clause-none
returns-clause-none c = nothing_there

pub returns-clause-options : goal.returns-clause-options
returns-clause-options c = λ text word blob comment asked has none is_line is_asked.
    options_read text (Ok (content word blob comment)) has none (c.line_read_where_spelled.ensures.read text word blob comment is_line)
    ∙ ap (λ r. one (asked_outcome None false (options_of (trimmed text)) blob comment r)) ((c.asked_where_spelled.ensures blob asked is_line.bytes).1 is_asked)

pub returns-clause-hosts : goal.returns-clause-hosts
returns-clause-hosts c = λ text word blob comment asked has none is_line is_asked.
    hosts_read text (Ok (content word blob comment)) has none (c.host_line_read_where_spelled.ensures.read text word blob comment is_line)
    ∙ ap (λ r. one (asked_outcome None true (hosts_of (trimmed text)) blob comment r)) ((c.asked_where_spelled.ensures blob asked is_line.bytes).1 is_asked)

pub returns-clause-marked : goal.returns-clause-marked
returns-clause-marked c = λ kind text marker word blob comment asked has is_line is_asked.
    marked_read kind text marker (Ok (content word blob comment)) has (c.marked_line_is_read.ensures.marker text marker word blob comment is_line)
    (c.marked_line_is_read.ensures.read text marker word blob comment is_line)
    ∙ ap (λ r. one (asked_outcome (Some marker) true (hosts_of (trimmed (unmarked text))) blob comment r)) ((c.asked_where_spelled.ensures blob asked is_line.is_line.bytes).1 is_asked)

pub returns-clause-fault : goal.returns-clause-fault
returns-clause-fault c = λ text fault bytes has none first.
    options_read text (Err fault) has none ((c.line_refused_by_first_fault.ensures text fault bytes).1 first)

-- The line and its blob are read, or the first fault is reported.
use Rattle.std.proofs.Common.{refl, sym, ◌∙◌}
use Rattle.key_text.specs.LineReading.{content_of}
use Rattle.text_entries.proofs.Said.{bare_is, bare_line_stops, bare_read, bare_subject_stops}
use Rattle.text_entries.proofs.line.add_bare_key.Goals as goal

pub returns-in-Err : goal.returns-in-Err
returns-in-Err g c =
    let begins = sym c.begins_with_key.ensures ∙ c.if-not-begins_with_key.false in
    rw (bare_is c.args.content.now begins) (bare_line_stops c.args.content.now c.in-Err.cause c.in-Err.ensures.read, refl)

pub returns-in-Ok-ask : goal.returns-in-Ok-ask
returns-in-Ok-ask g c =
    let begins = sym c.begins_with_key.ensures ∙ c.if-not-begins_with_key.false in
    let asked = rw c.as_slice.ensures at c.in-Ok-ask.ensures.asked in
    rw (bare_is c.args.content.now begins, bare_read c.args.content.now (content_of c.in-Ok.line) c.in-Ok-ask.asked c.in-Ok.ensures.read asked) c.add_asked.ensures

pub returns : goal.returns
returns g c =
    let begins = sym c.begins_with_key.ensures ∙ c.if-not-begins_with_key.false in
    let refused = rw c.as_slice.ensures at c.in-Err-ask.ensures.asked in
    rw (bare_is c.args.content.now begins) (bare_subject_stops c.args.content.now (content_of c.in-Ok.line) c.in-Err-ask.cause c.in-Ok.ensures.read refused, refl)

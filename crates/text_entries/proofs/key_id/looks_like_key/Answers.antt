-- No more is looked at than the text has.
use Rattle.std.proofs.Common.{sym}
use Rattle.std.proofs.lemmas.List.{take_min}
use Rattle.text_entries.proofs.key_id.looks_like_key.Goals as goal

pub returns-then-has_blank : goal.returns-then-has_blank
returns-then-has_blank c =
    let blank = rw (c.min.ensures, take_min 64 c.args.text.now) at c.if-has_blank.ensures in
    rw (sym blank) c.begins_with_key.ensures

pub returns-else-has_blank : goal.returns-else-has_blank
returns-else-has_blank c =
    let none = rw (c.min.ensures, take_min 64 c.args.text.now) at c.if-has_blank.ensures in
    rw (sym none) c.if-has_blank.false

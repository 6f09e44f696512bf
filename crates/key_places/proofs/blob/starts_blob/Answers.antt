use Rattle.std.proofs.Common.{sym, ap, ◌∙◌}
use Rattle.key_text.specs.LineReading.{has_word}
use Rattle.key_places.proofs.BlobLaws.{begins_bytes, starts_by}
use Rattle.key_places.proofs.blob.starts_blob.Goals as goal

pub returns-in-Some : goal.returns-in-Some
returns-in-Some c =
    let starts = starts_by c.args.name.now c.args.word.now c.min.result c.min.ensures in
    let read = sym c.in_ok-bytes.ensures.exact ∙ c.in-Some.is in
    c.has_word.ensures ∙ (ap (has_word c.args.name.now) c.as_slice.ensures
    ∙ sym (starts ∙ ap (begins_bytes c.args.name.now) read))

pub returns-in-None : goal.returns-in-None
returns-in-None c =
    let starts = starts_by c.args.name.now c.args.word.now c.min.result c.min.ensures in
    let read = sym c.in_ok-bytes.ensures.exact ∙ c.in-None.is in
    sym (starts ∙ ap (begins_bytes c.args.name.now) read)

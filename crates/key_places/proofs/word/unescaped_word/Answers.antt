use Rattle.std.proofs.Common.{false, sym, ◌∙◌}
use Rattle.key_places.specs.Word.{word_at}
use Rattle.key_places.proofs.WordLaws.{word_ended, word_escaped, word_past, word_pushed}
use Rattle.key_places.proofs.word.unescaped_word.Goals as goal
use Rattle.key_places.proofs.word.unescaped_word.Goals.{then-belongs+in_ok-push, else-belongs+then-begins_escape}

pub returns-else-begins_escape : goal.returns-else-begins_escape
returns-else-begins_escape c =
    word_ended c.args.text.now c.bytes.word.items (word_at false c.args.text.now) c.bytes.byte-index c.bytes.escaped
    c.bytes-test.true
    (sym c.belongs.ensures ∙ c.if-belongs.false)
    (sym c.begins_escape.ensures ∙ c.if-begins_escape.false) c.bytes.invariant

pub bytes-preserved : goal.bytes-preserved
bytes-preserved c =
    let text = c.args.text.now in
    let word = word_at false text in
    elim c.if-belongs.branch [
      | then-belongs+in_ok-push w ↦
          rw w.escaped-is
          (word_pushed text c.bytes.word.items c.if-belongs.word.items word c.bytes.byte-index c.bytes.escaped
          c.bytes-test.true (sym c.belongs.ensures ∙ w.if-belongs.true)
          (rw w.word-is w.in_ok-push.ensures.items) c.bytes.invariant)
      | else-belongs+then-begins_escape w ↦
          rw (w.escaped-is, w.word-is)
          (word_escaped text c.bytes.word.items word c.bytes.byte-index c.bytes.escaped c.bytes-test.true
          (sym c.belongs.ensures ∙ w.if-belongs.false)
          (sym w.begins_escape.ensures ∙ w.if-begins_escape.true) c.bytes.invariant)
    ]

pub returns : goal.returns
returns c =
    word_past c.args.text.now c.bytes.word.items
    (word_at false c.args.text.now) c.bytes.byte-index c.bytes.escaped c.bytes-test.false c.bytes.invariant

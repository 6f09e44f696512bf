-- The key is read, and judged by the reasons for its query; or it is not a key.
use Rattle.std.proofs.Common.{sym, ◌∙◌}
use Rattle.audit_text.specs.Place.{place_of}
use Rattle.krl_audit.proofs.Judging.{answered, key_made, ok_same}
use Rattle.krl_audit.proofs.judge.Judge.judge_key.Goals as goal
use Rattle.krl_audit.proofs.judge.Judge.judge_key.Goals.{then-said+in_ok-explanation+in_ok-say_key+in-None-1, then-said+in_ok-explanation+in_ok-say_key+in-Some+in-None-1, then-said+in_ok-explanation+in_ok-say_key+in-Some+in-Some-explanation-4, else-said}

pub returns : goal.returns
returns c = λ answers judges given gives.
    let read = rw c.as_slice.ensures at c.in-Ok.ensures.found.asked in
    let same = c.in_ok-subject.ensures ∙ ok_same _ gives.0 _ read gives.1.0 in
    key_made c.args.self.now answers c.args.self.now.shown (place_of c.args.location) c.args.found.now gives.0
    c.in_ok-subject.subject c.reasons-reasons.result given c.any.result c.key_kind-kind.result c.says-said.result c.if-said.line.items
    judges c.reasons-reasons.ensures same gives.1.1 c.any.ensures c.key_kind-kind.ensures c.says-said.ensures
    (λ told. elim c.if-said.branch [
      | then-said+in_ok-explanation+in_ok-say_key+in-None-1 w ↦
          (_, answered c.args.self.now answers judges c.in_ok-subject.subject c.reasons-reasons.result _ c.reasons-reasons.ensures (w.in_ok-explanation.ensures judges.texts judges.indexed), rw w.line-is w.in_ok-say_key.ensures)
      | then-said+in_ok-explanation+in_ok-say_key+in-Some+in-None-1 w ↦
          (_, answered c.args.self.now answers judges c.in_ok-subject.subject c.reasons-reasons.result _ c.reasons-reasons.ensures (w.in_ok-explanation.ensures judges.texts judges.indexed), rw w.line-is w.in_ok-say_key.ensures)
      | then-said+in_ok-explanation+in_ok-say_key+in-Some+in-Some-explanation-4 w ↦
          (_, answered c.args.self.now answers judges c.in_ok-subject.subject c.reasons-reasons.result _ c.reasons-reasons.ensures (w.in_ok-explanation.ensures judges.texts judges.indexed), rw w.line-is w.in_ok-say_key.ensures)
      | else-said w ↦ let bad = sym told ∙ w.if-said.false in absurd cc
    ])

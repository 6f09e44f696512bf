-- A byte belongs to the name, or ends it.
use Rattle.std.proofs.Common.{◌∙◌, ◌+◌, ◌∷◌, ◌++◌, [], sym, arith}
use Rattle.std.proofs.lemmas.List.{take_all}
use Rattle.audit_run.proofs.ZeroEnded.{gives_byte, gives_name, gives_none}
use Rattle.audit_run.proofs.zero_ended.ZeroEnded.next.Goals as goal

pub bytes-init : goal.bytes-init
bytes-init g c =
    ([], (gives_none c.args.self.now, c.clear.ensures.items ∙ sym (take_all (c.args.most + 1) [] (omega arith))))

pub returns-then-byte-eq0 : goal.returns-then-byte-eq0
returns-then-byte-eq0 g c =
    let was = c.bytes.invariant in
    (was.0, (gives_name _ _ _ was.0 c.in-Ok.byte was.1.0 c.in-Ok.ensures.byte c.if-byte-eq0.true, was.1.1))

pub bytes-preserved : goal.bytes-preserved
bytes-preserved g c =
    let was = c.bytes.invariant in
    let gives = gives_byte _ _ _ was.0 c.in-Ok.byte was.1.0 c.in-Ok.ensures.byte c.if-byte-eq0.false in
    (was.0 ++ c.in-Ok.byte ∷ [], (gives, c.in_ok-keep_byte.ensures was.0 was.1.1))

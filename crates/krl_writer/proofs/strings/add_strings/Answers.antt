use Rattle.krl_writer.proofs.Common.{◌++◌, ◌∙◌, append-nil, err_from_is_err_and, string, strings}
use Rattle.krl_writer.proofs.Common.{sym}
use Rattle.krl_writer.proofs.Limits.{put_more, refuses_front}
use Rattle.krl_writer.proofs.strings.add_strings.Goals as goal

pub loop-text-preserved : goal.loop-text-preserved
loop-text-preserved c =
    let left = rw c.in-Some.ensures.steps at c.loop-text.invariant.bytes in
    record {
      bytes = put_more (c.args.out.now.items ++ strings c.args.texts) c.loop-text.out.items c.add_string.new.out.items (string c.in-Some.text.now) (strings c.next.new.self) c.in_ok-add_string.ensures.0 left;
      within = c.in_ok-add_string.ensures.1;
    }

pub returns-in_err-add_string : goal.returns-in_err-add_string
returns-in_err-add_string c =
    let p = err_from_is_err_and c.from_residual.result c.from_residual.ensures.1 in
    let left = rw c.in-Some.ensures.steps at c.loop-text.invariant.bytes in
    rw (p.1, p.2) (refuses_front c.in_err-add_string.field-0.0 (c.args.out.now.items ++ strings c.args.texts) c.loop-text.out.items (string c.in-Some.text.now) (strings c.next.new.self) c.in_err-add_string.ensures left)

pub returns : goal.returns
returns c =
    let left = rw c.in-None.ensures.steps.0 at c.loop-text.invariant.bytes in
    (sym (append-nil c.loop-text.out.items) ∙ left, c.loop-text.invariant.within)

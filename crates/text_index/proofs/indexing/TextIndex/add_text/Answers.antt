-- Each line is added, or stops the text.
use Rattle.std.proofs.Common.{◌+◌, refl, arith, inl}
use Rattle.text_index.specs.declared.text_line.TextLine.{TextLine}
use Rattle.text_index.proofs.Lines.{first_line, line_passed, line_stops, none_passed}
use Rattle.text_index.proofs.indexing.TextIndex.add_text.Goals as goal

pub returns-in-Err : goal.returns-in-Err
returns-in-Err c = inl (c.from.ensures, first_line c.args.standing.now c.args.text.now)

pub lines-init : goal.lines-init
lines-init c = record {
  reached = rw c.in_default.ensures (none_passed c.args.standing.now c.args.file.now c.args.text.now c.args.self.now);
  counted = omega arith;
}

pub returns-in-Err-added : goal.returns-in-Err-added
returns-in-Err-added c =
    let at = rw c.split_line.ensures.lines at c.lines.invariant.reached in
    line_stops c.args.standing.now c.args.file.now c.args.text.now c.lines.passed c.split_line.result.0.now _ c.lines.standing c.args.self.now c.lines.self c.in-Err-added.cause at c.in-Err-added.ensures

pub lines-preserved : goal.lines-preserved
lines-preserved c =
    let line : TextLine = record { file = c.args.file; number = c.lines.passed + 1; text = c.split_line.result.0 } in
    let at = rw (c.split_line.ensures.lines, c.in-Some.is) at c.lines.invariant.reached in
    let shorter = rw c.in-Some.is at c.split_line.ensures.shorter in
    record {
      reached = line_passed c.args.standing.now c.args.file.now c.args.text.now c.lines.passed line _ c.lines.standing c.add_line-added.new.standing c.args.self.now c.lines.self c.add_line-added.new.self at refl c.in_default-added.ensures;
      counted = omega (arith, shorter, c.lines.invariant.counted);
    }

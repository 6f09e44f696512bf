-- A second value is a fault, and so is none.
use Rattle.std.proofs.Common.{◌∙◌, ℕ, List, None, Some, ap, sym}
use Rattle.sshd_files.specs.Settings.{value_under}
use Rattle.sshd_files.proofs.OnlyValues.{found_before, found_here, last_found, second_value}
use Rattle.sshd_files.proofs.settings.only_value.Goals as goal
use Rattle.sshd_files.proofs.settings.only_value.Goals.{in-Some+else-is_some, in_default}

pub returns-then-is_some : goal.returns-then-is_some
returns-then-is_some c =
    second_value c.args.setting c.args.text.now c.lines.rest.now c.split_line.result.0.now _ c.lines.found
    c.in-Some.value.now c.lines.invariant c.split_line.ensures.lines
    (rw c.in-Some.is at c.value_under.ensures
    ∙ ap (λ (word : List ℕ). value_under word c.split_line.result.0.now) c.word.ensures) (sym c.is_some.ensures
    ∙ c.if-is_some.true)

pub returns-in_default-after : goal.returns-in_default-after
returns-in_default-after c =
    let last = rw c.in_default-after.is at c.split_line.ensures.lines in
    let word = ap (λ (word : List ℕ). value_under word c.split_line.result.0.now) c.word.ensures in
    elim c.match-value_under.branch [
      | in-Some+else-is_some w ↦ last_found c.args.setting c.args.text.now c.lines.rest.now
          c.split_line.result.0.now c.lines.found c.match-value_under.found (Some w.in-Some.value.now)
          c.ok_or.result c.lines.invariant last
          (rw w.in-Some.is at c.value_under.ensures ∙ word)
          (found_here c.lines.found c.match-value_under.found w.in-Some.value
          (sym w.is_some.ensures ∙ w.if-is_some.false) w.found-is) c.ok_or.ensures.value
      | in_default w ↦ last_found c.args.setting c.args.text.now c.lines.rest.now c.split_line.result.0.now
          c.lines.found c.match-value_under.found None c.ok_or.result c.lines.invariant last
          (rw w.in_default.is at c.value_under.ensures ∙ word)
          (found_before c.lines.found c.match-value_under.found w.found-is) c.ok_or.ensures.value
    ]

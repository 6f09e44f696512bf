-- A short text is its own front.
use Rattle.std.proofs.Common.{◌≤◌, ◌∙◌, ap, arith, length, sym, List, ℕ}
use Rattle.std.proofs.lemmas.List.{take_all}
use Rattle.key_text.specs.Armour.{begins_container}
use Rattle.audit_run.proofs.reading.is_private.Goals as goal

pub returns-then-text-lt-FRONT : goal.returns-then-text-lt-FRONT
returns-then-text-lt-FRONT c =
    let short : length c.args.text.now ≤ 64 = omega arith in
    c.is_container.ensures ∙ ap (λ (text : List ℕ). begins_container text) (sym (take_all 64 c.args.text.now short))

use Rattle.std.proofs.Common.{◌≡◌, ℕ, ◌+◌, ◌&&◌, true, false, not, List, Some, None, [], drop, get_or, refl, sym, ap, ◌∙◌}
use Rattle.std.proofs.lemmas.Bool.{and_right}
use Rattle.std.proofs.lemmas.List.{drop_all, drop_more, take_rest}
use Rattle.key_text.specs.Blanks.{is_blank}
use Rattle.key_text.specs.LineReading.{after_options}
use Rattle.key_text.proofs.LineOptions.{at_end, ends, goes_on}
use Rattle.key_text.proofs.line.options.after_options.Goals as goal
use Rattle.key_text.proofs.line.options.after_options.Goals.{else-is_blank-via-then-is_blank+else-not-quoted, else-is_blank-via-else-is_blank}

pub returns-then-not-quoted : goal.returns-then-not-quoted
returns-then-not-quoted c =
    let more = drop_more c.args.text.now c.loop-i.i 0 c.loop-i-test.true in
    let here = ends c.loop-i.quoted c.loop-i.escaped (get_or c.args.text.now c.loop-i.i 0) (drop (c.loop-i.i + 1) c.args.text.now) (sym c.is_blank.ensures ∙ c.if-is_blank.true) c.if-not-quoted.true in
    rw (take_rest c.args.text.now c.loop-i.i) (ap (λ (xs : List ℕ). Some xs) more ∙ sym here ∙ ap (after_options c.loop-i.quoted c.loop-i.escaped) (sym more) ∙ c.loop-i.invariant)

pub loop-i-preserved : goal.loop-i-preserved
loop-i-preserved c =
    let byte : ℕ = get_or c.args.text.now c.loop-i.i 0 in
    let inside : (is_blank byte && not c.loop-i.quoted) ≡ false = elim c.else-is_blank.branch [
      | else-is_blank-via-then-is_blank+else-not-quoted w ↦ rw w.if-not-quoted.false (and_right (is_blank byte) (not true) refl)
      | else-is_blank-via-else-is_blank w ↦ rw (sym c.is_blank.ensures ∙ w.if-is_blank.false) refl
    ] in
    let more = drop_more c.args.text.now c.loop-i.i 0 c.loop-i-test.true in
    let here = goes_on c.loop-i.quoted c.loop-i.escaped byte (drop (c.loop-i.i + 1) c.args.text.now) inside in
    rw c.quoted_after-quoted.ensures (sym here ∙ ap (after_options c.loop-i.quoted c.loop-i.escaped) (sym more) ∙ c.loop-i.invariant)

pub returns-then-quoted : goal.returns-then-quoted
returns-then-quoted c =
    let all = drop_all c.loop-i.i c.args.text.now c.loop-i-test.false in
    let here : after_options c.loop-i.quoted c.loop-i.escaped [] ≡ None = at_end c.loop-i.quoted c.loop-i.escaped ∙ rw c.if-quoted.true refl in
    sym here ∙ ap (after_options c.loop-i.quoted c.loop-i.escaped) (sym all) ∙ c.loop-i.invariant

pub returns-else-quoted : goal.returns-else-quoted
returns-else-quoted c =
    let all = drop_all c.loop-i.i c.args.text.now c.loop-i-test.false in
    let here : after_options c.loop-i.quoted c.loop-i.escaped [] ≡ Some [] = at_end c.loop-i.quoted c.loop-i.escaped ∙ rw c.if-quoted.false refl in
    sym here ∙ ap (after_options c.loop-i.quoted c.loop-i.escaped) (sym all) ∙ c.loop-i.invariant

use Rattle.krl_plan.proofs.Common.{[], ◌++◌, ◌+◌, ◌∙◌, ◌∷◌, ◌≡◌, ap, arith, flat_map, get_or, List}
use Rattle.krl_plan.proofs.Common.{number, runs_at, serials_of, Span, sym, take, take_more, ℕ}
use Rattle.krl_plan.proofs.ListTexts.{all_listed, length-begun, length-listed, listed_more}
use Rattle.krl_plan.proofs.ListTexts.{small_few, string_ended}
use Rattle.krl_plan.proofs.ZeroSpan.{zero_span}
use Rattle.krl_plan.specs.Written.{type_byte}
use Rattle.krl_plan.specs.declared.group.Sort.TheVariants as sorts
use Rattle.krl_plan.proofs.group_text.put_listed.Goals as goal

pub put_serials-requires-clause-ordered : goal.put_serials-requires-clause-ordered
put_serials-requires-clause-ordered c = (runs_at 0 c.args.runs.now c.loop-run.run-index zero_span c.requires.rising c.loop-run-test.true).1

pub loop-run-preserved : goal.loop-run-preserved
loop-run-preserved c =
    let runs = c.args.runs.now in
    let i = c.loop-run.run-index in
    let run : Span = get_or runs i zero_span in
    let more : take (i + 1) runs ≡ take i runs ++ run ∷ [] = take_more runs i zero_span c.loop-run-test.true in
    c.in_ok-put_serials.ensures ∙ ap (λ (t : List ℕ). t ++ flat_map (number 8) (serials_of (run ∷ []))) c.loop-run.invariant
    ∙ listed_more c.begin_string.new.out.items (take i runs) run
    ∙ ap (λ (xs : List Span). c.begin_string.new.out.items ++ flat_map (number 8) (serials_of xs)) (sym more)

pub end_string-requires-clause-within : goal.end_string-requires-clause-within
end_string-requires-clause-within c =
    let content : List ℕ = flat_map (number 8) (serials_of c.args.runs.now) in
    let out = all_listed c.args.runs.now c.loop-run.run-index c.begin_string.new.out.items c.loop-run.out.items c.loop-run-test.false c.loop-run.invariant in
    omega (arith, length-begun c.args.out.now.items c.begin_string.new.out.items content c.loop-run.out.items (type_byte sorts.Serials) c.in_ok-at.ensures.1 out, c.in_ok-at.ensures.0)

pub end_string-requires-clause-fits : goal.end_string-requires-clause-fits
end_string-requires-clause-fits c =
    let content : List ℕ = flat_map (number 8) (serials_of c.args.runs.now) in
    let out = all_listed c.args.runs.now c.loop-run.run-index c.begin_string.new.out.items c.loop-run.out.items c.loop-run-test.false c.loop-run.invariant in
    omega (
      arith,
      length-begun c.args.out.now.items c.begin_string.new.out.items content c.loop-run.out.items (type_byte sorts.Serials) c.in_ok-at.ensures.1 out,
      c.in_ok-at.ensures.0,
      length-listed c.args.runs.now,
      small_few c.args.runs.now c.requires.allowed.1,
      c.requires.allowed.0,
    )

pub returns : goal.returns
returns c =
    let content : List ℕ = flat_map (number 8) (serials_of c.args.runs.now) in
    let out = all_listed c.args.runs.now c.loop-run.run-index c.begin_string.new.out.items c.loop-run.out.items c.loop-run-test.false c.loop-run.invariant in
    c.end_string.ensures ∙ string_ended c.args.out.now.items c.begin_string.new.out.items content c.loop-run.out.items (type_byte sorts.Serials) _ c.in_ok-at.ensures.1 out c.in_ok-at.ensures.0

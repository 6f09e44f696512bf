-- The names are those of all options.
use Rattle.std.proofs.Common.{◌≡◌, ◌∙◌, ℕ, List, Bor, length, filter, ap, refl}
use Rattle.std.proofs.lemmas.List.{take_all}
use Rattle.clap.specs.Matches.{found_of}
use Rattle.clap.specs.Walk.{rows_of}
use Rattle.krl_arguments.proofs.ReadNames.{more_names, same_count, texts, values_of}
use Rattle.krl_arguments.specs.Inputs.{is_input}
use Rattle.krl_arguments.proofs.inputs.inputs_in.Goals as goal

pub loop-option-init : goal.loop-option-init
loop-option-init c = rw (c.new-names.ensures.items) refl

pub loop-option-preserved : goal.loop-option-preserved
loop-option-preserved c =
    let added = rw (c.as_slice.ensures.value) at c.in_ok-extend_from_slice.ensures.items in
    more_names (rows_of (found_of c.args.found.now)) c.args.options.now c.loop-option.option-index _ c.loop-option.names.items _ c.in_ok-values.values.items c.loop-option-test.true c.loop-option.invariant added c.in_ok-values.ensures

pub returns : goal.returns
returns c =
    let rows = rows_of (found_of c.args.found.now) in
    let all : texts c.loop-option.names.items ≡ values_of rows (texts c.args.options.now) =
    c.loop-option.invariant ∙ ap (λ (options : List (Bor (List ℕ))). values_of rows (texts options)) (take_all c.loop-option.option-index c.args.options.now c.loop-option-test.false) in
    rw c.as_slice-2.ensures.value at c.inputs_among.ensures ∙ same_count is_input c.loop-option.names.items
    ∙ ap (λ (names : List (List ℕ)). length (filter is_input names)) all

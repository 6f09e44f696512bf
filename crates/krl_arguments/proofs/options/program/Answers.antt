-- The tables have the subcommands. Too many values are live for `search` where the last one has no memory.
use Rattle.std.proofs.Common.{◌≡◌, ◌∙◌, ap, ap₂, true}
use Rattle.std.proofs.lemmas.Result.{IfOk-weaker, err_from_is_err_and}
use Rattle.clap.specs.Simple.{app_of, app_of_fields, on_top, with_subcommand}
use Rattle.krl_arguments.specs.Options.{bare}
use Rattle.krl_arguments.proofs.options.program.Goals as goal

pub returns-in_err-diff : goal.returns-in_err-diff
returns-in_err-diff c =
    let p = err_from_is_err_and c.from_residual-in_err-diff.result c.from_residual-in_err-diff.ensures.1 in
    rw p.1 tt

pub returns : goal.returns
returns c =
    let named = ap app_of_fields c.about.ensures ∙ c.new.ensures.app in
    let versioned = ap app_of_fields c.version.ensures ∙ ap (on_top (λ s. record s { has_version = true })) named in
    let passed = ap app_of_fields c.propagate_version.ensures ∙ ap (on_top (λ s. record s { propagate_version = true })) versioned in
    let whole : app_of c.subcommand_required-bare.result ≡ bare =
    ap app_of_fields c.subcommand_required-bare.ensures ∙ ap (on_top (λ s. record s { subcommand_required = true })) passed in
    let first = c.in_ok-subcommand.ensures.shape c.in_ok-audit.ensures.local ∙ ap₂ with_subcommand whole c.in_ok-audit.ensures.shape in
    let second = c.in_ok-subcommand-2.ensures.shape c.in_ok-logins.ensures.local ∙ ap₂ with_subcommand first c.in_ok-logins.ensures.shape in
    let third = c.in_ok-subcommand-3.ensures.shape c.in_ok-check.ensures.local ∙ ap₂ with_subcommand second c.in_ok-check.ensures.shape in
    let fourth = c.in_ok-subcommand-4.ensures.shape c.in_ok-show.ensures.local ∙ ap₂ with_subcommand third c.in_ok-show.ensures.shape in
    let fifth = c.in_ok-subcommand-5.ensures.shape c.in_ok-make.ensures.local ∙ ap₂ with_subcommand fourth c.in_ok-make.ensures.shape in
    IfOk-weaker c.subcommand-6.result _ _ (λ command adds. adds.shape c.in_ok-diff.ensures.local ∙ ap₂ with_subcommand fifth c.in_ok-diff.ensures.shape) c.subcommand-6.ensures

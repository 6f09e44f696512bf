-- The table has the options.
use Rattle.std.proofs.Common.{◌≡◌, ◌∙◌, ap, codes, true}
use Rattle.std.proofs.lemmas.Result.{IfOk-weaker}
use Rattle.clap.specs.Simple.{App, app_of, app_of_fields, new_app, on_top}
use Rattle.krl_words.specs.Options.{bare, rules}
use Rattle.option_table.specs.Argument.{with_rules}
use Rattle.krl_words.proofs.options.program.Goals as goal

pub returns : goal.returns
returns c =
    let named : app_of c.about.result ≡ new_app (codes "krl-keygen") = ap app_of_fields c.about.ensures ∙ c.new.ensures.app in
    let versioned : app_of c.version.result ≡ on_top (λ s. record s { has_version = true }) (new_app (codes "krl-keygen")) =
    ap app_of_fields c.version.ensures ∙ ap (on_top (λ s. record s { has_version = true })) named in
    let flagless = ap app_of_fields c.disable_version_flag.ensures ∙ ap (on_top (λ s. record s { disable_version_flag = true })) versioned in
    let whole : app_of c.args_override_self-bare.result ≡ bare =
    ap app_of_fields c.args_override_self-bare.ensures ∙ ap (on_top (λ s. record s { args_override_self = true })) flagless in
    IfOk-weaker c.with_arguments.result _ _ (λ command adds. adds ∙ ap (λ (app : App). with_rules app rules) whole) c.with_arguments.ensures.rules

-- The values that were found are copied.
use Rattle.std.proofs.Common.{◌∙◌, ap, map, Some, None}
use Rattle.std.proofs.lemmas.Result.{IfOk-weaker}
use Rattle.clap.specs.Matches.{found_of}
use Rattle.option_table.proofs.Reading.{values_by}
use Rattle.option_table.proofs.value.values_of.Goals as goal

pub returns-in-Some : goal.returns-in-Some
returns-in-Some c =
    let is = values_by (found_of c.args.matches.now) c.args.id.now (Some (map (λ v. v.now) c.in-Some.values.now)) c.in-Some.ensures in
    IfOk-weaker c.from_slice.result _ _ (λ values e. ap (map (λ value. value.now)) e ∙ is) c.from_slice.ensures.items

pub returns-in-None : goal.returns-in-None
returns-in-None c = ap (map (λ value. value.now)) c.new.ensures.items ∙ values_by (found_of c.args.matches.now) c.args.id.now None c.in-None.ensures

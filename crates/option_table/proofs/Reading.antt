-- Tables of arguments one by one, and what was found of them.
use Rattle.std.proofs.Common.{◌≡◌, ℕ, ◌+◌, ◌<◌, false, List, [], ◌∷◌, ◌++◌, length, map, take, get_or, Option, refl, sym, ap, ap₂, ◌∙◌, inl, inr}
use Rattle.std.specs.Prelude.{option_map, unwrap_or}
use Rattle.clap.specs.Built.{AddsArg}
use Rattle.clap.specs.Faults.{fault_of}
use Rattle.clap.specs.Kinds.{HasKind, IsAmong}
use Rattle.clap.specs.Matches.{matched_of, raw_values}
use Rattle.clap.specs.Simple.{App, app_of, with_rule}
use Rattle.clap.specs.Values.{kind_of}
use Rattle.clap.specs.Walk.{Rule, rows_of, rule_of}
use Rattle.clap.specs.declared.builder.arg.Arg.{Arg}
use Rattle.clap.specs.declared.builder.command.Command.{Command}
use Rattle.clap.specs.declared.error.Error.{Error}
use Rattle.clap.specs.declared.parser.matches.Found.{Found}
use Rattle.std.proofs.lemmas.List.{map-append, take_more}
use Rattle.clap.proofs.WalkLemmas.{raw_values-rows}
use Rattle.option_table.specs.Argument.{rule_by, with_rules}
use Rattle.option_table.specs.Fault.{IsRefused, ReportsError}
use Rattle.option_table.specs.Value.{values_in}
use Rattle.option_table.specs.declared.argument.Argument.{Argument}
use Rattle.option_table.specs.declared.fault.CommandFault.TheVariants.{Words}

-- one more argument
pub one_more : (old new : Command) (a : Arg) (app : App) (rule : Rule) → app_of old ≡ app → a.global ≡ false → rule_of a ≡ rule → AddsArg old a new → app_of new ≡ with_rule app rule
one_more old new a app rule is_old local is_rule adds = adds.shape local ∙ ap₂ with_rule is_old is_rule

last_rule : (app : App) (rules : List Rule) (rule : Rule) → with_rules app (rules ++ rule ∷ []) ≡ with_rule (with_rules app rules) rule
last_rule app [] rule = refl
last_rule app (first ∷ rules) rule = last_rule (with_rule app first) rules rule

-- the rules of a table and one more argument
pub one_more_rule : (app : App) (table : List Argument) (i : ℕ) (d : Argument) → i < length table
    → with_rule (with_rules app (map rule_by (take i table))) (rule_by (get_or table i d)) ≡ with_rules app (map rule_by (take (i + 1) table))
one_more_rule app table i d lt =
    rw (take_more table i d lt, map-append rule_by (take i table) (get_or table i d ∷ [])) (sym (last_rule app (map rule_by (take i table)) (rule_by (get_or table i d))))

pub values_by : (f : Found) (id : List ℕ) (values : Option (List (List ℕ))) → values ≡ option_map raw_values (matched_of f id)
    → unwrap_or values [] ≡ values_in id (rows_of f)
values_by f id values is = ap (λ (o : Option (List (List ℕ))). unwrap_or o []) (is ∙ raw_values-rows f id)

-- words that cannot be parsed are refused for a fault that the words have
pub refused_by : (program : App) (words : List (List ℕ)) (e : Error) (help : _) (text : _) → HasKind (fault_of program words) e → ReportsError e (Words help text) → IsRefused program words help
refused_by program words e help text kind reports = (kind_of e, among kind, reports.1)
  where
    among : HasKind (fault_of program words) e → IsAmong (kind_of e) (fault_of program words)
    among (inl ran_out) = absurd (reports.0 ran_out)
    among (inr is) = is

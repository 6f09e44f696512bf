-- The lists that words ask to be made (krl(1), SYNOPSIS).
use Rattle.std.specs.Prelude.{ℕ, ◌&&◌, Bool, List, codes, map, Option, Some, None, Result, Ok, Err}
use Rattle.std.specs.Prelude.{option_map, if◌then◌else◌}
use Rattle.clap.specs.Walk.{Row, first_of}
use Rattle.option_table.specs.Value.{is_set, values_in}
use Rattle.krl_arguments.specs.Inputs.{is_input}
use Rattle.krl_arguments.specs.Number.{is_wrong, number_at}
use Rattle.krl_arguments.specs.declared.misuse.Misuse.{Misuse}
use Rattle.krl_arguments.specs.declared.misuse.Misuse.TheVariants as misuses
use Rattle.krl_arguments.specs.declared.task.Make.{Make as MakeOf}

-- a list that is made: its name, its version and comment if they are given, whether -q, -n, -u,
-- --replace and --allow-empty are given, and the texts
pub record Make : Type 0 where
  pub list : List ℕ
  pub version : Option ℕ
  pub comment : Option (List ℕ)
  pub quiet : Bool
  pub dry_run : Bool
  pub update : Bool
  pub replace : Bool
  pub allow_empty : Bool
  pub files : List (List ℕ)

abbrev pub make_with : List Row → List ℕ → Make
make_with rows list = record {
  list = list;
  version = number_at (codes "version") rows;
  comment = first_of (codes "comment") rows;
  quiet = is_set (codes "quiet") rows;
  dry_run = is_set (codes "dry-run") rows;
  update = is_set (codes "update") rows;
  replace = is_set (codes "replace") rows;
  allow_empty = is_set (codes "allow-empty") rows;
  files = values_in (codes "files") rows;
}

-- The list, unless its version is no number, it is standard input, or it is to be kept and not to
-- be read.
abbrev pub if_makes : (wrong : Bool) → Make → Result Make Misuse
if_makes wrong make =
    if wrong then Err misuses.WrongVersion
    else if is_input make.list then Err misuses.InputReplaced
    else if make.update && make.replace then Err misuses.UpdateReplaces
    else Ok make

-- the list of this name
abbrev pub make_named : List Row → Option (List ℕ) → Result Make Misuse
make_named rows None = Err misuses.Incomplete
make_named rows (Some list) =
    let make = make_with rows list in
    if_makes (is_wrong (codes "version") make.version rows) make

abbrev pub make_of : List Row → Result Make Misuse
make_of rows = make_named rows (first_of (codes "list") rows)

-- the same, in the types of the program
abbrev pub make_by : MakeOf → Make
make_by make = record {
  list = make.list.now;
  version = make.version;
  comment = option_map (λ text. text.now) make.comment;
  quiet = make.quiet;
  dry_run = make.dry_run;
  update = make.update;
  replace = make.replace;
  allow_empty = make.allow_empty;
  files = map (λ name. name.now) make.files.items;
}

-- The subcommands that the program has, and their options (krl(1), SYNOPSIS).
use Rattle.std.specs.Prelude.{ℕ, true, false, List, [], ◌∷◌, codes, map}
use Rattle.clap.specs.Simple.{App, Shape, new_app, new_shape, with_subcommand}
use Rattle.clap.specs.Walk.{Rule}
use Rattle.option_table.specs.Argument.{letter_rule, letter_value_rule, letter_values_rule}
use Rattle.option_table.specs.Argument.{long_rule, long_value_rule, long_values_rule, needed_rule}
use Rattle.option_table.specs.Argument.{rule_by, some_words_rule, with_rules, word_rule, words_rule}
use Rattle.krl_arguments.specs.declared.options.Subcommand.{Subcommand}

-- krl audit: -f, -t, -a, -q, -x, --all, --scan, --canary, --exclude, --json, --label, --files0-from,
-- --sshd, --passwd, --command-output, and the files
abbrev pub audit_rules : List Rule
audit_rules =
    letter_value_rule (codes "list") 102
    ∷ letter_values_rule (codes "texts") 116
    ∷ letter_rule (codes "fine") 97
    ∷ letter_rule (codes "quiet") 113
    ∷ letter_rule (codes "one-file-system") 120
    ∷ long_rule (codes "all")
    ∷ long_rule (codes "scan")
    ∷ long_values_rule (codes "canary")
    ∷ long_values_rule (codes "exclude")
    ∷ long_rule (codes "json")
    ∷ long_value_rule (codes "label")
    ∷ long_value_rule (codes "files0-from")
    ∷ long_values_rule (codes "sshd")
    ∷ long_value_rule (codes "passwd")
    ∷ long_values_rule (codes "command-output")
    ∷ words_rule (codes "files") ∷ []

-- krl logins: -f, -t, -a, -q, --json, and the logs
abbrev pub logins_rules : List Rule
logins_rules =
    letter_value_rule (codes "list") 102
    ∷ letter_values_rule (codes "texts") 116
    ∷ letter_rule (codes "fine") 97
    ∷ letter_rule (codes "quiet") 113
    ∷ long_rule (codes "json")
    ∷ words_rule (codes "files") ∷ []

-- krl check: the list, --newer-than, --superset-of, --max-age, --max-cas, --sshd, --keep, --canary,
-- --allow-empty, --json, --names and --print-version
abbrev pub check_rules : List Rule
check_rules =
    word_rule (codes "list")
    ∷ long_value_rule (codes "newer-than")
    ∷ long_value_rule (codes "superset-of")
    ∷ long_value_rule (codes "max-age")
    ∷ long_value_rule (codes "max-cas")
    ∷ long_value_rule (codes "sshd")
    ∷ long_values_rule (codes "keep")
    ∷ long_values_rule (codes "canary")
    ∷ long_rule (codes "allow-empty")
    ∷ long_rule (codes "json")
    ∷ long_values_rule (codes "names")
    ∷ long_rule (codes "print-version") ∷ []

-- krl show: --json, --no-name, --names, and the lists
abbrev pub show_rules : List Rule
show_rules =
    long_rule (codes "json")
    ∷ long_rule (codes "no-name")
    ∷ long_values_rule (codes "names")
    ∷ some_words_rule (codes "lists") ∷ []

-- krl make: -f, -z, --comment, -q, -n, -u, --replace, --allow-empty, and the texts
abbrev pub make_rules : List Rule
make_rules =
    needed_rule (codes "list") 102
    ∷ letter_value_rule (codes "version") 122
    ∷ long_value_rule (codes "comment")
    ∷ letter_rule (codes "quiet") 113
    ∷ letter_rule (codes "dry-run") 110
    ∷ letter_rule (codes "update") 117
    ∷ long_rule (codes "replace")
    ∷ long_rule (codes "allow-empty")
    ∷ words_rule (codes "files") ∷ []

-- krl diff: --json, --names, and both lists
abbrev pub diff_rules : List Rule
diff_rules =
    long_rule (codes "json")
    ∷ long_values_rule (codes "names")
    ∷ word_rule (codes "old")
    ∷ word_rule (codes "new") ∷ []

-- a subcommand of these arguments
abbrev pub with_all : List ℕ → List Rule → Shape
with_all name rules = (with_rules (new_app name) rules).top

abbrev pub subcommand_by : Subcommand → Shape
subcommand_by subcommand = with_all subcommand.name.now (map rule_by subcommand.arguments.now)

-- The program without its subcommands. No use of an option overrides an earlier one: a second use
-- of an option is a conflict with the first, unless the option may have any number of values.
abbrev pub bare : App
bare = record {
  top = record (new_shape (codes "krl")) {
    has_version = true;
    propagate_version = true;
    subcommand_required = true;
    args_override_self = false;
  };
  subs = [];
}

abbrev pub program : App
program = with_subcommand
    (with_subcommand
    (with_subcommand
    (with_subcommand
    (with_subcommand
    (with_subcommand bare (with_all (codes "audit") audit_rules))
    (with_all (codes "logins") logins_rules))
    (with_all (codes "check") check_rules))
    (with_all (codes "show") show_rules))
    (with_all (codes "make") make_rules))
    (with_all (codes "diff") diff_rules)

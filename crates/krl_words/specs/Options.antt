-- The options that the program has (ssh-keygen(1), SYNOPSIS), and their values in a command line.
use Rattle.std.specs.Prelude.{ℕ, Bool, true, List, [], ◌∷◌, codes}
use Rattle.clap.specs.Simple.{App, matches_of, new_shape}
use Rattle.clap.specs.Walk.{Row, Rule, first_of}
use Rattle.krl_job.specs.CommandLine.{CommandLine}
use Rattle.option_table.specs.Argument.{letter_of, letter_rule, letter_value_rule, version_rule}
use Rattle.option_table.specs.Argument.{with_rules, words_rule}
use Rattle.option_table.specs.Value.{is_set, values_in}
use Rattle.krl_words.specs.Order.{is_divided}

-- -l, -L, -k and -Q, -f and -E, -u, -s, -z, the files, and --version
abbrev pub rules : List Rule
rules =
    letter_rule (codes "list") (letter_of (codes "l"))
    ∷ letter_rule (codes "certificates") (letter_of (codes "L"))
    ∷ letter_rule (codes "make") (letter_of (codes "k"))
    ∷ letter_rule (codes "query") (letter_of (codes "Q"))
    ∷ letter_value_rule (codes "file") (letter_of (codes "f"))
    ∷ letter_value_rule (codes "hash") (letter_of (codes "E"))
    ∷ letter_rule (codes "update") (letter_of (codes "u"))
    ∷ letter_value_rule (codes "authority") (letter_of (codes "s"))
    ∷ letter_value_rule (codes "version") (letter_of (codes "z"))
    ∷ words_rule (codes "files")
    ∷ version_rule (codes "program_version") (codes "version") ∷ []

-- The program without its options. A use of an option overrides an earlier use of the same option:
-- the last of several values counts, and an option without a value counts once. Only a second -s
-- after a file that follows the first one is refused (Order.antt).
abbrev pub bare : App
bare = record {
  top = record (new_shape (codes "krl-keygen")) {
    has_version = true;
    disable_version_flag = true;
    args_override_self = true;
  };
  subs = [];
}

abbrev pub program : App
program = with_rules bare rules

abbrev pub given_of : Bool → List Row → CommandLine
given_of divided rows = record {
  list = is_set (codes "list") rows;
  certificates = is_set (codes "certificates") rows;
  make = is_set (codes "make") rows;
  query = is_set (codes "query") rows;
  update = is_set (codes "update") rows;
  file = first_of (codes "file") rows;
  hash = first_of (codes "hash") rows;
  authority = first_of (codes "authority") rows;
  version = first_of (codes "version") rows;
  files = values_in (codes "files") rows;
  is_divided = divided;
}

-- the values in these words, the program's name before them
unfoldable pub given_in : List (List ℕ) → CommandLine
given_in words = given_of (is_divided words) (matches_of program words)

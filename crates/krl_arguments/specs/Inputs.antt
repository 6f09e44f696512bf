-- The options whose values are files that are read, and when two of them are standard input.
use Rattle.std.specs.Prelude.{ℕ, ◌&&◌, ◌||◌, nat_lt, Bool, not, List, [], ◌∷◌, codes, length}
use Rattle.std.specs.Prelude.{filter, flat_map}
use Rattle.std.specs.Str.{bytes_eq}
use Rattle.clap.specs.Walk.{Row}
use Rattle.option_table.specs.Value.{values_in}

-- the options and words of every subcommand that name files to read, except the files of an audit,
-- the logs of krl logins and the texts of a list
abbrev pub read_options : List (List ℕ)
read_options =
    codes "list" ∷ codes "texts" ∷ codes "newer-than" ∷ codes "superset-of" ∷ codes "names"
    ∷ codes "keep" ∷ codes "canary" ∷ codes "files0-from" ∷ codes "sshd" ∷ codes "passwd"
    ∷ codes "command-output" ∷ codes "lists" ∷ codes "old" ∷ codes "new" ∷ []

abbrev pub is_input : List ℕ → Bool
is_input name = bytes_eq name (codes "-")

-- how many values of these options are standard input
abbrev pub inputs_in : List (List ℕ) → List Row → ℕ
inputs_in options rows =
    length (filter is_input (flat_map (λ option. values_in option rows) options))

-- Standard input is named twice. The files of an audit may name it more than once.
unfoldable pub reads_twice : (name : List ℕ) → List Row → Bool
reads_twice name rows =
    nat_lt 1 (inputs_in read_options rows)
    || ((nat_lt 0 (inputs_in read_options rows) && nat_lt 0 (inputs_in (codes "files" ∷ []) rows))
    || (not (bytes_eq name (codes "audit")) && nat_lt 1 (inputs_in (codes "files" ∷ []) rows)))

-- The directives of specification files (ssh-keygen(1), KEY REVOCATION LISTS).
use Rattle.std.specs.Prelude.{ℕ, Bool, ◌+◌, ◌==◌, nat_lt, if◌then◌else◌, List, [], ◌∷◌, length}
use Rattle.std.specs.Prelude.{drop, codes, Option, None, option_map}
use Rattle.std.specs.List.{before_first, find, position_or_len}
use Rattle.std.specs.Str.{str_eq_ignore_ascii_case}
use Rattle.ssh_wire.specs.Ascii.{colon}
use Rattle.key_text.specs.Blanks.{after_blanks}
use Rattle.krl_spec.specs.declared.directive.Directive.{Directive}
use Rattle.krl_spec.specs.declared.directive.Directive.TheVariants.{Serial, Id, Key, Sha1, Sha256}
use Rattle.krl_spec.specs.declared.directive.Directive.TheVariants.{Hash}

abbrev pub is_colon : ℕ → Bool
is_colon byte = byte == colon

-- the name of a directive, in lower case
abbrev pub name_of : Directive → List ℕ
name_of Serial = codes "serial"
name_of Id = codes "id"
name_of Key = codes "key"
name_of Sha1 = codes "sha1"
name_of Sha256 = codes "sha256"
name_of Hash = codes "hash"

abbrev pub directives : List Directive
directives = Serial ∷ Id ∷ Key ∷ Sha1 ∷ Sha256 ∷ Hash ∷ []

-- the name is that of the directive, in upper or lower case
abbrev pub is_named : Directive → List ℕ → Bool
is_named directive name = str_eq_ignore_ascii_case name (name_of directive)

unfoldable pub directive_named : List ℕ → Option Directive
directive_named name = find (λ directive. is_named directive name) directives

-- a directive and its argument
pub record Order : Type 0 where
  pub directive : Directive
  pub given : List ℕ

abbrev pub order : List ℕ → Directive → Order
order given directive = record { directive = directive; given = given }

-- The directive whose name is before the first colon, and its argument: what is after the colon and
-- blanks.
unfoldable pub order_in : List ℕ → Option Order
order_in line =
    if nat_lt (position_or_len is_colon line) (length line)
    then option_map (order (after_blanks (drop (position_or_len is_colon line + 1) line)))
    (directive_named (before_first is_colon line))
    else None

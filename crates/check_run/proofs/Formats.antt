-- The format of a list.
use Rattle.std.proofs.Common.{◌≡◌, ℕ, ◌+◌, Bool, true, false, List, [], ◌∷◌, Option, Some, None, refl, sym, subst}
use Rattle.krl_format.specs.Front.{IsFirstKrlFault}
use Rattle.krl_format.specs.declared.header.Header.{Header}
use Rattle.krl_types.specs.Entry.{Entry}
use Rattle.krl_openssh.specs.Fields.{IsFirstDifference}
use Rattle.krl_openssh.specs.declared.difference.Difference.{Difference}
use Rattle.plain_list.specs.Any.{NamesIf, begins_list}
use Rattle.any_list.specs.List.{IsReadList}
use Rattle.any_list.specs.declared.list.List.{List as ListOf}
use Rattle.list_conditions.specs.declared.condition.Condition.TheVariants.{OpenSsh, OpenSshLines}
use Rattle.plain_list.specs.Dsa.{IsFirstDsa, line_dsa}
use Rattle.plain_list.specs.List.{lines_of}
use Rattle.plain_list.specs.declared.dsa.DsaLine.{DsaLine}
use Rattle.plain_list.specs.declared.dsa.DsaPart.{DsaPart}
use Rattle.plain_list.proofs.DsaLines.{IsAt, all_passed, at_first, found, next_line}
use Rattle.check_run.specs.Lists.{IsFormat, IsFormatIf}

-- A list with a header begins as a key revocation list, and has no fault.
pub record IsWhole (bytes : List ℕ) : Type 0 where
  pub begins : begins_list bytes ≡ true
  pub no_fault : IsFirstKrlFault bytes None

whole_if : (begins : Bool) (bytes : List ℕ) (header : Option Header) (entries : List Entry) (value : Header) → begins_list bytes ≡ begins → header ≡ Some value → NamesIf begins bytes header entries → IsWhole bytes
whole_if true bytes header entries value is some named = record { begins = is; no_fault = named.no_fault }
whole_if false bytes header entries value is some named =
    let none = named.header_is in
    absurd (cc)

pub states_whole : (name bytes : List ℕ) (list : ListOf) (value : Header) → IsReadList name bytes list → list.header ≡ Some value → IsWhole bytes
states_whole name bytes list value read is = whole_if (begins_list bytes) bytes list.header read.entries value refl is read.named

lines_if : (begins : Bool) (bytes : List ℕ) (header : Option Header) (entries : List Entry) → begins_list bytes ≡ begins → header ≡ None → NamesIf begins bytes header entries → begins_list bytes ≡ false
lines_if true bytes header entries is none named =
    let some = named.header_is in
    absurd (cc)
lines_if false bytes header entries is none named = is

states_lines : (name bytes : List ℕ) (list : ListOf) → IsReadList name bytes list → list.header ≡ None → begins_list bytes ≡ false
states_lines name bytes list read is = lines_if (begins_list bytes) bytes list.header read.entries refl is read.named

pub differs : (name bytes : List ℕ) (list : ListOf) (value : Header) (difference : Option Difference) → IsReadList name bytes list → list.header ≡ Some value → IsFirstDifference bytes difference → IsFormat bytes (OpenSsh difference)
differs name bytes list value difference read is first = subst (λ (b : Bool). IsFormatIf b bytes (OpenSsh difference)) (sym (states_whole name bytes list value read is).begins) (difference, first, refl)

pub has_lines : (name bytes : List ℕ) (list : ListOf) (line : Option DsaLine) → IsReadList name bytes list → list.header ≡ None → IsFirstDsa (lines_of bytes) line → IsFormat bytes (OpenSshLines line)
has_lines name bytes list line read is first = subst (λ (b : Bool). IsFormatIf b bytes (OpenSshLines line)) (sym (states_lines name bytes list read is)) (line, first, refl)

-- ---- the first line with DSA, if there is one

-- at a line, by whether a later one is the first
first_at : (lines : List (List ℕ)) (passed : ℕ) (line : List ℕ) (rest : List (List ℕ)) → IsAt lines passed (line ∷ rest) → (line_dsa line ≡ None → (first : Option DsaLine) × IsFirstDsa lines first)
    → (part : Option DsaPart) → line_dsa line ≡ part → (first : Option DsaLine) × IsFirstDsa lines first
first_at lines passed line rest at later (Some part) is = (Some (record { number = passed + 1; part = part }), found lines passed line rest part at is)
first_at lines passed line rest at later None is = later is

first_by : (lines : List (List ℕ)) (passed : ℕ) (rest : List (List ℕ)) → IsAt lines passed rest → (first : Option DsaLine) × IsFirstDsa lines first
first_by lines passed [] at = (None, all_passed lines passed at)
first_by lines passed (line ∷ rest) at =
    first_at lines passed line rest at (λ none. first_by lines (passed + 1) rest (next_line lines passed line rest at none)) (line_dsa line) refl

pub some_first : (lines : List (List ℕ)) → (line : Option DsaLine) × IsFirstDsa lines line
some_first lines = first_by lines 0 lines (at_first lines)

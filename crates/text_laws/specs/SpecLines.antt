-- Lines of specification files that say the same in texts.
use Rattle.std.specs.Prelude.{◌≡◌, true, false, ⊤, List, [], ◌∷◌, ℕ, Option, Some, None, Result, Ok}
use Rattle.std.specs.Prelude.{Err}
use Rattle.krl_spec.specs.Entries.{bare_entry}
use Rattle.krl_spec.specs.declared.directive.Directive.{Directive}
use Rattle.krl_spec.specs.declared.directive.Directive.TheVariants.{Serial, Id, Key, Sha1}
use Rattle.krl_spec.specs.declared.directive.Directive.TheVariants.{Sha256, Hash}
use Rattle.krl_types.specs.Entry.{Entry}
use Rattle.run_faults.specs.declared.spec_cause.SpecCause.{SpecCause}
use Rattle.text_entries.specs.KeyId.{has_control, is_cut, no_id}
use Rattle.text_entries.specs.Says.{Blank, Saying, has_zero_id, names_says, spec_entry}
use Rattle.text_entries.specs.Says.{under_says}
use Rattle.text_entries.specs.Values.{begins_with_key, has_leading_zero, is_sha1}
use Rattle.text_entries.specs.declared.text_cause.TextCause.{TextCause}

-- what a line of a specification file says: an entry under the current authority, or another
abbrev pub spec_says : Directive → Result Entry SpecCause → Result Saying TextCause
spec_says Serial read = under_says (spec_entry read)
spec_says Id read = under_says (spec_entry read)
spec_says directive read = names_says (spec_entry read)

-- the same for a line without a directive
abbrev pub bare_says : Option (Result Entry SpecCause) → Result Saying TextCause
bare_says None = Ok Blank
bare_says (Some read) = names_says (spec_entry read)

-- Texts refuse a serial number with a leading zero, a key ID that is cut short, that has a control
-- character or that looks like something else, and anything before a key. They take a SHA-1 too.
abbrev pub IsReadAlike : List ℕ → Directive → List ℕ → Type 0
IsReadAlike line Serial given = has_leading_zero given ≡ false
IsReadAlike line Id given =
    (is_cut line ≡ false) × (has_control given ≡ false) × (no_id given ≡ None)
IsReadAlike line Key given = begins_with_key given ≡ true
IsReadAlike line Sha1 given = begins_with_key given ≡ true
IsReadAlike line Sha256 given = begins_with_key given ≡ true
IsReadAlike line Hash given = is_sha1 given ≡ false

-- The entry is no key ID with a zero byte.
abbrev pub IsWhole : Result Entry SpecCause → Type 0
IsWhole (Ok entry) = has_zero_id entry ≡ false
IsWhole (Err cause) = ⊤

-- Content without a word is empty or begins with the type name of a key. Texts refuse any other,
-- and a certificate that is named by a key ID with a zero byte.
abbrev pub IsBareAlike : List ℕ → Type 0
IsBareAlike [] = ⊤
IsBareAlike (byte ∷ bytes) =
    (begins_with_key (byte ∷ bytes) ≡ true) × IsWhole (bare_entry (byte ∷ bytes))

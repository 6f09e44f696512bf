-- When a line explains, and when a reason is unnamed, by the entries.
use Rattle.std.proofs.Common.{◌≡◌, ◌↔◌, List, [], ◌∷◌, ◌&&◌, ◌||◌, not, map, Bool, true, false, IsTrue, Option, Some, None, refl, sym, ap, ◌∙◌, slice_get}
use Rattle.std.specs.List.{list_any}
use Rattle.std.proofs.lemmas.Bool.{and_from, and_parts, false≢true}
use Rattle.std.proofs.lemmas.Map.Keys.{any_passes_from_place}
use Rattle.krl_types.specs.Naming.{Name}
use Rattle.krl_types.specs.Subject.{Subject}
use Rattle.krl_entries.specs.Reasons.{IsReason, every_reason, has_reason, name_asked, passes, position_of, reasons_by, reasons_of}
use Rattle.krl_entries.specs.Tested.{entry_names, some_names}
use Rattle.krl_entries.specs.declared.reasons.Reason.{Reason}
use Rattle.krl_entries.specs.declared.reasons.Reason.TheVariants as kinds
use Rattle.krl_entries.specs.declared.reasons.Reasons.{Reasons}
use Rattle.krl_entries.proofs.ReasonBits.{reason_bit}
use Rattle.krl_entries.proofs.ReasonTests.{reasons_named}
use Rattle.text_index.specs.Explaining.{explains, gives, unnamed_by}
use Rattle.text_index.specs.NamingLines.{NamingLine}
use Rattle.text_index.proofs.ReasonNames.{gives_is}

-- ---- a line

position_is : (reason : Reason) → slice_get every_reason (position_of reason) ≡ Some reason
position_is kinds.Key = refl
position_is kinds.KeySha1 = refl
position_is kinds.KeySha256 = refl
position_is kinds.Authority = refl
position_is kinds.AuthoritySha1 = refl
position_is kinds.AuthoritySha256 = refl
position_is kinds.Serial = refl
position_is kinds.SerialOfAll = refl
position_is kinds.KeyId = refl
position_is kinds.KeyIdOfAll = refl

some_passes : (f : Reason → Bool) (xs : List Reason) → list_any f xs ≡ true → (reason : Reason) × (f reason ≡ true)
some_passes f [] any = absurd (false≢true any)
some_passes f (x ∷ xs) any = by (f x) refl any (some_passes f xs)
  where
    by : (b : Bool) → f x ≡ b → (b || list_any f xs) ≡ true → (list_any f xs ≡ true → (reason : Reason) × (f reason ≡ true)) → (reason : Reason) × (f reason ≡ true)
    by true is any later = (x, is)
    by false is any later = later any

pub explains_meant : (asked : Subject) (reasons : Reasons) (line : NamingLine)
    → IsTrue (explains asked reasons line) ↔ ((reason : Reason) × IsTrue (has_reason reasons reason) × IsReason (line.entry ∷ []) asked reason)
unfolding explains
explains_meant asked reasons line = (found, given)
  where
    found : IsTrue (list_any (λ reason. has_reason reasons reason && gives asked reason line) every_reason)
        → (reason : Reason) × IsTrue (has_reason reasons reason) × IsReason (line.entry ∷ []) asked reason
    found any =
        let one = some_passes (λ reason. has_reason reasons reason && gives asked reason line) every_reason any in
        let both = and_parts (has_reason reasons one.0) (gives asked one.0 line) one.1 in
        (one.0, both.0, (reasons_named (line.entry ∷ []) asked one.0).0 both.1)

    given : (reason : Reason) × IsTrue (has_reason reasons reason) × IsReason (line.entry ∷ []) asked reason
        → IsTrue (list_any (λ reason. has_reason reasons reason && gives asked reason line) every_reason)
    given (reason, has, is) =
        any_passes_from_place (λ reason. has_reason reasons reason && gives asked reason line) every_reason (position_of reason) reason (position_is reason)
        (and_from (has_reason reasons reason) (gives asked reason line) has ((reasons_named (line.entry ∷ []) asked reason).1 is))

-- ---- a reason

entries_name : (name : Option Name) (lines : List NamingLine)
    → list_any (λ (line : NamingLine). passes (entry_names line.entry) name) lines ≡ passes (some_names (map (λ (line : NamingLine). line.entry) lines)) name
entries_name None [] = refl
entries_name None (line ∷ lines) = entries_name None lines
entries_name (Some name) [] = refl
entries_name (Some name) (line ∷ lines) = ap (λ (b : Bool). entry_names line.entry name || b) (entries_name (Some name) lines)

lines_give : (asked : Subject) (reason : Reason) (lines : List NamingLine)
    → list_any (gives asked reason) lines ≡ list_any (λ (line : NamingLine). passes (entry_names line.entry) (name_asked reason asked)) lines
lines_give asked reason [] = refl
lines_give asked reason (line ∷ lines) = rw (gives_is asked reason line, lines_give asked reason lines) refl

pub unnamed_meant : (lines : List NamingLine) (asked : Subject) (reasons : Reasons) (reason : Reason)
    → has_reason (unnamed_by lines asked reasons) reason
    ≡ (has_reason reasons reason && not (has_reason (reasons_of (map (λ (line : NamingLine). line.entry) lines) asked) reason))
unfolding unnamed_by reasons_by
unnamed_meant lines asked reasons reason =
    let entries = map (λ (line : NamingLine). line.entry) lines in
    let all : list_any (gives asked reason) lines ≡ has_reason (reasons_of entries asked) reason =
    lines_give asked reason lines ∙ entries_name (name_asked reason asked) lines
    ∙ sym (reason_bit (λ (r : Reason). passes (some_names entries) (name_asked r asked)) reason) in
    reason_bit (λ (r : Reason). has_reason reasons r && not (list_any (gives asked r) lines)) reason
    ∙ ap (λ (b : Bool). has_reason reasons reason && not b) all

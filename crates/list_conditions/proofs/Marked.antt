-- Keys that their lines mark as revoked.
use Rattle.std.proofs.Common.{◌≡◌, ℕ, ◌+◌, ◌<◌, ◌^◌, ◌∙◌, ap, arith, Bool, false, inl, inr, ◌⊎◌, length, List, None, Ok, Option, refl, Some, subst, suc, sym, true, [], ◌∷◌}
use Rattle.std.specs.List.{AllByRecursion}
use Rattle.key_text.specs.Armour.{begins_container}
use Rattle.key_text.specs.declared.marker.Marker.TheVariants as markers
use Rattle.krl_types.specs.Subject.{Subject}
use Rattle.krl_entries.specs.declared.reasons.Reasons.{Reasons}
use Rattle.krl_audit.specs.Audit.{file_kinds, file_lines, kind_of, kinds_of, or_whole, text_lines}
use Rattle.audit_lines.specs.Keyless.{keyless}
use Rattle.krl_audit.specs.Counts.{all_counted}
use Rattle.audit_lines.specs.Front.{fronts_of}
use Rattle.audit_lines.specs.Keyless.{keyless_lines, keyless_unless}
use Rattle.audit_lines.specs.Outcome.{Empty, Found, Key, Outcome, Outcomes, Placed, Unread, plain_lines}
use Rattle.audit_text.specs.Answer.{Answer, unexplained}
use Rattle.audit_text.specs.declared.line_kind.LineKind.{LineKind}
use Rattle.audit_text.specs.declared.line_kind.LineKind.TheVariants as kinds
use Rattle.list_conditions.specs.Check.{counts_of, none_counted, with_unread}
use Rattle.list_conditions.specs.Role.{AreMarked, HasKey, IsMarked, IsMarkedKey, MayBe, SomeMarked, is_met}
use Rattle.list_conditions.specs.declared.role.Role.TheVariants as roles
use Rattle.list_conditions.proofs.Counting.{law}

pub distrusted : (answers : Subject → Answer) (found : Found) → found.marker ≡ Some markers.Revoked → kind_of answers (Key found) ≡ kinds.Distrusted
distrusted answers found is = rw is refl

-- ---- the lines

may_be : (answers : Subject → Answer) (outcome : Outcome) → IsMarked outcome → MayBe roles.Keep (kind_of answers outcome)
may_be answers Empty marked = tt
may_be answers (Key found) marked = subst (λ (kind : LineKind). MayBe roles.Keep kind) (sym (distrusted answers found marked)) tt
may_be answers (Unread why) marked = absurd marked

all_may_be : (answers : Subject → Answer) (lines : List Placed) → AreMarked lines → AllByRecursion (MayBe roles.Keep) (kinds_of answers lines)
all_may_be answers [] marked = tt
all_may_be answers (line ∷ lines) marked = (may_be answers line.outcome marked.0, all_may_be answers lines marked.1)

-- a marked key is no canary
no_canary : (answers : Subject → Answer) (outcome : Outcome) → IsMarkedKey outcome → MayBe roles.Canary (kind_of answers outcome) → ⊥
no_canary answers Empty marked may = marked
no_canary answers (Key found) marked may = subst (λ (kind : LineKind). MayBe roles.Canary kind) (distrusted answers found marked) may
no_canary answers (Unread why) marked may = marked

no_canaries : (answers : Subject → Answer) (lines : List Placed) → SomeMarked lines → AllByRecursion (MayBe roles.Canary) (kinds_of answers lines) → ⊥
no_canaries answers [] some all = some
no_canaries answers (line ∷ lines) (inl marked) all = no_canary answers line.outcome marked all.0
no_canaries answers (line ∷ lines) (inr later) all = no_canaries answers lines later all.1

-- ---- a file

-- A file with a line that is not reported as unread is not reported as a whole.
abbrev IsByLines : List Placed → Type 0
IsByLines lines = AreMarked lines ⊎ SomeMarked lines

not_whole : (count : Option ℕ) (lines : List Outcomes) → IsByLines (or_whole count lines) → count ≡ None
not_whole None lines is = refl
not_whole (Some count) lines (inl marked) = absurd marked.0
not_whole (Some count) lines (inr (inl marked)) = absurd marked
not_whole (Some count) lines (inr (inr later)) = absurd later

line_by_line : (container : Bool) (name text : List ℕ) → IsByLines (text_lines container name text) → keyless_unless container name text ≡ None
line_by_line true name text is = refl
line_by_line false name text is = not_whole (keyless (plain_lines (fronts_of name) text)) (plain_lines (fronts_of name) text) is

counts_are : (reasons : Subject → Reasons) (name text : List ℕ) → IsByLines (file_lines (Some name) (Ok text)) → counts_of reasons name (Ok text) ≡ all_counted none_counted (kinds_of (unexplained reasons) (file_lines (Some name) (Ok text)))
unfolding file_lines keyless_lines file_kinds
counts_are reasons name text is =
    ap (λ (count : Option ℕ). with_unread count (all_counted none_counted (file_kinds (unexplained reasons) (Some name) (Ok text)))) (line_by_line (begins_container text) name text is)

not_true : (b : Bool) → (b ≡ true → ⊥) → b ≡ false
not_true true never = absurd (never refl)
not_true false never = refl

as_many : (answers : Subject → Answer) (lines : List Placed) → length (kinds_of answers lines) ≡ length lines
as_many answers [] = refl
as_many answers (line ∷ lines) = ap suc (as_many answers lines)

fit : (answers : Subject → Answer) (lines : List Placed) → length lines + 1 < 2 ^ 64 → length (kinds_of answers lines) + 1 < 2 ^ 64
fit answers lines room = omega (arith, room, as_many answers lines)

pub keep : (reasons : Subject → Reasons) (name text : List ℕ) → length (file_lines (Some name) (Ok text)) + 1 < 2 ^ 64 → AreMarked (file_lines (Some name) (Ok text)) → HasKey (file_kinds (unexplained reasons) (Some name) (Ok text))
    → is_met roles.Keep (counts_of reasons name (Ok text)) ≡ true
unfolding file_kinds
keep reasons name text room marked some =
    let lines : List Placed = file_lines (Some name) (Ok text) in
    let met : is_met roles.Keep (all_counted none_counted (kinds_of (unexplained reasons) lines)) ≡ true = (law roles.Keep (kinds_of (unexplained reasons) lines) (fit (unexplained reasons) lines room)).1 (all_may_be (unexplained reasons) lines marked, some) in
    ap (is_met roles.Keep) (counts_are reasons name text (inl marked)) ∙ met

pub canary : (reasons : Subject → Reasons) (name text : List ℕ) → length (file_lines (Some name) (Ok text)) + 1 < 2 ^ 64 → SomeMarked (file_lines (Some name) (Ok text)) → is_met roles.Canary (counts_of reasons name (Ok text)) ≡ false
canary reasons name text room some =
    let lines : List Placed = file_lines (Some name) (Ok text) in
    let counts = all_counted none_counted (kinds_of (unexplained reasons) lines) in
    let never : is_met roles.Canary counts ≡ true → ⊥ = λ met. no_canaries (unexplained reasons) lines some ((law roles.Canary (kinds_of (unexplained reasons) lines) (fit (unexplained reasons) lines room)).0 met).0 in
    ap (is_met roles.Canary) (counts_are reasons name text (inr some)) ∙ not_true (is_met roles.Canary counts) never

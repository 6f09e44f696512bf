-- The counts of lines, and the kinds of the lines.
use Rattle.std.proofs.Common.{◌≡◌, ℕ, ◌+◌, ◌<◌, ◌≤◌, ◌^◌, inl, inr, Bool, true, false, List, [], ◌∷◌, length, refl, sym, ap, ◌∙◌, arith}
use Rattle.std.specs.Prelude.{◌↔◌, ◌==◌, ◌||◌, nat_lt, if◌then◌else◌}
use Rattle.std.proofs.lemmas.Bool.{eq-eqb, eqb-true, false≢true, le-ltb, ltb-false}
use Rattle.std.proofs.lemmas.Bool.Decides.{eqb_tells}
use Rattle.std.specs.List.{AllByRecursion}
use Rattle.krl_audit.specs.Counts.{all_counted, counted, is_key, is_revoked_kind, is_unread_kind, one_more}
use Rattle.krl_audit.specs.declared.counts.Counts.{Counts}
use Rattle.audit_text.specs.declared.line_kind.LineKind.{LineKind}
use Rattle.audit_text.specs.declared.line_kind.LineKind.TheVariants as kinds
use Rattle.list_conditions.specs.Check.{none_counted}
use Rattle.list_conditions.specs.Role.{AreMet, HasKey, MayBe, are_right, is_met}
use Rattle.list_conditions.specs.declared.role.Role.{Role}
use Rattle.list_conditions.specs.declared.role.Role.TheVariants as roles

-- ---- the number of lines of a kind

add : Bool → ℕ → ℕ
add true n = 1 + n
add false n = n

count : (LineKind → Bool) → List LineKind → ℕ
count sort [] = 0
count sort (line ∷ lines) = add (sort line) (count sort lines)

one_more_is : (n : ℕ) (is_one : Bool) → n + 1 < 2 ^ 64 → one_more n is_one ≡ add is_one n
unfolding add
one_more_is n true fits = omega (arith, fits)
one_more_is n false fits = refl

moved : (is_one : Bool) (more n rest : ℕ) → more ≡ add is_one n → more + rest ≡ n + add is_one rest
unfolding add
moved true more n rest is = omega (arith, is)
moved false more n rest is = omega (arith, is)

fits_still : (is_one : Bool) (more n rest : ℕ) → more ≡ add is_one n → n + (1 + rest) < 2 ^ 64 → more + rest < 2 ^ 64
unfolding add
fits_still true more n rest is fits = omega (arith, is, fits)
fits_still false more n rest is fits = omega (arith, is, fits)

record AreCounted (old new : Counts) (lines : List LineKind) : Type 0 where
  keys : new.keys ≡ old.keys + count is_key lines
  revoked : new.revoked ≡ old.revoked + count is_revoked_kind lines
  unread : new.unread ≡ old.unread + count is_unread_kind lines

-- each line is counted, if the counts have room
are_counted : (old : Counts) (lines : List LineKind) → old.keys + length lines < 2 ^ 64 → old.revoked + length lines < 2 ^ 64 → old.unread + length lines < 2 ^ 64 → AreCounted old (all_counted old lines) lines
unfolding count
are_counted old [] keys revoked unread = record { keys = omega arith; revoked = omega arith; unread = omega arith }
are_counted old (line ∷ lines) keys revoked unread =
    let k = one_more_is old.keys (is_key line) (omega (arith, keys)) in
    let r = one_more_is old.revoked (is_revoked_kind line) (omega (arith, revoked)) in
    let u = one_more_is old.unread (is_unread_kind line) (omega (arith, unread)) in
    let next = counted old line in
    let rest =
    are_counted next lines (fits_still (is_key line) next.keys old.keys (length lines) k (omega (arith, keys))) (fits_still (is_revoked_kind line) next.revoked old.revoked (length lines) r (omega (arith, revoked)))
    (fits_still (is_unread_kind line) next.unread old.unread (length lines) u (omega (arith, unread))) in
    record {
      keys = rest.keys ∙ moved (is_key line) next.keys old.keys (count is_key lines) k;
      revoked = rest.revoked ∙ moved (is_revoked_kind line) next.revoked old.revoked (count is_revoked_kind lines) r;
      unread = rest.unread ∙ moved (is_unread_kind line) next.unread old.unread (count is_unread_kind lines) u;
    }

-- ---- the kinds of the lines, by these numbers

some_key : (lines : List LineKind) → HasKey lines → count is_key lines ≡ 0 → ⊥
unfolding count add
some_key [] has none = has
some_key (kinds.Empty ∷ lines) (inl is) none = absurd cc
some_key (kinds.Empty ∷ lines) (inr has) none = some_key lines has none
some_key (kinds.Unread ∷ lines) (inl is) none = absurd cc
some_key (kinds.Unread ∷ lines) (inr has) none = some_key lines has none
some_key (kinds.Distrusted ∷ lines) has none = omega (arith, none)
some_key (kinds.Fine ∷ lines) has none = omega (arith, none)
some_key (kinds.Revoked ∷ lines) has none = omega (arith, none)

key_there : (lines : List LineKind) → (count is_key lines ≡ 0 → ⊥) → HasKey lines
unfolding count add
key_there [] some = some refl
key_there (kinds.Empty ∷ lines) some = inr (key_there lines some)
key_there (kinds.Unread ∷ lines) some = inr (key_there lines some)
key_there (kinds.Distrusted ∷ lines) some = inl refl
key_there (kinds.Fine ∷ lines) some = inl refl
key_there (kinds.Revoked ∷ lines) some = inl refl

kept : (lines : List LineKind) → AllByRecursion (MayBe roles.Keep) lines → (count is_revoked_kind lines ≡ 0) × (count is_unread_kind lines ≡ 0)
unfolding count add
kept [] all = (refl, refl)
kept (kinds.Empty ∷ lines) all = kept lines all.1
kept (kinds.Distrusted ∷ lines) all = kept lines all.1
kept (kinds.Fine ∷ lines) all = kept lines all.1
kept (kinds.Revoked ∷ lines) all = absurd all.0
kept (kinds.Unread ∷ lines) all = absurd all.0

may_be_kept : (lines : List LineKind) → count is_revoked_kind lines ≡ 0 → count is_unread_kind lines ≡ 0 → AllByRecursion (MayBe roles.Keep) lines
unfolding count add
may_be_kept [] revoked unread = tt
may_be_kept (kinds.Empty ∷ lines) revoked unread = (tt, may_be_kept lines revoked unread)
may_be_kept (kinds.Distrusted ∷ lines) revoked unread = (tt, may_be_kept lines revoked unread)
may_be_kept (kinds.Fine ∷ lines) revoked unread = (tt, may_be_kept lines revoked unread)
may_be_kept (kinds.Revoked ∷ lines) revoked unread = absurd (omega (arith, revoked))
may_be_kept (kinds.Unread ∷ lines) revoked unread = absurd (omega (arith, unread))

fewer : (lines : List LineKind) → count is_revoked_kind lines ≤ count is_key lines
unfolding count add
fewer [] = omega arith
fewer (kinds.Empty ∷ lines) = fewer lines
fewer (kinds.Distrusted ∷ lines) = omega (arith, fewer lines)
fewer (kinds.Fine ∷ lines) = omega (arith, fewer lines)
fewer (kinds.Revoked ∷ lines) = omega (arith, fewer lines)
fewer (kinds.Unread ∷ lines) = fewer lines

canaries : (lines : List LineKind) → AllByRecursion (MayBe roles.Canary) lines → (count is_revoked_kind lines ≡ count is_key lines) × (count is_unread_kind lines ≡ 0)
unfolding count add
canaries [] all = (refl, refl)
canaries (kinds.Empty ∷ lines) all = canaries lines all.1
canaries (kinds.Distrusted ∷ lines) all = absurd all.0
canaries (kinds.Fine ∷ lines) all = absurd all.0
canaries (kinds.Revoked ∷ lines) all = let rest = canaries lines all.1 in (ap (λ (n : ℕ). 1 + n) rest.0, rest.1)
canaries (kinds.Unread ∷ lines) all = absurd all.0

may_be_canaries : (lines : List LineKind) → count is_revoked_kind lines ≡ count is_key lines → count is_unread_kind lines ≡ 0 → AllByRecursion (MayBe roles.Canary) lines
unfolding count add
may_be_canaries [] revoked unread = tt
may_be_canaries (kinds.Empty ∷ lines) revoked unread = (tt, may_be_canaries lines revoked unread)
may_be_canaries (kinds.Distrusted ∷ lines) revoked unread = absurd (omega (arith, revoked, fewer lines))
may_be_canaries (kinds.Fine ∷ lines) revoked unread = absurd (omega (arith, revoked, fewer lines))
may_be_canaries (kinds.Revoked ∷ lines) revoked unread = (tt, may_be_canaries lines (omega (arith, revoked)) unread)
may_be_canaries (kinds.Unread ∷ lines) revoked unread = absurd (omega (arith, unread))

-- ---- the test

-- The lines meet the condition, by the numbers of keys and of revoked keys.
abbrev AreRight : Role → ℕ → ℕ → Type 0
AreRight roles.Keep keys revoked = revoked ≡ 0
AreRight roles.Canary keys revoked = revoked ≡ keys

tested_right : (role : Role) (counts : Counts) → are_right role counts ≡ true ↔ AreRight role counts.keys counts.revoked
tested_right roles.Keep counts = (eqb-true counts.revoked 0, eq-eqb counts.revoked 0)
tested_right roles.Canary counts = (eqb-true counts.revoked counts.keys, eq-eqb counts.revoked counts.keys)

chosen : (none unread right : Bool) → (if none || unread then false else right) ≡ true → (none ≡ false) × (unread ≡ false) × (right ≡ true)
chosen true unread right e = absurd cc
chosen false true right e = absurd cc
chosen false false right e = (refl, refl, e)

choose : (none unread right : Bool) → none ≡ false → unread ≡ false → right ≡ true → (if none || unread then false else right) ≡ true
choose none unread right a b c = rw (a, b, c) refl

some_is : (n : ℕ) → (n == 0) ≡ false → n ≡ 0 → ⊥
some_is n other none = false≢true (sym other ∙ eq-eqb n 0 none)

is_some : (n : ℕ) → (n ≡ 0 → ⊥) → (n == 0) ≡ false
is_some n some = elim (eqb_tells n 0) [ inl none ↦ absurd (some none.1) | inr other ↦ other.0 ]

all_of : (role : Role) (lines : List LineKind) (counts : Counts) → AreCounted none_counted counts lines → AreRight role counts.keys counts.revoked → count is_unread_kind lines ≡ 0 → AllByRecursion (MayBe role) lines
all_of roles.Keep lines counts are right unread = may_be_kept lines (omega (arith, are.revoked, right)) unread
all_of roles.Canary lines counts are right unread = may_be_canaries lines (omega (arith, are.revoked, are.keys, right)) unread

numbers_of : (role : Role) (lines : List LineKind) (counts : Counts) → AreCounted none_counted counts lines → AllByRecursion (MayBe role) lines → AreRight role counts.keys counts.revoked × (count is_unread_kind lines ≡ 0)
numbers_of roles.Keep lines counts are all = let is = kept lines all in (omega (arith, are.revoked, is.0), is.1)
numbers_of roles.Canary lines counts are all = let is = canaries lines all in (omega (arith, are.revoked, are.keys, is.0), is.1)

met : (role : Role) (lines : List LineKind) (counts : Counts) → AreCounted none_counted counts lines → is_met role counts ≡ true → AreMet role lines
met role lines counts are e =
    let parts = chosen (counts.keys == 0) (nat_lt 0 counts.unread) (are_right role counts) e in
    let right = (tested_right role counts).0 parts.2 in
    let unread : count is_unread_kind lines ≡ 0 = omega (arith, are.unread, ltb-false 0 counts.unread parts.1) in
    let some : count is_key lines ≡ 0 → ⊥ = λ none. some_is counts.keys parts.0 (omega (arith, are.keys, none)) in
    (all_of role lines counts are right unread, key_there lines some)

met_by : (role : Role) (lines : List LineKind) (counts : Counts) → AreCounted none_counted counts lines → AreMet role lines → is_met role counts ≡ true
met_by role lines counts are is =
    let numbers = numbers_of role lines counts are is.0 in
    choose (counts.keys == 0) (nat_lt 0 counts.unread) (are_right role counts)
    (is_some counts.keys (λ none. some_key lines is.1 (omega (arith, are.keys, none))))
    (le-ltb 0 counts.unread (omega (arith, are.unread, numbers.1)))
    ((tested_right role counts).1 numbers.0)

pub law : (role : Role) (lines : List LineKind) → length lines + 1 < 2 ^ 64 → is_met role (all_counted none_counted lines) ≡ true ↔ AreMet role lines
law role lines room =
    let are = are_counted none_counted lines (omega (arith, room)) (omega (arith, room)) (omega (arith, room)) in
    (met role lines (all_counted none_counted lines) are, met_by role lines (all_counted none_counted lines) are)

-- Each line has exactly one outcome.
use Rattle.std.proofs.Common.{◌≡◌, ℕ, ◌≤◌, ◌<◌, ◌⊎◌, List, [], ◌∷◌, length, Option, Some, None, Result, Ok, Err, ap, arith, inl, inr, refl, subst, sym, suc, zero, ◌∙◌}
use Rattle.std.specs.Prelude.{option_map}
use Rattle.std.proofs.lemmas.Bool.{cases_eq, eq-eqb, ne_eqb}
use Rattle.login_lines.specs.Escapes.{Escapes, byte_at, escaped_at, escapes_nothing, letter_of, octal_at, octal_of}
use Rattle.login_lines.specs.Logins.{Reported, Signed, login_at}
use Rattle.login_lines.specs.declared.fault.LoginFault.{LoginFault}
use Rattle.login_lines.specs.declared.fault.LoginFault.TheVariants.{Malformed}
use Rattle.login_lines.proofs.EscapeLaws.{none_more, one_reading, only_more, read_escapes}
use Rattle.login_lines.proofs.Parts.{option_cases, some_is}
use Rattle.login_text.specs.Outcome.{IsId, IsOutcome, LacksId, Login, Other, Outcome, Unread}

-- ---- a text spells bytes, or none

less : (n : ℕ) (p q : ℕ × List ℕ) → Some p ≡ Some q → length p.1 < n → length q.1 < n
less n p q e small = subst (λ (r : ℕ × List ℕ). length r.1 < n) (some_is p q e) small

shorter : (text : List ℕ) (p : ℕ × List ℕ) → byte_at text ≡ Some p → length p.1 < length text
unfolding byte_at octal_at
shorter [] p e = absurd cc
shorter (x ∷ []) p e = elim (cases_eq x 92) [
  | inl slash ↦ absurd (let h = rw (eq-eqb x 92 slash) at e in cc)
  | inr other ↦ less (length (x ∷ [])) (x, []) p (rw (ne_eqb x 92 other) at e) (omega arith)
]
shorter (x ∷ y ∷ rest) p e = elim (cases_eq x 92) [
  | inr other ↦ less (length (x ∷ y ∷ rest)) (x, y ∷ rest) p (rw (ne_eqb x 92 other) at e) (omega arith)
  | inl slash ↦
      let read : escaped_at y rest (letter_of y) ≡ Some p = rw (eq-eqb x 92 slash) at e in
      elim (option_cases (letter_of y)) [
        | inr letter ↦ less (length (x ∷ y ∷ rest)) (letter.0, rest) p (sym (ap (escaped_at y rest) letter.1) ∙ read) (omega arith)
        | inl none ↦ digits rest (sym (ap (escaped_at y rest) none) ∙ read)
      ]
]
  where
    digits : (rest : List ℕ) → octal_at (y ∷ rest) ≡ Some p → length p.1 < length (x ∷ y ∷ rest)
    digits [] e = absurd cc
    digits (b ∷ []) e = absurd cc
    digits (b ∷ c ∷ rest) e = elim (option_cases (octal_of y b c)) [
      | inl no_byte ↦ absurd (let h = sym (ap (option_map (λ (k : ℕ). (k, rest))) no_byte) ∙ e in cc)
      | inr byte ↦ less (length (x ∷ y ∷ b ∷ c ∷ rest)) (byte.0, rest) p (sym (ap (option_map (λ (k : ℕ). (k, rest))) byte.1) ∙ e) (omega arith)
    ]

abbrev Spells : List ℕ → Type 0
Spells text = ((bytes : List ℕ) × Escapes text bytes) ⊎ ((bytes : List ℕ) → ¬ Escapes text bytes)

spells : (n : ℕ) (text : List ℕ) → length text ≤ n → Spells text
spells n [] small = inl ([], escapes_nothing)
spells zero (x ∷ text) small = absurd (omega arith)
spells (suc n) (x ∷ text) small = elim (option_cases (byte_at (x ∷ text))) [
  | inl none ↦ inr (none_more (x ∷ text) (x ∷ text) [] (omega arith) none (λ all is. (all, is, refl)))
  | inr read ↦ after read.0 read.1 (spells n read.0.1 (omega (arith, shorter (x ∷ text) read.0 read.1)))
]
  where
    after : (p : ℕ × List ℕ) → byte_at (x ∷ text) ≡ Some p → Spells p.1 → Spells (x ∷ text)
    after p read rest = elim rest [
      | inl spelled ↦ inl (p.0 ∷ spelled.0, read_escapes (x ∷ text) spelled.0 p read spelled.1)
      | inr none ↦ inr (λ bytes is. let more = only_more (x ∷ text) (x ∷ text) p.1 [] (p.0 ∷ []) p.0 read refl (λ all is. (all, is, refl)) bytes is in none more.0 more.1)
    ]

-- ---- a line has an outcome

abbrev HasId : Option Signed → Type 0
HasId signed = ((id : List ℕ) × IsId signed id) ⊎ ((id : List ℕ) → ¬ IsId signed id)

has_id : (signed : Option Signed) → HasId signed
has_id None = inl ([], refl)
has_id (Some signed) = spells (length signed.id) signed.id (omega arith)

abbrev HasOutcome : List ℕ → Type 0
HasOutcome line = (outcome : Outcome) × IsOutcome line outcome

of_login : (line : List ℕ) (login : Reported) → login_at line ≡ Ok (Some login) → HasId login.certificate → HasOutcome line
of_login line login is (inl known) = (Login login known.0, (is, known.1))
of_login line login is (inr none) = (Unread Malformed, inr (refl, record { login = login; reported = is; none = none }))

of_reading : (line : List ℕ) (read : Result (Option Reported) LoginFault) → login_at line ≡ read → HasOutcome line
of_reading line (Ok None) is = (Other, is)
of_reading line (Ok (Some login)) is = of_login line login is (has_id login.certificate)
of_reading line (Err fault) is = (Unread fault, inl is)

pub some_outcome : (line : List ℕ) → HasOutcome line
some_outcome line = of_reading line (login_at line) refl

-- ---- and no other

one_id : (signed : Option Signed) (a b : List ℕ) → IsId signed a → IsId signed b → a ≡ b
one_id None a b p q = p ∙ sym q
one_id (Some signed) a b p q = one_reading signed.id a b p q

same_login : (line : List ℕ) (a b : Reported) → login_at line ≡ Ok (Some a) → login_at line ≡ Ok (Some b) → a ≡ b
same_login line a b p q = cc

no_login : {A : Type 0} (line : List ℕ) (a : Reported) → login_at line ≡ Ok (Some a) → login_at line ≡ Ok None → A
no_login line a p q = absurd cc

no_fault : {A : Type 0} (line : List ℕ) (read : Option Reported) (fault : LoginFault) → login_at line ≡ Ok read → login_at line ≡ Err fault → A
no_fault line read fault p q = absurd cc

has_login : {A : Type 0} (line : List ℕ) (login : Reported) (id : List ℕ) (lacks : LacksId line) → login_at line ≡ Ok (Some login) → IsId login.certificate id → A
has_login line login id lacks is known =
    absurd (lacks.none id (subst (λ (l : Reported). IsId l.certificate id) (same_login line login lacks.login is lacks.reported) known))

pub one_outcome : (line : List ℕ) (a b : Outcome) → IsOutcome line a → IsOutcome line b → a ≡ b
one_outcome line Other Other p q = refl
one_outcome line Other (Login login id) p q = no_login line login q.0 p
one_outcome line Other (Unread fault) p (inl q) = no_fault line None fault p q
one_outcome line Other (Unread fault) p (inr q) = no_login line q.1.login q.1.reported p
one_outcome line (Login login id) Other p q = no_login line login p.0 q
one_outcome line (Login login id) (Login other text) p q =
    let same = same_login line login other p.0 q.0 in
    let known = subst (λ (l : Reported). IsId l.certificate id) same p.1 in
    ap (λ (l : Reported). Login l id) same ∙ ap (Login other) (one_id other.certificate id text known q.1)
one_outcome line (Login login id) (Unread fault) p (inl q) = no_fault line (Some login) fault p.0 q
one_outcome line (Login login id) (Unread fault) p (inr q) = has_login line login id q.1 p.0 p.1
one_outcome line (Unread fault) Other (inl p) q = no_fault line None fault q p
one_outcome line (Unread fault) Other (inr p) q = no_login line p.1.login p.1.reported q
one_outcome line (Unread fault) (Login login id) (inl p) q = no_fault line (Some login) fault q.0 p
one_outcome line (Unread fault) (Login login id) (inr p) q = has_login line login id p.1 q.0 q.1
one_outcome line (Unread fault) (Unread other) (inl p) (inl q) = ap Unread (same_fault fault other p q)
  where
    same_fault : (a b : LoginFault) → login_at line ≡ Err a → login_at line ≡ Err b → a ≡ b
    same_fault a b p q = cc
one_outcome line (Unread fault) (Unread other) (inl p) (inr q) = no_fault line (Some q.1.login) fault q.1.reported p
one_outcome line (Unread fault) (Unread other) (inr p) (inl q) = no_fault line (Some p.1.login) other p.1.reported q
one_outcome line (Unread fault) (Unread other) (inr p) (inr q) = ap Unread (p.0 ∙ sym q.0)

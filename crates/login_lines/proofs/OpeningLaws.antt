-- The kind of a message, by its first words.
use Rattle.std.proofs.Common.{◌≡◌, List, ℕ, ◌++◌, Option, Some, None, refl, ap, ◌∙◌, inl, inr, ◌⊎◌}
use Rattle.std.specs.Option.{option_or}
use Rattle.login_lines.specs.declared.opening.Opening.{Opening}
use Rattle.login_lines.specs.declared.opening.Opening.TheVariants.{Publickey, Hostbased}
use Rattle.login_lines.specs.declared.opening.Step.TheVariants.{Accepted, Partial}
use Rattle.login_lines.specs.Openings.{BeginsWith, opened_by, opening_at, opening_words}
use Rattle.login_lines.specs.Words.{after}
use Rattle.login_lines.proofs.Parts.{after_found, option_cases, some_is}

pub either_some : {A : Type 0} (a b : Option A) (x : A) → option_or a b ≡ Some x → (a ≡ Some x) ⊎ (b ≡ Some x)
either_some None b x e = inr e
either_some (Some y) b x e = inl e

pub opening_found : (message : List ℕ) (p : Opening × List ℕ) → opening_at message ≡ Some p
    → message ≡ opening_words p.0 ++ p.1
unfolding opening_at
opening_found message p e = elim (either_some (opened_by message (Publickey Accepted)) _ p e) [
  | inl accepted ↦ found (Publickey Accepted) accepted
  | inr other ↦ elim (either_some (opened_by message (Publickey Partial)) _ p other) [
    | inl partial ↦ found (Publickey Partial) partial
    | inr hostbased ↦ found Hostbased hostbased
  ]
]
  where
    found : (opening : Opening) → opened_by message opening ≡ Some p → message ≡ opening_words p.0 ++ p.1
    found opening e = elim (option_cases (after (opening_words opening) message)) [
      | inl none ↦ absurd (let h = rw none at e in cc)
      | inr text ↦
          let given : Opening × List ℕ = (opening, text.0) in
          let same : given ≡ p = some_is given p (rw text.1 at e) in
          after_found (opening_words opening) message text.0 text.1
          ∙ ap (λ (q : Opening × List ℕ). opening_words q.0 ++ q.1) same
    ]

pub opening_again : (message : List ℕ) (opening : Opening) (begins : BeginsWith message (opening_words opening))
    → opening_at message ≡ Some (opening, begins.0)
unfolding opening_at after
opening_again message opening begins = ap opening_at begins.1 ∙ read opening begins.0
  where
    read : (opening : Opening) (rest : List ℕ) → opening_at (opening_words opening ++ rest) ≡ Some (opening, rest)
    read (Publickey Accepted) rest = refl
    read (Publickey Partial) rest = refl
    read Hostbased rest = refl

pub none_opens : (message : List ℕ) → ((opening : Opening) → ¬ BeginsWith message (opening_words opening))
    → opening_at message ≡ None
none_opens message other = elim (option_cases (opening_at message)) [
  | inl none ↦ none
  | inr found ↦ absurd (other found.0.0 (found.0.1, opening_found message found.0 found.1))
]

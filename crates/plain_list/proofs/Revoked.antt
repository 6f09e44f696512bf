-- The entries of a plain list revoke the keys on its lines.
use Rattle.std.proofs.Common.{◌≡◌, ◌↔◌, ℕ, List, [], ◌∷◌, All, Option, Some, None, Result, Ok, Err, refl, ap, inl, inr}
use Rattle.std.specs.Prelude.{MatchOption}
use Rattle.std.proofs.lemmas.List.Elements.{All-head, All-tail}
use Rattle.ssh_wire.specs.Wire.{IsBytes}
use Rattle.keyed_lines.specs.declared.key_cause.KeyCause.{KeyCause}
use Rattle.krl_types.specs.Subject.{CertNames, Subject}
use Rattle.krl_types.specs.Naming.{IdOf, KeyOf, Name, SerialOf, Sha1Of, Sha256Of, SomeNames}
use Rattle.krl_entries.specs.Revoked.{KeyNamed}
use Rattle.krl_entries.specs.Revoked.{CertRevoked, Revoked}
use Rattle.krl_types.proofs.Elements.{some_cases, some_left, some_right}
use Rattle.plain_list.specs.Key.{line_key}
use Rattle.plain_list.specs.List.{entries_of, key_entries, line_entries}
use Rattle.plain_list.specs.Spelled.{IsRevokedByLine, IsOnLine, Revokes}

-- a name that is not a key's blob
abbrev IsOther : Name → Type 0
IsOther (KeyOf blob) = ⊥
IsOther name = Unit {0}

no_other : (read : Result (Option (List ℕ)) KeyCause) (name : Name) → IsOther name → SomeNames (key_entries read) name → ⊥
no_other (Ok None) name other named = named
no_other (Err cause) name other named = named
no_other (Ok (Some key)) (KeyOf blob) other named = other
no_other (Ok (Some key)) (SerialOf a s) other named = elim named [ inl wrong ↦ wrong | inr wrong ↦ wrong ]
no_other (Ok (Some key)) (IdOf a text) other named = elim named [ inl wrong ↦ wrong | inr wrong ↦ wrong ]
no_other (Ok (Some key)) (Sha1Of hash) other named = elim named [ inl wrong ↦ wrong | inr wrong ↦ wrong ]
no_other (Ok (Some key)) (Sha256Of hash) other named = elim named [ inl wrong ↦ wrong | inr wrong ↦ wrong ]

-- Entries of plain lists name no others.
none_named : (lines : List (List ℕ)) (name : Name) → IsOther name → SomeNames (entries_of lines) name → ⊥
unfolding entries_of
none_named [] name other named = named
none_named (line ∷ lines) name other named = elim (some_cases (line_entries line) (entries_of lines) name named) [
  | inl here ↦ no_other (line_key line) name other here
  | inr later ↦ none_named lines name other later
]

-- ---- keys

key_named : (read : Result (Option (List ℕ)) KeyCause) (blob : List ℕ) → SomeNames (key_entries read) (KeyOf blob) → read ≡ Ok (Some blob)
key_named (Ok None) blob named = absurd named
key_named (Err cause) blob named = absurd named
key_named (Ok (Some key)) blob named = elim named [ inl same ↦ ap (λ (b : List ℕ). Ok (Some b)) same | inr wrong ↦ absurd wrong ]

key_names : (read : Result (Option (List ℕ)) KeyCause) (blob : List ℕ) → read ≡ Ok (Some blob) → SomeNames (key_entries read) (KeyOf blob)
key_names read blob is = rw is (inl refl)

abbrev ReadAsSpelled : Type 0
ReadAsSpelled = (line : List ℕ) (key : Option (List ℕ)) → IsBytes line → (line_key line ≡ Ok key) ↔ Revokes line key

on_line : ReadAsSpelled → (lines : List (List ℕ)) (blob : List ℕ) → All IsBytes lines → SomeNames (entries_of lines) (KeyOf blob) → IsOnLine lines blob
unfolding entries_of
on_line law [] blob fits named = named
on_line law (line ∷ lines) blob fits named = elim (some_cases (line_entries line) (entries_of lines) (KeyOf blob) named) [
  | inl here ↦ inl ((law line (Some blob) (All-head IsBytes line lines fits)).0 (key_named (line_key line) blob here))
  | inr later ↦ inr (on_line law lines blob (All-tail IsBytes line lines fits) later)
]

named_by : ReadAsSpelled → (lines : List (List ℕ)) (blob : List ℕ) → All IsBytes lines → IsOnLine lines blob → SomeNames (entries_of lines) (KeyOf blob)
unfolding entries_of
named_by law [] blob fits is = is
named_by law (line ∷ lines) blob fits is = elim is [
  | inl here ↦ some_left (line_entries line) (entries_of lines) (KeyOf blob) (key_names (line_key line) blob ((law line (Some blob) (All-head IsBytes line lines fits)).1 here))
  | inr later ↦ some_right (line_entries line) (entries_of lines) (KeyOf blob) (named_by law lines blob (All-tail IsBytes line lines fits) later)
]

-- ---- what is revoked

module _ (law : ReadAsSpelled) (lines : List (List ℕ)) (fits : All IsBytes lines) where
  of_key : (blob : List ℕ) → KeyNamed (entries_of lines) blob → IsOnLine lines blob
  of_key blob named = elim named [
    | inl key ↦ on_line law lines blob fits key
    | inr hash ↦ elim hash [
      | inl one ↦ absurd (none_named lines (Sha1Of _) tt one)
      | inr other ↦ absurd (none_named lines (Sha256Of _) tt other)
    ]
  ]

  of_cert : (cert : Option CertNames) → CertRevoked (entries_of lines) cert → MatchOption cert ⊥ (λ cert. IsOnLine lines cert.authority)
  of_cert None revoked = revoked
  of_cert (Some cert) revoked = elim revoked [
    | inl key ↦ of_key cert.authority key
    | inr name ↦ elim name [
      | inl id ↦ elim id [
        | inl own ↦ absurd (none_named lines (IdOf _ _) tt own)
        | inr all ↦ absurd (none_named lines (IdOf _ _) tt all)
      ]
      | inr serial ↦ elim serial [
        | inl own ↦ absurd (none_named lines (SerialOf _ _) tt own)
        | inr all ↦ absurd (none_named lines (SerialOf _ _) tt all)
      ]
    ]
  ]

  to_cert : (cert : Option CertNames) → MatchOption cert ⊥ (λ cert. IsOnLine lines cert.authority) → CertRevoked (entries_of lines) cert
  to_cert None is = is
  to_cert (Some cert) is = inl (inl (named_by law lines cert.authority fits is))

  pub revoked_is_listed : (subject : Subject) → Revoked (entries_of lines) subject → IsRevokedByLine lines subject
  revoked_is_listed subject revoked = elim revoked [ inl key ↦ inl (of_key subject.plain key) | inr cert ↦ inr (of_cert subject.cert cert) ]

  pub listed_is_revoked : (subject : Subject) → IsRevokedByLine lines subject → Revoked (entries_of lines) subject
  listed_is_revoked subject is = elim is [ inl key ↦ inl (inl (named_by law lines subject.plain fits key)) | inr cert ↦ inr (to_cert subject.cert cert) ]

-- The length of a written list in bytes.
use Rattle.std.specs.Prelude.{ℕ, ◌+◌, ◌*◌, List, [], ◌∷◌, length}
use Rattle.krl_format.specs.declared.header.Header.{Header}
use Rattle.krl_plan.specs.declared.group.Group.{Group}
use Rattle.krl_entries.specs.Revocations.{Revocations, Section}
use Rattle.krl_plan.specs.Plan.{cost}

-- strings one after another, each with four bytes of length
abbrev pub strings_size : List (List ℕ) → ℕ
strings_size [] = 0
strings_size (text ∷ texts) = 4 + length text + strings_size texts

-- a type byte, a length and strings, if there are any
abbrev pub listed_size : List (List ℕ) → ℕ
listed_size [] = 0
listed_size (text ∷ texts) = 5 + strings_size (text ∷ texts)

-- a type byte, a length and hashes that take this many bytes each, if there are any
abbrev pub hashes_size : ℕ → List (List ℕ) → ℕ
hashes_size each [] = 0
hashes_size each (hash ∷ hashes) = 5 + each * length (hash ∷ hashes)

-- the section of an authority
abbrev pub authority_size : List Group → Section → ℕ
authority_size plan listed =
    13 + length listed.authority + cost listed.spans plan + listed_size listed.ids

-- the sections of authorities, with a plan for each
abbrev pub authorities_size : List (List Group) → List Section → ℕ
authorities_size [] listed = 0
authorities_size (plan ∷ plans) [] = 0
authorities_size (plan ∷ plans) (first ∷ listed) =
    authority_size plan first + authorities_size plans listed

-- the whole list
abbrev pub text_size : Header → List (List Group) → Revocations → ℕ
text_size header plans r =
    44 + length header.comment + authorities_size plans r.sections
    + listed_size r.keys + hashes_size 24 r.sha1s + hashes_size 36 r.sha256s

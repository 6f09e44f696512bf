-- The outcomes of a line, by the result of reading it.
use Rattle.std.proofs.Common.{◌≡◌, ◌⊎◌, ℕ, Bool, true, false, List, None, Some, Ok, Option, Result, if◌then◌else◌, refl, ap, ◌∙◌, inl, inr}
use Rattle.std.specs.Str.{bytes_eq}
use Rattle.std.proofs.lemmas.Slice.Eq.{bytes_eq-Decides}
use Rattle.key_text.specs.Blanks.{trimmed}
use Rattle.key_text.specs.KeyFile.{has_key}
use Rattle.key_text.specs.LineReading.{KeyLine, content, content_at, host_line_at, host_part, key_part, line_at}
use Rattle.key_text.specs.Marker.{marked_line_at, marker_of, unmarked}
use Rattle.key_text.specs.declared.line_fault.LineFault.{LineFault}
use Rattle.key_text.specs.declared.marker.Marker.{Marker}
use Rattle.krl_types.specs.Subject.{Subject}
use Rattle.ssh_cert.specs.SubjectReading.{subject_of}
use Rattle.audit_lines.specs.Outcome.{Empty, Found, HasFound, IsFound, Key, Outcome, Outcomes, Unread, by_either, by_hosts, by_options, has_zero_in_id, hosts_of, is_bare, is_same, is_same_part, line_outcome, merged, one, options_of, outcomes_of, part_outcome, two}
use Rattle.audit_lines.specs.declared.front.Fronts.{Fronts}
use Rattle.audit_lines.specs.declared.front.Fronts.TheVariants as fronts

pub nothing_there : (kind : Fronts) (text : List ℕ) → has_key text ≡ false → outcomes_of kind text ≡ one Empty
unfolding outcomes_of
nothing_there kind text has = rw has refl

pub options_read : (text : List ℕ) (read : Result KeyLine LineFault) → has_key text ≡ true → marker_of text ≡ None → line_at text ≡ read
    → outcomes_of fronts.Options text ≡ one (line_outcome None false (options_of (trimmed text)) read)
unfolding outcomes_of unmarked part_outcome line_at
options_read text read has none is = rw (has, none) (ap (λ (r : Result KeyLine LineFault). one (line_outcome None false (options_of (trimmed text)) r)) is)

pub hosts_read : (text : List ℕ) (read : Result KeyLine LineFault) → has_key text ≡ true → marker_of text ≡ None → host_line_at text ≡ read
    → outcomes_of fronts.Hosts text ≡ one (line_outcome None true (hosts_of (trimmed text)) read)
unfolding outcomes_of unmarked part_outcome host_line_at
hosts_read text read has none is = rw (has, none) (ap (λ (r : Result KeyLine LineFault). one (line_outcome None true (hosts_of (trimmed text)) r)) is)

pub marked_read : (kind : Fronts) (text : List ℕ) (marker : Marker) (read : Result KeyLine LineFault) → has_key text ≡ true → marker_of text ≡ Some marker → marked_line_at text ≡ read
    → outcomes_of kind text ≡ one (line_outcome (Some marker) true (hosts_of (trimmed (unmarked text))) read)
unfolding outcomes_of part_outcome host_line_at
marked_read kind text marker read has some is = rw (has, some) (ap (λ (r : Result KeyLine LineFault). one (line_outcome (Some marker) true (hosts_of (trimmed (unmarked text))) r)) is)

-- ---- a line that one may read in two ways

pick : (test : Bool) (a b : Outcomes) (blob : List ℕ) → HasFound a blob → HasFound b blob → HasFound (if test then a else b) blob
pick true a b blob one other = one
pick false a b blob one other = other

first_found : (a b : Outcome) (blob : List ℕ) → IsFound blob a → HasFound (merged a b) blob
unfolding merged
first_found Empty b blob found = absurd found
first_found (Unread why) b blob found = absurd found
first_found (Key found) b blob is =
    pick (is_bare b) (one (Key found)) (if is_same (Key found) b then one (Key found) else two (Key found) b) blob (inl is)
    (pick (is_same (Key found) b) (one (Key found)) (two (Key found) b) blob (inl is) (inl is))

same_or_two : (one_key other : Found) (blob : List ℕ) (same : Bool) → bytes_eq one_key.blob other.blob ≡ same → other.blob ≡ blob → HasFound (if same then one (Key one_key) else two (Key one_key) (Key other)) blob
same_or_two one_key other blob true same is = inl ((bytes_eq-Decides one_key.blob other.blob).0 same ∙ is)
same_or_two one_key other blob false same is = inr is

second_found : (a b : Outcome) (blob : List ℕ) → IsFound blob b → HasFound (merged a b) blob
unfolding merged
second_found a Empty blob found = absurd found
second_found a (Unread why) blob found = absurd found
second_found Empty (Key found) blob is = inr is
second_found (Key first) (Key found) blob is = same_or_two first found blob (bytes_eq first.blob found.blob) refl is
second_found (Unread why) (Key found) blob is = pick (is_bare (Unread why)) (one (Key found)) (two (Unread why) (Key found)) blob (inl is) (inr is)

same_parts : (a b : Option (List ℕ)) → is_same_part a b ≡ true → a ≡ b
same_parts None None same = refl
same_parts None (Some part) same = absurd cc
same_parts (Some part) None same = absurd cc
same_parts (Some part) (Some other) same = ap Some ((bytes_eq-Decides part other).0 same)

-- a part that spells a key gives it
part_found : (marker : Option Marker) (hosts : Bool) (line : List ℕ) (part : Option (List ℕ)) (word blob comment : List ℕ) (asked : Subject) → content_at part ≡ Ok (content word blob comment) → subject_of blob ≡ Ok asked
    → has_zero_in_id asked.cert ≡ false → IsFound blob (part_outcome marker hosts line part)
unfolding part_outcome
part_found marker hosts line part word blob comment asked is read no_zero = rw (is, read, no_zero) refl

either_by : (line : List ℕ) (same : Bool) → is_same_part (key_part line) (host_part line) ≡ same → (word blob comment : List ℕ) (asked : Subject)
    → (content_at (key_part line) ≡ Ok (content word blob comment)) ⊎ (content_at (host_part line) ≡ Ok (content word blob comment)) → subject_of blob ≡ Ok asked → has_zero_in_id asked.cert ≡ false
    → HasFound (if same then one (by_options line) else merged (by_options line) (by_hosts None line)) blob
either_by line true same word blob comment asked (inl is) read no_zero = inl (part_found None false line (key_part line) word blob comment asked is read no_zero)
either_by line true same word blob comment asked (inr is) read no_zero =
    inl (part_found None false line (key_part line) word blob comment asked (ap content_at (same_parts (key_part line) (host_part line) same) ∙ is) read no_zero)
either_by line false same word blob comment asked (inl is) read no_zero = first_found (by_options line) (by_hosts None line) blob (part_found None false line (key_part line) word blob comment asked is read no_zero)
either_by line false same word blob comment asked (inr is) read no_zero = second_found (by_options line) (by_hosts None line) blob (part_found None true line (host_part line) word blob comment asked is read no_zero)

pub either_found : (text word blob comment : List ℕ) (asked : Subject) → has_key text ≡ true → marker_of text ≡ None
    → (line_at text ≡ Ok (content word blob comment)) ⊎ (host_line_at text ≡ Ok (content word blob comment)) → subject_of blob ≡ Ok asked → has_zero_in_id asked.cert ≡ false
    → HasFound (outcomes_of fronts.Either text) blob
unfolding outcomes_of unmarked by_either line_at host_line_at
either_found text word blob comment asked has none is read no_zero =
    rw (has, none) (either_by (trimmed text) (is_same_part (key_part (trimmed text)) (host_part (trimmed text))) refl word blob comment asked is read no_zero)

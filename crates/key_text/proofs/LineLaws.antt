-- Reading a key line agrees with the relation: reading returns only key lines, and reads each key line.
use Rattle.std.proofs.Common.{◌≡◌, ℕ, true, List, Result, Ok, Err, refl, sym, ap, subst, ◌∙◌, inl, inr}
use Rattle.std.proofs.lemmas.Slice.Eq.{bytes_eq-Decides}
use Rattle.ssh_wire.specs.Reading.{string_at}
use Rattle.ssh_wire.specs.declared.fault.WireFault.{WireFault}
use Rattle.key_text.specs.declared.line_fault.LineFault.{LineFault}
use Rattle.key_text.specs.declared.line_fault.LineFault.TheVariants.{WordDiffers}
use Rattle.key_text.specs.KeyLine.{HasWords, IsKeyLine, base64}
use Rattle.key_text.specs.LineReading.{KeyLine, checked, content, decoded, has_word, is_string, line_at}
use Rattle.key_text.proofs.LineBase64.{decoded_again, decoded_takes}
use Rattle.key_text.proofs.TextWords.{IsBytes-words, none_or_words, words_read}
use Rattle.ssh_wire.specs.Wire.{BeginsWith, IsBytes}
use Rattle.ssh_wire.proofs.Steps.{ok_or_err, passed_ok}
use Rattle.ssh_wire.proofs.Fields.{string_read, string_takes}

-- ---- the first string of a key

abbrev Field : Type 0
Field = List ℕ × List ℕ

-- a key that begins with the string of a word has that word
pub word_again : (word blob : List ℕ) → BeginsWith blob word → has_word word blob ≡ true
unfolding has_word
word_again word blob begins = rw (string_read blob word begins) ((bytes_eq-Decides word word).1 refl)

is_string_takes : (word : List ℕ) (read : Result Field WireFault) → is_string word read ≡ true → (rest : List ℕ) × (read ≡ Ok (word, rest))
is_string_takes word (Err fault) e = absurd cc
is_string_takes word (Ok (first, rest)) e =
    let same : word ≡ first = (bytes_eq-Decides word first).0 e in
    (rest, ap (λ (xs : List ℕ). Ok (xs, rest)) (sym same))

pub word_takes : (word blob : List ℕ) → IsBytes blob → has_word word blob ≡ true → BeginsWith blob word
unfolding has_word
word_takes word blob fits e =
    let read = is_string_takes word (string_at blob) e in
    let taken = string_takes blob word read.0 fits read.1 in
    record { rest = read.0; spelled = taken.0.parts; fits = taken.1 }

-- ---- reading returns only key lines

pub checked_takes : (word : List ℕ) (read : Result (List ℕ) LineFault) (comment : List ℕ) (parts : KeyLine) → checked word read comment ≡ Ok parts → (read ≡ Ok parts.blob) × (has_word word parts.blob ≡ true) × (content word parts.blob comment ≡ parts)
checked_takes word (Err fault) comment parts e = absurd cc
checked_takes word (Ok blob) comment parts e =
    let g = passed_ok (has_word word blob) WordDiffers (content word blob comment) parts e in
    let blobs : blob ≡ parts.blob = ap (λ (p : KeyLine). p.blob) g.1 in
    (ap (λ (xs : List ℕ). Ok xs) blobs, sym (ap (has_word word) blobs) ∙ g.0, ap (λ (xs : List ℕ). content word xs comment) (sym blobs) ∙ g.1)

pub line_found : (text : List ℕ) (parts : KeyLine) → IsBytes text → line_at text ≡ Ok parts → IsKeyLine text parts.word parts.blob parts.comment
line_found text parts fits e = elim (none_or_words text) [
  | inl none ↦ absurd (ok_or_err parts _ (line_at text) e none)
  | inr has ↦
      let taken = checked_takes has.word (decoded has.encoded) has.comment parts (sym (words_read text has.word has.encoded has.comment has.words) ∙ e) in
      let encoded_fits = IsBytes-words text has.word has.encoded has.comment fits has.words in
      let blob = decoded_takes has.encoded parts.blob encoded_fits taken.0 in
      let is : IsKeyLine text has.word parts.blob has.comment = record {
        words = subst (λ (xs : List ℕ). HasWords text has.word xs has.comment) blob.0 has.words;
        bytes = blob.1;
        begins = word_takes has.word parts.blob blob.1 taken.1;
      } in
      subst (λ (p : KeyLine). IsKeyLine text p.word p.blob p.comment) taken.2 is
]

-- ---- reading reads each key line

pub line_again : (text word blob comment : List ℕ) → IsKeyLine text word blob comment → line_at text ≡ Ok (content word blob comment)
line_again text word blob comment k =
    let begins = word_again word blob k.begins in
    words_read text word (base64 blob) comment k.words ∙ rw (decoded_again blob k.bytes, begins) refl

-- Reading a line of known hosts agrees with the relation.
use Rattle.std.proofs.Common.{◌≡◌, ℕ, List, Ok, refl, sym, subst, ◌∙◌, inl, inr}
use Rattle.ssh_wire.specs.Wire.{IsBytes}
use Rattle.ssh_wire.proofs.Steps.{ok_or_err}
use Rattle.key_text.specs.Blanks.{trimmed}
use Rattle.key_text.specs.KeyLine.{IsHostLine, base64}
use Rattle.key_text.specs.LineReading.{KeyLine, content, decoded, host_line_at}
use Rattle.key_text.proofs.LineBase64.{decoded_again, decoded_takes}
use Rattle.key_text.proofs.LineLaws.{checked_takes, word_again, word_takes}
use Rattle.key_text.proofs.TextWords.{HasHostWords, IsBytes-host_words, host_none_or_words, host_words_read}

pub host_line_again : (text word blob comment : List ℕ) → IsHostLine text word blob comment → host_line_at text ≡ Ok (content word blob comment)
host_line_again text word blob comment k =
    let begins = word_again word blob k.begins in
    host_words_read text word (base64 blob) comment k.words ∙ rw (decoded_again blob k.bytes, begins) refl

pub host_line_found : (text : List ℕ) (parts : KeyLine) → IsBytes text → host_line_at text ≡ Ok parts → IsHostLine text parts.word parts.blob parts.comment
host_line_found text parts fits e = elim (host_none_or_words text) [
  | inl none ↦ absurd (ok_or_err parts _ (host_line_at text) e none)
  | inr has ↦
      let taken = checked_takes has.word (decoded has.encoded) has.comment parts (sym (host_words_read text has.word has.encoded has.comment has.words) ∙ e) in
      let encoded_fits = IsBytes-host_words text has.word has.encoded has.comment fits has.words in
      let blob = decoded_takes has.encoded parts.blob encoded_fits taken.0 in
      let is : IsHostLine text has.word parts.blob has.comment = record {
        words = subst (λ (xs : List ℕ). HasHostWords (trimmed text) has.word xs has.comment) blob.0 has.words;
        bytes = blob.1;
        begins = word_takes has.word parts.blob blob.1 taken.1;
      } in
      subst (λ (p : KeyLine). IsHostLine text p.word p.blob p.comment) taken.2 is
]

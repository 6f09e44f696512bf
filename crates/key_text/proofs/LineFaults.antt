-- Reading a line reports the first fault of the text, and each first fault is reported.
use Rattle.std.proofs.lemmas.Grind.{common_steps}
use Rattle.std.proofs.Common.{◌≡◌, ◌≢◌, ℕ, ◌⊎◌, false, List, Result, Ok, Err, IfErr, refl, sym, ap, subst, ◌∙◌, inl, inr, arith}
use Rattle.std.proofs.lemmas.Bool.{both_ways, cases_Bool}
use Rattle.ssh_wire.specs.Reading.{Answers}
use Rattle.key_text.specs.declared.line.Line.{Line}
use Rattle.key_text.specs.declared.line_fault.LineFault.{LineFault}
use Rattle.key_text.specs.declared.line_fault.LineFault.TheVariants.{NoKey, Base64, WordDiffers, NoMemory}
use Rattle.key_text.specs.KeyLine.{HasWords, base64}
use Rattle.key_text.specs.LineFaults.{EncodesOtherKey, HasBadBase64, HasSomeWords, IsFirstLineFault, IsReportedFault}
use Rattle.key_text.specs.LineReading.{ReportsFault, checked, content_of, decoded, has_word, line_at}
use Rattle.key_text.proofs.LineBase64.{decoded_again, decoded_cases, decoded_takes}
use Rattle.key_text.proofs.LineLaws.{word_again, word_takes}
use Rattle.key_text.proofs.TextWords.{IsBytes-words, none_or_words, words_read}
use Rattle.ssh_wire.specs.Wire.{BeginsWith, IsBytes}
use Rattle.ssh_wire.proofs.Steps.{ok_or_err}

-- ---- reading reports only the first fault

-- why the words of a text were refused
abbrev Refused : List ℕ → List ℕ → LineFault → Type 0
Refused word encoded fault =
    ((decoded encoded ≡ Err Base64) × (fault ≡ Base64))
    ⊎ ((blob : List ℕ) × (decoded encoded ≡ Ok blob) × (has_word word blob ≡ false) × (fault ≡ WordDiffers))

refused : (word encoded comment : List ℕ) (fault : LineFault) → checked word (decoded encoded) comment ≡ Err fault → Refused word encoded fault
refused word encoded comment fault e = grind (arith, common_steps, decoded_cases)

-- words are never refused with `NoKey`
words_key : (text : List ℕ) → HasSomeWords text → line_at text ≡ Err NoKey → ⊥
words_key text has e = elim (refused has.word has.encoded has.comment NoKey (sym (words_read text has.word has.encoded has.comment has.words) ∙ e)) [
  | inl bad ↦ let same = bad.1 in cc
  | inr read ↦ let same = read.3 in cc
]

no_base64 : (encoded : List ℕ) → decoded encoded ≡ Err Base64 → (blob : List ℕ) → IsBytes blob → base64 blob ≢ encoded
no_base64 encoded bad blob fits same = ok_or_err blob Base64 (decoded encoded) (ap decoded (sym same) ∙ decoded_again blob fits) bad

other_word : (word blob : List ℕ) → has_word word blob ≡ false → ¬ BeginsWith blob word
other_word word blob differs begins = both_ways (has_word word blob) differs (word_again word blob begins)

words_refused : (text : List ℕ) (fault : LineFault) → IsBytes text → HasSomeWords text → line_at text ≡ Err fault → IsFirstLineFault text fault
words_refused text fault fits has e = elim (refused has.word has.encoded has.comment fault (sym (words_read text has.word has.encoded has.comment has.words) ∙ e)) [
  | inl bad ↦
      let is : HasBadBase64 text = record { has = has; none = no_base64 has.encoded bad.0 } in
      subst (IsFirstLineFault text) (sym bad.1) is
  | inr read ↦
      let encoded_fits = IsBytes-words text has.word has.encoded has.comment fits has.words in
      let taken = decoded_takes has.encoded read.0 encoded_fits read.1 in
      let is : EncodesOtherKey text = record {
        word = has.word;
        blob = read.0;
        comment = has.comment;
        words = subst (λ (xs : List ℕ). HasWords text has.word xs has.comment) taken.0 has.words;
        bytes = taken.1;
        differs = other_word has.word read.0 read.2;
      } in
      subst (IsFirstLineFault text) (sym read.3) is
]

pub line_refused : (text : List ℕ) (fault : LineFault) → IsBytes text → line_at text ≡ Err fault → IsFirstLineFault text fault
line_refused text fault fits e = grind (arith, common_steps, none_or_words, words_key, words_refused)

-- ---- reading reports each first fault

pub first_line_fault_met : (text : List ℕ) (fault : LineFault) → IsBytes text → IsFirstLineFault text fault → line_at text ≡ Err fault
first_line_fault_met text NoKey fits none = elim (none_or_words text) [
  | inl met ↦ met
  | inr has ↦ absurd (none has)
]
first_line_fault_met text Base64 fits k =
    let has = k.has in
    let encoded_fits = IsBytes-words text has.word has.encoded has.comment fits has.words in
    elim (decoded_cases has.encoded) [
      | inl bad ↦ words_read text has.word has.encoded has.comment has.words ∙ rw bad refl
      | inr read ↦ absurd (let taken = decoded_takes has.encoded read.0 encoded_fits read.1 in k.none read.0 taken.1 (sym taken.0))
    ]
first_line_fault_met text WordDiffers fits k = elim (cases_Bool (has_word k.word k.blob)) [
  | inl begins ↦ absurd (k.differs (word_takes k.word k.blob k.bytes begins))
  | inr differs ↦ words_read text k.word (base64 k.blob) k.comment k.words ∙ rw (decoded_again k.blob k.bytes, differs) refl
]
first_line_fault_met text NoMemory fits k = absurd k

-- ---- the fault that is reported

pub is_reported : (text : List ℕ) (result : Result Line LineFault) → IsBytes text → Answers ReportsFault content_of result (line_at text) → IfErr result (IsReportedFault text)
is_reported text (Ok line) fits exact = tt
is_reported text (Err NoMemory) fits exact = elim (none_or_words text) [
  | inl none ↦ absurd (exact none)
  | inr has ↦ has
]
is_reported text (Err fault) fits exact = line_refused text fault fits exact

-- Blobs: reading a base64 word agrees with what it spells.
use Rattle.std.proofs.Common.{◌≡◌, ℕ, ◌+◌, ◌-◌, ◌*◌, ◌/◌, ◌%◌, ◌<◌, ◌≤◌, Bool, true, false, List, ◌++◌, Option, Some}
use Rattle.std.proofs.Common.{None, Result, Ok, Err, length, take, drop, min, replicate, append_assoc, refl, sym, ap}
use Rattle.std.proofs.Common.{◌∙◌, arith, inl, inr, length-append}
use Rattle.std.proofs.lemmas.Bool.{cases_lt, false≢true}
use Rattle.std.proofs.lemmas.List.{append-nil, drop_all, length-replicate, length-take, take-append-drop, take_all}
use Rattle.std.proofs.lemmas.List.{take_at}
use Rattle.std.specs.Result.{result_ok}
use Rattle.base64.proofs.EngineFacts.{encode_of-append, encode_of-nil}
use Rattle.base64.proofs.RoundTrip.{length-encode_symbols}
use Rattle.base64.specs.Engines.{standard}
use Rattle.base64.specs.GeneralPurpose.{engine_symbols}
use Rattle.base64.specs.Rfc4648.{encode_symbols, padding_len}
use Rattle.ssh_wire.proofs.Digits.{IsBytes-take}
use Rattle.ssh_wire.proofs.Fields.{length-string}
use Rattle.std.proofs.Math.Seq.{take-append-add}
use Rattle.ssh_wire.specs.Wire.{BeginsWith, IsBytes, string}
use Rattle.key_text.specs.KeyLine.{base64}
use Rattle.key_text.specs.LineReading.{decoded, has_word}
use Rattle.key_text.specs.declared.line_fault.LineFault.{LineFault}
use Rattle.key_text.proofs.LineBase64.{base64_some, decoded_again, decoded_cases, decoded_takes}
use Rattle.key_text.proofs.LineLaws.{word_again, word_takes}
use Rattle.key_places.specs.Blob.{IsBlobOf, StartsBlob, begins_as, blob_of, start_size, starts_blob}

-- ---- the whole word

pub blob_found : (word : List ℕ) → IsBytes word → IsBlobOf word (blob_of word)
unfolding blob_of
blob_found word fits = elim (decoded_cases word) [
  | inl refused ↦
      let none : result_ok (decoded word) ≡ None = rw refused refl in
      rw none (λ blob bytes same. let read = sym (decoded_again blob bytes) ∙ (ap decoded same ∙ refused) in absurd cc)
  | inr read ↦
      let some : result_ok (decoded word) ≡ Some read.0 = rw read.1 refl in
      let taken = decoded_takes word read.0 fits read.1 in
      rw some (sym taken.0, taken.1)
]

pub blob_again : (word : List ℕ) (blob : Option (List ℕ)) → IsBytes word → IsBlobOf word blob → blob_of word ≡ blob
unfolding blob_of
blob_again word None fits is = elim (decoded_cases word) [
  | inl refused ↦ rw refused refl
  | inr read ↦ let taken = decoded_takes word read.0 fits read.1 in absurd (is read.0 taken.1 (sym taken.0))
]
blob_again word (Some blob) fits is =
    ap (λ (xs : List ℕ). result_ok (decoded xs)) (sym is.0) ∙ rw (decoded_again blob is.1) refl

-- ---- the start of the word

pub starts_found : (word name : List ℕ) → IsBytes word → starts_blob name word ≡ true → StartsBlob word name
unfolding starts_blob
starts_found word name fits is = elim (decoded_cases (take (start_size name) word)) [
  | inl refused ↦ let none : false ≡ true = rw refused at is in absurd (false≢true none)
  | inr read ↦
      let has : has_word name read.0 ≡ true = rw read.1 at is in
      let taken =
      decoded_takes (take (start_size name) word) read.0 (IsBytes-take (start_size name) word fits) read.1 in
      record {
        start = read.0;
        bytes = taken.1;
        begins = word_takes name read.0 taken.1 has;
        rest = drop (start_size name) word;
        spelled = sym (take-append-drop (start_size name) word)
            ∙ ap (λ (xs : List ℕ). xs ++ drop (start_size name) word) taken.0;
      }
]

-- four symbols for each three bytes
length-base64 : (bytes : List ℕ) → length (base64 bytes) ≡ 4 * ((length bytes + 2) / 3)
unfolding base64
length-base64 bytes =
    let symbols = length-encode_symbols (engine_symbols standard) bytes in
    let padding : List ℕ = replicate (padding_len (length bytes)) 61 in
    omega (
      arith,
      symbols,
      length-append (encode_symbols (engine_symbols standard) bytes) padding,
      length-replicate {A = ℕ} (padding_len (length bytes)) 61,
    )

-- the base64 of a whole number of groups is the front of the base64
base64_front : (groups : ℕ) (bytes : List ℕ)
    → base64 bytes ≡ base64 (take (3 * groups) bytes) ++ base64 (drop (3 * groups) bytes)
unfolding base64
base64_front groups bytes = elim (cases_lt (3 * groups) (length bytes)) [
  | inl lt ↦
      let whole : length (take (3 * groups) bytes) % 3 ≡ 0 = rw length-take (omega arith) in
      ap base64 (sym (take-append-drop (3 * groups) bytes))
      ∙ encode_of-append standard (take (3 * groups) bytes) (drop (3 * groups) bytes) whole
  | inr le ↦ rw (take_all (3 * groups) bytes le, drop_all (3 * groups) bytes le, encode_of-nil standard)
      (sym (append-nil (base64 bytes)))
]

-- the front of bytes that begin with a string, if it is as long as the string
begins_front : (size : ℕ) (bytes name : List ℕ) → BeginsWith bytes name → length name + 4 ≤ size
    → BeginsWith (take size bytes) name
begins_front size bytes name begins long =
    let string_size : length (string name) ≡ 4 + length name = length-string name in
    let same : size ≡ length (string name) + (size - length (string name)) = omega arith in
    record {
      rest = take (size - length (string name)) begins.rest;
      spelled = ap (λ (n : ℕ). take n bytes) same
          ∙ (ap (take (length (string name) + (size - length (string name)))) begins.spelled
          ∙ take-append-add (string name) begins.rest (size - length (string name)));
      fits = begins.fits;
    }

length-start : (word name : List ℕ) (starts : StartsBlob word name)
    → length starts.start ≡ 4 + length name + length starts.begins.rest
length-start word name starts =
    ap length starts.begins.spelled
    ∙ (length-append (string name) starts.begins.rest
    ∙ ap (λ (n : ℕ). n + length starts.begins.rest) (length-string name))

pub starts_again : (word name : List ℕ) → StartsBlob word name → starts_blob name word ≡ true
unfolding starts_blob
starts_again word name starts =
    let groups : ℕ = (length name + 6) / 3 in
    let front : List ℕ = take (3 * groups) starts.start in
    let back : List ℕ = base64 (drop (3 * groups) starts.start) in
    let long = length-start word name starts in
    let size : length (base64 front) ≡ start_size name =
    omega (arith, length-base64 front, length-take (3 * groups) starts.start) in
    let whole : word ≡ base64 front ++ (back ++ starts.rest) =
    starts.spelled
    ∙ (ap (λ (xs : List ℕ). xs ++ starts.rest) (base64_front groups starts.start)
    ∙ append_assoc (base64 front) back starts.rest) in
    let taken : take (start_size name) word ≡ base64 front =
    ap (take (start_size name)) whole ∙ take_at (base64 front) (back ++ starts.rest) (start_size name) size in
    let read : decoded (take (start_size name) word) ≡ Ok front =
    ap decoded taken ∙ decoded_again front (IsBytes-take (3 * groups) starts.start starts.bytes) in
    rw read (word_again name front (begins_front (3 * groups) starts.start name starts.begins (omega arith)))

-- ---- the blob of a whole word

starts_with_word : (word name front : List ℕ) → decoded (take (start_size name) word) ≡ Ok front
    → starts_blob name word ≡ true → has_word name front ≡ true
unfolding starts_blob
starts_with_word word name front read starts = rw read at starts

begins_longer : (size : ℕ) (bytes name : List ℕ) → BeginsWith (take size bytes) name → BeginsWith bytes name
begins_longer size bytes name begins = record {
  rest = begins.rest ++ drop size bytes;
  spelled = sym (take-append-drop size bytes)
      ∙ (ap (λ (xs : List ℕ). xs ++ drop size bytes) begins.spelled
      ∙ append_assoc (string name) begins.rest (drop size bytes));
  fits = begins.fits;
}

-- the start of a word is no longer than the word
starts_long : (word name : List ℕ) → StartsBlob word name → 4 * ((length name + 6) / 3) ≤ length word
starts_long word name starts =
    let long = length-start word name starts in
    omega (arith, length-base64 starts.start, ap length starts.spelled, length-append (base64 starts.start) starts.rest)

-- a blob begins with the string of the name with which its word starts
pub blob_begins : (word name blob : List ℕ) → StartsBlob word name → IsBlobOf word (Some blob) → BeginsWith blob name
blob_begins word name blob starts is =
    let groups : ℕ = (length name + 6) / 3 in
    let front : List ℕ = take (3 * groups) blob in
    let back : List ℕ = base64 (drop (3 * groups) blob) in
    let whole : word ≡ base64 front ++ back = sym is.0 ∙ base64_front groups blob in
    let long : 4 * groups ≤ 4 * ((length blob + 2) / 3) =
    omega (arith, starts_long word name starts, ap length is.0, length-base64 blob) in
    let size : length (base64 front) ≡ start_size name =
    omega (arith, length-base64 front, length-take (3 * groups) blob) in
    let taken : take (start_size name) word ≡ base64 front =
    ap (take (start_size name)) whole ∙ take_at (base64 front) back (start_size name) size in
    let fits : IsBytes front = IsBytes-take (3 * groups) blob is.1 in
    let read : decoded (take (start_size name) word) ≡ Ok front = ap decoded taken ∙ decoded_again front fits in
    let has : has_word name front ≡ true = starts_with_word word name front read (starts_again word name starts) in
    begins_longer (3 * groups) blob name (word_takes name front fits has)

-- what the code tests: the front of the word, cut at its end
abbrev pub begins_bytes : List ℕ → Option (List ℕ) → Bool
begins_bytes name None = false
begins_bytes name (Some bytes) = has_word name bytes

begins_read : (name : List ℕ) (read : Result (List ℕ) LineFault)
    → begins_as name read ≡ begins_bytes name (result_ok read)
begins_read name (Err fault) = refl
begins_read name (Ok bytes) = refl

take_min : (size : ℕ) (word : List ℕ) → take (min size (length word)) word ≡ take size word
take_min size word = elim (cases_lt size (length word)) [
  | inl lt ↦ let same : min size (length word) ≡ size = omega arith in ap (λ (n : ℕ). take n word) same
  | inr le ↦ take_all (min size (length word)) word (omega arith) ∙ sym (take_all size word le)
]

pub starts_by : (name word : List ℕ) (size : ℕ) → size ≡ min (start_size name) (length word)
    → starts_blob name word ≡ begins_bytes name (blob_of (take size word))
unfolding starts_blob blob_of
starts_by name word size same =
    begins_read name (decoded (take (start_size name) word))
    ∙ ap (λ (xs : List ℕ). begins_bytes name (result_ok (decoded xs)))
    (sym (ap (λ (n : ℕ). take n word) same ∙ take_min (start_size name) word))

-- such a word is not empty
pub starts_some : (word name : List ℕ) → StartsBlob word name → 0 < length word
starts_some word name starts =
    let long = length-start word name starts in
    omega (
      arith,
      base64_some starts.start (omega arith),
      ap length starts.spelled,
      length-append (base64 starts.start) starts.rest,
    )

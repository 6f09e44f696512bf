-- Base64: its words have no blank and are not empty, and decoding reverses encoding and gives bytes.
use Rattle.std.proofs.lemmas.Grind.{common_steps}
use Rattle.std.proofs.Common.{◌≡◌, ℕ, ◌+◌, ◌*◌, ◌/◌, ◌%◌, ◌<◌, true, List, [], ◌∷◌, Result, Ok, Err, length, map, replicate, slice_index, refl, ap, arith, inl, inr, ◌⊎◌}
use Rattle.std.proofs.lemmas.Bool.{cases_lt}
use Rattle.std.proofs.lemmas.List.{get_or_past, length-append}
use Rattle.std.proofs.lemmas.List.Elements.{All-append, All-cons, All-nil, All-replicate}
use Rattle.std.proofs.lemmas.List.Sums.{AllPass-from_list_all}
use Rattle.std.specs.List.{AllPass}
use Rattle.base64.proofs.EngineFacts.{decode_of-encode_of, decode_of_strict}
use Rattle.base64.specs.Engines.{standard}
use Rattle.base64.specs.GeneralPurpose.{decode_of, engine_symbols}
use Rattle.base64.specs.Rfc4648.{encode_group, encode_symbols, padding_len}
use Rattle.base64.specs.declared.decode.DecodeError.{DecodeError}
use Rattle.ssh_wire.specs.Wire.{IsBytes}
use Rattle.ssh_wire.specs.Reading.{in_fault}
use Rattle.ssh_wire.proofs.Steps.{in_fault_ok}
use Rattle.key_text.specs.KeyLine.{base64}
use Rattle.key_text.specs.LineReading.{decoded, no_base64}
use Rattle.key_text.specs.declared.line_fault.LineFault.TheVariants.{Base64}
use Rattle.key_text.proofs.DecodedBytes.{IsBytes-decoded}
use Rattle.key_text.proofs.LineWords.{not_blank}

abbrev table : List ℕ
table = engine_symbols standard

-- ---- no blank

symbol : (i : ℕ) → not_blank (slice_index table i) ≡ true
symbol i = elim (cases_lt i 64) [
  | inl lt ↦ AllPass-from_list_all not_blank table refl i 0 lt
  | inr le ↦ ap not_blank (get_or_past table i 0 le)
]

abbrev Passes : ℕ → Type 0
Passes byte = not_blank byte ≡ true

symbols_of : (places : List ℕ) → AllPass not_blank (map (slice_index table) places)
symbols_of [] = All-nil Passes
symbols_of (i ∷ places) = All-cons Passes (slice_index table i) (map (slice_index table) places) (symbol i) (symbols_of places)

symbols : (bytes : List ℕ) → AllPass not_blank (encode_symbols table bytes)
unfolding encode_symbols
symbols [] = All-nil Passes
symbols (a ∷ []) = symbols_of (a / 4 ∷ a % 4 * 16 ∷ [])
symbols (a ∷ b ∷ []) = symbols_of (a / 4 ∷ (a % 4 * 16 + b / 16) ∷ b % 16 * 4 ∷ [])
symbols (a ∷ b ∷ c ∷ rest) =
    All-append Passes (encode_group table a b c) (encode_symbols table rest)
    (symbols_of (a / 4 ∷ (a % 4 * 16 + b / 16) ∷ (b % 16 * 4 + c / 64) ∷ c % 64 ∷ [])) (symbols rest)

pub base64_passes : (bytes : List ℕ) → AllPass not_blank (base64 bytes)
unfolding base64
base64_passes bytes = grind (arith, common_steps, All-append, All-replicate, Passes, replicate, symbols, table)

-- ---- not empty

some_symbols : (byte : ℕ) (bytes : List ℕ) → 0 < length (encode_symbols table (byte ∷ bytes))
unfolding encode_symbols
some_symbols a (b ∷ []) = omega arith
some_symbols a bytes = omega arith

pub base64_some : (bytes : List ℕ) → 0 < length bytes → 0 < length (base64 bytes)
unfolding base64
base64_some [] some = absurd (omega arith)
base64_some (byte ∷ bytes) some =
    let symbols : List ℕ = encode_symbols table (byte ∷ bytes) in
    let padding : List ℕ = replicate (padding_len (length (byte ∷ bytes))) 61 in
    omega (arith, some_symbols byte bytes, length-append symbols padding)

-- ---- encoding and decoding

pub decoded_again : (bytes : List ℕ) → IsBytes bytes → decoded (base64 bytes) ≡ Ok bytes
unfolding decoded base64
decoded_again bytes fits = ap (in_fault no_base64) (decode_of-encode_of standard bytes refl fits)

-- the decoded bytes do not depend on how a fault is reported
pub base64_takes : {F : Type 0} (words : DecodeError → F) (text bytes : List ℕ) → IsBytes text → in_fault words (decode_of standard text) ≡ Ok bytes → (text ≡ base64 bytes) × IsBytes bytes
unfolding base64
base64_takes words text bytes fits e =
    let read = in_fault_ok words (decode_of standard text) bytes e in
    (decode_of_strict standard text bytes (refl, refl) fits read, IsBytes-decoded text bytes fits read)

pub decoded_takes : (text bytes : List ℕ) → IsBytes text → decoded text ≡ Ok bytes → (text ≡ base64 bytes) × IsBytes bytes
unfolding decoded
decoded_takes text bytes fits e = base64_takes no_base64 text bytes fits e

cases : (read : Result (List ℕ) DecodeError) → (in_fault no_base64 read ≡ Err Base64) ⊎ ((bytes : List ℕ) × (in_fault no_base64 read ≡ Ok bytes))
cases (Err error) = inl refl
cases (Ok bytes) = inr (bytes, refl)

pub decoded_cases : (text : List ℕ) → (decoded text ≡ Err Base64) ⊎ ((bytes : List ℕ) × (decoded text ≡ Ok bytes))
unfolding decoded
decoded_cases text = grind (arith, common_steps, cases)

-- A printed SHA-256 has 50 bytes, and no parenthesis.
use Rattle.std.proofs.Common.{◌≡◌, ℕ, ◌+◌, ◌*◌, ◌/◌, ◌%◌, true, List, [], ◌∷◌, length, map, slice_index, refl, sym, ap}
use Rattle.std.proofs.Common.{subst, ◌∙◌, inl, inr}
use Rattle.std.proofs.lemmas.Bool.{cases_lt}
use Rattle.std.proofs.lemmas.List.{append-nil, get_or_past, length-append}
use Rattle.std.proofs.lemmas.List.Elements.{All-append, All-cons, All-nil}
use Rattle.std.proofs.lemmas.List.Sums.{AllPass-from_list_all}
use Rattle.base64.specs.Engines.{standard_no_pad}
use Rattle.base64.specs.GeneralPurpose.{engine_symbols}
use Rattle.base64.specs.Rfc4648.{encode_group, encode_symbols}
use Rattle.base64.proofs.RoundTrip.{length-encode_symbols}
use Rattle.key_text.specs.FingerprintReading.{IsFingerprint, sha256_prefix}
use Rattle.key_text.specs.Fingerprints.{unpadded}
use Rattle.login_lines.specs.Words.{is_no_parenthesis}
use Rattle.login_lines.proofs.Parts.{NoParenthesis}

abbrev table : List ℕ
table = engine_symbols standard_no_pad

symbol : (i : ℕ) → is_no_parenthesis (slice_index table i) ≡ true
symbol i = elim (cases_lt i 64) [
  | inl lt ↦ AllPass-from_list_all is_no_parenthesis table refl i 0 lt
  | inr le ↦ ap is_no_parenthesis (get_or_past table i 0 le)
]

abbrev Passes : ℕ → Type 0
Passes byte = is_no_parenthesis byte ≡ true

symbols_of : (places : List ℕ) → NoParenthesis (map (slice_index table) places)
symbols_of [] = All-nil Passes
symbols_of (i ∷ places) =
    All-cons Passes (slice_index table i) (map (slice_index table) places) (symbol i) (symbols_of places)

symbols : (bytes : List ℕ) → NoParenthesis (encode_symbols table bytes)
unfolding encode_symbols
symbols [] = All-nil Passes
symbols (a ∷ []) = symbols_of (a / 4 ∷ a % 4 * 16 ∷ [])
symbols (a ∷ b ∷ []) = symbols_of (a / 4 ∷ (a % 4 * 16 + b / 16) ∷ b % 16 * 4 ∷ [])
symbols (a ∷ b ∷ c ∷ rest) =
    All-append Passes (encode_group table a b c) (encode_symbols table rest)
    (symbols_of (a / 4 ∷ (a % 4 * 16 + b / 16) ∷ (b % 16 * 4 + c / 64) ∷ c % 64 ∷ [])) (symbols rest)

unpadded_is : (bytes : List ℕ) → unpadded bytes ≡ encode_symbols table bytes
unfolding unpadded
unpadded_is bytes = append-nil (encode_symbols table bytes)

pub print_size : (print digest : List ℕ) → IsFingerprint print digest → length print ≡ 50
print_size print digest is =
    let size : length (unpadded digest) ≡ 43 =
    ap length (unpadded_is digest) ∙ length-encode_symbols table digest ∙ ap (λ (n : ℕ). (4 * n + 2) / 3) is.size in
    ap length is.encodes.spelled ∙ length-append sha256_prefix (unpadded digest)
    ∙ ap (λ (n : ℕ). length sha256_prefix + n) size

pub print_passes : (print digest : List ℕ) → IsFingerprint print digest → NoParenthesis print
print_passes print digest is =
    let text : NoParenthesis (unpadded digest) = subst NoParenthesis (sym (unpadded_is digest)) (symbols digest) in
    subst NoParenthesis (sym is.encodes.spelled) (All-append Passes sha256_prefix (unpadded digest) (AllPass-from_list_all is_no_parenthesis sha256_prefix refl) text)

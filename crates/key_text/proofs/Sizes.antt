-- A key line and a container have more bytes than their key, and a fingerprint more than its digest.
use Rattle.std.proofs.lemmas.Grind.{common_steps}
use Rattle.std.proofs.Common.{◌≡◌, ℕ, ◌+◌, ◌*◌, ◌≤◌, Bool, true, false, List, [], ◌∷◌, ◌++◌, length, map, replicate, inl, inr, ap, arith}
use Rattle.std.specs.List.{Contains, concat, onto_first, slice_split}
use Rattle.std.proofs.lemmas.Bool.{cases_Bool}
use Rattle.std.proofs.lemmas.List.{length-append}
use Rattle.std.proofs.lemmas.List.Folds.{concat-append}
use Rattle.std.proofs.lemmas.List.Elements.{All-append, All-contains, All-map}
use Rattle.base64.specs.Engines.{standard, standard_no_pad}
use Rattle.base64.specs.Rfc4648.{encode, encode_group, encode_symbols, padding_len}
use Rattle.ssh_wire.specs.Wire.{string}
use Rattle.ssh_wire.proofs.Fields.{length-string}
use Rattle.ssh_key.proofs.Sizes.{name_room}
use Rattle.key_text.specs.Armour.{IsArmour, begin_line, end_line}
use Rattle.key_text.specs.Blanks.{before_ending, trimmed}
use Rattle.key_text.specs.Container.{HasParts, IsContainer, magic}
use Rattle.key_text.specs.FingerprintReading.{IsFingerprint}
use Rattle.key_text.specs.Fingerprints.{unpadded}
use Rattle.key_text.specs.KeyLine.{AreWords, HasWords, IsKeyLine, base64}
use Rattle.key_text.specs.Lines.{is_newline}
use Rattle.ssh_wire.specs.Rows.{Number, part_text}
use Rattle.key_text.specs.TypeName.{certificate_names, plain_names, type_names}
use Rattle.key_text.proofs.TrimmedTexts.{length-before_ending, length-trimmed}

-- ---- base64 has four symbols for three bytes

symbols_room : (table bytes : List ℕ) → 4 * length bytes ≤ 3 * length (encode_symbols table bytes)
unfolding encode_symbols
symbols_room table [] = omega arith
symbols_room table (a ∷ []) = omega arith
symbols_room table (a ∷ b ∷ []) = omega arith
symbols_room table (a ∷ b ∷ c ∷ rest) =
    omega (arith, symbols_room table rest, length-append (encode_group table a b c) (encode_symbols table rest))

pub encode_room : (table : List ℕ) (pad : ℕ) (padding : Bool) (bytes : List ℕ) → 4 * length bytes ≤ 3 * length (encode table pad padding bytes)
encode_room table pad true bytes =
    omega (arith, symbols_room table bytes, length-append (encode_symbols table bytes) (replicate (padding_len (length bytes)) pad))
encode_room table pad false bytes = omega (arith, symbols_room table bytes, length-append (encode_symbols table bytes) [])

pub base64_room : (bytes : List ℕ) → 4 * length bytes ≤ 3 * length (base64 bytes)
unfolding base64
base64_room bytes = encode_room standard.encode_table standard.padding.value standard.config.encode_padding bytes

unpadded_room : (bytes : List ℕ) → 4 * length bytes ≤ 3 * length (unpadded bytes)
unfolding unpadded
unpadded_room bytes = encode_room standard_no_pad.encode_table standard_no_pad.padding.value standard_no_pad.config.encode_padding bytes

-- ---- key lines

word_room : (word : List ℕ) → Contains type_names word → 7 ≤ length word
unfolding type_names plain_names certificate_names
word_room word among = grind (arith, common_steps, All-append, All-contains, All-map, name_room)

words_room : (line word blob comment : List ℕ) → AreWords line word (base64 blob) comment → 4 * length blob + 24 ≤ 3 * length line
words_room line word blob comment words =
    omega (
      arith,
      word_room word words.name,
      words.are_blanks.some,
      base64_room blob,
      ap length words.spelled,
      length-append word (words.blanks ++ (base64 blob ++ words.end)),
      length-append words.blanks (base64 blob ++ words.end),
      length-append (base64 blob) words.end,
    )

has_words_room : (text word blob comment : List ℕ) → HasWords text word (base64 blob) comment → 4 * length blob + 24 ≤ 3 * length (trimmed text)
has_words_room text word blob comment (inl words) = words_room (trimmed text) word blob comment words
has_words_room text word blob comment (inr following) =
    omega (
      arith,
      words_room following.part word blob comment following.are_words,
      ap length following.spelled,
      length-append following.options (following.blanks ++ following.part),
      length-append following.blanks following.part,
    )

-- A line has room for its type word, a blank and the base64 of its key.
pub line_room : (text word blob comment : List ℕ) → IsKeyLine text word blob comment → 4 * length blob + 24 ≤ 3 * length text
line_room text word blob comment is = omega (arith, has_words_room text word blob comment is.words, length-trimmed text)

-- ---- containers

onto_room : (byte : ℕ) (parts : List (List ℕ)) → length (concat (onto_first byte parts)) ≤ length (concat parts) + 1
onto_room byte [] = omega arith
onto_room byte (part ∷ parts) = omega arith

-- The lines of a text have at most its bytes.
pub split_room : (text : List ℕ) → length (concat (slice_split is_newline text)) ≤ length text
split_room [] = omega arith
split_room (byte ∷ text) = elim (cases_Bool (is_newline byte)) [
  | inl feed ↦ rw feed (omega (arith, split_room text))
  | inr other ↦ rw other (omega (arith, split_room text, onto_room byte (slice_split is_newline text)))
]

endings_room : (parts : List (List ℕ)) → length (concat (map before_ending parts)) ≤ length (concat parts)
endings_room [] = omega arith
endings_room (part ∷ parts) =
    omega (
      arith,
      endings_room parts,
      length-before_ending part,
      length-append part (concat parts),
      length-append (before_ending part) (concat (map before_ending parts)),
    )

armour_room : (text body : List ℕ) → IsArmour text body → length body + 35 ≤ length text
armour_room text body is =
    omega (
      arith,
      split_room text,
      endings_room (slice_split is_newline text),
      ap (λ (lines : List (List ℕ)). length (concat lines)) is.lines,
      ap length is.joined,
      length-append begin_line (concat (is.between ++ end_line ∷ is.after)),
      ap length (concat-append is.between (end_line ∷ is.after)),
      length-append (concat is.between) (concat (end_line ∷ is.after)),
    )

parts_room : (inside blob list : List ℕ) → HasParts inside blob list → length blob ≤ length inside
parts_room inside blob list (_, _, _, _, (c, r1, s1, p1, (k, r2, s2, p2, (o, r3, s3, p3, (n, r4, s4, p4, (b, r5, s5, p5, (l, r6, s6, p6, (same, left)))))))) =
    let is_blob : b ≡ blob = cc in
    omega (
      arith,
      ap length is_blob,
      ap length s1.spelled,
      ap length s2.spelled,
      ap length s3.spelled,
      ap length s4.spelled,
      ap length s5.spelled,
      length-append (string c) r1,
      length-append (string k) r2,
      length-append (string o) r3,
      length-append (part_text (Number 4) n) r4,
      length-append (string b) r5,
      length-string b,
    )

-- A container has room for its first line and the base64 of its key.
pub container_room : (text blob comment : List ℕ) → IsContainer text blob comment → 4 * length blob + 24 ≤ 3 * length text
container_room text blob comment is =
    omega (
      arith,
      parts_room is.inside blob is.list is.parts,
      length-append magic is.inside,
      base64_room (magic ++ is.inside),
      ap length is.holds.encoded,
      armour_room text is.holds.body is.holds.armour,
    )

-- ---- fingerprints

pub fingerprint_room : (text digest : List ℕ) → IsFingerprint text digest → 32 ≤ length text
fingerprint_room text digest is = grind (arith, common_steps, length-append, unpadded_room)

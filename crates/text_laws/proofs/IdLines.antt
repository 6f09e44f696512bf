-- Lines of key IDs.
use Rattle.std.proofs.lemmas.Grind.{common_steps}
use Rattle.std.proofs.Common.{◌≡◌, ◌≢◌, ℕ, ◌==◌, ◌&&◌, nat_eq, Bool, true, false, not, List, [], ◌∷◌, ◌++◌, length, codes, Contains, Option, Some, None, Ok, refl, sym, ap, subst, ◌∙◌, arith, inl, inr}
use Rattle.std.specs.Prelude.{is_some}
use Rattle.std.specs.List.{AllPass, ends_with, list_all, prefix_len, starts_with, suffix_len}
use Rattle.std.proofs.lemmas.Bool.{and_parts, cases_Bool, eqb-true, not-true, or_cases, or_parts}
use Rattle.std.proofs.lemmas.Bool.Decides.{Decides-eqb}
use Rattle.std.proofs.lemmas.List.{reverse-append}
use Rattle.std.proofs.lemmas.List.Elements.{All-contains, All-head, All-weaker, Contains-push}
use Rattle.std.proofs.lemmas.List.Folds.{list_any_none}
use Rattle.std.proofs.lemmas.List.Sums.{AllPass-from_list_all}
use Rattle.std.proofs.lemmas.Slice.Eq.{ends_is, starts_is}
use Rattle.hex.proofs.HexLemmas.{decode_of-encode_lower}
use Rattle.hex.specs.Hex.{encode_lower}
use Rattle.ssh_wire.specs.Wire.{IsBytes}
use Rattle.key_text.specs.Blanks.{is_ending}
use Rattle.krl_types.specs.Entry.{IdEntry}
use Rattle.krl_spec.specs.Blanks.{is_hash}
use Rattle.krl_spec.specs.Entries.{order_entry}
use Rattle.krl_spec.specs.declared.directive.Directive.TheVariants as directives
use Rattle.krl_spec.proofs.LongestParts.{no_cut}
use Rattle.list_text.specs.Text.{has_blank_end, id_line, is_text, is_text_byte, looks_otherwise, name_part}
use Rattle.text_entries.specs.KeyId.{has_control, is_control, is_cut, no_id}
use Rattle.text_entries.specs.Says.{Under}
use Rattle.text_entries.specs.Values.{bytes_in, has_zero}
use Rattle.text_entries.specs.Word.{word_named}
use Rattle.text_entries.specs.declared.standing.Standing.{Standing}
use Rattle.text_entries.specs.declared.text_cause.TextCause.{TextCause}
use Rattle.text_entries.specs.declared.word.Word.TheVariants as words
use Rattle.text_laws.specs.FactLines.{IsUnder}
use Rattle.text_laws.proofs.Contents.{IsName, IsValue, line_no_hash, line_of, solid_value}
use Rattle.text_laws.proofs.LineReads.{Reads, literal_name}
use Rattle.text_laws.proofs.Marks.{entry_reads, part_name}
use Rattle.text_laws.proofs.SolidBytes.{IsKept, hex_solid}

-- ---- a key ID as it is

abbrev IsTextByte : ℕ → Type 0
IsTextByte byte = is_text_byte byte ≡ true

text_kept : (byte : ℕ) → IsTextByte byte → IsKept byte
text_kept byte is = grind (arith, common_steps, and_parts, cases_Bool, eqb-true)

no_ending : (byte : ℕ) → IsTextByte byte → byte ≢ 32 → is_ending byte ≡ false
no_ending byte is other = grind (arith, common_steps, and_parts, cases_Bool, eqb-true, or_cases)

-- a list of bytes as those before the last and the last
record Ends (bytes : List ℕ) : Type 0 where
  front : List ℕ
  last : ℕ
  parts : bytes ≡ front ++ last ∷ []

ends_at : (byte : ℕ) (bytes : List ℕ) → Ends (byte ∷ bytes)
ends_at byte [] = record { front = []; last = byte; parts = refl }
ends_at byte (next ∷ bytes) =
    let later = ends_at next bytes in
    record { front = byte ∷ later.front; last = later.last; parts = ap (λ (xs : List ℕ). byte ∷ xs) later.parts }

last_stops : (p : ℕ → Bool) (front : List ℕ) (last : ℕ) → p last ≡ false → suffix_len p (front ++ last ∷ []) ≡ 0
last_stops p front last fails = ap (prefix_len p) (reverse-append front (last ∷ [])) ∙ rw fails refl

-- what is_text tests
record IsText (id : List ℕ) : Type 0 where
  some : id ≢ []
  no_start : starts_with nat_eq id (codes " ") ≡ false
  no_end : ends_with nat_eq id (codes " ") ≡ false
  is_id : no_id id ≡ None
  each : AllPass is_text_byte id

none_found : (found : Option TextCause) → is_some found ≡ false → found ≡ None
none_found None is = refl
none_found (Some cause) is = absurd cc

text_is : (id : List ℕ) → is_text id ≡ true → IsText id
text_is id is =
    let parts = and_parts (not (length id == 0)) (not (has_blank_end id) && (not (looks_otherwise id) && list_all is_text_byte id)) is in
    let others = and_parts (not (has_blank_end id)) (not (looks_otherwise id) && list_all is_text_byte id) parts.1 in
    let last = and_parts (not (looks_otherwise id)) (list_all is_text_byte id) others.1 in
    let blanks = or_parts (starts_with nat_eq id (codes " ")) (ends_with nat_eq id (codes " ")) (not-true (has_blank_end id) others.0) in
    record {
      some = λ none. let empty : not (length id == 0) ≡ false = rw none refl in cc;
      no_start = blanks.0;
      no_end = blanks.1;
      is_id = none_found (no_id id) (not-true (looks_otherwise id) last.0);
      each = AllPass-from_list_all is_text_byte id last.1;
    }

text_value : (id : List ℕ) → IsText id → IsValue id
text_value [] is = absurd (is.some refl)
text_value (byte ∷ id) is =
    let ends = ends_at byte id in
    let first : IsTextByte byte = All-head IsTextByte byte id is.each in
    let begins : byte ≢ 32 = λ blank. let met = (starts_is Decides-eqb (byte ∷ id) (codes " ") (starts_with nat_eq (byte ∷ id) (codes " ")) refl).1 id (ap (λ (b : ℕ). b ∷ id) blank) in cc in
    let last : IsTextByte ends.last = All-contains IsTextByte (byte ∷ id) ends.last is.each (subst (λ (xs : List ℕ). Contains xs ends.last) (sym ends.parts) (Contains-push ends.front ends.last)) in
    let stops : ends.last ≢ 32 = λ blank.
    let met = (ends_is Decides-eqb (byte ∷ id) (codes " ") (ends_with nat_eq (byte ∷ id) (codes " ")) refl).1 ends.front (ends.parts ∙ ap (λ (b : ℕ). ends.front ++ b ∷ []) blank) in cc in
    record {
      kept = All-weaker IsTextByte IsKept text_kept (byte ∷ id) is.each;
      starts = rw (no_ending byte first begins) refl;
      ends = ap (suffix_len is_ending) ends.parts ∙ last_stops is_ending ends.front ends.last (no_ending ends.last last stops);
    }

no_control : (byte : ℕ) → IsTextByte byte → is_control byte ≡ false
no_control byte is = grind (arith, common_steps, and_parts, cases_Bool, eqb-true, or_cases)

uncontrolled : (id : List ℕ) → IsText id → has_control id ≡ false
uncontrolled id is = list_any_none is_control id (All-weaker IsTextByte (λ byte. is_control byte ≡ false) no_control id is.each)

id_name : IsName (codes "id")
id_name = literal_name (codes "id") (omega arith) refl refl

id_word : word_named (codes "id") ≡ Some words.Id
unfolding word_named
id_word = refl

whole : (line : List ℕ) → AllPass (λ byte. not (is_hash byte)) line → is_cut line ≡ false
unfolding is_cut
whole line clean = rw (no_cut 35 line clean) refl

id_entry : (authority id : List ℕ) → id ≢ []
    → order_entry (Some authority) directives.Id id ≡ Ok (IdEntry authority id)
id_entry authority [] some = absurd (some refl)
id_entry authority (byte ∷ id) some = refl

plain_read : (standing : Standing) (named : Option (List ℕ)) (authority id : List ℕ) → IsUnder standing named authority → IsText id
    → Reads standing (name_part named ++ (codes "id: " ++ (id ++ codes "\n"))) (Under (IdEntry authority id))
plain_read standing named authority id under is =
    let kept = text_value id is in
    let before : List ℕ = name_part named ++ codes "id" in
    let uncut : is_cut (line_of before id []) ≡ false = whole (line_of before id []) (line_no_hash before id (part_name standing named authority (codes "id") under id_name) kept) in
    entry_reads standing named authority (codes "id") id (codes "id: " ++ (id ++ codes "\n")) words.Id (IdEntry authority id) under id_name kept id_word refl refl
    (rw (uncut, uncontrolled id is, is.is_id, id_entry authority id is.some) refl)

-- ---- a key ID by its bytes

hex_name : IsName (codes "id-hex")
hex_name = literal_name (codes "id-hex") (omega arith) refl refl

hex_word : word_named (codes "id-hex") ≡ Some words.IdHex
unfolding word_named
hex_word = refl

bytes_again : (id : List ℕ) → IsBytes id → bytes_in (encode_lower id) ≡ Ok id
unfolding bytes_in
bytes_again id bytes = rw (decode_of-encode_lower id bytes) refl

hex_read : (standing : Standing) (named : Option (List ℕ)) (authority id : List ℕ) → IsUnder standing named authority → IsBytes id → has_zero id ≡ false
    → Reads standing (name_part named ++ (codes "id-hex: " ++ (encode_lower id ++ codes "\n"))) (Under (IdEntry authority id))
hex_read standing named authority id under bytes whole =
    entry_reads standing named authority (codes "id-hex") (encode_lower id) (codes "id-hex: " ++ (encode_lower id ++ codes "\n")) words.IdHex (IdEntry authority id) under hex_name
    (solid_value (encode_lower id) (hex_solid id)) hex_word refl refl (rw (bytes_again id bytes, whole) refl)

-- ---- any key ID

pub id_reads : (standing : Standing) (named : Option (List ℕ)) (authority id : List ℕ) → IsUnder standing named authority → IsBytes id → has_zero id ≡ false
    → Reads standing (name_part named ++ id_line id) (Under (IdEntry authority id))
id_reads standing named authority id under bytes whole = elim (cases_Bool (is_text id)) [
  | inl text ↦ rw text (plain_read standing named authority id under (text_is id text))
  | inr other ↦ rw other (hex_read standing named authority id under bytes whole)
]

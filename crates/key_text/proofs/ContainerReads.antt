-- The results of reading the fields of a container, one after the other.
use Rattle.std.proofs.lemmas.Grind.{common_steps}
use Rattle.std.proofs.Common.{◌≡◌, ◌≢◌, ℕ, ◌+◌, ◌-◌, ◌<◌, ◌≤◌, Bool, true, false, List, [], ◌∷◌, ◌++◌, length, take, drop, get_or, codes, map, nat_eq, Option, Some, None, Ok, Err, Decides, refl, sym, ap, ◌∙◌, arith, append_assoc}
use Rattle.std.specs.Prelude.{option_map}
use Rattle.std.specs.List.{slice_split, starts_with}
use Rattle.std.specs.Str.{bytes_eq}
use Rattle.std.proofs.lemmas.Bool.{and_parts, eqb-true, false_from_ne_true}
use Rattle.std.proofs.lemmas.Bool.Decides.{same_from_decides}
use Rattle.std.proofs.lemmas.List.{append_cancel_left, ext_get_or, get_or_append_left, get_or-take, length-append, length-drop, length-take, nil_from_length, take-append-drop, take_all}
use Rattle.std.proofs.lemmas.List.FromFn.{get_or-range_with_len, length-range_with_len}
use Rattle.std.proofs.lemmas.Slice.Eq.{bytes_eq-Decides}
use Rattle.base64.specs.Engines.{standard}
use Rattle.base64.specs.GeneralPurpose.{decode_of}
use Rattle.base64.specs.declared.decode.DecodeError.{DecodeError}
use Rattle.ssh_wire.specs.declared.fault.WireFault.{WireFault}
use Rattle.ssh_wire.specs.Reading.{number_at, string_at}
use Rattle.ssh_key.specs.Key.{PublicKey}
use Rattle.ssh_key.specs.KeyReading.{key_at}
use Rattle.key_text.specs.Armour.{body_of, end_line, lines_of}
use Rattle.key_text.specs.Blanks.{before_ending}
use Rattle.key_text.specs.Lines.{is_newline}
use Rattle.key_text.specs.Container.{all_padding, beginning, is_plain, magic, outer}
use Rattle.key_text.specs.ContainerReading.{body_at, bytes_at, decoded_at, ended, inside_at, list_at, plain_values, same_at}
use Rattle.ssh_wire.specs.Rows.{table_at}
use Rattle.key_text.specs.declared.private_fault.PrivateFault.{PrivateFault}
use Rattle.key_text.specs.declared.private_fault.PrivateFault.TheVariants.{Base64, Wire}
use Rattle.key_text.proofs.ListLaws.{front_met, not_front}

-- ---- the parts

plain_is : (cipher derivation options : List ℕ) → is_plain cipher derivation options ≡ true → (cipher ≡ codes "none") × (derivation ≡ codes "none") × (options ≡ [])
plain_is cipher derivation options plain = grind (arith, common_steps, and_parts, bytes_eq-Decides, codes, eqb-true, nil_from_length)

pub parts_read : (bytes cipher r1 derivation r2 options r3 r4 blob r5 list r6 : List ℕ) (key : PublicKey) → string_at bytes ≡ Ok (cipher, r1) → string_at r1 ≡ Ok (derivation, r2) → string_at r2 ≡ Ok (options, r3) → is_plain cipher derivation options ≡ true → number_at 4 r3 ≡ Ok (1, r4) → string_at r4 ≡ Ok (blob, r5) → key_at blob ≡ Ok key → string_at r5 ≡ Ok (list, r6) → table_at Wire outer [] bytes ≡ Ok (plain_values blob list, r6)
unfolding table_at
parts_read bytes cipher r1 derivation r2 options r3 r4 blob r5 list r6 key e1 e2 e3 plain e4 e5 k e6 = grind (arith, common_steps, plain_is)

-- ---- two parts

pub joined_same : (first second bytes rest : List ℕ) → bytes ≡ first ++ rest → bytes_eq rest second ≡ bytes_eq (first ++ second) bytes
joined_same first second bytes rest e = grind (arith, common_steps, Decides, append_cancel_left, bytes_eq-Decides, same_from_decides)

pub joined_other : (first second bytes : List ℕ) → ((rest : List ℕ) → bytes ≢ first ++ rest) → false ≡ bytes_eq (first ++ second) bytes
joined_other first second bytes none = sym (false_from_ne_true (bytes_eq (first ++ second) bytes) (λ same. none second (sym ((bytes_eq-Decides (first ++ second) bytes).0 same))))

-- ---- the padding

length-all_padding : length all_padding ≡ 254
unfolding all_padding
length-all_padding = grind (arith, common_steps, length-range_with_len)

all_padding_at : (i : ℕ) → i < 254 → get_or all_padding i 0 ≡ i + 1
unfolding all_padding
all_padding_at i lt = let at = get_or-range_with_len 1 254 i 0 lt in omega arith

pub padding_too_long : (bytes : List ℕ) → 254 < length bytes → false ≡ starts_with nat_eq all_padding bytes
padding_too_long bytes long = sym (not_front all_padding bytes (λ rest e. let same = ap length e in let parts = length-append bytes rest in let all = length-all_padding in omega arith))

pub padding_other : (bytes : List ℕ) (i : ℕ) → i < length bytes → length bytes ≤ 254 → get_or bytes i 0 ≢ i + 1 → false ≡ starts_with nat_eq all_padding bytes
padding_other bytes i lt short other = sym (not_front all_padding bytes (λ rest e. other (sym (get_or_append_left bytes rest 0 i lt) ∙ ap (λ (l : List ℕ). get_or l i 0) (sym e) ∙ all_padding_at i (omega arith))))

pub padding_whole : (bytes : List ℕ) → length bytes ≤ 254 → ((k : ℕ) → k < length bytes → get_or bytes k 0 ≡ k + 1) → true ≡ starts_with nat_eq all_padding bytes
padding_whole bytes short each =
    let size : length bytes ≡ length (take (length bytes) all_padding) = omega (arith, length-take (length bytes) all_padding, length-all_padding) in
    let front : bytes ≡ take (length bytes) all_padding =
    ext_get_or 0 bytes (take (length bytes) all_padding) size (λ i lt. each i lt ∙ sym (get_or-take (length bytes) all_padding i 0 lt ∙ all_padding_at i (omega arith))) in
    sym (front_met all_padding bytes (drop (length bytes) all_padding) (sym (take-append-drop (length bytes) all_padding) ∙ ap (λ (l : List ℕ). l ++ drop (length bytes) all_padding) (sym front)))

-- ---- the private list

pub list_no_head : (key : PublicKey) (list : List ℕ) (fault : PrivateFault) → table_at Wire (beginning key.kind) [] list ≡ Err fault → list_at key list ≡ Err fault
unfolding list_at
list_no_head key list fault e = grind (arith, common_steps)

pub list_no_secret : (key : PublicKey) (list : List ℕ) (head : List (List ℕ) × List ℕ) (fault : PrivateFault) → table_at Wire (beginning key.kind) [] list ≡ Ok head → same_at key.kind key.fields head.1 ≡ Err fault → list_at key list ≡ Err fault
unfolding list_at
list_no_secret key list head fault e1 e2 = grind (arith, common_steps)

pub list_no_comment : (key : PublicKey) (list rest : List ℕ) (same : Bool) (head : List (List ℕ) × List ℕ) (why : WireFault) → table_at Wire (beginning key.kind) [] list ≡ Ok head → same_at key.kind key.fields head.1 ≡ Ok (same, rest) → string_at rest ≡ Err why → list_at key list ≡ Err (Wire why)
unfolding list_at
list_no_comment key list rest same head why e1 e2 e3 = grind (arith, common_steps)

pub list_ended : (key : PublicKey) (list rest comment padding : List ℕ) (same : Bool) (head : List (List ℕ) × List ℕ) → table_at Wire (beginning key.kind) [] list ≡ Ok head → same_at key.kind key.fields head.1 ≡ Ok (same, rest) → string_at rest ≡ Ok (comment, padding) → list_at key list ≡ ended same comment padding
unfolding list_at
list_ended key list rest comment padding same head e1 e2 e3 = grind (arith, common_steps)

-- ---- the lines between those of the armour

pub line_goes_on : (text line after : List ℕ) → slice_split is_newline text ≡ line ∷ slice_split is_newline after → bytes_eq (before_ending line) end_line ≡ false → body_of (lines_of text) ≡ option_map (λ body. before_ending line ++ body) (body_of (lines_of after))
line_goes_on text line after split other = ap (λ (lines : List (List ℕ)). body_of (map before_ending lines)) split ∙ rw other refl

pub size_grows : (line : List ℕ) (n : ℕ) (o : Option (List ℕ)) → option_map (λ k. n + k) (option_map length (option_map (λ body. line ++ body) o)) ≡ option_map (λ k. (n + length line) + k) (option_map length o)
size_grows line n None = refl
size_grows line n (Some body) = ap (λ (k : ℕ). Some k) (omega (arith, length-append line body))

pub counted_within : (n : ℕ) (line : List ℕ) (after rest whole : ℕ) → n + rest ≤ whole → length line + after + 1 ≤ rest → n + length (before_ending line) + after ≤ whole
unfolding before_ending
counted_within n line after rest whole within shorter = grind (arith, common_steps, length-take)

pub body_grows : (done line : List ℕ) (o : Option (List ℕ)) → option_map (λ body. done ++ body) (option_map (λ body. line ++ body) o) ≡ option_map (λ body. (done ++ line) ++ body) o
body_grows done line None = refl
body_grows done line (Some body) = ap (λ (b : List ℕ). Some b) (sym (append_assoc done line body))

-- ---- the base64

pub body_read : (body bytes : List ℕ) → decode_of standard body ≡ Ok bytes → body_at body ≡ bytes_at bytes
unfolding body_at decoded_at
body_read body bytes e = grind (arith, common_steps)

pub body_refused : (body : List ℕ) (error : DecodeError) → decode_of standard body ≡ Err error → body_at body ≡ Err Base64
unfolding body_at decoded_at
body_refused body error e = grind (arith, common_steps)

-- ---- after the name of the format

pub bytes_inside : (bytes : List ℕ) → starts_with nat_eq bytes magic ≡ true → inside_at (take (length bytes - 15) (drop 15 bytes)) ≡ bytes_at bytes
unfolding bytes_at
bytes_inside bytes met = grind (arith, common_steps, length-drop, take_all)

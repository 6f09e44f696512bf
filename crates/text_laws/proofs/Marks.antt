-- Lines that begin with `@` and the name of an authority.
use Rattle.std.proofs.Common.{◌≡◌, ℕ, ◌==◌, ◌&&◌, nat_lt, not, true, false, List, [], ◌∷◌, ◌++◌, length, Option, Some, None, Result, Ok, option_map, refl, sym, ap, ◌∙◌, arith, append_assoc, inl, inr}
use Rattle.std.specs.List.{AllPass, before_first, list_all, prefix_len}
use Rattle.std.proofs.lemmas.Bool.{and_parts, cases_Bool, eqb-true, false≢true, not-true}
use Rattle.std.proofs.lemmas.List.{drop_at}
use Rattle.std.proofs.lemmas.List.Elements.{All-append, All-cons, All-nil, All-push, All-weaker}
use Rattle.std.proofs.lemmas.List.Sums.{AllPass-from_list_all}
use Rattle.key_text.specs.Blanks.{after_blanks, is_blank}
use Rattle.krl_types.specs.Entry.{Entry}
use Rattle.krl_spec.specs.Blanks.{bare_line}
use Rattle.krl_spec.proofs.LongestParts.{first_gone}
use Rattle.list_text.specs.Text.{name_part}
use Rattle.text_entries.specs.AuthorityNames.{authority_named, is_name, is_name_byte}
use Rattle.text_entries.specs.Day.{has_day_in_comment, until_in}
use Rattle.text_entries.specs.Mark.{mark, mark_in}
use Rattle.text_entries.specs.Misspelt.{is_word_end}
use Rattle.text_entries.specs.Says.{Under, content_says, declares, line_says, mark_says, marked_entry, name_says, named_entry, under_says, word_says}
use Rattle.text_entries.specs.Values.{is_all}
use Rattle.text_entries.specs.Word.{Order, order, order_in, word_named}
use Rattle.text_entries.specs.declared.standing.Standing.{Standing}
use Rattle.text_entries.specs.declared.text_cause.TextCause.{TextCause}
use Rattle.text_entries.specs.declared.word.Word.{Word}
use Rattle.text_entries.proofs.LastDays.{marked_unordered}
use Rattle.text_laws.specs.FactLines.{IsUnder}
use Rattle.text_laws.proofs.Contents.{IsName, IsRest, IsValue, content_is, front_stops, line_of, line_undated, no_blank, nothing_left}
use Rattle.text_laws.proofs.DayWords.{not_misplaced}
use Rattle.text_laws.proofs.LineReads.{Reads, line_reads, plain_text}
use Rattle.text_laws.proofs.Orders.{behind_blanks, order_is, word_line_says}
use Rattle.text_laws.proofs.SolidBytes.{IsKept}

-- ---- the bytes of a name

abbrev IsNameByte : ℕ → Type 0
IsNameByte byte = is_name_byte byte ≡ true

abbrev IsNoColon : ℕ → Type 0
IsNoColon byte = not (byte == 58) ≡ true

-- The byte ends no word.
abbrev IsWithin : ℕ → Type 0
IsWithin byte = not (is_word_end byte) ≡ true

apart : (byte other : ℕ) → IsNameByte byte → is_name_byte other ≡ false → (byte == other) ≡ false
apart byte other is none = elim (cases_Bool (byte == other)) [
  | inl same ↦ absurd (false≢true (sym none ∙ ap is_name_byte (sym (eqb-true byte other same)) ∙ is))
  | inr differs ↦ differs
]

name_kept : (byte : ℕ) → IsNameByte byte → IsKept byte
name_kept byte is = rw (apart byte 10 is refl, apart byte 35 is refl) refl

name_no_colon : (byte : ℕ) → IsNameByte byte → IsNoColon byte
name_no_colon byte is = rw (apart byte 58 is refl) refl

name_within : (byte : ℕ) → IsNameByte byte → IsWithin byte
name_within byte is = rw (apart byte 58 is refl, apart byte 61 is refl, apart byte 32 is refl, apart byte 9 is refl) refl

-- a name that a line can give
record IsMark (name : List ℕ) : Type 0 where
  each : AllPass is_name_byte name
  not_all : is_all name ≡ false

mark_is : (name : List ℕ) → is_name name ≡ true → IsMark name
mark_is name is =
    let some = and_parts (not (length name == 0)) (not (nat_lt 64 (length name)) && (list_all is_name_byte name && not (is_all name))) is in
    let short = and_parts (not (nat_lt 64 (length name))) (list_all is_name_byte name && not (is_all name)) some.1 in
    let last = and_parts (list_all is_name_byte name) (not (is_all name)) short.1 in
    record { each = AllPass-from_list_all is_name_byte name last.0; not_all = not-true (is_all name) last.1 }

pub mark_name : (name : List ℕ) → is_name name ≡ true → IsName (64 ∷ name)
mark_name name is =
    let each = (mark_is name is).each in
    record {
      some = omega arith;
      kept = All-cons IsKept 64 name refl (All-weaker IsNameByte IsKept name_kept name each);
      starts = refl;
      no_colon = All-cons IsNoColon 64 name refl (All-weaker IsNameByte IsNoColon name_no_colon name each);
    }

-- the word of an entry, behind the name of its authority if it has one
pub part_name : (standing : Standing) (named : Option (List ℕ)) (authority word : List ℕ) → IsUnder standing named authority → IsName word → IsName (name_part named ++ word)
part_name standing None authority word under is = is
part_name standing (Some name) authority word under is =
    let marked = mark_name name under.0 in
    record {
      some = omega arith;
      kept = All-append IsKept (64 ∷ (name ++ 32 ∷ [])) word (All-push IsKept (64 ∷ name) 32 marked.kept refl) is.kept;
      starts = refl;
      no_colon = All-append IsNoColon (64 ∷ (name ++ 32 ∷ [])) word (All-push IsNoColon (64 ∷ name) 32 marked.no_colon refl) is.no_colon;
    }

-- ---- what a line says

mark_found : (name rest : List ℕ) → is_name name ≡ true → prefix_len (λ byte. not (is_word_end byte)) rest ≡ 0 → mark_in (64 ∷ (name ++ rest)) ≡ Some (mark name rest)
unfolding mark_in
mark_found name rest is stops =
    let before : before_first is_word_end (name ++ rest) ≡ name =
    first_gone is_word_end name rest (All-weaker IsNameByte IsWithin name_within name (mark_is name is).each) stops in
    rw before (ap (λ (behind : List ℕ). Some (mark name behind)) (drop_at name rest (length name) refl))

mark_endless : (rest : List ℕ) → until_in (64 ∷ rest) ≡ None
unfolding until_in
mark_endless rest = refl

-- a line with a mark
marked_says : (standing : Standing) (line name rest : List ℕ) → bare_line line ≡ 64 ∷ (name ++ rest) → is_name name ≡ true
    → prefix_len (λ byte. not (is_word_end byte)) rest ≡ 0 → has_day_in_comment line ≡ false
    → line_says standing line ≡ mark_says standing.names line name rest
unfolding line_says content_says
marked_says standing line name rest content is stops placed =
    let found : mark_in (bare_line line) ≡ Some (mark name rest) = ap mark_in content ∙ mark_found name rest is stops in
    let unordered = marked_unordered (bare_line line) (mark name rest) found in
    let endless : until_in (bare_line line) ≡ None = ap until_in content ∙ mark_endless (name ++ rest) in
    rw (endless, not_misplaced line (bare_line line) placed, unordered, found) refl

-- the line of an authority that is given a name
pub declared_says : (standing : Standing) (name value rest : List ℕ) → is_name name ≡ true → IsValue value → IsRest rest
    → line_says standing (line_of (64 ∷ name) value rest) ≡ name_says name (declares standing.names name value)
declared_says standing name value rest is kept left =
    let line : List ℕ = line_of (64 ∷ name) value rest in
    let content = content_is (64 ∷ name) value rest (mark_name name is) kept left in
    marked_says standing line name (58 ∷ (content.gap ++ value)) content.is is refl (line_undated (64 ∷ name) value rest (mark_name name is) kept left)
    ∙ ap (λ (given : List ℕ). name_says name (declares standing.names name given)) (behind_blanks content.gap value content.blanks (no_blank value kept.starts))

-- ---- entries

-- the line of an entry whose authority has a name
named_says : (standing : Standing) (name authority word value : List ℕ) (is : Word) → IsUnder standing (Some name) authority → IsName word → IsValue value → word_named word ≡ Some is
    → line_says standing (line_of (name_part (Some name) ++ word) value []) ≡ under_says (named_entry (Ok authority) (line_of (name_part (Some name) ++ word) value []) is value)
named_says standing name authority word value is under label kept found =
    let before : List ℕ = name_part (Some name) ++ word in
    let labelled = part_name standing (Some name) authority word under label in
    let line : List ℕ = line_of before value [] in
    let content = content_is before value [] labelled kept nothing_left in
    let behind : List ℕ = word ++ 58 ∷ (content.gap ++ value) in
    let parts : before ++ 58 ∷ (content.gap ++ value) ≡ 64 ∷ (name ++ 32 ∷ behind) =
    ap (λ (xs : List ℕ). 64 ∷ xs) (append_assoc (name ++ 32 ∷ []) word (58 ∷ (content.gap ++ value)) ∙ append_assoc name (32 ∷ []) behind) in
    let starts : after_blanks (32 ∷ behind) ≡ behind =
    behind_blanks (32 ∷ []) behind (All-cons (λ byte. is_blank byte ≡ true) 32 [] refl (All-nil (λ byte. is_blank byte ≡ true))) (front_stops is_blank word (58 ∷ (content.gap ++ value)) label.some (no_blank word label.starts)) in
    let ordered : order_in behind ≡ Some (order value is) =
    order_is word content.gap value label.no_colon content.blanks (no_blank value kept.starts) ∙ ap (option_map (order value)) found in
    let known : authority_named standing.names name ≡ Ok authority = rw ((mark_is name under.0).not_all, under.1) refl in
    marked_says standing line name (32 ∷ behind) (content.is ∙ parts) under.0 refl (line_undated before value [] labelled kept nothing_left)
    ∙ ap (λ (text : List ℕ). under_says (marked_entry standing.names line name (order_in text))) starts
    ∙ ap (λ (o : Option Order). under_says (marked_entry standing.names line name o)) ordered
    ∙ ap (λ (given : Result (List ℕ) TextCause). under_says (named_entry given line is value)) known

-- the line of an entry whose authority is current, or has this name
entry_says : (standing : Standing) (named : Option (List ℕ)) (authority word value : List ℕ) (is : Word) → IsUnder standing named authority → IsName word → IsValue value → word_named word ≡ Some is
    → under_says (named_entry (Ok authority) (line_of (name_part named ++ word) value []) is value) ≡ word_says (Some authority) (line_of (name_part named ++ word) value []) is value
    → line_says standing (line_of (name_part named ++ word) value []) ≡ word_says (Some authority) (line_of (name_part named ++ word) value []) is value
entry_says standing None authority word value is under label kept found same =
    word_line_says standing word value [] is label kept nothing_left found ∙ ap (λ (current : Option (List ℕ)). word_says current (line_of word value []) is value) under
entry_says standing (Some name) authority word value is under label kept found same = named_says standing name authority word value is under label kept found ∙ same

-- The text of an entry has the name of its authority before the word, if it has one.
pub entry_reads : (standing : Standing) (named : Option (List ℕ)) (authority word value text : List ℕ) (is : Word) (entry : Entry) → IsUnder standing named authority → IsName word → IsValue value → word_named word ≡ Some is
    → text ≡ word ++ 58 ∷ 32 ∷ (value ++ 10 ∷ [])
    → under_says (named_entry (Ok authority) (line_of (name_part named ++ word) value []) is value) ≡ word_says (Some authority) (line_of (name_part named ++ word) value []) is value
    → word_says (Some authority) (line_of (name_part named ++ word) value []) is value ≡ Ok (Under entry) → Reads standing (name_part named ++ text) (Under entry)
entry_reads standing named authority word value text is entry under label kept found spelled same says =
    let ended : name_part named ++ text ≡ line_of (name_part named ++ word) value [] ++ 10 ∷ [] =
    ap (λ (t : List ℕ). name_part named ++ t) spelled ∙ sym (append_assoc (name_part named) word (58 ∷ 32 ∷ (value ++ 10 ∷ []))) ∙ plain_text (name_part named ++ word) value in
    line_reads standing (name_part named ++ word) value [] (name_part named ++ text) (Under entry) (part_name standing named authority word under label) kept nothing_left ended
    (entry_says standing named authority word value is under label kept found same ∙ says)

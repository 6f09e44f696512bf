-- The text of a value has no line feed.
use Rattle.std.proofs.Common.{◌≡◌, ℕ, ◌+◌, ◌<◌, ◌≤◌, ◌^◌, ◌/◌, ◌%◌, ◌==◌, ◌&&◌, ◌||◌, Bool, true, false, cond, List, [], ◌∷◌, ◌++◌, decimal, nat_lt, refl, Option, Some, option_and_then, sym, ap, ◌∙◌, subst, arith}
use Rattle.std.specs.List.{All}
use Rattle.std.specs.Char.{digit_char}
use Rattle.std.proofs.lemmas.Bool.{ne_eqb}
use Rattle.std.proofs.lemmas.Fmt.{decimal_by_steps}
use Rattle.std.proofs.lemmas.List.Elements.{All-cons, All-nil}
use Rattle.std.proofs.lemmas.List.Splits.{slice_split_at}
use Rattle.json.specs.Json.{value as read_value, if_last, Json, array, boolean, document, max_depth, null, number, object, string, Items, item, no_items, Members, member, no_members}
use Rattle.json.specs.Lex.{Lexeme, fresh, punctuate}
use Rattle.json.specs.Print.{ends, escape, escape_byte, escape_letter, print, print_from, quoted, separator, token_text}
use Rattle.json.specs.Token as tokens
use Rattle.json.specs.Tree.{depth, HasNumbers, ItemsHaveNumbers, MembersHaveNumbers, items_tokens, json_tokens, members_tokens}
use Rattle.json.proofs.Printed.Decimals.{IsNumber-decimal}
use Rattle.json.proofs.Printed.Trees.{ArePrintable-json_tokens, document-print}
use Rattle.json_lines.specs.Controls.{alone, bytes_of, code_of, ends as ends_at, escaped_from, is_first, joins, may_be_control, next_of, spelled, written}
use Rattle.json_lines.specs.declared.escapes.Held.{Held}
use Rattle.json_lines.specs.declared.escapes.Held.TheVariants as held
use Rattle.json_lines.specs.Field.{json_text}
use Rattle.json_lines.specs.ReadBack.{HasCounts, IsReadBack, ItemsHaveCounts, MembersHaveCounts}
use Rattle.json_lines.proofs.Reread.{HaveSafeNumbers, print_same}
use Rattle.json_lines.proofs.Strings.{Safe, safe_append}

abbrev is_feed : ℕ → Bool
is_feed byte = byte == 10

-- no byte is a line feed
abbrev Free : List ℕ → Type 0
Free [] = Unit {0}
Free (byte ∷ text) = (is_feed byte ≡ false) × Free text

free_append : (a b : List ℕ) → Free a → Free b → Free (a ++ b)
free_append [] b first second = second
free_append (byte ∷ a) b first second = (first.0, free_append a b first.1 second)

free_pick : (test : Bool) (a b : List ℕ) → (test ≡ true → Free a) → (test ≡ false → Free b) → Free (cond test a b)
free_pick true a b one other = one refl
free_pick false a b one other = other refl

all_free : (text : List ℕ) → Free text → All (λ byte. is_feed byte ≡ false) text
all_free [] free = All-nil (λ byte. is_feed byte ≡ false)
all_free (byte ∷ text) free = All-cons (λ b. is_feed b ≡ false) byte text free.0 (all_free text free.1)

pick : (test : Bool) (a b : ℕ) → (test ≡ true → is_feed a ≡ false) → (test ≡ false → is_feed b ≡ false) → is_feed (cond test a b) ≡ false
pick true a b one other = one refl
pick false a b one other = other refl

-- ---- strings

digit_free : (d : ℕ) → is_feed (digit_char d) ≡ false
digit_free d = pick (nat_lt d 10) (48 + d) (87 + d) (λ _. ne_eqb (48 + d) 10 (λ e. omega arith)) (λ _. ne_eqb (87 + d) 10 (λ e. omega arith))

itself : (x : ℕ) → ((x == 34) || (x == 92)) ≡ true → is_feed x ≡ false
itself x is = ne_eqb x 10 (λ e. let bad : false ≡ true = subst (λ (y : ℕ). ((y == 34) || (y == 92)) ≡ true) e is in absurd cc)

letter_free : (x : ℕ) → is_feed (escape_letter x) ≡ false
letter_free x =
    pick ((x == 34) || (x == 92)) x _ (itself x)
    (λ _. pick (x == 8) 98 _ (λ _. refl) (λ _. pick (x == 12) 102 _ (λ _. refl) (λ _. pick (x == 10) 110 _ (λ _. refl) (λ _. pick (x == 13) 114 _ (λ _. refl) (λ _. pick (x == 9) 116 0 (λ _. refl) (λ _. refl))))))

plain_free : (x : ℕ) → nat_lt x 32 ≡ false → is_feed x ≡ false
plain_free x is = ne_eqb x 10 (λ e. let bad : true ≡ false = subst (λ (y : ℕ). nat_lt y 32 ≡ false) e is in absurd cc)

byte_free : (x : ℕ) → Free (escape_byte x)
unfolding escape_byte
byte_free x =
    free_pick (nat_lt 0 (escape_letter x)) (92 ∷ escape_letter x ∷ []) (cond (nat_lt x 32) (92 ∷ 117 ∷ 48 ∷ 48 ∷ digit_char (x / 16) ∷ digit_char (x % 16) ∷ []) (x ∷ [])) (λ _. (refl, (letter_free x, tt)))
    (λ _. free_pick (nat_lt x 32) (92 ∷ 117 ∷ 48 ∷ 48 ∷ digit_char (x / 16) ∷ digit_char (x % 16) ∷ []) (x ∷ []) (λ _. (refl, (refl, (refl, (refl, (digit_free (x / 16), (digit_free (x % 16), tt)))))))
    (λ plain. (plain_free x plain, tt)))

escape_free : (text : List ℕ) → Free (escape text)
escape_free [] = tt
escape_free (x ∷ xs) = free_append (escape_byte x) (escape xs) (byte_free x) (escape_free xs)

quoted_free : (text : List ℕ) → Free (quoted text)
quoted_free text = (refl, free_append (escape text) (34 ∷ []) (escape_free text) (refl, tt))

-- ---- numbers

decimal_free : (n : ℕ) → n < 2 ^ 64 → Free (decimal n)
decimal_free n small =
    decimal_by_steps (λ n ds. Free ds) (λ n below. (ne_eqb (48 + n) 10 (λ e. omega arith), tt))
    (λ n ds above rest. free_append ds ((48 + n % 10) ∷ []) rest (ne_eqb (48 + n % 10) 10 (λ e. omega arith), tt)) n small

-- ---- tokens

abbrev AreFree : List tokens.Token → Type 0
AreFree [] = Unit {0}
AreFree (t ∷ ts) = Free (token_text t) × AreFree ts

are_free_append : (a b : List tokens.Token) → AreFree a → AreFree b → AreFree (a ++ b)
are_free_append [] b first second = second
are_free_append (t ∷ ts) b first second = (first.0, are_free_append ts b first.1 second)

key_free : (name : List ℕ) → Free (token_text (tokens.key name))
key_free name = free_append (quoted name) (58 ∷ []) (quoted_free name) (refl, tt)

boolean_free : (b : Bool) → Free (token_text (tokens.boolean b))
boolean_free true = (refl, (refl, (refl, (refl, tt))))
boolean_free false = (refl, (refl, (refl, (refl, (refl, tt)))))

mutual
  tokens_free : (value : Json) → HasCounts value → AreFree (json_tokens value)
  tokens_free null has = ((refl, (refl, (refl, (refl, tt)))), tt)
  tokens_free (boolean b) has = (boolean_free b, tt)
  tokens_free (number text) has = (subst Free (sym has.1.1) (decimal_free has.0 has.1.0), tt)
  tokens_free (string text) has = (quoted_free text, tt)
  tokens_free (array items) has = ((refl, tt), items_free items has)
  tokens_free (object members) has = ((refl, tt), members_free members has)

  items_free : (items : Items) → ItemsHaveCounts items → AreFree (items_tokens items)
  items_free no_items has = ((refl, tt), tt)
  items_free (item one more) has = are_free_append (json_tokens one) (items_tokens more) (tokens_free one has.0) (items_free more has.1)

  members_free : (members : Members) → MembersHaveCounts members → AreFree (members_tokens members)
  members_free no_members has = ((refl, tt), tt)
  members_free (member name one more) has = (key_free name, are_free_append (json_tokens one) (members_tokens more) (tokens_free one has.0) (members_free more has.1))

separator_free : (test : Bool) → Free (cond test (44 ∷ []) [])
separator_free test = free_pick test (44 ∷ []) [] (λ _. (refl, tt)) (λ _. tt)

print_free : (after_value : Bool) (ts : List tokens.Token) → AreFree ts → Free (print_from after_value ts)
unfolding print_from
print_free after_value [] free = tt
print_free after_value (t ∷ ts) free =
    free_append (separator after_value t) (token_text t ++ print_from (ends t) ts) (separator_free _)
    (free_append (token_text t) (print_from (ends t) ts) free.0 (print_free (ends t) ts free.1))

-- ---- escapes of characters

spelled_free : (x : ℕ) (rest : List ℕ) → Free rest → Free (spelled x ++ rest)
spelled_free x rest free = (refl, (refl, (digit_free (x / 4096), (digit_free (x / 256 % 16), (digit_free (x / 16 % 16), (digit_free (x % 16), free))))))

held_free : (p : Held) → Free (bytes_of p)
held_free held.Nothing = tt
held_free held.Latin = (refl, tt)
held_free held.Arabic = (refl, tt)
held_free held.General = (refl, tt)
held_free held.Marks = (refl, (refl, tt))
held_free held.Isolates = (refl, (refl, tt))

alone_free : (x : ℕ) → is_feed x ≡ false → Free (alone x)
alone_free x is = free_pick (x == 127) (spelled 127) (cond (is_first x) [] (x ∷ [])) (λ _. spelled_free 127 [] tt) (λ _. free_pick (is_first x) [] (x ∷ []) (λ _. tt) (λ _. (is, tt)))

written_free : (p : Held) (x : ℕ) → is_feed x ≡ false → Free (written p x)
written_free p x is =
    free_pick (ends_at p x) (spelled (code_of p x)) (cond (joins p x) [] (bytes_of p ++ alone x)) (λ _. spelled_free (code_of p x) [] tt)
    (λ _. free_pick (joins p x) [] (bytes_of p ++ alone x) (λ _. tt) (λ _. free_append (bytes_of p) (alone x) (held_free p) (alone_free x is)))

escaped_free : (p : Held) (text : List ℕ) → Free text → Free (escaped_from p text)
unfolding escaped_from
escaped_free p [] free = held_free p
escaped_free p (x ∷ text) free = free_append (written p x) (escaped_from (next_of p x) text) (written_free p x free.0) (escaped_free (next_of p x) text free.1)

text_free : (value : Json) → HasCounts value → Free (json_text value)
unfolding json_text
text_free value has = escaped_free held.Nothing (print (json_tokens value)) (print_free false (json_tokens value) (tokens_free value has))

-- ---- numbers have no characters that are escaped

low_safe : (x : ℕ) → x < 127 → may_be_control x ≡ false
low_safe x small = rw (ne_eqb x 127 (λ e. omega arith), ne_eqb x 194 (λ e. omega arith), ne_eqb x 216 (λ e. omega arith), ne_eqb x 226 (λ e. omega arith)) refl

decimal_safe : (n : ℕ) → n < 2 ^ 64 → Safe (decimal n)
decimal_safe n small =
    decimal_by_steps (λ n ds. Safe ds) (λ n below. (low_safe (48 + n) (omega arith), tt))
    (λ n ds above rest. safe_append ds ((48 + n % 10) ∷ []) rest (low_safe (48 + n % 10) (omega arith), tt)) n small

safe_numbers_append : (a b : List tokens.Token) → HaveSafeNumbers a → HaveSafeNumbers b → HaveSafeNumbers (a ++ b)
safe_numbers_append [] b first second = second
safe_numbers_append (t ∷ ts) b first second = (first.0, safe_numbers_append ts b first.1 second)

mutual
  safe_numbers : (value : Json) → HasCounts value → HaveSafeNumbers (json_tokens value)
  safe_numbers null has = (tt, tt)
  safe_numbers (boolean b) has = (tt, tt)
  safe_numbers (number text) has = (subst Safe (sym has.1.1) (decimal_safe has.0 has.1.0), tt)
  safe_numbers (string text) has = (tt, tt)
  safe_numbers (array items) has = (tt, items_safe_numbers items has)
  safe_numbers (object members) has = (tt, members_safe_numbers members has)

  items_safe_numbers : (items : Items) → ItemsHaveCounts items → HaveSafeNumbers (items_tokens items)
  items_safe_numbers no_items has = (tt, tt)
  items_safe_numbers (item one more) has = safe_numbers_append (json_tokens one) (items_tokens more) (safe_numbers one has.0) (items_safe_numbers more has.1)

  members_safe_numbers : (members : Members) → MembersHaveCounts members → HaveSafeNumbers (members_tokens members)
  members_safe_numbers no_members has = (tt, tt)
  members_safe_numbers (member name one more) has =
      (tt, safe_numbers_append (json_tokens one) (members_tokens more) (safe_numbers one has.0) (members_safe_numbers more has.1))

-- ---- numbers are numbers of JSON

mutual
  has_numbers : (value : Json) → HasCounts value → HasNumbers value
  has_numbers null has = tt
  has_numbers (boolean b) has = tt
  has_numbers (number text) has = rw has.1.1 (IsNumber-decimal has.0 has.1.0)
  has_numbers (string text) has = tt
  has_numbers (array items) has = items_have_numbers items has
  has_numbers (object members) has = members_have_numbers members has

  items_have_numbers : (items : Items) → ItemsHaveCounts items → ItemsHaveNumbers items
  items_have_numbers no_items has = tt
  items_have_numbers (item one more) has = (has_numbers one has.0, items_have_numbers more has.1)

  members_have_numbers : (members : Members) → MembersHaveCounts members → MembersHaveNumbers members
  members_have_numbers no_members has = tt
  members_have_numbers (member name one more) has = (has_numbers one has.0, members_have_numbers more has.1)

abbrev read_lexemes : List Lexeme → Option Json
read_lexemes lexemes = option_and_then (λ p. if_last p.0 p.1) (read_value max_depth (punctuate fresh lexemes))

read_text : (value : Json) → HasCounts value → depth value ≤ max_depth → document (json_text value) ≡ Some value
unfolding json_text
read_text value has shallow =
    let numbers = has_numbers value has in
    ap read_lexemes (print_same false (json_tokens value) (ArePrintable-json_tokens value numbers) (safe_numbers value has)) ∙ document-print value numbers shallow

pub read_back : (value : Json) → HasCounts value → depth value ≤ max_depth → IsReadBack value
read_back value has shallow = record {
  one_line = slice_split_at is_feed (json_text value) 10 [] (all_free (json_text value) (text_free value has)) refl;
  read = read_text value has shallow;
}

-- A reader reads the same lexemes from the text of tokens with escapes for control characters.
use Rattle.std.proofs.Common.{◌≡◌, ℕ, Bool, true, false, cond, ◌&&◌, List, [], ◌∷◌, ◌++◌, refl, sym, ap, ap₂, ◌∙◌, append_assoc}
use Rattle.json.specs.Token.{Token, begin_object, end_object, begin_array, end_array, key, string, number, boolean, null, bad}
use Rattle.json.specs.Word.{ends_word, word}
use Rattle.json.specs.Lex.{token, comma, colon, string_token, lex, between}
use Rattle.json.specs.Print.{escape, quoted, token_text, begins, ends, print_from, IsPrintable, ArePrintable}
use Rattle.json.proofs.Printed.Strings.{content-escape, lex-escape}
use Rattle.json.proofs.Printed.Numbers.{lex-number, in_word-ended}
use Rattle.json_lines.specs.Controls.{escaped_from}
use Rattle.json_lines.specs.declared.escapes.Held.TheVariants as held
use Rattle.json_lines.proofs.Strings.{Safe, lex_string, read_string, safe_kept}

-- A number's text has no byte that may begin a character that is escaped.
abbrev pub HasSafeNumber : Token → Type 0
HasSafeNumber begin_object = Unit {0}
HasSafeNumber end_object = Unit {0}
HasSafeNumber begin_array = Unit {0}
HasSafeNumber end_array = Unit {0}
HasSafeNumber (key s) = Unit {0}
HasSafeNumber (string s) = Unit {0}
HasSafeNumber (number s) = Safe s
HasSafeNumber (boolean b) = Unit {0}
HasSafeNumber null = Unit {0}
HasSafeNumber bad = Unit {0}

abbrev pub HaveSafeNumbers : List Token → Type 0
HaveSafeNumbers [] = Unit {0}
HaveSafeNumbers (t ∷ ts) = HasSafeNumber t × HaveSafeNumbers ts

-- Both texts go on in the same way.
abbrev GoOn : List ℕ → Type 0
GoOn r = lex between (escaped_from held.Nothing r) ≡ lex between r

-- after a value stands a comma, a closing bracket or nothing
record Ended (r : List ℕ) : Type 0 where
  plain : ends_word r ≡ true
  escaped : ends_word (escaped_from held.Nothing r) ≡ true

value_ended : (ts : List Token) → Ended (print_from true ts)
unfolding print_from escaped_from
value_ended [] = record { plain = refl; escaped = refl }
value_ended (begin_object ∷ ts) = record { plain = refl; escaped = refl }
value_ended (end_object ∷ ts) = record { plain = refl; escaped = refl }
value_ended (begin_array ∷ ts) = record { plain = refl; escaped = refl }
value_ended (end_array ∷ ts) = record { plain = refl; escaped = refl }
value_ended (key s ∷ ts) = record { plain = refl; escaped = refl }
value_ended (string s ∷ ts) = record { plain = refl; escaped = refl }
value_ended (number s ∷ ts) = record { plain = refl; escaped = refl }
value_ended (boolean b ∷ ts) = record { plain = refl; escaped = refl }
value_ended (null ∷ ts) = record { plain = refl; escaped = refl }
value_ended (bad ∷ ts) = record { plain = refl; escaped = refl }

quoted_plain : (s r : List ℕ) → lex between (quoted s ++ r) ≡ token (string s) ∷ lex between r
unfolding lex
quoted_plain s r = ap (λ l. lex between (34 ∷ l)) (append_assoc (escape s) (34 ∷ []) r) ∙ ap₂ (λ o l. token (string_token o) ∷ l) (content-escape s r) (lex-escape s r)

quoted_escaped : (s r : List ℕ) → lex between (escaped_from held.Nothing (quoted s ++ r)) ≡ token (string s) ∷ lex between (escaped_from held.Nothing r)
unfolding lex escaped_from
quoted_escaped s r =
    ap (λ l. lex between (escaped_from held.Nothing (34 ∷ l))) (append_assoc (escape s) (34 ∷ []) r)
    ∙ ap₂ (λ o l. token (string_token o) ∷ l) (read_string held.Nothing s r) (lex_string held.Nothing s r)

quoted_same : (s r : List ℕ) → GoOn r → GoOn (quoted s ++ r)
quoted_same s r rest = quoted_escaped s r ∙ ap (λ l. token (string s) ∷ l) rest ∙ sym (quoted_plain s r)

colon_same : (r : List ℕ) → GoOn r → GoOn (58 ∷ r)
unfolding lex escaped_from
colon_same r rest = ap (λ l. colon ∷ l) rest

number_same : (s r : List ℕ) → IsPrintable (number s) → Safe s → Ended r → GoOn r → GoOn (s ++ r)
number_same s r is safe ended rest =
    ap (lex between) (safe_kept s r safe) ∙ lex-number s (escaped_from held.Nothing r) is ended.escaped ∙ ap (λ l. token (number s) ∷ l) rest ∙ sym (lex-number s r is ended.plain)

true_read : (r : List ℕ) → ends_word r ≡ true → lex between (116 ∷ 114 ∷ 117 ∷ 101 ∷ r) ≡ token (boolean true) ∷ lex between r
unfolding lex word
true_read r ended = ap₂ (λ b l. token (cond b (boolean true) bad) ∷ l) ended (in_word-ended r ended)

false_read : (r : List ℕ) → ends_word r ≡ true → lex between (102 ∷ 97 ∷ 108 ∷ 115 ∷ 101 ∷ r) ≡ token (boolean false) ∷ lex between r
unfolding lex word
false_read r ended = ap₂ (λ b l. token (cond b (boolean false) bad) ∷ l) ended (in_word-ended r ended)

null_read : (r : List ℕ) → ends_word r ≡ true → lex between (110 ∷ 117 ∷ 108 ∷ 108 ∷ r) ≡ token null ∷ lex between r
unfolding lex word
null_read r ended = ap₂ (λ b l. token (cond b null bad) ∷ l) ended (in_word-ended r ended)

token_same : (t : Token) (r : List ℕ) → IsPrintable t → HasSafeNumber t → (ends t ≡ true → Ended r) → GoOn r → GoOn (token_text t ++ r)
unfolding lex escaped_from
token_same begin_object r h safe ended rest = ap (λ l. token begin_object ∷ l) rest
token_same end_object r h safe ended rest = ap (λ l. token end_object ∷ l) rest
token_same begin_array r h safe ended rest = ap (λ l. token begin_array ∷ l) rest
token_same end_array r h safe ended rest = ap (λ l. token end_array ∷ l) rest
token_same (key s) r h safe ended rest =
    let after = append_assoc (quoted s) (58 ∷ []) r in
    ap (λ l. lex between (escaped_from held.Nothing l)) after ∙ quoted_same s (58 ∷ r) (colon_same r rest) ∙ sym (ap (lex between) after)
token_same (string s) r h safe ended rest = quoted_same s r rest
token_same (number s) r h safe ended rest = number_same s r h safe (ended refl) rest
token_same (boolean true) r h safe ended rest =
    true_read (escaped_from held.Nothing r) (ended refl).escaped ∙ ap (λ l. token (boolean true) ∷ l) rest ∙ sym (true_read r (ended refl).plain)
token_same (boolean false) r h safe ended rest =
    false_read (escaped_from held.Nothing r) (ended refl).escaped ∙ ap (λ l. token (boolean false) ∷ l) rest ∙ sym (false_read r (ended refl).plain)
token_same null r h safe ended rest = null_read (escaped_from held.Nothing r) (ended refl).escaped ∙ ap (λ l. token null ∷ l) rest ∙ sym (null_read r (ended refl).plain)
token_same bad r h safe ended rest = absurd h

separator_same : (b : Bool) (r : List ℕ) → GoOn r → GoOn (cond b (44 ∷ []) [] ++ r)
unfolding lex escaped_from
separator_same true r rest = ap (λ l. comma ∷ l) rest
separator_same false r rest = rest

ended_by : (b : Bool) (ts : List Token) → b ≡ true → Ended (print_from b ts)
ended_by true ts is = value_ended ts
ended_by false ts is = absurd cc

pub print_same : (c : Bool) (ts : List Token) → ArePrintable ts → HaveSafeNumbers ts → GoOn (print_from c ts)
unfolding print_from ArePrintable escaped_from lex
print_same c [] h safe = refl
print_same c (t ∷ ts) h safe =
    separator_same (c && begins t) (token_text t ++ print_from (ends t) ts)
    (token_same t (print_from (ends t) ts) h.0 safe.0 (ended_by (ends t) ts) (print_same (ends t) ts h.1 safe.1))

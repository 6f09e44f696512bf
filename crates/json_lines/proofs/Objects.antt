-- Fields, and the tokens of objects and arrays.
use Rattle.std.proofs.Common.{◌≡◌, ℕ, Bool, true, false, List, [], ◌∷◌, ◌++◌, refl, sym, ap, ◌∙◌, append_assoc, append-nil}
use Rattle.std.specs.Prelude.{IsUtf8}
use Rattle.std.specs.Str.{is_utf8}
use Rattle.std.proofs.lemmas.Str.{is_utf8-from_IsUtf8, IsUtf8-from_is_utf8}
use Rattle.std.proofs.lemmas.Grind.{flat_map-append}
use Rattle.json.specs.Json.{Json}
use Rattle.json.specs.Print.{print}
use Rattle.json.specs.Token.{Token, begin_array, begin_object, end_array, end_object, key}
use Rattle.json.specs.Tree.{items_tokens, json_tokens, members_tokens}
use Rattle.json_lines.specs.Controls.{escaped_controls}
use Rattle.json_lines.specs.Field.{Field, array_of, base64_field, field, field_tokens, fields_tokens, items_of, json_line, json_text, members_of, object_of, text_field, values_tokens, word_field}

-- ---- bytes as text

pub as_text : (name bytes : List ℕ) → IsUtf8 bytes → text_field name bytes ≡ word_field name bytes
unfolding text_field
as_text name bytes valid = rw (is_utf8-from_IsUtf8 bytes valid) refl

by_test : (name bytes : List ℕ) (test : Bool) → is_utf8 bytes ≡ test → (IsUtf8 bytes → ⊥) → text_field name bytes ≡ base64_field name bytes
unfolding text_field
by_test name bytes true is other = absurd (other (IsUtf8-from_is_utf8 bytes is))
by_test name bytes false is other = rw is refl

pub as_base64 : (name bytes : List ℕ) → (IsUtf8 bytes → ⊥) → text_field name bytes ≡ base64_field name bytes
as_base64 name bytes other = by_test name bytes (is_utf8 bytes) refl other

-- ---- tokens

pub fields_append : (a b : List Field) → fields_tokens (a ++ b) ≡ fields_tokens a ++ fields_tokens b
unfolding fields_tokens
fields_append a b = flat_map-append field_tokens a b

pub values_append : (a b : List Json) → values_tokens (a ++ b) ≡ values_tokens a ++ values_tokens b
unfolding values_tokens
values_append a b = flat_map-append json_tokens a b

members_written : (fields : List Field) → members_tokens (members_of fields) ≡ fields_tokens fields ++ end_object ∷ []
unfolding fields_tokens
members_written [] = refl
members_written (one ∷ more) = ap (λ (ts : List Token). field_tokens one ++ ts) (members_written more) ∙ sym (append_assoc (field_tokens one) (fields_tokens more) (end_object ∷ []))

items_written : (values : List Json) → items_tokens (items_of values) ≡ values_tokens values ++ end_array ∷ []
unfolding values_tokens
items_written [] = refl
items_written (one ∷ more) = ap (λ (ts : List Token). json_tokens one ++ ts) (items_written more) ∙ sym (append_assoc (json_tokens one) (values_tokens more) (end_array ∷ []))

pub object_written : (fields : List Field) → json_tokens (object_of fields) ≡ begin_object ∷ (fields_tokens fields ++ end_object ∷ [])
object_written fields = ap (λ (ts : List Token). begin_object ∷ ts) (members_written fields)

pub array_written : (values : List Json) → json_tokens (array_of values) ≡ begin_array ∷ (values_tokens values ++ end_array ∷ [])
array_written values = ap (λ (ts : List Token). begin_array ∷ ts) (items_written values)

-- ---- parts, one after the other

pub two_fields : (old one new : List Token) (a b : List Field) → one ≡ old ++ fields_tokens a → new ≡ one ++ fields_tokens b → new ≡ old ++ fields_tokens (a ++ b)
two_fields old one new a b first second =
    second ∙ ap (λ (ts : List Token). ts ++ fields_tokens b) first ∙ append_assoc old (fields_tokens a) (fields_tokens b) ∙ ap (λ (ts : List Token). old ++ ts) (sym (fields_append a b))

pub two_values : (old one new : List Token) (a b : List Json) → one ≡ old ++ values_tokens a → new ≡ one ++ values_tokens b → new ≡ old ++ values_tokens (a ++ b)
two_values old one new a b first second =
    second ∙ ap (λ (ts : List Token). ts ++ values_tokens b) first ∙ append_assoc old (values_tokens a) (values_tokens b) ∙ ap (λ (ts : List Token). old ++ ts) (sym (values_append a b))

pub named : (old start new : List Token) (name : List ℕ) (value : Json) → start ≡ old ++ key name ∷ [] → new ≡ start ++ values_tokens (value ∷ []) → new ≡ old ++ fields_tokens (field name value ∷ [])
unfolding fields_tokens values_tokens
named old start new name value first second =
    second ∙ ap (λ (ts : List Token). ts ++ values_tokens (value ∷ [])) first ∙ append_assoc old (key name ∷ []) (values_tokens (value ∷ []))

-- ---- values with brackets

within : (old one two new a close : List Token) (begin : Token) → one ≡ old ++ begin ∷ [] → two ≡ one ++ a → new ≡ two ++ close → new ≡ old ++ (begin ∷ (a ++ close))
within old one two new a close begin first second third =
    third ∙ ap (λ (ts : List Token). ts ++ close) second ∙ append_assoc one a close ∙ ap (λ (ts : List Token). ts ++ (a ++ close)) first ∙ append_assoc old (begin ∷ []) (a ++ close)

pub object_value : (old one two new : List Token) (fields : List Field) → one ≡ old ++ begin_object ∷ [] → two ≡ one ++ fields_tokens fields → new ≡ two ++ end_object ∷ []
    → new ≡ old ++ values_tokens (object_of fields ∷ [])
unfolding values_tokens
object_value old one two new fields first second third =
    within old one two new (fields_tokens fields) (end_object ∷ []) begin_object first second third
    ∙ ap (λ (ts : List Token). old ++ ts) (sym (object_written fields) ∙ sym (append-nil (json_tokens (object_of fields))))

pub array_value : (old one two new : List Token) (values : List Json) → one ≡ old ++ begin_array ∷ [] → two ≡ one ++ values_tokens values → new ≡ two ++ end_array ∷ []
    → new ≡ old ++ values_tokens (array_of values ∷ [])
unfolding values_tokens
array_value old one two new values first second third =
    within old one two new (values_tokens values) (end_array ∷ []) begin_array first second third
    ∙ ap (λ (ts : List Token). old ++ ts) (sym (array_written values) ∙ sym (append-nil (json_tokens (array_of values))))

-- ---- lines

pub written : (old new : List Token) (value : Json) → old ≡ [] → new ≡ old ++ values_tokens (value ∷ []) → escaped_controls (print new) ++ 10 ∷ [] ≡ json_line value
unfolding json_text values_tokens
written old new value nothing is =
    ap (λ (ts : List Token). escaped_controls (print ts) ++ 10 ∷ []) (is ∙ ap (λ (ts : List Token). ts ++ values_tokens (value ∷ [])) nothing ∙ append-nil (json_tokens value))

-- A word stands for one text.
use Rattle.std.proofs.Common.{◌≡◌, ◌∙◌, ℕ, ◌==◌, Bool, true, false, List, [], ◌∷◌, ◌++◌, Option, Some, None, codes}
use Rattle.std.proofs.Common.{inl, inr}
use Rattle.std.proofs.Common.{ap, refl, subst, sym}
use Rattle.std.proofs.lemmas.Bool.{and_parts, both_ways, cases_Bool, eqb-true}
use Rattle.std.proofs.lemmas.List.{append_assoc}
use Rattle.sshd_files.specs.declared.pattern.Token.{Token}
use Rattle.sshd_files.specs.Pattern.{Expands, begins_token, byte_text, expands_itself, expands_nothing, expands_token}
use Rattle.sshd_files.specs.Pattern.{expansion, is_pattern}
use Rattle.sshd_files.specs.Pattern.{percent, token_of, token_text}
use Rattle.sshd_files.specs.Users.{Account}

-- one byte that is no percent sign
plain_pattern : (byte : ℕ) (word : List ℕ) → (byte == percent) ≡ false
    → is_pattern false (byte ∷ word) ≡ is_pattern false word
unfolding is_pattern
plain_pattern byte word e = rw e refl

plain_text : (user : Account) (byte : ℕ) (word : List ℕ) → (byte == percent) ≡ false
    → expansion user false (byte ∷ word) ≡ byte ∷ expansion user false word
unfolding expansion byte_text
plain_text user byte word e = rw e refl

-- a token
token_pattern : (letter : ℕ) (token : Token) (word : List ℕ) → token_of letter ≡ Some token
    → is_pattern false (percent ∷ letter ∷ word) ≡ is_pattern false word
unfolding is_pattern
token_pattern letter token word e = rw e refl

tokens_text : (user : Account) (letter : ℕ) (token : Token) (word : List ℕ) → token_of letter ≡ Some token
    → expansion user false (percent ∷ letter ∷ word) ≡ token_text user token ++ expansion user false word
unfolding expansion byte_text
tokens_text user letter token word e = rw e refl

-- the same behind the percent sign
known_pattern : (letter : ℕ) (token : Token) (word : List ℕ) → token_of letter ≡ Some token
    → is_pattern true (letter ∷ word) ≡ is_pattern false word
unfolding is_pattern
known_pattern letter token word e = rw e refl

known_text_is : (user : Account) (letter : ℕ) (token : Token) (word : List ℕ) → token_of letter ≡ Some token
    → expansion user true (letter ∷ word) ≡ token_text user token ++ expansion user false word
unfolding expansion byte_text
known_text_is user letter token word e = rw e refl

unknown_pattern : (letter : ℕ) (word : List ℕ) → token_of letter ≡ None → is_pattern true (letter ∷ word) ≡ false
unfolding is_pattern
unknown_pattern letter word e = rw e refl

cut_pattern : is_pattern true [] ≡ false
unfolding is_pattern
cut_pattern = refl

nothing_text : (user : Account) (behind : Bool) → expansion user behind [] ≡ []
unfolding expansion
nothing_text user behind = refl

begun_pattern : (word : List ℕ) → is_pattern false (percent ∷ word) ≡ is_pattern true word
unfolding is_pattern
begun_pattern word = refl

begun_text : (user : Account) (word : List ℕ) → expansion user false (percent ∷ word) ≡ expansion user true word
unfolding expansion byte_text
begun_text user word = refl

-- a word stands for its text, also from behind a percent sign
abbrev Stands : Account → Bool → List ℕ → Type 0
Stands user false word = Expands user word (expansion user false word)
Stands user true word = Expands user (percent ∷ word) (expansion user true word)

stands : (user : Account) (behind : Bool) (word : List ℕ) → is_pattern behind word ≡ true → Stands user behind word
stands user false [] is = subst (Expands user []) (sym (nothing_text user false)) expands_nothing
stands user true [] is = absurd (both_ways (is_pattern true []) cut_pattern is)
stands user false (byte ∷ rest) is = elim (cases_Bool (byte == percent)) [
  | inl sign ↦
      let same : byte ≡ percent = eqb-true byte percent sign in
      let inner : is_pattern true rest ≡ true =
      sym (begun_pattern rest) ∙ ap (λ (b : ℕ). is_pattern false (b ∷ rest)) (sym same) ∙ is in
      subst (λ (b : ℕ). Expands user (b ∷ rest) (expansion user false (b ∷ rest))) (sym same)
      (subst (Expands user (percent ∷ rest)) (sym (begun_text user rest)) (stands user true rest inner))
  | inr plain ↦ subst (Expands user (byte ∷ rest)) (sym (plain_text user byte rest plain))
      (expands_itself byte rest (expansion user false rest) plain
      (stands user false rest (sym (plain_pattern byte rest plain) ∙ is)))
]
stands user true (letter ∷ rest) is = by (token_of letter) refl (stands user false rest)
  where
    by : (token : Option Token) → token_of letter ≡ token
        → (is_pattern false rest ≡ true → Expands user rest (expansion user false rest))
        → Expands user (percent ∷ letter ∷ rest) (expansion user true (letter ∷ rest))
    by None e more = absurd (both_ways (is_pattern true (letter ∷ rest)) (unknown_pattern letter rest e) is)
    by (Some token) e more =
        subst (Expands user (percent ∷ letter ∷ rest)) (sym (known_text_is user letter token rest e))
        (expands_token letter token rest (expansion user false rest) e
        (more (sym (known_pattern letter token rest e) ∙ is)))

pub text_found : (user : Account) (word : List ℕ) → is_pattern false word ≡ true
    → Expands user word (expansion user false word)
text_found user word is = stands user false word is

pub text_only : (user : Account) (word text : List ℕ) → Expands user word text
    → (is_pattern false word ≡ true) × (expansion user false word ≡ text)
unfolding is_pattern expansion
text_only user word text expands_nothing = (refl, refl)
text_only user word text (expands_itself byte rest others plain is) =
    let h = text_only user rest others is in
    (plain_pattern byte rest plain ∙ h.0, plain_text user byte rest plain ∙ ap (λ (xs : List ℕ). byte ∷ xs) h.1)
text_only user word text (expands_token letter token rest others known is) =
    let h = text_only user rest others is in (
      token_pattern letter token rest known ∙ h.0,
      tokens_text user letter token rest known
          ∙ ap (λ (xs : List ℕ). token_text user token ++ xs) h.1,
    )

-- the text of two words
next_text : (user : Account) (behind : Bool) (byte : ℕ) (rest : List ℕ)
    → expansion user behind (byte ∷ rest) ≡ byte_text user behind byte ++ expansion user (begins_token behind byte) rest
unfolding expansion
next_text user behind byte rest = refl

next_pattern : (behind : Bool) (byte : ℕ) (rest : List ℕ) → is_pattern behind (byte ∷ rest) ≡ true
    → is_pattern (begins_token behind byte) rest ≡ true
unfolding is_pattern
next_pattern behind byte rest is = (and_parts _ (is_pattern (begins_token behind byte) rest) is).1

text_append : (user : Account) (behind : Bool) (front back : List ℕ) → is_pattern behind front ≡ true
    → expansion user behind (front ++ back) ≡ expansion user behind front ++ expansion user false back
text_append user false [] back is =
    ap (λ (xs : List ℕ). xs ++ expansion user false back) (sym (nothing_text user false))
text_append user true [] back is = absurd (both_ways (is_pattern true []) cut_pattern is)
text_append user behind (byte ∷ rest) back is =
    next_text user behind byte (rest ++ back)
    ∙ ap (λ (xs : List ℕ). byte_text user behind byte ++ xs)
    (text_append user (begins_token behind byte) rest back (next_pattern behind byte rest is))
    ∙ sym (append_assoc (byte_text user behind byte) (expansion user (begins_token behind byte) rest)
    (expansion user false back))
    ∙ ap (λ (xs : List ℕ). xs ++ expansion user false back) (sym (next_text user behind byte rest))

name_text : (user : Account) (back : List ℕ)
    → expansion user false (codes "%u" ++ back) ≡ user.name ++ expansion user false back
unfolding expansion byte_text token_of
name_text user back = refl

pub text_with_name : (user : Account) (front back : List ℕ) → is_pattern false front ≡ true
    → expansion user false (front ++ (codes "%u" ++ back)) ≡ expansion user false
    front ++ (user.name ++ expansion user false back)
text_with_name user front back is =
    text_append user false front (codes "%u" ++ back) is
    ∙ ap (λ (xs : List ℕ). expansion user false front ++ xs) (name_text user back)

-- The parts of a message: what is found is there, and what is there is found.
use Rattle.std.proofs.Common.{◌≡◌, ℕ, ◌<◌, ◌==◌, Bool, true, false, cond, List, [], ◌∷◌, ◌++◌, length, take, drop}
use Rattle.std.proofs.Common.{get_or, codes, nat_eq, reverse, Option, Some, None, refl, sym, ap, subst, ◌∙◌, arith, inl}
use Rattle.std.proofs.Common.{inr, ◌⊎◌}
use Rattle.std.specs.List.{AllPass, list_all, prefix_len, starts_with, suffix_len}
use Rattle.std.proofs.lemmas.Bool.{cases_eq, eqb-false, false≢true, ne_eqb}
use Rattle.std.proofs.lemmas.List.{append_assoc, drop_at, length-append, length-reverse, length-take, reverse-append}
use Rattle.std.proofs.lemmas.List.{take-append-drop, take_at}
use Rattle.std.proofs.lemmas.List.Elements.{All-append}
use Rattle.std.proofs.lemmas.List.Sorted.{All-permutation, IsPermutation-reverse}
use Rattle.std.proofs.lemmas.List.Sums.{AllPass-from_list_all, prefix_len-le-length}
use Rattle.ssh_wire.specs.Wire.{IsBytes}
use Rattle.ssh_wire.proofs.Digits.{IsBytes-back}
use Rattle.key_text.proofs.LineWords.{FailsFirst, front_passes, prefix_len-front}
use Rattle.key_text.proofs.ListLaws.{front_met, front_taken}
use Rattle.login_lines.specs.declared.words.Class.{Class}
use Rattle.login_lines.specs.Words.{IsWordOf, after, group_at, group_start, is_no_parenthesis, passes, span_at}
use Rattle.login_lines.specs.Words.{span_len, split_at, ◌>>=◌}

-- ---- steps

pub option_cases : {A : Type 0} (o : Option A) → (o ≡ None) ⊎ ((x : A) × (o ≡ Some x))
option_cases None = inl refl
option_cases (Some x) = inr (x, refl)

-- a step that succeeded
pub bind_some : {A B : Type 0} (o : Option A) (f : A → Option B) (y : B) → (o >>= f) ≡ Some y
    → (x : A) × (o ≡ Some x) × (f x ≡ Some y)
bind_some None f y e = absurd cc
bind_some (Some x) f y e = (x, refl, e)

pub some_is : {A : Type 0} (x y : A) → Some x ≡ Some y → x ≡ y
some_is x y e = cc

-- a test that passed, and one that did not
pub met_some : {A : Type 0} (b : Bool) (x y : A) → cond b (Some x) None ≡ Some y → (b ≡ true) × (x ≡ y)
met_some true x y e = (refl, cc)
met_some false x y e = absurd cc

pub other_some : {A : Type 0} (b : Bool) (o : Option A) (y : A) → cond b None o ≡ Some y → (b ≡ false) × (o ≡ Some y)
other_some true o y e = absurd cc
other_some false o y e = (refl, e)

-- ---- a front

pub after_found : (front text rest : List ℕ) → after front text ≡ Some rest → text ≡ front ++ rest
unfolding after
after_found front text rest e =
    let g = met_some (starts_with nat_eq text front) (drop (length front) text) rest e in
    front_taken text front g.0 ∙ ap (λ (xs : List ℕ). front ++ xs) g.1

pub after_again : (front rest : List ℕ) → after front (front ++ rest) ≡ Some rest
unfolding after
after_again front rest =
    rw (front_met (front ++ rest) front rest refl, drop_at front rest (length front) refl) refl

-- the bytes behind a front, and those behind a word and a separator
pub IsBytes-rest : (front rest text : List ℕ) → text ≡ front ++ rest → IsBytes text → IsBytes rest
IsBytes-rest front rest text e fits = IsBytes-back front rest (subst IsBytes e fits)

pub IsBytes-behind : (word separator rest text : List ℕ) → text ≡ word ++ (separator ++ rest) → IsBytes text
    → IsBytes rest
IsBytes-behind word separator rest text e fits =
    IsBytes-back separator rest (IsBytes-rest word (separator ++ rest) text e fits)

-- ---- a front of some size, and a separator

split_found : (size : ℕ) (separator text : List ℕ) (p : List ℕ × List ℕ) → split_at size separator text ≡ Some p
    → (take size text ≡ p.0) × (text ≡ p.0 ++ (separator ++ p.1))
unfolding split_at
split_found size separator text p e =
    let a = bind_some (after separator (drop size text)) _ p e in
    let given : List ℕ × List ℕ = (take size text, a.0) in
    let same : given ≡ p = some_is given p a.2 in
    let front : take size text ≡ p.0 = ap (λ (q : List ℕ × List ℕ). q.0) same in
    let rest : a.0 ≡ p.1 = ap (λ (q : List ℕ × List ℕ). q.1) same in
    (front, sym (take-append-drop size text) ∙ ap (λ (xs : List ℕ). xs ++ drop size text) front ∙ ap (λ (xs : List ℕ). p.0 ++ xs) (after_found separator (drop size text) a.0 a.1 ∙ ap (λ (xs : List ℕ). separator ++ xs) rest))

split_again : (front separator rest : List ℕ)
    → split_at (length front) separator (front ++ (separator ++ rest)) ≡ Some (front, rest)
unfolding split_at
split_again front separator rest =
    rw (take_at front (separator ++ rest) (length front) refl, drop_at front (separator ++ rest) (length front) refl, after_again separator rest) refl

-- ---- a word of a class

pub span_found : (class : Class) (separator text : List ℕ) (p : List ℕ × List ℕ) → span_at class separator text ≡ Some p
    → IsWordOf class p.0 × (text ≡ p.0 ++ (separator ++ p.1))
unfolding span_at
span_found class separator text p e =
    let n : ℕ = span_len class text in
    let a = other_some (n == 0) (split_at n separator text) p e in
    let split = split_found n separator text p a.1 in
    let some : 0 < length (take n text) =
    omega (arith, eqb-false n 0 a.0, length-take n text, prefix_len-le-length (passes class) text) in
    let is : IsWordOf class (take n text) = record { some = some; each = front_passes (passes class) text } in
    (subst (IsWordOf class) split.0 is, split.1)

pub span_again : (class : Class) (word separator rest : List ℕ) → IsWordOf class word
    → FailsFirst (passes class) (separator ++ rest)
    → span_at class separator (word ++ (separator ++ rest)) ≡ Some (word, rest)
unfolding span_at
span_again class word separator rest is stops =
    let size : span_len class (word ++ (separator ++ rest)) ≡ length word =
    prefix_len-front (passes class) word (separator ++ rest) is.each stops in
    let some : (length word == 0) ≡ false = ne_eqb (length word) 0 (omega (arith, is.some)) in
    rw (size, some, split_again word separator rest) refl

-- ---- the last group

pub group_found : (text : List ℕ) (p : List ℕ × List ℕ) → group_at text ≡ Some p
    → text ≡ p.0 ++ (codes " (serial " ++ p.1)
unfolding group_at
group_found text p e = (split_found (group_start text) (codes " (serial ") text p e).1

-- no parenthesis opens in a text
abbrev pub NoParenthesis : List ℕ → Type 0
NoParenthesis text = AllPass is_no_parenthesis text

-- a byte of a kind or of a number is no parenthesis
no_parenthesis_of : (class : Class) (byte : ℕ) → passes class 40 ≡ false → passes class byte ≡ true
    → is_no_parenthesis byte ≡ true
no_parenthesis_of class byte never h = elim (cases_eq byte 40) [
  | inl same ↦ absurd (false≢true (sym never ∙ ap (passes class) (sym same) ∙ h))
  | inr other ↦ rw (ne_eqb byte 40 other) refl
]

pub word_passes : (class : Class) (word : List ℕ) → passes class 40 ≡ false → IsWordOf class word → NoParenthesis word
word_passes class word never is = λ k d lt. no_parenthesis_of class (get_or word k d) never (is.each k d lt)

pub literal_passes : (xs : List ℕ) → list_all is_no_parenthesis xs ≡ true → NoParenthesis xs
literal_passes xs e = AllPass-from_list_all is_no_parenthesis xs e

pub both_pass : (xs ys : List ℕ) → NoParenthesis xs → NoParenthesis ys → NoParenthesis (xs ++ ys)
both_pass xs ys front rest = All-append (λ (x : ℕ). is_no_parenthesis x ≡ true) xs ys front rest

turned_pass : (text : List ℕ) → NoParenthesis text → NoParenthesis (reverse text)
turned_pass text none =
    All-permutation (λ (x : ℕ). is_no_parenthesis x ≡ true) text (reverse text) (IsPermutation-reverse text) none

-- where the last parenthesis is, two bytes after a front
group_start_is : (front rest : List ℕ) → NoParenthesis rest → group_start (front ++ (32 ∷ 40 ∷ rest)) ≡ length front
group_start_is front rest none =
    let text : List ℕ = front ++ (32 ∷ 40 ∷ rest) in
    let turned : reverse text ≡ reverse rest ++ (40 ∷ 32 ∷ reverse front) =
    ap reverse (sym (append_assoc front (32 ∷ 40 ∷ []) rest)) ∙ reverse-append (front ++ (32 ∷ 40 ∷ [])) rest
    ∙ ap (λ (xs : List ℕ). reverse rest ++ xs) (reverse-append front (32 ∷ 40 ∷ [])) in
    let size : suffix_len is_no_parenthesis text ≡ length rest =
    ap (prefix_len is_no_parenthesis) turned
    ∙ prefix_len-front is_no_parenthesis (reverse rest) (40 ∷ 32 ∷ reverse front) (turned_pass rest none) refl
    ∙ length-reverse rest in
    omega (arith, size, length-append front (32 ∷ 40 ∷ rest))

pub group_again : (id rest : List ℕ) → NoParenthesis rest
    → group_at (id ++ (codes " (serial " ++ rest)) ≡ Some (id, rest)
unfolding group_at
group_again id rest none =
    let behind : NoParenthesis (codes "serial " ++ rest) =
    both_pass (codes "serial ") rest (literal_passes (codes "serial ") refl) none in
    rw (group_start_is id (codes "serial " ++ rest) behind, split_again id (codes " (serial ") rest) refl

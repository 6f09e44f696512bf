-- The names of the key types: the test recognises them, and they are short words with no blank.
use Rattle.std.proofs.lemmas.Grind.{common_steps}
use Rattle.std.proofs.Common.{◌≡◌, ℕ, suc, ◌<◌, ◌&&◌, ◌||◌, Bool, true, List, [], ◌∷◌, length, map, nat_lt, Contains, is_some, refl, ◌∙◌, arith, inl, inr}
use Rattle.std.proofs.lemmas.Bool.{and_parts, cases_Bool, ltb-true}
use Rattle.std.proofs.lemmas.List.Elements.{All-contains}
use Rattle.std.proofs.lemmas.List.Folds.{list_any-append, list_any_at}
use Rattle.std.proofs.lemmas.List.Sums.{AllPass-from_list_all}
use Rattle.std.proofs.lemmas.Slice.Eq.{bytes_eq-Decides}
use Rattle.std.specs.List.{AllPass, find, list_all, list_any}
use Rattle.std.specs.Str.{bytes_eq}
use Rattle.ssh_key.specs.declared.kind.Kind.{Kind}
use Rattle.ssh_key.specs.Kind.{certificate_name, kind_certified, kind_named, kinds, type_name}
use Rattle.key_text.specs.TypeName.{certificate_names, is_type_name, plain_names, type_names}
use Rattle.key_text.proofs.LineWords.{not_blank}

contained : (names : List (List ℕ)) (word : List ℕ) → list_any (λ name. bytes_eq name word) names ≡ true → Contains names word
contained [] word h = absurd cc
contained (name ∷ names) word h = elim (cases_Bool (bytes_eq name word)) [
  | inl equal ↦ (0, omega arith, (bytes_eq-Decides name word).0 equal)
  | inr other ↦ let found = contained names word (rw other at h) in (suc found.0, omega arith, found.2)
]

pub Contains-from_test : (word : List ℕ) → is_type_name word ≡ true → Contains type_names word
unfolding is_type_name
Contains-from_test word h = grind (arith, common_steps, contained)

pub test-from_Contains : (word : List ℕ) → Contains type_names word → is_type_name word ≡ true
unfolding is_type_name
test-from_Contains word (k, within, same) = list_any_at (λ name. bytes_eq name word) type_names k word within ((bytes_eq-Decides _ word).1 same)

is_short_word : List ℕ → Bool
is_short_word name = nat_lt 0 (length name) && (nat_lt (length name) 64 && list_all not_blank name)

short_words : (word : List ℕ) → Contains type_names word → is_short_word word ≡ true
unfolding is_short_word type_names plain_names certificate_names
short_words word h = grind (arith, common_steps, All-contains, AllPass-from_list_all, is_short_word)

pub name_is_word : (word : List ℕ) → Contains type_names word → AllPass not_blank word × (length word < 64) × (0 < length word)
unfolding is_short_word
name_is_word word h =
    let some = and_parts (nat_lt 0 (length word)) (nat_lt (length word) 64 && list_all not_blank word) (short_words word h) in
    let parts = and_parts (nat_lt (length word) 64) (list_all not_blank word) some.1 in
    (AllPass-from_list_all not_blank word parts.1, ltb-true (length word) 64 parts.0, ltb-true 0 (length word) some.0)

-- ---- each is the name of a kind

named_or_not : (name_of : Kind → List ℕ) (word : List ℕ) (some : List Kind) → list_any (λ name. bytes_eq name word) (map name_of some) ≡ is_some (find (λ kind. bytes_eq (name_of kind) word) some)
named_or_not name_of word [] = refl
named_or_not name_of word (kind ∷ some) = elim (cases_Bool (bytes_eq (name_of kind) word)) [
  | inl same ↦ rw same refl
  | inr other ↦ rw other (named_or_not name_of word some)
]

both_same : (a b x y : Bool) → a ≡ x → b ≡ y → (a || b) ≡ (x || y)
both_same a b x y e f = cc

pub plain_or_certificate : (word : List ℕ) → is_type_name word ≡ (is_some (kind_named word) || is_some (kind_certified word))
unfolding is_type_name type_names plain_names certificate_names kind_named kind_certified
plain_or_certificate word =
    list_any-append (λ name. bytes_eq name word) (map type_name kinds) (map certificate_name kinds)
    ∙ both_same (list_any (λ name. bytes_eq name word) (map type_name kinds)) (list_any (λ name. bytes_eq name word) (map certificate_name kinds)) (is_some (find (λ kind. bytes_eq (type_name kind) word) kinds)) (is_some (find (λ kind. bytes_eq (certificate_name kind) word) kinds)) (named_or_not type_name word kinds) (named_or_not certificate_name word kinds)

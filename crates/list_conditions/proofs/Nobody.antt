-- Lists that revoke nobody.
use Rattle.std.proofs.Common.{◌≡◌, ℕ, ◌&&◌, ◌==◌, true, List, [], ◌∷◌, length, refl, ap, subst, arith}
use Rattle.std.specs.Prelude.{◌↔◌}
use Rattle.std.proofs.lemmas.Bool.{and_parts, eqb-true}
use Rattle.krl_types.specs.Entry.{Entry}
use Rattle.krl_types.specs.Naming.{NamesSame}
use Rattle.krl_entries.specs.Revocations.{Means, Revocations, Section, nothing, revocations_of}
use Rattle.krl_entries.proofs.OneMeaning.{one_meaning}
use Rattle.krl_entries.proofs.SameMeaning.{nothing_meant, same_meaning, same_naming}
use Rattle.list_conditions.specs.Check.{NamesNobody, names_nobody}

none_of : {A : Type 0} (xs : List A) → (length xs == 0) ≡ true → xs ≡ []
none_of [] is = refl
none_of (x ∷ xs) is = let none = eqb-true (length (x ∷ xs)) 0 is in absurd (omega (arith, none))

all_none : (sections : List Section) (keys sha1s sha256s : List (List ℕ)) → sections ≡ [] → keys ≡ [] → sha1s ≡ [] → sha256s ≡ [] → revocations_of sections keys sha1s sha256s ≡ nothing
all_none sections keys sha1s sha256s a b c d = rw (a, b, c, d) refl

is_nothing : (list : Revocations) → names_nobody list ≡ true → list ≡ nothing
is_nothing list is =
    let a = and_parts (length list.sections == 0) ((length list.keys == 0) && ((length list.sha1s == 0) && (length list.sha256s == 0))) is in
    let b = and_parts (length list.keys == 0) ((length list.sha1s == 0) && (length list.sha256s == 0)) a.1 in
    let c = and_parts (length list.sha1s == 0) (length list.sha256s == 0) b.1 in
    all_none list.sections list.keys list.sha1s list.sha256s (none_of list.sections a.0) (none_of list.keys b.0) (none_of list.sha1s c.0) (none_of list.sha256s c.1)

named_by_nobody : (list : Revocations) (entries : List Entry) → Means list entries → names_nobody list ≡ true → NamesNobody entries
named_by_nobody list entries means is name some =
    let none = is_nothing list is in
    let means_none : Means nothing entries = subst (λ (r : Revocations). Means r entries) none means in
    (same_naming nothing entries [] means_none nothing_meant name).0 some

nobody_by_names : (list : Revocations) (entries : List Entry) → Means list entries → NamesNobody entries → names_nobody list ≡ true
nobody_by_names list entries means nobody =
    let same : NamesSame entries [] = λ name. (λ some. nobody name some, λ none. absurd none) in
    let none : list ≡ nothing = one_meaning list nothing [] (same_meaning list entries [] means same) nothing_meant in
    ap names_nobody none

pub law : (list : Revocations) (entries : List Entry) → Means list entries → (names_nobody list ≡ true ↔ NamesNobody entries)
law list entries means = (named_by_nobody list entries means, nobody_by_names list entries means)

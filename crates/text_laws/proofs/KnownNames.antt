-- The names of authorities after one more was given.
use Rattle.std.proofs.Common.{◌≡◌, ◌⊎◌, ℕ, Bool, true, List, [], ◌∷◌, All, Option, Some, None, cond, refl, sym, subst, ap, ◌∙◌, inl, inr}
use Rattle.std.specs.Cmp.Lexicographic.{slice_cmp}
use Rattle.std.specs.Ordering.{match_ordering, nat_cmp}
use Rattle.std.specs.Str.{bytes_eq}
use Rattle.std.specs.declared.cmp.Ordering.{Ordering}
use Rattle.std.specs.declared.cmp.Ordering.TheVariants.{Equal, Greater, Less}
use Rattle.std.proofs.lemmas.Bool.{cases_Bool}
use Rattle.std.proofs.lemmas.List.Elements.{All-cons, All-head, All-nil, All-tail, All-weaker}
use Rattle.std.proofs.lemmas.Map.Lookups.{exact_bytes}
use Rattle.std.proofs.lemmas.Slice.Eq.{bytes_eq-Decides}
use Rattle.list_text.specs.Text.{no_names}
use Rattle.text_entries.specs.AuthorityNames.{NameOfKey, NamedKeys, can_have, is_free_for, key_named, name_of, with_name}
use Rattle.text_entries.proofs.KeyNames.{named_after}
use Rattle.text_laws.specs.Names.{AreDeclared, AreNames, CanBeNamed, IsDeclared}

-- ---- the key that has a name

module _ (known : NamedKeys) (name key : List ℕ) where
  abbrev after : NamedKeys
  after = with_name known name key

  pub named_itself : key_named after name ≡ Some key
  named_itself = named_after known name key name ∙ ap (λ (same : Bool). cond same (Some key) (key_named known name)) ((bytes_eq-Decides name name).1 refl)

  -- It is this key, or the name had its key before.
  named_then : (other found : List ℕ) → key_named after other ≡ Some found → ((other ≡ name) × (key ≡ found)) ⊎ (key_named known other ≡ Some found)
  named_then other found is = elim (cases_Bool (bytes_eq other name)) [
    | inl same ↦
        let first : Some key ≡ Some found = rw same at (sym (named_after known name key other) ∙ is) in
        inl ((bytes_eq-Decides other name).0 same, cc)
    | inr apart ↦ inr (rw apart at (sym (named_after known name key other) ∙ is))
  ]

  -- a name keeps its key
  still_named : (other found : List ℕ) → can_have known name key ≡ true → key_named known other ≡ Some found → key_named after other ≡ Some found
  still_named other found free is = elim (cases_Bool (bytes_eq other name)) [
    | inl same ↦
        let before : key_named known name ≡ Some found = subst (λ (n : List ℕ). key_named known n ≡ Some found) ((bytes_eq-Decides other name).0 same) is in
        let one : found ≡ key = (bytes_eq-Decides found key).0 (ap (λ (had : Option (List ℕ)). is_free_for had key) (sym before) ∙ free) in
        named_after known name key other ∙ rw same (ap (λ (k : List ℕ). Some k) (sym one))
    | inr apart ↦ named_after known name key other ∙ rw apart is
  ]

-- ---- names that lines can give

-- a property of each name, and of the one that is given
with_each : (P : List ℕ × List ℕ → Type 0) (known : NamedKeys) (name key : List ℕ) → P (name, key) → All P known → All P (with_name known name key)
with_each P [] name key new each = All-cons P (name, key) [] new (All-nil P)
with_each P (entry ∷ known) name key new each = go (slice_cmp nat_cmp name entry.0) refl (with_each P known name key new (All-tail P entry known each))
  where
    go : (o : Ordering) → slice_cmp nat_cmp name entry.0 ≡ o → All P (with_name known name key)
        → All P (match_ordering o ((name, key) ∷ entry ∷ known) ((entry.0, key) ∷ known) (entry ∷ with_name known name key))
    go Less is later = All-cons P (name, key) (entry ∷ known) new each
    go Equal is later = All-cons P (entry.0, key) known (subst (λ (n : List ℕ). P (n, key)) (exact_bytes name entry.0 is) new) (All-tail P entry known each)
    go Greater is later = All-cons P entry (with_name known name key) (All-head P entry known each) later

pub still_declared : (known : NamedKeys) (name key : List ℕ) → CanBeNamed name key → can_have known name key ≡ true → AreDeclared known → AreDeclared (with_name known name key)
still_declared known name key can free are =
    let later : NamedKeys = with_name known name key in
    with_each (IsDeclared later) known name key (record { can = can; one = named_itself known name key })
    (All-weaker (IsDeclared known) (IsDeclared later) (λ entry is. record { can = is.can; one = still_named known name key entry.0 entry.1 free is.one }) known are)

-- The name of a key has the property that each name has.
of_name : (P : List ℕ × List ℕ → Type 0) (known : NamedKeys) (key name : List ℕ) → All P known → name_of known key ≡ Some name → P (name, key)
unfolding name_of
of_name P [] key name each is = absurd cc
of_name P (entry ∷ known) key name each is = elim (cases_Bool (bytes_eq key entry.1)) [
  | inl same ↦
      let first : Some entry.0 ≡ Some name = rw same at is in
      let named : entry.0 ≡ name = cc in
      subst (λ (n : List ℕ). P (n, key)) named (subst (λ (k : List ℕ). P (entry.0, k)) (sym ((bytes_eq-Decides key entry.1).0 same)) (All-head P entry known each))
  | inr other ↦ of_name P known key name (All-tail P entry known each) (rw other at is)
]

pub names_are : (known : NamedKeys) (names : NameOfKey) → AreDeclared known → ((key : List ℕ) → names key ≡ name_of known key) → AreNames names
names_are known names are same =
    let declared = λ (key name : List ℕ) (is : names key ≡ Some name). of_name (IsDeclared known) known key name are (sym (same key) ∙ is) in
    record {
      each = λ key name is. (declared key name is).can;
      one = λ key other name is also. let e : Some key ≡ Some other = sym (declared key name is).one ∙ (declared other name also).one in cc;
    }

pub no_names_are : AreNames no_names
no_names_are = record { each = λ key name is. absurd cc; one = λ key other name is also. absurd cc }

-- ---- names that are known

-- The names that lines gave so far are those of these keys.
abbrev pub AreKnown : NameOfKey → NamedKeys → Type 0
AreKnown names known = (name key : List ℕ) → key_named known name ≡ Some key → names key ≡ Some name

-- So no other key has the name of a key.
pub free_name : (names : NameOfKey) (known : NamedKeys) (name key : List ℕ) → AreNames names → AreKnown names known → names key ≡ Some name → can_have known name key ≡ true
free_name names known name key are knows named = go (key_named known name) refl
  where
    go : (had : Option (List ℕ)) → key_named known name ≡ had → is_free_for had key ≡ true
    go None is = refl
    go (Some other) is = (bytes_eq-Decides other key).1 (are.one other key name (knows name other is) named)

pub still_known : (names : NameOfKey) (known : NamedKeys) (name key : List ℕ) → AreKnown names known → names key ≡ Some name → AreKnown names (with_name known name key)
still_known names known name key knows named other found is = elim (named_then known name key other found is) [
  | inl new ↦ subst (λ (k : List ℕ). names k ≡ Some other) new.1 (named ∙ ap (λ (n : List ℕ). Some n) (sym new.0))
  | inr before ↦ knows other found before
]

-- The numbers of the lines that have a name, after a line was added.
use Rattle.std.proofs.Common.{◌≡◌, ℕ, List, [], ◌∷◌, ◌++◌, ◌&&◌, ◌||◌, nat_eq, map, filter, Bool, true, false, refl, sym, ap, subst, ◌∙◌, cond, if◌then◌else◌}
use Rattle.std.specs.List.{flat_map, list_any}
use Rattle.std.proofs.Math.Bool.{or-false}
use Rattle.std.proofs.lemmas.List.Folds.{list_any-append}
use Rattle.serial_set.specs.declared.span.Span.{Span}
use Rattle.krl_types.specs.Entry.{Entry, RangeEntry}
use Rattle.krl_types.specs.Item.{item_entry}
use Rattle.krl_types.specs.declared.item_kind.ItemKind.{ItemKind}
use Rattle.krl_types.specs.Naming.{Name}
use Rattle.krl_entries.specs.Tested.{entry_names, some_names}
use Rattle.text_index.specs.NameIndex.{AddsNames, Puts, item_key, keys_of, numbers, numbers_among, numbers_at, postings_at}
use Rattle.text_index.specs.Fronts.{IsCommonFront}
use Rattle.text_index.specs.Postings.{entry_of, posting_with}
use Rattle.text_index.specs.declared.posting.What.TheVariants as whats
use Rattle.text_index.specs.declared.name_index.NameIndex.{NameIndex}
use Rattle.text_index.specs.declared.posting.Posting.{Posting}
use Rattle.text_index.proofs.Bools.{both_guards, needless_guard, one_more_guard}
use Rattle.text_index.proofs.Keys.{IsKeyFor, has_item_key, span_key}

-- ---- one key

any_kept : {A B : Type 0} (p : B → Bool) (f : A → B) (t : A → Bool) (xs : List A)
    → list_any p (map f (filter t xs)) ≡ list_any (λ x. t x && p (f x)) xs
any_kept p f t [] = refl
any_kept p f t (x ∷ xs) = by (t x) (any_kept p f t xs)
  where
    by : (b : Bool) → list_any p (map f (filter t xs)) ≡ list_any (λ x. t x && p (f x)) xs
        → list_any p (map f (cond b (x ∷ filter t xs) (filter t xs))) ≡ ((b && p (f x)) || list_any (λ x. t x && p (f x)) xs)
    by true same = ap (λ (r : Bool). p (f x) || r) same
    by false same = same

-- line number i has the name
abbrev has : (i : ℕ) → Name → Posting → Bool
has i name posting = entry_names (entry_of posting) name && nat_eq i posting.line

among_is : (i : ℕ) (name : Name) (postings : List Posting)
    → list_any (nat_eq i) (numbers_among postings name) ≡ list_any (has i name) postings
among_is i name postings = any_kept (nat_eq i) (λ (posting : Posting). posting.line) (λ posting. entry_names (entry_of posting) name) postings

among_more : (i : ℕ) (name : Name) (postings : List Posting) (posting : Posting)
    → list_any (nat_eq i) (numbers_among (postings ++ posting ∷ []) name)
    ≡ (list_any (nat_eq i) (numbers_among postings name) || has i name posting)
among_more i name postings posting =
    among_is i name (postings ++ posting ∷ [])
    ∙ list_any-append (has i name) postings (posting ∷ [])
    ∙ ap (λ (r : Bool). list_any (has i name) postings || r) (or-false (has i name posting))
    ∙ ap (λ (r : Bool). r || has i name posting) (sym (among_is i name postings))

at_key : (key : ℕ) (posting : Posting) (old new : NameIndex) → Puts key posting old new → (i : ℕ) (name : Name) (other : ℕ)
    → list_any (nat_eq i) (numbers_at new other name)
    ≡ (list_any (nat_eq i) (numbers_at old other name) || (nat_eq key other && has i name posting))
unfolding numbers_at
at_key key posting old new puts i name other =
    ap (λ (postings : List Posting). list_any (nat_eq i) (numbers_among postings name)) (puts.at_each other) ∙ by (nat_eq key other) refl
  where
    by : (same : Bool) → nat_eq key other ≡ same
        → list_any (nat_eq i) (numbers_among (if same then postings_at old other ++ posting ∷ [] else postings_at old other) name)
        ≡ (list_any (nat_eq i) (numbers_among (postings_at old other) name) || (same && has i name posting))
    by true same = among_more i name (postings_at old other) posting
    by false other = sym (or-false _)

-- ---- all keys of a name

among_keys : (key : ℕ) (posting : Posting) (old new : NameIndex) → Puts key posting old new → (i : ℕ) (name : Name) (keys : List ℕ)
    → list_any (nat_eq i) (flat_map (λ k. numbers_at new k name) keys)
    ≡ (list_any (nat_eq i) (flat_map (λ k. numbers_at old k name) keys) || (list_any (nat_eq key) keys && has i name posting))
among_keys key posting old new puts i name [] = refl
among_keys key posting old new puts i name (k ∷ keys) =
    let after : List ℕ = flat_map (λ k. numbers_at new k name) keys in
    let before : List ℕ = flat_map (λ k. numbers_at old k name) keys in
    let here = list_any (nat_eq i) (numbers_at old k name) in
    let x = has i name posting in
    list_any-append (nat_eq i) (numbers_at new k name) after
    ∙ ap (λ (r : Bool). r || list_any (nat_eq i) after) (at_key key posting old new puts i name k)
    ∙ ap (λ (r : Bool). (here || (nat_eq key k && x)) || r) (among_keys key posting old new puts i name keys)
    ∙ one_more_guard here (list_any (nat_eq i) before) (nat_eq key k) (list_any (nat_eq key) keys) x
    ∙ ap (λ (r : Bool). r || ((nat_eq key k || list_any (nat_eq key) keys) && x)) (sym (list_any-append (nat_eq i) (numbers_at old k name) before))

-- A posting under a key for what it names adds what it names.
pub put_names : (key : ℕ) (posting : Posting) (old new : NameIndex) → Puts key posting old new → IsKeyFor (entry_of posting) key
    → AddsNames posting.line (some_names (entry_of posting ∷ [])) old new
unfolding numbers
put_names key posting old new puts is = record {
  of_each = λ name i.
      let entry = entry_of posting in
      let before = list_any (nat_eq i) (flat_map (λ k. numbers_at old k name) (keys_of name)) in
      among_keys key posting old new puts i name (keys_of name)
      ∙ ap (λ (r : Bool). before || r) (needless_guard (list_any (nat_eq key) (keys_of name)) (entry_names entry name) (nat_eq i posting.line) (is name))
      ∙ ap (λ (r : Bool). before || (r && nat_eq i posting.line)) (sym (or-false (entry_names entry name)));
}

-- ---- one fact

pub span_added : (line : ℕ) (authority : List ℕ) (span : Span) (common : ℕ) (posting : Posting) (old new : NameIndex)
    → IsCommonFront span.lo span.hi common → posting ≡ posting_with line authority (whats.Serials span)
    → Puts common posting old new → AddsNames line (some_names (RangeEntry authority span.lo span.hi ∷ [])) old new
span_added line authority span common posting old new is posting_is puts =
    put_names common (posting_with line authority (whats.Serials span)) old new (subst (λ (p : Posting). Puts common p old new) posting_is puts) (span_key authority span common is)

pub item_added : (line : ℕ) (kind : ItemKind) (authority item : List ℕ) (posting : Posting) (old new : NameIndex)
    → posting ≡ posting_with line authority (whats.Item kind item)
    → Puts (item_key item) posting old new → AddsNames line (some_names (item_entry kind authority item ∷ [])) old new
item_added line kind authority item posting old new posting_is puts =
    put_names (item_key item) (posting_with line authority (whats.Item kind item)) old new (subst (λ (p : Posting). Puts (item_key item) p old new) posting_is puts)
    (has_item_key kind authority item)

-- ---- one after the other

pub adds_nothing : (line : ℕ) (index : NameIndex) → AddsNames line (some_names []) index index
adds_nothing line index = record { of_each = λ name i. sym (or-false _) }

pub adds_both : (line : ℕ) (first second : List Entry) (old mid new : NameIndex) → AddsNames line (some_names first) old mid
    → AddsNames line (some_names second) mid new → AddsNames line (some_names (first ++ second)) old new
adds_both line first second old mid new one other = record {
  of_each = λ name i.
      let before = list_any (nat_eq i) (numbers old name) in
      let same = nat_eq i line in
      other.of_each name i
      ∙ ap (λ (r : Bool). r || (some_names second name && same)) (one.of_each name i)
      ∙ both_guards before (some_names first name) (some_names second name) same
      ∙ ap (λ (r : Bool). before || (r && same)) (sym (list_any-append (λ entry. entry_names entry name) first second));
}

pub adds_same : (line : ℕ) (names others : Name → Bool) (old new : NameIndex) → ((name : Name) → names name ≡ others name)
    → AddsNames line names old new → AddsNames line others old new
adds_same line names others old new same adds = record {
  of_each = λ name i. adds.of_each name i ∙ ap (λ (r : Bool). list_any (nat_eq i) (numbers old name) || (r && nat_eq i line)) (same name);
}

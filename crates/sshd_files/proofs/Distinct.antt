-- Files that are added one after another are those of the list, each once.
use Rattle.std.proofs.Common.{◌≡◌, ◌∙◌, ℕ, ◌==◌, Bool, true, false, not, ◌&&◌, ◌||◌, List, [], ◌∷◌, ◌++◌, inl, inr}
use Rattle.std.proofs.Common.{ap, sym, refl, reverse, subst, ◌↔◌, if◌then◌else◌}
use Rattle.std.proofs.lemmas.Bool.{cases_Bool, not-true, both_ways}
use Rattle.std.proofs.lemmas.List.{append-nil, append_assoc, reverse-reverse}
use Rattle.std.proofs.lemmas.List.Elements.{filter-append}
use Rattle.std.proofs.lemmas.Map.Text.{is_eq-slice_cmp}
use Rattle.std.proofs.lemmas.Map.Views.{Contains-from_any, any-filter_same, list_any-from_Contains}
use Rattle.std.proofs.lemmas.Slice.Eq.{bytes_eq-Decides}
use Rattle.std.specs.BTreeSet.{insert_key}
use Rattle.std.specs.declared.cmp.Ordering.{Ordering}
use Rattle.std.specs.declared.cmp.Ordering.TheVariants.{Less, Equal, Greater}
use Rattle.std.specs.Cmp.{IsEquivalence}
use Rattle.std.specs.List.{AllByRecursion, Contains, IsDistinct, filter, list_any}
use Rattle.std.specs.Ordering.{eq_by_cmp, is_eq, match_ordering}
use Rattle.std.specs.Str.{bytes_eq}
use Rattle.sshd_files.specs.declared.files.SshdFileKind.{SshdFileKind}
use Rattle.sshd_files.specs.declared.files.SshdFileKind.TheVariants.{Keys, HostKey, Command, Output}
use Rattle.sshd_files.specs.Files.{File, Listed, added, all_added, bytes_cmp, differs_from, distinct, file, is_absent}
use Rattle.sshd_files.specs.Files.{is_same, key_of}
use Rattle.sshd_files.specs.Files.{nothing_listed, number_of}

-- ---- equality of files

-- a file as its bytes, from the first to the last
abbrev pair_of : File → List ℕ
pair_of one = number_of one.kind ∷ one.path

pairs_agree : (a b : File) → is_same a b ≡ true → pair_of a ≡ pair_of b
pairs_agree a b h = (bytes_eq-Decides (pair_of a) (pair_of b)).0 h

same_for_pairs : (a b : File) → pair_of a ≡ pair_of b → is_same a b ≡ true
same_for_pairs a b e = (bytes_eq-Decides (pair_of a) (pair_of b)).1 e

pub same_itself : (a : File) → is_same a a ≡ true
same_itself a = same_for_pairs a a refl

pub alike : (a b c : File) → is_same a b ≡ true → is_same a c ≡ is_same b c
alike a b c h = ap (λ (k : List ℕ). bytes_eq k (pair_of c)) (pairs_agree a b h)

bool_equal : (x y : Bool) → (x ≡ true → y ≡ true) → (y ≡ true → x ≡ true) → x ≡ y
bool_equal true true f g = refl
bool_equal true false f g = sym (f refl)
bool_equal false true f g = g refl
bool_equal false false f g = refl

by_keys : (a b : File) → is_same a b ≡ bytes_eq (key_of a) (key_of b)
by_keys a b =
    bool_equal (is_same a b) (bytes_eq (key_of a) (key_of b))
    (λ h. (bytes_eq-Decides (key_of a) (key_of b)).1 (ap reverse (pairs_agree a b h)))
    (λ h. same_for_pairs a b
    (sym (reverse-reverse (pair_of a)) ∙ ap reverse ((bytes_eq-Decides (key_of a) (key_of b)).0 h) ∙ reverse-reverse (pair_of b)))

pub same_turned : (a b : File) → is_same a b ≡ is_same b a
same_turned a b =
    bool_equal (is_same a b) (is_same b a) (λ h. same_for_pairs b a (sym (pairs_agree a b h)))
    (λ h. same_for_pairs a b (sym (pairs_agree b a h)))

-- ---- filters

module _ {X : Type 0} (p q : X → Bool) where
  -- a filter that asks for more
  pub filter_within : ((x : X) → p x ≡ true → q x ≡ true) → (xs : List X) → filter p (filter q xs) ≡ filter p xs
  filter_within within [] = refl
  filter_within within (x ∷ xs) = by (q x) (p x) refl refl (filter_within within xs)
    where
      by : (b a : Bool) → q x ≡ b → p x ≡ a → filter p (filter q xs) ≡ filter p xs
          → filter p (filter q (x ∷ xs)) ≡ filter p (x ∷ xs)
      by true true e d h = rw (e, d) (ap (λ ys. x ∷ ys) h)
      by true false e d h = rw (e, d) h
      by false true e d h = absurd (both_ways (q x) e (within x d))
      by false false e d h = rw (e, d) h

  -- two filters as one
  pub filter_both : (r : X → Bool) → ((x : X) → r x ≡ (q x && p x)) → (xs : List X)
      → filter p (filter q xs) ≡ filter r xs
  filter_both r both [] = refl
  filter_both r both (x ∷ xs) = by (q x) (p x) refl refl (filter_both r both xs)
    where
      by : (b a : Bool) → q x ≡ b → p x ≡ a → filter p (filter q xs) ≡ filter r xs
          → filter p (filter q (x ∷ xs)) ≡ filter r (x ∷ xs)
      by true true e d h = rw (e, d, both x, e, d) (ap (λ ys. x ∷ ys) h)
      by true false e d h = rw (e, d, both x, e, d) h
      by false true e d h = rw (e, both x, e) h
      by false false e d h = rw (e, both x, e) h

-- ---- the keys of a set

any_swap : (a b c : Bool) → (a || (b || c)) ≡ (b || (a || c))
any_swap true true c = refl
any_swap true false c = refl
any_swap false true c = refl
any_swap false false c = refl

any_again : (a c : Bool) → (a || (a || c)) ≡ (a || c)
any_again true c = refl
any_again false c = refl

any_inserted : (test : List ℕ → Bool) (k : List ℕ) (ks : List (List ℕ))
    → list_any test (insert_key bytes_cmp ks k) ≡ (test k || list_any test ks)
any_inserted test k [] = refl
any_inserted test k (x ∷ ks) = by (bytes_cmp k x) refl (any_inserted test k ks)
  where
    by : (o : Ordering) → bytes_cmp k x ≡ o → list_any test (insert_key bytes_cmp ks k) ≡ (test k || list_any test ks)
        → list_any test (match_ordering o (k ∷ x ∷ ks) (x ∷ ks) (x ∷ insert_key bytes_cmp ks k)) ≡ (test k ||
        (test x || list_any test ks))
    by Less e h = refl
    by Equal e h =
        let same : k ≡ x = (bytes_eq-Decides k x).0 (sym (is_eq-slice_cmp k x) ∙ ap is_eq e) in
        subst (λ (y : List ℕ). (test y || list_any test ks) ≡ (test k || (test y || list_any test ks))) same
        (sym (any_again (test k) (list_any test ks)))
    by Greater e h = ap (λ (b : Bool). test x || b) h ∙ any_swap (test x) (test k) (list_any test ks)

-- the set answers as the list does
abbrev Tracks : Listed → Type 0
Tracks listed =
    (one : File) → list_any (eq_by_cmp bytes_cmp (key_of one)) listed.keys ≡ list_any (is_same one) listed.files

any_append : {X : Type 0} (p : X → Bool) (xs ys : List X) → list_any p (xs ++ ys) ≡ (list_any p xs || list_any p ys)
any_append p [] ys = refl
any_append p (x ∷ xs) ys = by (p x) (any_append p xs ys)
  where
    by : (b : Bool) → list_any p (xs ++ ys) ≡ (list_any p xs || list_any p ys)
        → (b || list_any p (xs ++ ys)) ≡ ((b || list_any p xs) || list_any p ys)
    by true h = refl
    by false h = h

any_turned : (a b : Bool) → (a || b) ≡ (b || (a || false))
any_turned true true = refl
any_turned true false = refl
any_turned false true = refl
any_turned false false = refl

tracks_more : (listed : Listed) (one : File) → Tracks listed
    → Tracks (record { files = listed.files ++ one ∷ []; keys = insert_key bytes_cmp listed.keys (key_of one) })
tracks_more listed one tracks other =
    any_inserted (eq_by_cmp bytes_cmp (key_of other)) (key_of one) listed.keys
    ∙ ap (λ (b : Bool). b || list_any (eq_by_cmp bytes_cmp (key_of other)) listed.keys)
    (is_eq-slice_cmp (key_of other) (key_of one) ∙ sym (by_keys other one))
    ∙ ap (λ (b : Bool). is_same other one || b) (tracks other)
    ∙ any_turned (is_same other one) (list_any (is_same other) listed.files)
    ∙ sym (any_append (is_same other) listed.files (one ∷ []))

-- ---- the files that are added

absent_more : (files : List File) (one other : File)
    → is_absent (files ++ one ∷ []) other ≡ (differs_from one other && is_absent files other)
absent_more files one other =
    ap not (any_append (is_same other) files (one ∷ [])
    ∙ ap (λ (b : Bool). list_any (is_same other) files || (b || false)) (same_turned other one))
    ∙ by (list_any (is_same other) files) (is_same one other)
  where
    by : (a b : Bool) → not (a || (b || false)) ≡ (not b && not a)
    by true true = refl
    by true false = refl
    by false true = refl
    by false false = refl

any_alike : (a b : File) (files : List File) → is_same a b ≡ true
    → list_any (is_same a) files ≡ list_any (is_same b) files
any_alike a b [] h = refl
any_alike a b (x ∷ xs) h =
    ap (λ (k : Bool). k || list_any (is_same a) xs) (alike a b x h)
    ∙ ap (λ (k : Bool). is_same b x || k) (any_alike a b xs h)

absent_differs : (files : List File) (one other : File) → list_any (is_same one) files ≡ true
    → is_absent files other ≡ true
    → differs_from one other ≡ true
absent_differs files one other there none = elim (cases_Bool (is_same one other)) [
  | inl same ↦ absurd (both_ways (list_any (is_same other) files) (not-true (list_any (is_same other) files) none)
      (sym (any_alike one other files same) ∙ there))
  | inr differs ↦ ap not differs
]

abbrev AddsRest : List File → Type 0
AddsRest files = (listed : Listed) → Tracks listed
    → (all_added listed files).files ≡ listed.files ++ filter (is_absent listed.files) (distinct files)

stays : (listed : Listed) (one : File) → list_any (eq_by_cmp bytes_cmp (key_of one)) listed.keys ≡ true
    → added listed one ≡ listed
unfolding added
stays listed one known = rw known refl

abbrev with_more : Listed → File → Listed
with_more listed one = record { files = listed.files ++ one ∷ []; keys = insert_key bytes_cmp listed.keys (key_of one) }

grows : (listed : Listed) (one : File) → list_any (eq_by_cmp bytes_cmp (key_of one)) listed.keys ≡ false
    → added listed one ≡ with_more listed one
unfolding added
grows listed one unknown = rw unknown refl

module _ {X : Type 0} (p : X → Bool) (x : X) (xs : List X) where
  skips : p x ≡ false → filter p (x ∷ xs) ≡ filter p xs
  skips e = rw e refl

  keeps : p x ≡ true → filter p (x ∷ xs) ≡ x ∷ filter p xs
  keeps e = rw e refl

added_before : (one : File) (files : List File) → AddsRest files → (listed : Listed) → Tracks listed
    → list_any (is_same one) listed.files ≡ true
    → (all_added listed (one ∷ files)).files ≡ listed.files ++ filter (is_absent listed.files) (distinct (one ∷ files))
unfolding all_added distinct
added_before one files rest listed tracks there =
    let all : List File = distinct files in
    ap (λ (l : Listed). (all_added l files).files) (stays listed one (tracks one ∙ there))
    ∙ rest listed tracks
    ∙ ap (λ (xs : List File). listed.files ++ xs)
    (sym (skips (is_absent listed.files) one (filter (differs_from one) all) (ap not there)
    ∙ filter_within (is_absent listed.files) (differs_from one)
    (λ other none. absent_differs listed.files one other there none) all))

added_now : (one : File) (files : List File) → AddsRest files → (listed : Listed) → Tracks listed
    → list_any (is_same one) listed.files ≡ false
    → (all_added listed (one ∷ files)).files ≡ listed.files ++ filter (is_absent listed.files) (distinct (one ∷ files))
unfolding all_added distinct
added_now one files rest listed tracks none =
    let all : List File = distinct files in
    let more : Listed = with_more listed one in
    ap (λ (l : Listed). (all_added l files).files) (grows listed one (tracks one ∙ none))
    ∙ rest more (tracks_more listed one tracks)
    ∙ append_assoc listed.files (one ∷ []) (filter (is_absent more.files) all)
    ∙ ap (λ (xs : List File). listed.files ++ xs)
    (sym (keeps (is_absent listed.files) one (filter (differs_from one) all) (ap not none)
    ∙ ap (λ (xs : List File). one ∷ xs)
    (filter_both (is_absent listed.files) (differs_from one) (is_absent more.files) (absent_more listed.files one)
    all)))

adds_rest : (files : List File) → AddsRest files
unfolding all_added distinct
adds_rest [] listed tracks = sym (append-nil listed.files)
adds_rest (one ∷ files) listed tracks = elim (cases_Bool (list_any (is_same one) listed.files)) [
  | inl there ↦ added_before one files (adds_rest files) listed tracks there
  | inr none ↦ added_now one files (adds_rest files) listed tracks none
]

all_pass : (files : List File) → filter (is_absent []) files ≡ files
all_pass [] = refl
all_pass (x ∷ xs) = ap (λ (ys : List File). x ∷ ys) (all_pass xs)

pub adds_distinct : (files : List File) → (all_added nothing_listed files).files ≡ distinct files
adds_distinct files = adds_rest files nothing_listed (λ one. refl) ∙ all_pass (distinct files)

-- ---- the same files are equal

kind_of : ℕ → SshdFileKind
kind_of n = if n == 0 then Keys else if n == 1 then HostKey else if n == 2 then Command else Output

kind_again : (kind : SshdFileKind) → kind_of (number_of kind) ≡ kind
unfolding kind_of
kind_again Keys = refl
kind_again HostKey = refl
kind_again Command = refl
kind_again Output = refl

pub same_equal : (a b : File) → is_same a b ≡ true → a ≡ b
same_equal a b h =
    let keys = pairs_agree a b h in
    let numbers : number_of a.kind ≡ number_of b.kind = cc in
    let paths : a.path ≡ b.path = cc in
    let kinds : a.kind ≡ b.kind = sym (kind_again a.kind) ∙ ap kind_of numbers ∙ kind_again b.kind in
    ap (λ (kind : SshdFileKind). file kind a.path) kinds ∙ ap (file b.kind) paths

pub equal_same : (a b : File) → a ≡ b → is_same a b ≡ true
equal_same a b e = subst (λ (c : File). is_same a c ≡ true) e (same_itself a)

same_laws : IsEquivalence is_same
same_laws = record { refl = same_itself; symm = same_turned; congr = alike }

-- ---- each is among the distinct files

distinct_has : (one : File) (files : List File) → list_any (is_same one) (distinct files) ≡ list_any (is_same one) files
unfolding distinct
distinct_has one [] = refl
distinct_has one (x ∷ xs) = elim (cases_Bool (is_same one x)) [
  | inl here ↦ ap (λ (b : Bool). b || list_any (is_same one) (filter (differs_from x) (distinct xs))) here
      ∙ sym (ap (λ (b : Bool). b || list_any (is_same one) xs) here)
  | inr other ↦ ap (λ (b : Bool). is_same one x || b)
      (any-filter_same (is_same one) (differs_from x) true
      (λ k same. ap not (same_turned x k ∙ sym (alike one k x same) ∙ other)) (distinct xs)
      ∙ distinct_has one xs)
]

pub distinct_members : (files : List File) (one : File) → Contains (distinct files) one ↔ Contains files one
distinct_members files one = (
  λ there. Contains-from_any same_equal one files
      (sym (distinct_has one files) ∙ list_any-from_Contains same_laws one (distinct files) there),
  λ there. Contains-from_any same_equal one (distinct files)
      (distinct_has one files ∙ list_any-from_Contains same_laws one files there),
)

-- ---- once

module _ {X : Type 0} (p : X → Bool) where
  all_filtered : (P : X → Type 0) (xs : List X) → AllByRecursion P xs → AllByRecursion P (filter p xs)
  all_filtered P [] h = tt
  all_filtered P (x ∷ xs) h = by (p x) refl (all_filtered P xs h.1)
    where
      by : (b : Bool) → p x ≡ b → AllByRecursion P (filter p xs) → AllByRecursion P (filter p (x ∷ xs))
      by true e more = rw e (h.0, more)
      by false e more = rw e more

  passes_filter : (xs : List X) → AllByRecursion (λ x. p x ≡ true) (filter p xs)
  passes_filter [] = tt
  passes_filter (x ∷ xs) = by (p x) refl (passes_filter xs)
    where
      by : (b : Bool) → p x ≡ b → AllByRecursion (λ x. p x ≡ true) (filter p xs)
          → AllByRecursion (λ x. p x ≡ true) (filter p (x ∷ xs))
      by true e more = rw e (e, more)
      by false e more = rw e more

  distinct_filtered : (E : X → X → Bool) (xs : List X) → IsDistinct E xs → IsDistinct E (filter p xs)
  unfolding IsDistinct
  distinct_filtered E [] h = tt
  distinct_filtered E (x ∷ xs) h = by (p x) refl (distinct_filtered E xs h.1)
    where
      by : (b : Bool) → p x ≡ b → IsDistinct E (filter p xs) → IsDistinct E (filter p (x ∷ xs))
      by true e more = rw e (all_filtered (λ y. E x y ≡ false) xs h.0, more)
      by false e more = rw e more

all_weaker : {X : Type 0} (P Q : X → Type 0) → ((x : X) → P x → Q x) → (xs : List X) → AllByRecursion P xs
    → AllByRecursion Q xs
all_weaker P Q f [] h = tt
all_weaker P Q f (x ∷ xs) h = (f x h.0, all_weaker P Q f xs h.1)

pub distinct_once : (files : List File) → IsDistinct is_same (distinct files)
unfolding distinct IsDistinct
distinct_once [] = tt
distinct_once (x ∷ xs) = (
  all_weaker (λ y. differs_from x y ≡ true) (λ y. is_same x y ≡ false) (λ y h. not-true (is_same x y) h)
      (filter (differs_from x) (distinct xs)) (passes_filter (differs_from x) (distinct xs)),
  distinct_filtered (differs_from x) is_same (distinct xs) (distinct_once xs),
)

-- ---- where it is first

pub distinct_first : (files others : List File)
    → distinct (files ++ others) ≡ distinct files ++ filter (is_absent files) (distinct others)
unfolding distinct
distinct_first [] others = sym (all_pass (distinct others))
distinct_first (x ∷ xs) others =
    ap (λ (ys : List File). x ∷ filter (differs_from x) ys) (distinct_first xs others)
    ∙ ap (λ (ys : List File). x ∷ ys)
    (filter-append (differs_from x) (distinct xs) (filter (is_absent xs) (distinct others))
    ∙ ap (λ (ys : List File). filter (differs_from x) (distinct xs) ++ ys)
    (filter_both (differs_from x) (is_absent xs) (is_absent (x ∷ xs)) both (distinct others)))
  where
    by : (a b : Bool) → not (a || b) ≡ (not b && not a)
    by true true = refl
    by true false = refl
    by false true = refl
    by false false = refl

    both : (y : File) → is_absent (x ∷ xs) y ≡ (is_absent xs y && differs_from x y)
    both y =
        ap (λ (b : Bool). not (b || list_any (is_same y) xs)) (same_turned y x)
        ∙ by (is_same x y) (list_any (is_same y) xs)

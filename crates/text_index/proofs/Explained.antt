-- Lines that are found explain.
use Rattle.std.proofs.Common.{◌≡◌, ◌<◌, ℕ, suc, List, [], ◌∷◌, ◌++◌, ◌||◌, length, map, drop, get_or, filter_map, slice_get, nat_eq, Bool, true, false, Option, Some, None, refl, sym, ap, ◌∙◌, cond, append_assoc, arith}
use Rattle.std.proofs.Math.Bool.{or_assoc}
use Rattle.std.proofs.Math.Seq.{drop-cons}
use Rattle.std.specs.BTreeMap.{is_at}
use Rattle.std.specs.List.{list_any}
use Rattle.std.specs.List.Sorted.{IsStrictlySortedBy}
use Rattle.std.specs.Ordering.{nat_cmp}
use Rattle.std.proofs.lemmas.Bool.Decides.{nat_tests}
use Rattle.krl_types.specs.Subject.{CertNames, Subject}
use Rattle.krl_entries.specs.Reasons.{bits_in, every_reason, has_reason, name_asked, with_bit}
use Rattle.krl_entries.specs.declared.reasons.Reason.{Reason}
use Rattle.krl_entries.specs.declared.reasons.Reasons.{Reasons}
use Rattle.krl_entries.proofs.ReasonBits.{next_bit}
use Rattle.text_entries.specs.AuthorityNames.{NameOfKey, key_named}
use Rattle.text_index.specs.Explaining.{Explained, authority_name, explained_by, explained_of, explaining, unnamed_by}
use Rattle.text_index.specs.Found.{FindsAll, FindsAsked, FindsSome, finds_reason, lacks_reason}
use Rattle.text_index.specs.Indexing.{HasRegister, Indexes, line_of}
use Rattle.text_index.specs.NamingLines.{Line, NamingLine, Register}
use Rattle.text_index.specs.declared.explaining.Explanation.{Explanation}
use Rattle.text_index.specs.declared.indexing.TextIndex.{TextIndex}
use Rattle.text_index.specs.declared.name_index.NameIndex.{NameIndex}
use Rattle.text_index.specs.declared.text_line.TextLine.{TextLine}
use Rattle.text_index.proofs.Bools.{last_first}
use Rattle.text_index.proofs.Chosen.{lines_chosen}
use Rattle.text_index.proofs.ReasonNames.{finds_is, unnamed_is}

-- ---- the lines and the reasons

pub explained : (index : TextIndex) (asked : Subject) (reasons : Reasons) (explanation : Explanation) (found : List ℕ)
    → FindsAll index.names asked reasons explanation.unnamed [] found → IsStrictlySortedBy nat_cmp found
    → explanation.lines.items ≡ filter_map (slice_get index.lines.items) found
    → explanation.authority ≡ authority_name (key_named index.authorities) asked.cert
    → (texts : Register) → HasRegister index texts → explained_of explanation ≡ explained_by texts asked reasons
explained index asked reasons explanation found finds sorted are named texts has =
    let is : Indexes index texts.lines = has.lines in
    let lines : List NamingLine = texts.lines in
    let chosen : map line_of explanation.lines.items ≡ map (λ (line : NamingLine). line.line) (explaining lines asked reasons) =
    ap (map line_of) are
    ∙ lines_chosen asked reasons index.lines.items is.said found is.one_each sorted (λ i. finds.at_each i ∙ finds_is index lines is asked reasons i)
    ∙ ap (λ (all : List NamingLine). map (λ (line : NamingLine). line.line) (explaining all asked reasons)) (sym is.lines_are) in
    let unnamed : explanation.unnamed ≡ unnamed_by lines asked reasons = unnamed_is index lines asked reasons explanation.unnamed is finds.bits_are in
    let chosen_lines : List Line = map (λ (line : NamingLine). line.line) (explaining lines asked reasons) in
    ap (λ (some : List Line). explained_with some explanation.unnamed explanation.authority) chosen
    ∙ ap (λ (some : Reasons). explained_with chosen_lines some explanation.authority) unnamed
    ∙ ap (explained_with chosen_lines (unnamed_by lines asked reasons)) (named ∙ same_name (key_named index.authorities) texts.names has.named asked.cert)
  where
    explained_with : List Line → Reasons → Option (List ℕ) → Explained
    explained_with lines unnamed authority = record { lines = lines; unnamed = unnamed; authority = authority }

    same_name : (one other : NameOfKey) → ((key : List ℕ) → one key ≡ other key) → (cert : Option CertNames) → authority_name one cert ≡ authority_name other cert
    same_name one other same None = refl
    same_name one other same (Some cert) = same cert.authority

-- ---- a number that is inserted

is_number : (i k : ℕ) → is_at (nat_cmp i) k ≡ nat_eq i k
is_number i k = grind (arith, nat_tests)

has_number : (i : ℕ) (ks : List ℕ) → list_any (is_at (nat_cmp i)) ks ≡ list_any (nat_eq i) ks
has_number i [] = refl
has_number i (k ∷ ks) = rw (is_number i k, has_number i ks) refl

number_inserted : (key i : ℕ) (b : Bool) → cond (is_at (nat_cmp key) i) true b ≡ (b || nat_eq i key)
number_inserted key i true = by (is_at (nat_cmp key) i)
  where
    by : (c : Bool) → cond c true true ≡ true
    by true = refl
    by false = refl
number_inserted key i false = grind (arith, nat_tests)

-- a set has one more number
pub inserted : (key : ℕ) (old new : List ℕ) → ((q : ℕ) → list_any (is_at (nat_cmp q)) new ≡ cond (is_at (nat_cmp key) q) true (list_any (is_at (nat_cmp q)) old))
    → (i : ℕ) → list_any (nat_eq i) new ≡ (list_any (nat_eq i) old || nat_eq i key)
inserted key old new updates i =
    sym (has_number i new) ∙ updates i ∙ ap (cond (is_at (nat_cmp key) i) true) (has_number i old) ∙ number_inserted key i (list_any (nat_eq i) old)

-- ---- the numbers whose lines are left

pub line_there : (get : ℕ → Option TextLine) (lines : List TextLine) (line : TextLine) (number : ℕ) (numbers : List ℕ) → get number ≡ Some line
    → (lines ++ line ∷ []) ++ filter_map get numbers ≡ lines ++ filter_map get (number ∷ numbers)
line_there get lines line number numbers is = rw is (append_assoc lines (line ∷ []) (filter_map get numbers))

pub no_line_there : (get : ℕ → Option TextLine) (number : ℕ) (numbers : List ℕ) → get number ≡ None → filter_map get numbers ≡ filter_map get (number ∷ numbers)
no_line_there get number numbers is = rw is refl

-- ---- the reasons that are left

pub any_next : {A : Type 0} (f : A → Bool) (xs : List A) (i : ℕ) (d : A) → i < length xs
    → list_any f (drop i xs) ≡ (f (get_or xs i d) || list_any f (drop (suc i) xs))
any_next f xs i d less = ap (list_any f) (drop-cons xs i d less)

-- one reason more, of which this one is the first
pub one_more_reason : (names : NameIndex) (asked : Subject) (reasons : Reasons) (i : ℕ) (d : Reason) (bits more : ℕ) (missing : Bool) (old mid new : List ℕ)
    → i < 10 → more ≡ with_bit bits missing
    → FindsSome names asked reasons (drop (suc i) every_reason) bits old mid
    → FindsAsked names (has_reason reasons (get_or every_reason i d)) (name_asked (get_or every_reason i d) asked) missing mid new
    → FindsSome names asked reasons (drop i every_reason) more old new
one_more_reason names asked reasons i d bits more missing old mid new less bit before now = record {
  bits_are =
      let f = lacks_reason names asked reasons in
      bit
      ∙ ap (λ (n : ℕ). with_bit n missing) before.bits_are
      ∙ ap (with_bit (bits_in (map f (drop (suc i) every_reason)))) now.missing_is
      ∙ next_bit f every_reason i d less;
  at_each = λ number.
      let f = finds_reason names asked reasons number in
      let later = list_any f (drop (suc i) every_reason) in
      let first = list_any (nat_eq number) old in
      now.at_each number
      ∙ ap (λ (b : Bool). b || f (get_or every_reason i d)) (before.at_each number)
      ∙ last_first first later (f (get_or every_reason i d))
      ∙ ap (λ (b : Bool). first || b) (sym (any_next f every_reason i d less));
}

-- ---- the numbers that are left

pub one_more_number : (numbers old mid new : List ℕ) (i : ℕ) → i < length numbers
    → ((q : ℕ) → list_any (is_at (nat_cmp q)) new ≡ cond (is_at (nat_cmp (get_or numbers i 0)) q) true (list_any (is_at (nat_cmp q)) mid))
    → ((q : ℕ) → (list_any (nat_eq q) mid || list_any (nat_eq q) (drop i numbers)) ≡ (list_any (nat_eq q) old || list_any (nat_eq q) numbers))
    → (q : ℕ) → (list_any (nat_eq q) new || list_any (nat_eq q) (drop (suc i) numbers)) ≡ (list_any (nat_eq q) old || list_any (nat_eq q) numbers)
one_more_number numbers old mid new i less updates before q =
    let key = get_or numbers i 0 in
    let later = list_any (nat_eq q) (drop (suc i) numbers) in
    ap (λ (b : Bool). b || later) (inserted key mid new updates q)
    ∙ or_assoc (list_any (nat_eq q) mid) (nat_eq q key) later
    ∙ ap (λ (b : Bool). list_any (nat_eq q) mid || b) (sym (any_next (nat_eq q) numbers i 0 less))
    ∙ before q

-- The reasons that lines give, by the names that are looked up.
use Rattle.std.proofs.Common.{◌≡◌, ℕ, zero, suc, List, [], ◌∷◌, ◌++◌, ◌&&◌, ◌||◌, ◌==◌, not, length, map, nat_eq, Bool, true, false, Option, Some, None, refl, sym, ap, ◌∙◌, arith}
use Rattle.std.specs.List.{list_any}
use Rattle.std.proofs.Math.Bool.{or-false}
use Rattle.std.proofs.lemmas.Bool.{eq-eqb, ne_eqb, or_left, or_right}
use Rattle.krl_types.specs.Entry.{Entry}
use Rattle.krl_types.specs.Naming.{Name}
use Rattle.krl_types.specs.Subject.{Subject}
use Rattle.krl_entries.specs.Reasons.{bits_in, every_reason, has_reason, name_asked, passes, reasons_by}
use Rattle.krl_entries.specs.Tested.{entry_names, some_names}
use Rattle.krl_entries.specs.declared.reasons.Reason.{Reason}
use Rattle.krl_entries.specs.declared.reasons.Reasons.{Reasons}
use Rattle.krl_entries.proofs.ReasonBits.{reason_bit}
use Rattle.text_index.specs.Explaining.{explains, gives, unnamed_by}
use Rattle.text_index.specs.Found.{asked_numbers, finds_reason, lacks_reason}
use Rattle.text_index.specs.Indexing.{Indexes, line_of, names_at, naming_all, said_names}
use Rattle.text_index.specs.NamingLines.{NamingLine, naming}
use Rattle.text_index.specs.declared.indexing.TextIndex.{TextIndex}
use Rattle.text_index.specs.declared.text_line.TextLine.{TextLine}

-- ---- one line

passes_same : (names others : Name → Bool) → ((name : Name) → names name ≡ others name) → (name : Option Name) → passes names name ≡ passes others name
passes_same names others same None = refl
passes_same names others same (Some name) = same name

passes_none : (name : Option Name) → passes (λ _. false) name ≡ false
passes_none None = refl
passes_none (Some name) = refl

-- A line gives a reason where its entry has the name that is asked for.
pub gives_is : (asked : Subject) (reason : Reason) (line : NamingLine) → gives asked reason line ≡ passes (entry_names line.entry) (name_asked reason asked)
unfolding reasons_by
gives_is asked reason line =
    reason_bit (λ (r : Reason). passes (some_names (line.entry ∷ [])) (name_asked r asked)) reason
    ∙ passes_same (some_names (line.entry ∷ [])) (entry_names line.entry) (λ name. or-false (entry_names line.entry name)) (name_asked reason asked)

-- ---- lines by their numbers

-- Line number i has the name that is asked for.
abbrev pub asked_at : Subject → Reason → List (Option Entry) → ℕ → Bool
asked_at asked reason said i = passes (names_at said i) (name_asked reason asked)

-- the numbers that are found are those of the lines that have the name
numbers_are : (index : TextIndex) (lines : List NamingLine) (is : Indexes index lines) (name : Option Name) (i : ℕ)
    → list_any (nat_eq i) (asked_numbers index.names name) ≡ passes (names_at is.said i) name
numbers_are index lines is None i = refl
numbers_are index lines is (Some name) i = is.found name i

-- ---- whether some line gives a reason

gives_at_first : (asked : Subject) (reason : Reason) (line : TextLine) (entry : Option Entry) (rest : List NamingLine)
    → list_any (gives asked reason) (naming (line_of line) entry ++ rest)
    ≡ (passes (said_names entry) (name_asked reason asked) || list_any (gives asked reason) rest)
gives_at_first asked reason line None rest = ap (λ (b : Bool). b || list_any (gives asked reason) rest) (sym (passes_none (name_asked reason asked)))
gives_at_first asked reason line (Some entry) rest =
    ap (λ (b : Bool). b || list_any (gives asked reason) rest) (gives_is asked reason (record { line = line_of line; entry = entry }))

none_gives : (asked : Subject) (reason : Reason) (lines : List TextLine) (said : List (Option Entry)) → ((i : ℕ) → asked_at asked reason said i ≡ false)
    → list_any (gives asked reason) (naming_all lines said) ≡ false
unfolding names_at
none_gives asked reason [] said none = refl
none_gives asked reason (line ∷ lines) [] none = refl
none_gives asked reason (line ∷ lines) (entry ∷ said) none =
    gives_at_first asked reason line entry (naming_all lines said)
    ∙ ap (λ (b : Bool). b || list_any (gives asked reason) (naming_all lines said)) (none 0)
    ∙ none_gives asked reason lines said (λ i. none (suc i))

one_gives : (asked : Subject) (reason : Reason) (lines : List TextLine) (said : List (Option Entry)) (i : ℕ) → length said ≡ length lines
    → asked_at asked reason said i ≡ true → list_any (gives asked reason) (naming_all lines said) ≡ true
unfolding names_at
one_gives asked reason [] [] i same one = sym (passes_none (name_asked reason asked)) ∙ one
one_gives asked reason [] (entry ∷ said) i same one = absurd (omega (arith, same))
one_gives asked reason (line ∷ lines) [] i same one = absurd (omega (arith, same))
one_gives asked reason (line ∷ lines) (entry ∷ said) zero same one =
    gives_at_first asked reason line entry (naming_all lines said) ∙ or_left (passes (said_names entry) (name_asked reason asked)) _ one
one_gives asked reason (line ∷ lines) (entry ∷ said) (suc i) same one =
    gives_at_first asked reason line entry (naming_all lines said)
    ∙ or_right (passes (said_names entry) (name_asked reason asked)) _ (one_gives asked reason lines said i (omega (arith, same)) one)

-- No number is found for a reason exactly if no line gives it.
none_found : (index : TextIndex) (lines : List NamingLine) (is : Indexes index lines) (asked : Subject) (reason : Reason)
    → (length (asked_numbers index.names (name_asked reason asked)) == 0) ≡ not (list_any (gives asked reason) lines)
none_found index lines is asked reason = by (asked_numbers index.names (name_asked reason asked)) (numbers_are index lines is (name_asked reason asked))
  where
    by : (ns : List ℕ) → ((i : ℕ) → list_any (nat_eq i) ns ≡ asked_at asked reason is.said i) → (length ns == 0) ≡ not (list_any (gives asked reason) lines)
    by [] are = sym (ap not (ap (list_any (gives asked reason)) is.lines_are ∙ none_gives asked reason index.lines.items is.said (λ i. sym (are i))))
    by (n ∷ ns) are =
        let one : asked_at asked reason is.said n ≡ true = sym (are n) ∙ or_left (nat_eq n n) (list_any (nat_eq n) ns) (eq-eqb n n refl) in
        ne_eqb (length (n ∷ ns)) 0 (λ (none : length (n ∷ ns) ≡ 0). omega (arith, none))
        ∙ sym (ap not (ap (list_any (gives asked reason)) is.lines_are ∙ one_gives asked reason index.lines.items is.said n is.one_each one))

map_same : {A B : Type 0} (f g : A → B) → ((x : A) → f x ≡ g x) → (xs : List A) → map f xs ≡ map g xs
map_same f g same [] = refl
map_same f g same (x ∷ xs) = rw (same x, map_same f g same xs) refl

-- The reasons that no number was found for are those that no line gives.
pub unnamed_is : (index : TextIndex) (lines : List NamingLine) (asked : Subject) (reasons : Reasons) (unnamed : Reasons) → Indexes index lines
    → unnamed.bits ≡ bits_in (map (lacks_reason index.names asked reasons) every_reason) → unnamed ≡ unnamed_by lines asked reasons
unfolding unnamed_by
unnamed_is index lines asked reasons unnamed is bits =
    let own : Reason → Bool = λ reason. has_reason reasons reason && not (list_any (gives asked reason) lines) in
    let flags : map (lacks_reason index.names asked reasons) every_reason ≡ map own every_reason =
    map_same (lacks_reason index.names asked reasons) own (λ reason. ap (λ (b : Bool). has_reason reasons reason && b) (none_found index lines is asked reason)) every_reason in
    ap (λ (n : ℕ). let all : Reasons = record { bits = n } in all) (bits ∙ ap bits_in flags)

-- ---- whether a line gives one of the reasons

any_same : {A : Type 0} (f g : A → Bool) → ((x : A) → f x ≡ g x) → (xs : List A) → list_any f xs ≡ list_any g xs
any_same f g same [] = refl
any_same f g same (x ∷ xs) = rw (same x, any_same f g same xs) refl

any_none : {A : Type 0} (f : A → Bool) → ((x : A) → f x ≡ false) → (xs : List A) → list_any f xs ≡ false
any_none f none [] = refl
any_none f none (x ∷ xs) = rw (none x) (any_none f none xs)

and_false : (a b : Bool) → b ≡ false → (a && b) ≡ false
and_false true b none = none
and_false false b none = refl

-- Line number i has one of the names that are asked for.
abbrev pub asked_by_some : Subject → Reasons → List (Option Entry) → ℕ → Bool
asked_by_some asked reasons said i = list_any (λ reason. has_reason reasons reason && asked_at asked reason said i) every_reason

pub finds_is : (index : TextIndex) (lines : List NamingLine) (is : Indexes index lines) (asked : Subject) (reasons : Reasons) (i : ℕ)
    → list_any (finds_reason index.names asked reasons i) every_reason ≡ asked_by_some asked reasons is.said i
finds_is index lines is asked reasons i =
    any_same (finds_reason index.names asked reasons i) (λ reason. has_reason reasons reason && asked_at asked reason is.said i)
    (λ reason. ap (λ (b : Bool). has_reason reasons reason && b) (numbers_are index lines is (name_asked reason asked) i)) every_reason

-- A line explains where it has one of the names.
abbrev pub explains_said : Subject → Reasons → TextLine → Option Entry → Bool
explains_said asked reasons line None = false
explains_said asked reasons line (Some entry) = explains asked reasons (record { line = line_of line; entry = entry })

pub asked_at_first : (asked : Subject) (reasons : Reasons) (line : TextLine) (entry : Option Entry) (said : List (Option Entry))
    → asked_by_some asked reasons (entry ∷ said) 0 ≡ explains_said asked reasons line entry
unfolding names_at explains
asked_at_first asked reasons line None said =
    any_none (λ reason. has_reason reasons reason && asked_at asked reason (None ∷ said) 0)
    (λ reason. and_false (has_reason reasons reason) _ (passes_none (name_asked reason asked))) every_reason
asked_at_first asked reasons line (Some entry) said =
    any_same (λ reason. has_reason reasons reason && asked_at asked reason (Some entry ∷ said) 0)
    (λ reason. has_reason reasons reason && gives asked reason (record { line = line_of line; entry = entry }))
    (λ reason. ap (λ (b : Bool). has_reason reasons reason && b) (sym (gives_is asked reason (record { line = line_of line; entry = entry })))) every_reason

pub asked_later : (asked : Subject) (reasons : Reasons) (entry : Option Entry) (said : List (Option Entry)) (i : ℕ)
    → asked_by_some asked reasons (entry ∷ said) (suc i) ≡ asked_by_some asked reasons said i
unfolding names_at
asked_later asked reasons entry said i = refl

pub asked_nowhere : (asked : Subject) (reasons : Reasons) (i : ℕ) → asked_by_some asked reasons [] i ≡ false
unfolding names_at
asked_nowhere asked reasons i =
    any_none (λ reason. has_reason reasons reason && asked_at asked reason [] i)
    (λ reason. and_false (has_reason reasons reason) _ (passes_none (name_asked reason asked))) every_reason

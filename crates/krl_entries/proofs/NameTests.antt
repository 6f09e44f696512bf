-- The tests of names find exactly those that entries name or that are held.
use Rattle.krl_entries.proofs.Common.{[], ◌&&◌, ◌-◌, ◌==◌, ◌↔◌, ◌∷◌, ◌≡◌, ◌≤◌, arith, bit_at}
use Rattle.krl_entries.proofs.Common.{BitmapEntry, Bool, bytes_eq, Contains, Covers, Entry}
use Rattle.krl_entries.proofs.Common.{entry_names, EntryNames, false, has, has_names, holds_name}
use Rattle.krl_entries.proofs.Common.{HoldsName, IdEntry, IdOf, is_among, IsTrue, KeyEntry, KeyOf}
use Rattle.krl_entries.proofs.Common.{List, list_any, Name, nat_le, nat_lt, None, OfName, Option}
use Rattle.krl_entries.proofs.Common.{passes, RangeEntry, Revocations, Section, SerialOf}
use Rattle.krl_entries.proofs.Common.{SerialsEntry, Sha1Entry, Sha1Of, Sha256Entry, Sha256Of, Some}
use Rattle.krl_entries.proofs.Common.{some_names, SomeNames, SomeSection, ℕ}
use Rattle.std.specs.Cmp.{both_ways}
use Rattle.std.proofs.lemmas.Bool.Decides.{Decides-and, Decides-eqb, Decides-ltb, Decides-or}
use Rattle.std.proofs.lemmas.Bool.Decides.{nat_tests}
use Rattle.std.proofs.lemmas.Slice.Eq.{bytes_eq-Decides}
use Rattle.krl_types.proofs.Equivalences.{contains_cons}
use Rattle.krl_types.proofs.Elements.{contains_none}
use Rattle.std.proofs.Math.Logic.Iff as Iff

-- ---- the names of entries

number_tested : (numbers : List ℕ) (s : ℕ) → IsTrue (list_any (λ n. n == s) numbers) ↔ Contains numbers s
number_tested [] s = (λ yes. absurd cc, λ found. absurd (contains_none s found))
number_tested (n ∷ numbers) s =
    Iff.trans (Decides-or (n == s) (list_any (λ m. m == s) numbers) (Decides-eqb n s) (number_tested numbers s)) (Iff.symm (contains_cons n numbers s))

le_tested : (a b : ℕ) → IsTrue (nat_le a b) ↔ (a ≤ b)
le_tested a b = grind (arith, nat_tests)

pub none_tested : (IsTrue false) ↔ ⊥
none_tested = (λ yes. absurd cc, λ no. absurd no)

entry_tested : (entry : Entry) (name : Name) → IsTrue (entry_names entry name) ↔ EntryNames entry name
entry_tested (SerialsEntry b numbers) (SerialOf a s) =
    Decides-and (bytes_eq b a) (nat_lt 0 s && list_any (λ n. n == s) numbers) (bytes_eq-Decides b a)
    (Decides-and (nat_lt 0 s) (list_any (λ n. n == s) numbers) (Decides-ltb 0 s) (number_tested numbers s))
entry_tested (RangeEntry b min max) (SerialOf a s) =
    Decides-and (bytes_eq b a) (nat_lt 0 s && (nat_le min s && nat_le s max)) (bytes_eq-Decides b a)
    (Decides-and (nat_lt 0 s) (nat_le min s && nat_le s max) (Decides-ltb 0 s)
    (Decides-and (nat_le min s) (nat_le s max) (le_tested min s) (le_tested s max)))
entry_tested (BitmapEntry b offset number) (SerialOf a s) =
    let bit = bit_at number (s - offset) in
    let parts = Decides-and (nat_lt 0 s) (nat_le offset s && (bit == 1)) (Decides-ltb 0 s)
    (Decides-and (nat_le offset s) (bit == 1) (le_tested offset s) (Decides-eqb bit 1)) in
    let both = Decides-and (bytes_eq b a) (nat_lt 0 s && (nat_le offset s && (bit == 1))) (bytes_eq-Decides b a) parts in
    (λ yes. let h = both.0 yes in (h.0, (h.1.0, h.1.1.0, h.1.1.1)), λ h. both.1 (h.0, (h.1.0, (h.1.1, h.1.2))))
entry_tested (IdEntry b id) (IdOf a text) = Decides-and (bytes_eq b a) (bytes_eq id text) (bytes_eq-Decides b a) (bytes_eq-Decides id text)
entry_tested (KeyEntry key) (KeyOf blob) = bytes_eq-Decides key blob
entry_tested (Sha1Entry of_key) (Sha1Of hash) = bytes_eq-Decides of_key hash
entry_tested (Sha256Entry of_key) (Sha256Of hash) = bytes_eq-Decides of_key hash
entry_tested _ _ = none_tested

pub some_tested : (entries : List Entry) (name : Name) → IsTrue (some_names entries name) ↔ SomeNames entries name
some_tested [] name = none_tested
some_tested (entry ∷ entries) name = Decides-or (entry_names entry name) (some_names entries name) (entry_tested entry name) (some_tested entries name)

-- ---- names that are held

among_tested : (texts : List (List ℕ)) (text : List ℕ) → IsTrue (is_among texts text) ↔ Contains texts text
among_tested [] text = (λ yes. absurd cc, λ found. absurd (contains_none text found))
among_tested (first ∷ texts) text =
    Iff.trans (Decides-or (bytes_eq first text) (is_among texts text) (bytes_eq-Decides first text) (among_tested texts text)) (Iff.symm (contains_cons first texts text))

sections_tested : (test : Section → Bool) (P : Section → Type 0) → ((section : Section) → IsTrue (test section) ↔ P section) → (sections : List Section) → IsTrue (list_any test sections) ↔ SomeSection P sections
sections_tested test P each [] = (λ yes. absurd cc, λ no. absurd no)
sections_tested test P each (section ∷ sections) =
    Decides-or (test section) (list_any test sections) (each section) (sections_tested test P each sections)

pub name_tested : (r : Revocations) (name : Name) → IsTrue (holds_name r name) ↔ HoldsName r name
name_tested r (SerialOf a s) =
    sections_tested (λ section. bytes_eq section.authority a && has section.spans s) (λ section. (section.authority ≡ a) × Covers section.spans s)
    (λ section. Decides-and (bytes_eq section.authority a) (has section.spans s) (bytes_eq-Decides section.authority a) (has_names section.spans s)) r.sections
name_tested r (IdOf a text) =
    sections_tested (λ section. bytes_eq section.authority a && is_among section.ids text) (λ section. (section.authority ≡ a) × Contains section.ids text)
    (λ section. Decides-and (bytes_eq section.authority a) (is_among section.ids text) (bytes_eq-Decides section.authority a) (among_tested section.ids text)) r.sections
name_tested r (KeyOf blob) = among_tested r.keys blob
name_tested r (Sha1Of hash) = among_tested r.sha1s hash
name_tested r (Sha256Of hash) = among_tested r.sha256s hash

-- an answer about a name equals its test
pub name_is : (r : Revocations) (name : Name) (answer : Bool) → (IsTrue answer ↔ HoldsName r name) → answer ≡ holds_name r name
name_is r name answer asked = let tested = Iff.trans asked (Iff.symm (name_tested r name)) in both_ways answer (holds_name r name) tested.0 tested.1

-- ---- the names of reasons

pub passes_tested : (names : Name → Bool) (Named : Name → Type 0) → ((name : Name) → IsTrue (names name) ↔ Named name) → (name : Option Name) → IsTrue (passes names name) ↔ OfName Named name
passes_tested names Named tested None = none_tested
passes_tested names Named tested (Some name) = tested name

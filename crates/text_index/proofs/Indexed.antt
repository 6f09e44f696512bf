-- An index after a line was added.
use Rattle.std.proofs.Common.{◌≡◌, ℕ, zero, suc, ◌+◌, List, [], ◌∷◌, ◌++◌, ◌&&◌, ◌||◌, length, nat_eq, Bool, true, false, Option, refl, sym, ap, ◌∙◌, append_assoc, append-nil, arith}
use Rattle.std.specs.List.{list_any}
use Rattle.std.proofs.Math.Bool.{or-false}
use Rattle.std.proofs.lemmas.Bool.{and_right, ne_eqb}
use Rattle.std.proofs.lemmas.Bool.Decides.{nat_tests}
use Rattle.std.proofs.lemmas.List.{length-append}
use Rattle.krl_types.specs.Entry.{Entry}
use Rattle.krl_types.specs.Naming.{Name}
use Rattle.text_index.specs.Indexing.{Indexes, IndexesMore, line_of, names_at, naming_all, said_names}
use Rattle.text_index.specs.NameIndex.{AddsNames, numbers}
use Rattle.text_index.specs.NamingLines.{NamingLine, naming}
use Rattle.text_index.specs.declared.indexing.TextIndex.{TextIndex}
use Rattle.text_index.specs.declared.text_line.TextLine.{TextLine}

-- ---- one more line

one_less : (i n : ℕ) → nat_eq (suc i) (suc n) ≡ nat_eq i n
one_less i n = grind (arith, nat_tests)

names_more : (said : List (Option Entry)) (entry : Option Entry) (i : ℕ) (name : Name)
    → names_at (said ++ entry ∷ []) i name ≡ (names_at said i name || (said_names entry name && nat_eq i (length said)))
unfolding names_at
names_more [] entry zero name = by (said_names entry name)
  where
    by : (b : Bool) → b ≡ (b && true)
    by true = refl
    by false = refl
names_more [] entry (suc i) name = sym (and_right (said_names entry name) (nat_eq (suc i) 0) (ne_eqb (suc i) 0 (λ (same : suc i ≡ 0). omega (arith, same))))
names_more (first ∷ said) entry zero name =
    let other : nat_eq 0 (length (first ∷ said)) ≡ false = ne_eqb 0 (length (first ∷ said)) (λ (same : 0 ≡ length (first ∷ said)). omega (arith, same)) in
    sym (ap (λ (b : Bool). said_names first name || b) (and_right (said_names entry name) (nat_eq 0 (length (first ∷ said))) other) ∙ or-false (said_names first name))
names_more (first ∷ said) entry (suc i) name =
    names_more said entry i name ∙ ap (λ (b : Bool). names_at said i name || (said_names entry name && b)) (sym (one_less i (length said)))

naming_more : (lines : List TextLine) (said : List (Option Entry)) (line : TextLine) (entry : Option Entry) → length said ≡ length lines
    → naming_all (lines ++ line ∷ []) (said ++ entry ∷ []) ≡ naming_all lines said ++ naming (line_of line) entry
naming_more [] [] line entry same = append-nil _
naming_more [] (first ∷ said) line entry same = absurd (omega (arith, same))
naming_more (other ∷ lines) [] line entry same = absurd (omega (arith, same))
naming_more (other ∷ lines) (first ∷ said) line entry same =
    ap (λ (rest : List NamingLine). naming (line_of other) first ++ rest) (naming_more lines said line entry (omega (arith, same)))
    ∙ sym (append_assoc (naming (line_of other) first) (naming_all lines said) (naming (line_of line) entry))

pub index_more : (old new : TextIndex) (line : TextLine) (entry : Option Entry) → new.lines.items ≡ old.lines.items ++ line ∷ []
    → new.by ≡ old.by → AddsNames (length old.lines.items) (said_names entry) old.names new.names → IndexesMore old new (naming (line_of line) entry)
index_more old new line entry pushed by adds = record { by = by; adds = λ lines is. indexes lines is }
  where
    indexes : (lines : List NamingLine) → Indexes old lines → Indexes new (lines ++ naming (line_of line) entry)
    indexes lines is = record {
      said = is.said ++ entry ∷ [];
      one_each = length-append is.said (entry ∷ []) ∙ ap (λ (n : ℕ). n + 1) is.one_each ∙ sym (ap length pushed ∙ length-append old.lines.items (line ∷ []));
      lines_are =
          ap (λ (before : List NamingLine). before ++ naming (line_of line) entry) is.lines_are
          ∙ sym (ap (λ (items : List TextLine). naming_all items (is.said ++ entry ∷ [])) pushed ∙ naming_more old.lines.items is.said line entry is.one_each);
      found = λ name i.
          adds.of_each name i
          ∙ ap (λ (r : Bool). r || (said_names entry name && nat_eq i (length old.lines.items))) (is.found name i)
          ∙ ap (λ (n : ℕ). names_at is.said i name || (said_names entry name && nat_eq i n)) (sym is.one_each)
          ∙ sym (names_more is.said entry i name);
    }

-- ---- no lines

pub none_indexed : (index : TextIndex) → index.lines.items ≡ [] → ((name : Name) → numbers index.names name ≡ []) → Indexes index []
unfolding names_at
none_indexed index none empty = record {
  said = [];
  one_each = sym (ap length none);
  lines_are = sym (ap (λ (items : List TextLine). naming_all items []) none);
  found = λ name i. ap (list_any (nat_eq i)) (empty name);
}

-- Tables: reading returns only what the table spells, reads each spelling, and reports its first fault; and a spelling
-- that is truncated has a fault.
use Rattle.std.proofs.Common.{◌≡◌, ℕ, ◌+◌, ◌-◌, ◌<◌, List, [], ◌∷◌, ◌++◌, length, take, drop, slice_index, Option, Some, None, Result, Ok, Err, refl, sym, ap, subst, ◌∙◌, append_assoc, arith, inl, inr}
use Rattle.std.proofs.lemmas.Bool.{cases_lt}
use Rattle.std.proofs.lemmas.List.{append-nil, length-append, length-drop, take-append-drop, take-append-le}
use Rattle.ssh_wire.specs.Laws.{IsShortWhereCut}
use Rattle.ssh_wire.specs.Wire.{IsBytes, complement}
use Rattle.ssh_wire.specs.Reading.{in_fault, mpint_at, number_at, string_at}
use Rattle.ssh_wire.specs.Rows.{BeginsWithPart, Fails, IsPart, BeginsWithTable, Magnitude, Number, Part, Row, RowFails, Text, alone, part_at, part_text, table_at, table_text, row_at, unless}
use Rattle.ssh_wire.specs.declared.fault.WireFault.{WireFault}
use Rattle.ssh_wire.specs.declared.fault.WireFault.TheVariants.{Short}
use Rattle.ssh_wire.proofs.TruncatedFields.{mpint-cut, number-cut, string-cut, take-after}
use Rattle.ssh_wire.proofs.Fields.{length-mpint, length-number, length-string, mpint_again, mpint_takes, number_again, number_takes, string_again, string_takes}
use Rattle.ssh_wire.proofs.Steps.{bind_err, bind_ok, err_is, in_fault_err, in_fault_ok, ok_or_err}

-- ---- one part

-- a value at the front, and bytes after it
pub record Taken (part : Part) (bytes value rest : List ℕ) : Type 0 where
  pub stands : BeginsWithPart part bytes value rest
  pub rest_fits : IsBytes rest

alone_ok : (read : Result (ℕ × List ℕ) WireFault) (value rest : List ℕ) → alone read ≡ Ok (value, rest) → (n : ℕ) × (read ≡ Ok (n, rest)) × (value ≡ n ∷ [])
alone_ok (Err fault) value rest e = absurd cc
alone_ok (Ok (n, left)) value rest e =
    let same : (n ∷ [], left) ≡ (value, rest) = cc in
    (n, ap (λ (p : List ℕ × List ℕ). Ok (n, p.1)) same, sym (ap (λ (p : List ℕ × List ℕ). p.0) same))

number_taken : (size : ℕ) (bytes value rest : List ℕ) (n : ℕ) → IsBytes bytes → number_at size bytes ≡ Ok (n, rest) → value ≡ n ∷ [] → Taken (Number size) bytes value rest
number_taken size bytes value rest n fits e is =
    let t = number_takes size bytes n rest fits e in
    let taken : Taken (Number size) bytes (n ∷ []) rest = record { stands = record { is_part = (refl, t.1); spelled = t.0.parts }; rest_fits = t.0.rest_fits } in
    subst (λ (v : List ℕ). Taken (Number size) bytes v rest) (sym is) taken

pub part_takes : (part : Part) (bytes value rest : List ℕ) → IsBytes bytes → part_at part bytes ≡ Ok (value, rest) → Taken part bytes value rest
part_takes (Number size) bytes value rest fits e =
    let a = alone_ok (number_at size bytes) value rest e in
    number_taken size bytes value rest a.0 fits a.1 a.2
part_takes Magnitude bytes value rest fits e =
    let t = mpint_takes bytes value rest fits e in
    record { stands = record { is_part = (t.1, t.2); spelled = t.0.parts }; rest_fits = t.0.rest_fits }
part_takes Text bytes value rest fits e =
    let t = string_takes bytes value rest fits e in
    record { stands = record { is_part = t.1; spelled = t.0.parts }; rest_fits = t.0.rest_fits }

pub part_again : (part : Part) (bytes value rest : List ℕ) → BeginsWithPart part bytes value rest → part_at part bytes ≡ Ok (value, rest)
part_again (Number size) bytes value rest s =
    rw (s.spelled, number_again size (slice_index value 0) rest s.is_part.1) (ap (λ (v : List ℕ). Ok (v, rest)) (sym s.is_part.0))
part_again Magnitude bytes value rest s = ap mpint_at s.spelled ∙ mpint_again value rest s.is_part.0 s.is_part.1
part_again Text bytes value rest s = ap string_at s.spelled ∙ string_again value rest s.is_part

part-cut : (part : Part) (value : List ℕ) → IsPart part value → IsShortWhereCut (part_at part) (part_text part value)
part-cut (Number size) value is front rest parts some = rw (number-cut size (slice_index value 0) front rest parts some) refl
part-cut Magnitude value is front rest parts some = mpint-cut value is.1 front rest parts some
part-cut Text value is front rest parts some = string-cut value is front rest parts some

-- reading fails if the bytes end before the text does
cut_at : {A : Type 0} (read : List ℕ → Result A WireFault) (text rest : List ℕ) (n : ℕ) → IsShortWhereCut read text → n < length text → read (take n (text ++ rest)) ≡ Err Short
cut_at read text rest n short lt =
    let front : take n (text ++ rest) ≡ take n text = take-append-le n text rest (omega arith) in
    ap read front ∙ short (take n text) (drop n text) (sym (take-append-drop n text)) (omega (arith, length-drop n text))

pub part_cut : (part : Part) (bytes value rest : List ℕ) (n : ℕ) → BeginsWithPart part bytes value rest → n < length (part_text part value) → part_at part (take n bytes) ≡ Err Short
part_cut part bytes value rest n s lt =
    ap (λ (b : List ℕ). part_at part (take n b)) s.spelled ∙ cut_at (part_at part) (part_text part value) rest n (part-cut part value s.is_part) lt

-- ---- a row of a table

pub unless_ok : {A F : Type 0} (o : Option F) (x y : A) → unless o x ≡ Ok y → (o ≡ None) × (x ≡ y)
unless_ok None x y e = (refl, cc)
unless_ok (Some fault) x y e = absurd cc

unless_err : {A F : Type 0} (o : Option F) (x : A) (d : F) → unless o x ≡ Err d → o ≡ Some d
unless_err None x d e = absurd cc
unless_err {F = F} (Some fault) x d e = let same : fault ≡ d = cc in ap (λ (f : F). Some f) same

pub row_takes : {F : Type 0} (unread : WireFault → F) (s : Row F) (before : List (List ℕ)) (bytes : List ℕ) (x : List ℕ × List ℕ) → IsBytes bytes → row_at unread s before bytes ≡ Ok x → Taken s.part bytes x.0 x.1 × (s.judged before x.0 ≡ None)
row_takes unread s before bytes x fits e =
    let a = bind_ok (in_fault unread (part_at s.part bytes)) (λ read. unless (s.judged before read.0) read) x e in
    let u = unless_ok (s.judged before a.0.0) a.0 x a.2 in
    let t = part_takes s.part bytes a.0.0 a.0.1 fits (in_fault_ok unread (part_at s.part bytes) a.0 a.1) in
    subst (λ (y : List ℕ × List ℕ). Taken s.part bytes y.0 y.1 × (s.judged before y.0 ≡ None)) u.1 (t, u.0)

pub row_refused : {F : Type 0} (unread : WireFault → F) (s : Row F) (before : List (List ℕ)) (bytes : List ℕ) (fault : F) → IsBytes bytes → row_at unread s before bytes ≡ Err fault → RowFails unread s before bytes fault
row_refused unread s before bytes fault fits e =
    elim (bind_err (in_fault unread (part_at s.part bytes)) (λ read. unless (s.judged before read.0) read) fault e) [
      | inl short ↦ inl (in_fault_err unread (part_at s.part bytes) fault short)
      | inr read ↦
          let t = part_takes s.part bytes read.0.0 read.0.1 fits (in_fault_ok unread (part_at s.part bytes) read.0 read.1) in
          inr (read.0.0, read.0.1, t.stands, unless_err (s.judged before read.0.0) read.0 fault read.2)
    ]

-- ---- tables

-- a table, and bytes after it
pub record TakenTable {F : Type 0} (rows : List (Row F)) (before : List (List ℕ)) (bytes : List ℕ) (values : List (List ℕ)) (rest : List ℕ) : Type 0 where
  pub begins : BeginsWithTable rows before bytes values rest
  pub rest_fits : IsBytes rest

pub table_takes : {F : Type 0} (unread : WireFault → F) (rows : List (Row F)) (before : List (List ℕ)) (bytes : List ℕ) (x : List (List ℕ) × List ℕ) → IsBytes bytes → table_at unread rows before bytes ≡ Ok x → TakenTable rows before bytes x.0 x.1
unfolding table_at
table_takes unread [] before bytes x fits e =
    let same : (before, bytes) ≡ x = cc in
    record { begins = (ap (λ (p : List (List ℕ) × List ℕ). p.0) same, ap (λ (p : List (List ℕ) × List ℕ). p.1) same); rest_fits = subst (λ (p : List (List ℕ) × List ℕ). IsBytes p.1) same fits }
table_takes unread (s ∷ rows) before bytes x fits e =
    let a = bind_ok (row_at unread s before bytes) (λ read. table_at unread rows (before ++ read.0 ∷ []) read.1) x e in
    let t = row_takes unread s before bytes a.0 fits a.1 in
    let later = table_takes unread rows (before ++ a.0.0 ∷ []) a.0.1 x t.0.rest_fits a.2 in
    record { begins = (a.0.0, a.0.1, t.0.stands, t.1, later.begins); rest_fits = later.rest_fits }

pub table_again : {F : Type 0} (unread : WireFault → F) (rows : List (Row F)) (before : List (List ℕ)) (bytes : List ℕ) (values : List (List ℕ)) (rest : List ℕ) → BeginsWithTable rows before bytes values rest → table_at unread rows before bytes ≡ Ok (values, rest)
unfolding table_at
table_again unread [] before bytes values rest l = rw (l.0, l.1) refl
table_again unread (s ∷ rows) before bytes values rest (value, left, stands, passed, l) =
    rw (part_again s.part bytes value left stands, passed) (table_again unread rows (before ++ value ∷ []) left values rest l)

pub table_refused : {F : Type 0} (unread : WireFault → F) (rows : List (Row F)) (before : List (List ℕ)) (bytes : List ℕ) (fault : F) → IsBytes bytes → table_at unread rows before bytes ≡ Err fault → Fails unread rows before bytes fault
unfolding table_at
table_refused unread [] before bytes fault fits e = absurd cc
table_refused unread (s ∷ rows) before bytes fault fits e =
    elim (bind_err (row_at unread s before bytes) (λ read. table_at unread rows (before ++ read.0 ∷ []) read.1) fault e) [
      | inl here ↦ inl (row_refused unread s before bytes fault fits here)
      | inr read ↦
          let t = row_takes unread s before bytes read.0 fits read.1 in
          inr (read.0.0, read.0.1, t.0.stands, t.1, table_refused unread rows (before ++ read.0.0 ∷ []) read.0.1 fault t.0.rest_fits read.2)
    ]

pub table_fails : {F : Type 0} (unread : WireFault → F) (rows : List (Row F)) (before : List (List ℕ)) (bytes : List ℕ) (fault : F) → Fails unread rows before bytes fault → table_at unread rows before bytes ≡ Err fault
unfolding table_at
table_fails unread [] before bytes fault f = absurd f
table_fails unread (s ∷ rows) before bytes fault (inl (inl (why, short, is))) = rw (is, short) refl
table_fails unread (s ∷ rows) before bytes fault (inl (inr (value, left, stands, refused))) = rw (part_again s.part bytes value left stands, refused) refl
table_fails unread (s ∷ rows) before bytes fault (inr (value, left, stands, passed, later)) =
    rw (part_again s.part bytes value left stands, passed) (table_fails unread rows (before ++ value ∷ []) left fault later)

-- ---- one first fault, also of bytes that are truncated

pub one_fault : {F : Type 0} (unread : WireFault → F) (rows : List (Row F)) (before : List (List ℕ)) (bytes : List ℕ) (a b : F) → Fails unread rows before bytes a → Fails unread rows before bytes b → a ≡ b
one_fault unread rows before bytes a b p q =
    err_is a b (table_at unread rows before bytes) (table_fails unread rows before bytes a p) (table_fails unread rows before bytes b q)

pub no_fault : {F : Type 0} (unread : WireFault → F) (rows : List (Row F)) (before : List (List ℕ)) (bytes : List ℕ) (values : List (List ℕ)) (rest : List ℕ) (fault : F) → BeginsWithTable rows before bytes values rest → Fails unread rows before bytes fault → ⊥
no_fault unread rows before bytes values rest fault l f =
    ok_or_err (values, rest) fault (table_at unread rows before bytes) (table_again unread rows before bytes values rest l) (table_fails unread rows before bytes fault f)

pub table_cut : {F : Type 0} (unread : WireFault → F) (rows : List (Row F)) (before : List (List ℕ)) (bytes : List ℕ) (values : List (List ℕ)) (n : ℕ) → BeginsWithTable rows before bytes values [] → n < length bytes → Fails unread rows before (take n bytes) (unread Short)
table_cut unread [] before bytes values n l lt = absurd (omega (arith, ap length l.1))
table_cut unread (s ∷ rows) before bytes values n (value, left, stands, passed, l) lt =
    let text : List ℕ = part_text s.part value in
    elim (cases_lt n (length text)) [
      | inl within ↦ inl (inl (Short, part_cut s.part bytes value left n stands within, refl))
      | inr after ↦
          let parts : take n bytes ≡ text ++ take (n - length text) left = ap (take n) stands.spelled ∙ take-after text left n after in
          let fewer : n - length text < length left = omega (arith, ap length stands.spelled, length-append text left) in
          inr (value, take (n - length text) left, record { is_part = stands.is_part; spelled = parts }, passed, table_cut unread rows (before ++ value ∷ []) left values (n - length text) l fewer)
    ]

-- ---- the bytes of a table alone

-- the bytes before the rest
pub table_front : {F : Type 0} (rows : List (Row F)) (before : List (List ℕ)) (bytes : List ℕ) (values : List (List ℕ)) (rest : List ℕ) → BeginsWithTable rows before bytes values rest → (text : List ℕ) × (bytes ≡ text ++ rest) × BeginsWithTable rows before text values []
table_front [] before bytes values rest l = ([], l.1, (l.0, refl))
table_front (s ∷ rows) before bytes values rest (value, left, stands, passed, l) =
    let later = table_front rows (before ++ value ∷ []) left values rest l in
    let text : List ℕ = part_text s.part value in
    let parts : bytes ≡ (text ++ later.0) ++ rest = stands.spelled ∙ ap (λ (t : List ℕ). text ++ t) later.1 ∙ sym (append_assoc text later.0 rest) in
    (text ++ later.0, parts, (value, later.0, record { is_part = stands.is_part; spelled = refl }, passed, later.2))

-- the same bytes before others
pub table_more : {F : Type 0} (rows : List (Row F)) (before : List (List ℕ)) (bytes : List ℕ) (values : List (List ℕ)) (rest more : List ℕ) → BeginsWithTable rows before bytes values rest → BeginsWithTable rows before (bytes ++ more) values (rest ++ more)
table_more [] before bytes values rest more l = (l.0, ap (λ (t : List ℕ). t ++ more) l.1)
table_more (s ∷ rows) before bytes values rest more (value, left, stands, passed, l) =
    let parts : bytes ++ more ≡ part_text s.part value ++ (left ++ more) = ap (λ (t : List ℕ). t ++ more) stands.spelled ∙ append_assoc (part_text s.part value) left more in
    (value, left ++ more, record { is_part = stands.is_part; spelled = parts }, passed, table_more rows (before ++ value ∷ []) left values rest more l)

-- a value of its part in each row
abbrev pub AreParts : {F : Type 0} → List (Row F) → List (List ℕ) → Type 0
AreParts [] [] = Unit {0}
AreParts [] (value ∷ values) = ⊥
AreParts (s ∷ rows) [] = ⊥
AreParts (s ∷ rows) (value ∷ values) = IsPart s.part value × AreParts rows values

-- the values of the rows alone
record Own {F : Type 0} (rows : List (Row F)) (before : List (List ℕ)) (bytes : List ℕ) (values : List (List ℕ)) (rest : List ℕ) : Type 0 where
  own : List (List ℕ)
  all : values ≡ before ++ own
  parts : bytes ≡ table_text rows own ++ rest
  are : AreParts rows own

own_values : {F : Type 0} (rows : List (Row F)) (before : List (List ℕ)) (bytes : List ℕ) (values : List (List ℕ)) (rest : List ℕ) → BeginsWithTable rows before bytes values rest → Own rows before bytes values rest
own_values [] before bytes values rest l = record { own = []; all = sym l.0 ∙ sym (append-nil before); parts = l.1; are = tt }
own_values (s ∷ rows) before bytes values rest (value, left, stands, passed, l) =
    let later = own_values rows (before ++ value ∷ []) left values rest l in
    record {
      own = value ∷ later.own;
      all = later.all ∙ append_assoc before (value ∷ []) later.own;
      parts = stands.spelled ∙ ap (λ (t : List ℕ). part_text s.part value ++ t) later.parts ∙ sym (append_assoc (part_text s.part value) (table_text rows later.own) rest);
      are = (stands.is_part, later.are);
    }

pub table_is_text : {F : Type 0} (rows : List (Row F)) (text : List ℕ) (values : List (List ℕ)) → BeginsWithTable rows [] text values [] → (text ≡ table_text rows values) × AreParts rows values
table_is_text rows text values l =
    let o = own_values rows [] text values [] l in
    subst (λ (v : List (List ℕ)). (text ≡ table_text rows v) × AreParts rows v) (sym o.all) (o.parts ∙ append-nil (table_text rows o.own), o.are)

-- ---- the text of values

-- each value is one of its row, and passes
abbrev pub ArePassed : {F : Type 0} → List (Row F) → List (List ℕ) → List (List ℕ) → Type 0
ArePassed [] before values = values ≡ []
ArePassed (s ∷ rows) before [] = ⊥
ArePassed (s ∷ rows) before (value ∷ values) = IsPart s.part value × (s.judged before value ≡ None) × ArePassed rows (before ++ value ∷ []) values

pub table_text_begins : {F : Type 0} (rows : List (Row F)) (before values : List (List ℕ)) → ArePassed rows before values → BeginsWithTable rows before (table_text rows values) (before ++ values) []
table_text_begins [] before values none = (sym (append-nil before) ∙ ap (λ (others : List (List ℕ)). before ++ others) (sym none), refl)
table_text_begins (s ∷ rows) before [] none = absurd none
table_text_begins (s ∷ rows) before (value ∷ values) (is, passed, later) =
    (value, table_text rows values, record { is_part = is; spelled = refl }, passed, rw (sym (append_assoc before (value ∷ []) values)) (table_text_begins rows (before ++ value ∷ []) values later))

-- how many bytes the encoding of a value has
abbrev pub part_length : Part → List ℕ → ℕ
part_length (Number size) value = size
part_length Magnitude value = 4 + length (complement value)
part_length Text value = 4 + length value

length-part : (part : Part) (value : List ℕ) → length (part_text part value) ≡ part_length part value
length-part (Number size) value = length-number size (slice_index value 0)
length-part Magnitude value = length-mpint value
length-part Text value = length-string value

abbrev pub table_length : {F : Type 0} → List (Row F) → List (List ℕ) → ℕ
table_length [] values = 0
table_length (s ∷ rows) [] = 0
table_length (s ∷ rows) (value ∷ values) = part_length s.part value + table_length rows values

pub length-table : {F : Type 0} (rows : List (Row F)) (values : List (List ℕ)) → length (table_text rows values) ≡ table_length rows values
length-table [] values = refl
length-table (s ∷ rows) [] = refl
length-table (s ∷ rows) (value ∷ values) = omega (arith, length-append (part_text s.part value) (table_text rows values), length-part s.part value, length-table rows values)

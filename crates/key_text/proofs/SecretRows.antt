-- Rows of fields that may have any value: skipping them field by field gives the same as the rows of steps.
use Rattle.std.proofs.Common.{◌≡◌, ℕ, ◌+◌, ◌<◌, ◌≤◌, List, [], ◌∷◌, ◌++◌, length, get_or, drop, Result, Ok, Err, refl, sym, ap, ◌∙◌, append_assoc, inl, inr}
use Rattle.std.specs.Str.{bytes_eq}
use Rattle.std.proofs.lemmas.List.{append-nil, drop_all, drop_more}
use Rattle.ssh_wire.specs.Reading.{in_fault, ◌>>=◌}
use Rattle.ssh_wire.proofs.Steps.{bind_err, bind_ok}
use Rattle.ssh_key.specs.declared.kind.Kind.{Kind}
use Rattle.key_text.specs.Container.{public_text, secrets}
use Rattle.key_text.specs.ContainerReading.{HasRows, Spells, part_of, passed_at, rows_of, same_at}
use Rattle.ssh_wire.specs.Rows.{Row, part_at, part_text, table_at}
use Rattle.key_text.specs.declared.container.secrets.Spelling.{Spelling}
use Rattle.key_text.specs.declared.container.secrets.Spelling.TheVariants as spellings
use Rattle.key_text.specs.declared.private_fault.PrivateFault.{PrivateFault}
use Rattle.key_text.specs.declared.private_fault.PrivateFault.TheVariants.{Wire}

-- ---- a row that is skipped field by field

-- all bytes that were skipped, after these bytes
abbrev pub in_all : List ℕ → Result (List ℕ × List ℕ) PrivateFault → Result (List ℕ × List ℕ) PrivateFault
in_all read later = later >>= λ others. Ok (read ++ others.0, others.1)

pub none_passed : (later : Result (List ℕ × List ℕ) PrivateFault) → later ≡ in_all [] later
none_passed (Ok others) = refl
none_passed (Err fault) = refl

regrouped : (read text : List ℕ) (later : Result (List ℕ × List ℕ) PrivateFault) → in_all read (in_all text later) ≡ in_all (read ++ text) later
regrouped read text (Ok others) = ap (λ (bytes : List ℕ). Ok (bytes, others.1)) (sym (append_assoc read text others.0))
regrouped read text (Err fault) = refl

pub one_passed : (row : List Spelling) (i : ℕ) (read bytes value rest : List ℕ) → i < length row → part_at (part_of (get_or row i spellings.Number)) bytes ≡ Ok (value, rest) → in_all read (passed_at (drop i row) bytes) ≡ in_all (read ++ part_text (part_of (get_or row i spellings.Number)) value) (passed_at (drop (i + 1) row) rest)
unfolding passed_at
one_passed row i read bytes value rest lt e =
    rw (drop_more row i spellings.Number lt, e) (regrouped read (part_text (part_of (get_or row i spellings.Number)) value) (passed_at (drop (i + 1) row) rest))

pub one_refused : (row : List Spelling) (i : ℕ) (read bytes : List ℕ) (fault : PrivateFault) → i < length row → in_fault Wire (part_at (part_of (get_or row i spellings.Number)) bytes) ≡ Err fault → in_all read (passed_at (drop i row) bytes) ≡ Err fault
unfolding passed_at
one_refused row i read bytes fault lt e = rw (drop_more row i spellings.Number lt, e) refl

pub all_passed : (row : List Spelling) (i : ℕ) (read bytes : List ℕ) → length row ≤ i → in_all read (passed_at (drop i row) bytes) ≡ Ok (read, bytes)
unfolding passed_at
all_passed row i read bytes le = rw (drop_all i row le) (ap (λ (text : List ℕ). Ok (text, bytes)) (append-nil read))

-- ---- a row among the steps

row_next : (spelling : Spelling) (row : List Spelling) (more : List (Row PrivateFault)) (before : List (List ℕ)) (bytes : List ℕ) (read : List ℕ × List ℕ) → in_fault Wire (part_at (part_of spelling) bytes) ≡ Ok read → table_at Wire (rows_of (spelling ∷ row) ++ more) before bytes ≡ table_at Wire (rows_of row ++ more) (before ++ read.0 ∷ []) read.1
unfolding table_at
row_next spelling row more before bytes read is = rw is refl

pub row_passed : (row : List Spelling) (more : List (Row PrivateFault)) (before : List (List ℕ)) (bytes : List ℕ) (x : List ℕ × List ℕ) → passed_at row bytes ≡ Ok x → (values : List (List ℕ)) × Spells row values x.0 × (table_at Wire (rows_of row ++ more) before bytes ≡ table_at Wire more (before ++ values) x.1)
unfolding passed_at table_at
row_passed [] more before bytes x e =
    let same : ([], bytes) ≡ x = cc in
    ([], (refl, sym (ap (λ (p : List ℕ × List ℕ). p.0) same)), rw (append-nil before, sym same) refl)
row_passed (spelling ∷ row) more before bytes x e =
    let a = bind_ok (in_fault Wire (part_at (part_of spelling) bytes)) (λ read. passed_at row read.1 >>= λ others. Ok (part_text (part_of spelling) read.0 ++ others.0, others.1)) x e in
    let b = bind_ok (passed_at row a.0.1) (λ others. Ok (part_text (part_of spelling) a.0.0 ++ others.0, others.1)) x a.2 in
    let same : (part_text (part_of spelling) a.0.0 ++ b.0.0, b.0.1) ≡ x = cc in
    let later = row_passed row more (before ++ a.0.0 ∷ []) a.0.1 b.0 b.1 in
    (a.0.0 ∷ later.0, (a.0.0, later.0, b.0.0, refl, sym (ap (λ (p : List ℕ × List ℕ). p.0) same), later.1), ◌∙◌ {b = table_at Wire (rows_of row ++ more) (before ++ a.0.0 ∷ []) a.0.1} (row_next spelling row more before bytes a.0 a.1) (◌∙◌ {b = table_at Wire more ((before ++ a.0.0 ∷ []) ++ later.0) b.0.1} later.2 (rw (append_assoc before (a.0.0 ∷ []) later.0) (ap (λ (p : List ℕ × List ℕ). table_at Wire more (before ++ a.0.0 ∷ later.0) p.1) same))))

pub row_stopped : (row : List Spelling) (more : List (Row PrivateFault)) (before : List (List ℕ)) (bytes : List ℕ) (fault : PrivateFault) → passed_at row bytes ≡ Err fault → table_at Wire (rows_of row ++ more) before bytes ≡ Err fault
unfolding passed_at table_at
row_stopped [] more before bytes fault e = absurd cc
row_stopped (spelling ∷ row) more before bytes fault e =
    elim (bind_err (in_fault Wire (part_at (part_of spelling) bytes)) (λ read. passed_at row read.1 >>= λ others. Ok (part_text (part_of spelling) read.0 ++ others.0, others.1)) fault e) [
      | inl cut ↦ rw cut refl
      | inr (read, is, later) ↦ row_next spelling row more before bytes read is ∙ (row_stopped row more (before ++ read.0 ∷ []) read.1 fault (elim (bind_err (passed_at row read.1) (λ others. Ok (part_text (part_of spelling) read.0 ++ others.0, others.1)) fault later) [
        | inl stopped ↦ stopped
        | inr (others, was, never) ↦ absurd cc
      ]))
    ]

-- ---- the fields of a kind

pub is_same : (kind : Kind) (public bytes read : List ℕ) (values : List (List ℕ)) (rest : List ℕ) → table_at Wire (secrets kind) [] bytes ≡ Ok (values, rest) → public_text kind values ≡ read → same_at kind public bytes ≡ Ok (bytes_eq read public, rest)
unfolding same_at
is_same kind public bytes read values rest e text = rw (e, text) refl

pub is_stopped : (kind : Kind) (public bytes : List ℕ) (fault : PrivateFault) → table_at Wire (secrets kind) [] bytes ≡ Err fault → same_at kind public bytes ≡ Err fault
unfolding same_at
is_stopped kind public bytes fault e = rw e refl

whole_row : (row : List Spelling) → rows_of row ++ [] ≡ rows_of row
whole_row row = append-nil (rows_of row)

pub rows_same : (kind : Kind) (first others : List Spelling) (public bytes among left private rest : List ℕ) → HasRows kind first others → passed_at first bytes ≡ Ok (among, left) → passed_at others left ≡ Ok (private, rest) → same_at kind public bytes ≡ Ok (bytes_eq among public, rest)
unfolding table_at
rows_same kind first others public bytes among left private rest has e1 e2 =
    let a = row_passed first (rows_of others) [] bytes (among, left) e1 in
    let b = row_passed others [] a.0 left (private, rest) e2 in
    is_same kind public bytes among (a.0 ++ b.0) rest (rw has.rows (a.2 ∙ sym (ap (λ (row : List (Row PrivateFault)). table_at Wire row a.0 left) (whole_row others)) ∙ b.2)) (has.public a.0 b.0 among a.1)

pub rows_first : (kind : Kind) (first others : List Spelling) (public bytes : List ℕ) (fault : PrivateFault) → HasRows kind first others → passed_at first bytes ≡ Err fault → same_at kind public bytes ≡ Err fault
rows_first kind first others public bytes fault has e = is_stopped kind public bytes fault (rw has.rows (row_stopped first (rows_of others) [] bytes fault e))

pub rows_others : (kind : Kind) (first others : List Spelling) (public bytes among left : List ℕ) (fault : PrivateFault) → HasRows kind first others → passed_at first bytes ≡ Ok (among, left) → passed_at others left ≡ Err fault → same_at kind public bytes ≡ Err fault
rows_others kind first others public bytes among left fault has e1 e2 =
    let a = row_passed first (rows_of others) [] bytes (among, left) e1 in
    is_stopped kind public bytes fault (rw has.rows (a.2 ∙ sym (ap (λ (row : List (Row PrivateFault)). table_at Wire row a.0 left) (whole_row others)) ∙ row_stopped others [] a.0 left fault e2))

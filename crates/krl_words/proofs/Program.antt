-- The program's options, as the walk over the words finds them.
use Rattle.std.proofs.Common.{◌≡◌, ◌∙◌, ◌==◌, ◌∷◌, ◌⊎◌, [], ℕ, Bool, true, false, arith, codes, inl, inr, refl, sym, subst, List, None, Option, Some}
use Rattle.std.specs.Prelude.{fold, unwrap_or}
use Rattle.std.specs.List.{AllByRecursion}
use Rattle.std.specs.Str.{bytes_eq}
use Rattle.std.proofs.lemmas.Bool.{eqb-true}
use Rattle.clap.specs.Faults.{long_fault, settle_fault, use_fault}
use Rattle.clap.specs.Simple.{Shape, built, new_rule}
use Rattle.clap.specs.Walk.{Held, Row, Rule, Text, arg_by_index, arg_by_long, arg_by_short, finished, has_row, settled, takes_values, with_default}
use Rattle.clap.specs.declared.error.kind.ErrorKind.{ErrorKind}
use Rattle.krl_words.specs.Options.{program}
use Rattle.krl_words.proofs.HeldRows.{holds, no_default, other_default, settled_none}
use Rattle.krl_words.proofs.Bundles.{LetterIs, flag, or_else_parts, unknown, valued}
use Rattle.krl_words.proofs.Words.{IsFiles}

abbrev pub top : Shape
top = (built program).top

-- ---- letters

abbrev rule_at : ℕ → Rule
rule_at x = unwrap_or (arg_by_short top.rules x) (new_rule [])

at : (k x : ℕ) → (k == x) ≡ true → LetterIs top.rules k → LetterIs top.rules x
at k x is of = subst (λ (n : ℕ). LetterIs top.rules n) (eqb-true k x is) of

by_letter : (x : ℕ) (b1 b2 b3 b4 b5 b6 b7 b8 b9 b10 : Bool) → (108 == x) ≡ b1 → (76 == x) ≡ b2 → (107 == x) ≡ b3 → (81 == x) ≡ b4 → (102 == x) ≡ b5 → (69 == x) ≡ b6 → (117 == x) ≡ b7 → (115 == x) ≡ b8 → (122 == x) ≡ b9 → (104 == x) ≡ b10
    → LetterIs top.rules x
by_letter x true b2 b3 b4 b5 b6 b7 b8 b9 b10 e1 e2 e3 e4 e5 e6 e7 e8 e9 e10 = at 108 x e1 (flag (rule_at 108) refl refl refl (omega arith) refl refl)
by_letter x false true b3 b4 b5 b6 b7 b8 b9 b10 e1 e2 e3 e4 e5 e6 e7 e8 e9 e10 = at 76 x e2 (flag (rule_at 76) refl refl refl (omega arith) refl refl)
by_letter x false false true b4 b5 b6 b7 b8 b9 b10 e1 e2 e3 e4 e5 e6 e7 e8 e9 e10 = at 107 x e3 (flag (rule_at 107) refl refl refl (omega arith) refl refl)
by_letter x false false false true b5 b6 b7 b8 b9 b10 e1 e2 e3 e4 e5 e6 e7 e8 e9 e10 = at 81 x e4 (flag (rule_at 81) refl refl refl (omega arith) refl refl)
by_letter x false false false false true b6 b7 b8 b9 b10 e1 e2 e3 e4 e5 e6 e7 e8 e9 e10 = at 102 x e5 (valued (rule_at 102) refl (record { takes = refl; least = refl; most = refl; found = refl; other = refl }) refl (omega arith) refl)
by_letter x false false false false false true b7 b8 b9 b10 e1 e2 e3 e4 e5 e6 e7 e8 e9 e10 = at 69 x e6 (valued (rule_at 69) refl (record { takes = refl; least = refl; most = refl; found = refl; other = refl }) refl (omega arith) refl)
by_letter x false false false false false false true b8 b9 b10 e1 e2 e3 e4 e5 e6 e7 e8 e9 e10 = at 117 x e7 (flag (rule_at 117) refl refl refl (omega arith) refl refl)
by_letter x false false false false false false false true b9 b10 e1 e2 e3 e4 e5 e6 e7 e8 e9 e10 = at 115 x e8 (valued (rule_at 115) refl (record { takes = refl; least = refl; most = refl; found = refl; other = refl }) refl (omega arith) refl)
by_letter x false false false false false false false false true b10 e1 e2 e3 e4 e5 e6 e7 e8 e9 e10 = at 122 x e9 (valued (rule_at 122) refl (record { takes = refl; least = refl; most = refl; found = refl; other = refl }) refl (omega arith) refl)
by_letter x false false false false false false false false false true e1 e2 e3 e4 e5 e6 e7 e8 e9 e10 = at 104 x e10 (flag (rule_at 104) refl refl refl (omega arith) refl refl)
by_letter x false false false false false false false false false false e1 e2 e3 e4 e5 e6 e7 e8 e9 e10 = unknown (rw (e1, e2, e3, e4, e5, e6, e7, e8, e9, e10) refl)

pub letters : (x : ℕ) → LetterIs top.rules x
letters x = by_letter x (108 == x) (76 == x) (107 == x) (81 == x) (102 == x) (69 == x) (117 == x) (115 == x) (122 == x) (104 == x) refl refl refl refl refl refl refl refl refl refl

-- ---- long names, which all ask for help or the version

request_fault : (c : List Rule) (again : Bool) (a : Rule) (k : ErrorKind) (found : Option Rule) (v : Option Text) (h : Held) → found ≡ Some a → takes_values a ≡ false → ((rows : List Row) → use_fault again a [] rows ≡ k ∷ []) → long_fault c again found v h ≡ [] → ⊥
request_fault c again a k found (Some v) h some takes asks is =
    let at_a = subst (λ (o : Option Rule). long_fault c again o (Some v) h ≡ []) some is in
    cc (rw takes at at_a)
request_fault c again a k found None h some takes asks is =
    let at_a = subst (λ (o : Option Rule). long_fault c again o None h ≡ []) some is in
    let used = (or_else_parts (settle_fault c again h) (use_fault again a [] (settled c h).rows) (rw takes at at_a)).1 in
    cc (sym (asks (settled c h).rows) ∙ used)

pub longs : (name : Text) (v : Option Text) (h : Held) → long_fault top.rules top.args_override_self (arg_by_long top.rules name) v h ≡ [] → ⊥
longs name v h is = by (bytes_eq (codes "version") name) (bytes_eq (codes "help") name) refl refl
  where
    by : (version help : Bool) → bytes_eq (codes "version") name ≡ version → bytes_eq (codes "help") name ≡ help → ⊥
    by true help one two = request_fault top.rules top.args_override_self (unwrap_or (arg_by_long top.rules (codes "version")) (new_rule [])) _ (arg_by_long top.rules name) v h (rw one refl) refl (λ rows. refl) is
    by false true one two = request_fault top.rules top.args_override_self (unwrap_or (arg_by_long top.rules (codes "help")) (new_rule [])) _ (arg_by_long top.rules name) v h (rw (one, two) refl) refl (λ rows. refl) is
    by false false one two =
        let none : arg_by_long top.rules name ≡ None = rw (one, two) refl in
        cc (subst (λ (o : Option Rule). long_fault top.rules top.args_override_self o v h ≡ []) none is)

-- ---- the files

abbrev pub files : Rule
files = unwrap_or (arg_by_index top.rules 1) (new_rule [])

pub files_first : arg_by_index top.rules 1 ≡ Some files
files_first = refl

pub files_are : IsFiles files
files_are = record { id = refl; many = refl; ends = refl }

-- ---- the defaults

abbrev KeepsOut : Text → Rule → Type 0
KeepsOut id a = (a.defaults ≡ []) ⊎ (bytes_eq a.id id ≡ false)

defaults_none : (id : Text) (c : List Rule) (rows : List Row) → AllByRecursion (KeepsOut id) c → has_row id rows ≡ false → has_row id (fold with_default rows c) ≡ false
defaults_none id [] rows all is = is
defaults_none id (a ∷ c) rows all is = defaults_none id c (with_default rows a) all.1 (elim all.0 [ inl none ↦ no_default id rows a none is | inr differs ↦ other_default id rows a differs is ])

finished_none : (id : Text) (h : Held) → AllByRecursion (KeepsOut id) top.rules → holds id h ≡ false → has_row id (finished top.rules h) ≡ false
finished_none id h all is = defaults_none id top.rules (settled top.rules h).rows all (settled_none top.rules id h is)

pub no_authority : (h : Held) → holds (codes "authority") h ≡ false → has_row (codes "authority") (finished top.rules h) ≡ false
no_authority h is = finished_none (codes "authority") h (inr refl, (inr refl, (inr refl, (inr refl, (inl refl, (inl refl, (inr refl, (inl refl, (inl refl, (inl refl, (inl refl, (inl refl, tt)))))))))))) is

pub no_files : (h : Held) → holds (codes "files") h ≡ false → has_row (codes "files") (finished top.rules h) ≡ false
no_files h is = finished_none (codes "files") h (inr refl, (inr refl, (inr refl, (inr refl, (inl refl, (inl refl, (inr refl, (inl refl, (inl refl, (inl refl, (inl refl, (inl refl, tt)))))))))))) is

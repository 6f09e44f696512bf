-- The bytes of a container: reading returns only a container, reads each container, and reports the first fault.
use Rattle.std.proofs.lemmas.Grind.{common_steps}
use Rattle.std.proofs.Common.{◌≡◌, ℕ, ◌<◌, false, cond, eqb, List, [], ◌∷◌, ◌++◌, length, None, Result, Ok, Err, refl, sym, ap, subst, ◌∙◌, arith, inl, inr, ◌⊎◌}
use Rattle.std.proofs.lemmas.Bool.{cases_Bool, eqb-true, ne_eqb}
use Rattle.std.proofs.lemmas.List.{nil_from_length}
use Rattle.ssh_wire.specs.Wire.{IsBytes, string}
use Rattle.ssh_wire.specs.Reading.{◌>>=◌}
use Rattle.ssh_key.specs.Key.{IsKey, PublicKey}
use Rattle.ssh_key.specs.KeyReading.{key_at}
use Rattle.ssh_key.specs.declared.fault.KeyFault.{KeyFault}
use Rattle.ssh_key.proofs.Keys.{key_again, key_found}
use Rattle.key_text.specs.Container.{HasParts, IsListFault, IsPrivateList, outer, why_no_key}
use Rattle.key_text.specs.ContainerReading.{Opened, inside_at, list_at, opened}
use Rattle.ssh_wire.specs.Rows.{Fails, BeginsWithTable, table_at}
use Rattle.key_text.specs.declared.private_fault.PrivateFault.{PrivateFault}
use Rattle.key_text.specs.declared.private_fault.PrivateFault.TheVariants as faults
use Rattle.key_text.proofs.ListLaws.{list_again, list_found, list_met, list_refused}
use Rattle.ssh_wire.proofs.RowLaws.{table_again, table_fails, table_refused, table_takes}
use Rattle.ssh_wire.proofs.Fields.{IsBytes-content}
use Rattle.ssh_wire.proofs.Digits.{IsBytes-back}
use Rattle.ssh_wire.proofs.Steps.{bind_err, bind_ok}

-- ---- the parts

-- the values of the outer row
record Parts (inside : List ℕ) (values : List (List ℕ)) (rest : List ℕ) : Type 0 where
  pub cipher : List ℕ
  pub kdf : List ℕ
  pub options : List ℕ
  pub count : List ℕ
  pub blob : List ℕ
  pub list : List ℕ
  pub is : cipher ∷ kdf ∷ options ∷ count ∷ blob ∷ list ∷ [] ≡ values
  pub blob_fits : IsBytes blob
  pub list_fits : IsBytes list
  pub key : PublicKey
  pub read : key_at blob ≡ Ok key

no_fault_key : (read : Result PublicKey KeyFault) → why_no_key read ≡ None → (key : PublicKey) × (read ≡ Ok key)
no_fault_key (Ok key) e = (key, refl)
no_fault_key (Err fault) e = absurd cc

after : (text rest bytes : List ℕ) → bytes ≡ text ++ rest → IsBytes bytes → IsBytes rest
after text rest bytes e fits = IsBytes-back text rest (subst IsBytes e fits)

parts_of : (inside : List ℕ) (values : List (List ℕ)) (rest : List ℕ) → IsBytes inside → BeginsWithTable outer [] inside values rest → Parts inside values rest
parts_of inside values rest fits (c, r1, s1, p1, (k, r2, s2, p2, (o, r3, s3, p3, (n, r4, s4, p4, (b, r5, s5, p5, (l, r6, s6, p6, (same, left))))))) =
    let f1 = after (string c) r1 inside s1.spelled fits in
    let f2 = after (string k) r2 r1 s2.spelled f1 in
    let f3 = after (string o) r3 r2 s3.spelled f2 in
    let f4 = after _ r4 r3 s4.spelled f3 in
    let f5 = after (string b) r5 r4 s5.spelled f4 in
    let key = no_fault_key (key_at b) p5 in
    record {
      cipher = c;
      kdf = k;
      options = o;
      count = n;
      blob = b;
      list = l;
      is = same;
      blob_fits = IsBytes-content r4 b r5 f4 s5.spelled;
      list_fits = IsBytes-content r5 l r6 f5 s6.spelled;
      key = key.0;
      read = key.1;
    }

ended_ok : (o : Opened) (rest : List ℕ) (r : Result Opened PrivateFault) → cond {A = Result Opened PrivateFault} (eqb (length rest) 0) r (Err faults.Trailing) ≡ Ok o → (rest ≡ []) × (r ≡ Ok o)
ended_ok o rest r e = grind (arith, common_steps, cases_Bool, eqb-true, nil_from_length)

ended_err : (rest : List ℕ) (r : Result Opened PrivateFault) (d : PrivateFault) → cond {A = Result Opened PrivateFault} (eqb (length rest) 0) r (Err faults.Trailing) ≡ Err d → ((rest ≡ []) × (r ≡ Err d)) ⊎ ((0 < length rest) × (d ≡ faults.Trailing))
ended_err rest r d e = grind (arith, common_steps, after, cases_Bool, eqb-true, nil_from_length)

-- after the name of the format
pub record Inside (inside blob comment : List ℕ) : Type 0 where
  pub list : List ℕ
  pub parts : HasParts inside blob list
  pub key : PublicKey
  pub is_key : IsKey blob key
  pub secret : IsPrivateList key list comment

-- ---- reading returns only a container

has_parts : (inside rest : List ℕ) (values : List (List ℕ)) (p : Parts inside values rest) → rest ≡ [] → BeginsWithTable outer [] inside values rest → HasParts inside p.blob p.list
has_parts inside rest values p nothing begins =
    let whole = subst (λ (r : List ℕ). BeginsWithTable outer [] inside values r) nothing begins in
    (p.cipher, p.kdf, p.options, p.count, subst (λ (v : List (List ℕ)). BeginsWithTable outer [] inside v []) (sym p.is) whole)

opened_parts : (inside rest : List ℕ) (values : List (List ℕ)) (p : Parts inside values rest) → opened values ≡ (list_at p.key p.list >>= λ comment. Ok (record { blob = p.blob; comment = comment }))
opened_parts inside rest values p = ap opened (sym p.is) ∙ rw (p.read) refl

pub inside_found : (inside : List ℕ) (o : Opened) → IsBytes inside → inside_at inside ≡ Ok o → Inside inside o.blob o.comment
unfolding inside_at
inside_found inside o fits e =
    let a = bind_ok (table_at faults.Wire outer [] inside) (λ parts. cond {A = Result Opened PrivateFault} (eqb (length parts.1) 0) (opened parts.0) (Err faults.Trailing)) o e in
    let led = table_takes faults.Wire outer [] inside a.0 fits a.1 in
    let p = parts_of inside a.0.0 a.0.1 fits led.begins in
    let end = ended_ok o a.0.1 (opened a.0.0) a.2 in
    let c = bind_ok (list_at p.key p.list) (λ comment. Ok (record { blob = p.blob; comment = comment })) o (sym (opened_parts inside a.0.1 a.0.0 p) ∙ end.1) in
    let same : record { blob = p.blob; comment = c.0 } ≡ o = cc in
    let found : Inside inside p.blob c.0 = record {
      list = p.list;
      parts = has_parts inside a.0.1 a.0.0 p end.0 led.begins;
      key = p.key;
      is_key = key_found p.blob p.key p.blob_fits p.read;
      secret = list_found p.key p.list c.0 p.list_fits c.1;
    } in
    subst (λ (x : Opened). Inside inside x.blob x.comment) same found

parts_read : (inside blob list : List ℕ) (key : PublicKey) → HasParts inside blob list → IsKey blob key → inside_at inside ≡ (list_at key list >>= λ comment. Ok (record { blob = blob; comment = comment }))
unfolding inside_at
parts_read inside blob list key parts is =
    rw (table_again faults.Wire outer [] inside (parts.0 ∷ parts.1 ∷ parts.2 ∷ parts.3 ∷ blob ∷ list ∷ []) [] parts.4, key_again blob key is) refl

pub inside_again : (inside blob comment : List ℕ) → Inside inside blob comment → inside_at inside ≡ Ok (record { blob = blob; comment = comment })
inside_again inside blob comment is =
    parts_read inside blob is.list is.key is.parts is.is_key ∙ rw (list_again is.key is.list comment is.secret) refl

-- ---- the refused bytes

-- the first fault after the name of the format
pub data IsInsideFault (inside : List ℕ) (fault : PrivateFault) : Type 0 where
  fails : Fails faults.Wire outer [] inside fault → IsInsideFault inside fault
  goes_on : (rest : List ℕ) (values : List (List ℕ)) → BeginsWithTable outer [] inside values rest → 0 < length rest → fault ≡ faults.Trailing → IsInsideFault inside fault
  refused : (blob list : List ℕ) (key : PublicKey) → HasParts inside blob list → IsKey blob key → IsListFault key list fault → IsInsideFault inside fault

abbrev with_blob : List ℕ → Result (List ℕ) PrivateFault → Result Opened PrivateFault
with_blob blob read = read >>= λ comment. Ok (record { blob = blob; comment = comment })

with_blob_err : (blob : List ℕ) (read : Result (List ℕ) PrivateFault) (d : PrivateFault) → with_blob blob read ≡ Err d → read ≡ Err d
with_blob_err blob (Ok comment) d e = absurd cc
with_blob_err blob (Err fault) d e = let same : fault ≡ d = cc in ap (λ (f : PrivateFault). Err f) same

pub inside_refused : (inside : List ℕ) (fault : PrivateFault) → IsBytes inside → inside_at inside ≡ Err fault → IsInsideFault inside fault
unfolding inside_at
inside_refused inside fault fits e =
    elim (bind_err (table_at faults.Wire outer [] inside) (λ parts. cond {A = Result Opened PrivateFault} (eqb (length parts.1) 0) (opened parts.0) (Err faults.Trailing)) fault e) [
      | inl bad ↦ fails (table_refused faults.Wire outer [] inside fault fits bad)
      | inr a ↦
          let led = table_takes faults.Wire outer [] inside a.0 fits a.1 in
          elim (ended_err a.0.1 (opened a.0.0) fault a.2) [
            | inl inner ↦
                let p = parts_of inside a.0.0 a.0.1 fits led.begins in
                let bad = with_blob_err p.blob (list_at p.key p.list) fault (sym (opened_parts inside a.0.1 a.0.0 p) ∙ inner.1) in
                refused p.blob p.list p.key (has_parts inside a.0.1 a.0.0 p inner.0 led.begins) (key_found p.blob p.key p.blob_fits p.read) (list_refused p.key p.list fault p.list_fits bad)
            | inr more ↦ goes_on a.0.1 a.0.0 led.begins more.0 more.1
          ]
    ]

pub inside_met : (inside : List ℕ) (fault : PrivateFault) → IsInsideFault inside fault → inside_at inside ≡ Err fault
unfolding inside_at
inside_met inside fault (fails f) = rw (table_fails faults.Wire outer [] inside fault f) refl
inside_met inside fault (goes_on rest values begins more is) =
    let left : eqb (length rest) 0 ≡ false = ne_eqb (length rest) 0 (λ e. omega arith) in
    rw (is, table_again faults.Wire outer [] inside values rest begins, left) refl
inside_met inside fault (refused blob list key parts is f) =
    rw (table_again faults.Wire outer [] inside (parts.0 ∷ parts.1 ∷ parts.2 ∷ parts.3 ∷ blob ∷ list ∷ []) [] parts.4, key_again blob key is, list_met key list fault f) refl

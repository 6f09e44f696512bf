-- The private list of a container: reading returns only a private list, reads each one, and reports the first fault.
use Rattle.std.proofs.lemmas.Grind.{common_steps}
use Rattle.std.proofs.Common.{◌≡◌, ◌≢◌, ℕ, Bool, true, false, List, [], ◌++◌, length, drop, nat_eq, Result, Ok, Err, refl, sym, subst, ◌∙◌, inl, inr, ◌⊎◌, arith}
use Rattle.std.specs.List.{starts_with}
use Rattle.std.specs.Str.{bytes_eq}
use Rattle.std.proofs.lemmas.Bool.{cases_Bool, false_from_ne_true}
use Rattle.std.proofs.lemmas.Bool.Decides.{Decides-eqb}
use Rattle.std.proofs.lemmas.Slice.Eq.{bytes_eq-Decides, starts_is}
use Rattle.ssh_wire.specs.Wire.{IsBytes}
use Rattle.ssh_wire.specs.Reading.{in_fault, string_at, ◌>>=◌}
use Rattle.ssh_key.specs.Key.{PublicKey}
use Rattle.key_text.specs.Container.{IsListFault, IsPrivateList, Opens, all_padding, beginning, in_beginning, in_comment, in_secrets, other_padding, other_public, public_text, secrets}
use Rattle.key_text.specs.ContainerReading.{ended, list_at, same_at}
use Rattle.ssh_wire.specs.Rows.{BeginsWithPart, Text, table_at}
use Rattle.key_text.specs.declared.private_fault.PrivateFault.{PrivateFault}
use Rattle.key_text.specs.declared.private_fault.PrivateFault.TheVariants as faults
use Rattle.ssh_wire.proofs.Steps.{bind_err, bind_ok, failed_err, in_fault_err, in_fault_ok, passed_ok}
use Rattle.ssh_wire.proofs.RowLaws.{part_again, part_takes, table_again, table_fails, table_refused, table_takes}

-- ---- a front of a list

pub front_taken : (whole front : List ℕ) → starts_with nat_eq whole front ≡ true → whole ≡ front ++ drop (length front) whole
front_taken whole front h = (starts_is Decides-eqb whole front (starts_with nat_eq whole front) refl).0 h

pub front_met : (whole front rest : List ℕ) → whole ≡ front ++ rest → starts_with nat_eq whole front ≡ true
front_met whole front rest e = (starts_is Decides-eqb whole front (starts_with nat_eq whole front) refl).1 rest e

pub front_not : (whole front : List ℕ) → starts_with nat_eq whole front ≡ false → (rest : List ℕ) → whole ≢ front ++ rest
front_not whole front h rest e = let met = front_met whole front rest e in cc

pub not_front : (whole front : List ℕ) → ((rest : List ℕ) → whole ≢ front ++ rest) → starts_with nat_eq whole front ≡ false
not_front whole front none = false_from_ne_true (starts_with nat_eq whole front) (λ met. none (drop (length front) whole) (front_taken whole front met))

-- bytes that are equal, or not
pub equal_or_not : (a b : List ℕ) → ((bytes_eq a b ≡ true) × (a ≡ b)) ⊎ ((bytes_eq a b ≡ false) × (a ≢ b))
equal_or_not a b = grind (arith, common_steps, bytes_eq-Decides, cases_Bool)

-- ---- the end of the list

-- whether the values have the public fields of the key
abbrev same_as : PublicKey → List (List ℕ) → Bool
same_as key values = bytes_eq (public_text key.kind values) key.fields

ended_other : (key : PublicKey) (values : List (List ℕ)) (comment padding : List ℕ) → public_text key.kind values ≢ key.fields → ended (same_as key values) comment padding ≡ Err faults.PublicDiffers
ended_other key values comment padding other = grind (arith, common_steps, bytes_eq-Decides, false_from_ne_true, same_as)

-- ---- the rows of a list

-- after the fields of the kind
abbrev ends_at : PublicKey → List (List ℕ) → List ℕ → Result (List ℕ) PrivateFault
ends_at key values rest = in_fault faults.Wire (string_at rest) >>= λ comment. ended (same_as key values) comment.0 comment.1

abbrev secrets_at : PublicKey → List ℕ → Result (List ℕ) PrivateFault
secrets_at key fields = table_at faults.Wire (secrets key.kind) [] fields >>= λ secret. ends_at key secret.0 secret.1

bind_same : {A B E : Type 0} (r : Result A E) (f g : A → Result B E) → ((x : A) → f x ≡ g x) → (r >>= f) ≡ (r >>= g)
bind_same (Ok x) f g same = same x
bind_same (Err fault) f g same = refl

bind_again : {A B C E : Type 0} (r : Result A E) (f : A → B) (g : B → Result C E) → ((r >>= λ x. Ok (f x)) >>= g) ≡ (r >>= λ x. g (f x))
bind_again (Ok x) f g = refl
bind_again (Err fault) f g = refl

by_rows : (key : PublicKey) (list : List ℕ) → list_at key list ≡ (table_at faults.Wire (beginning key.kind) [] list >>= λ head. secrets_at key head.1)
unfolding list_at same_at
by_rows key list = grind (arith, common_steps, bind_again, bind_same, same_as)

-- ---- reading returns only a private list

list_is : (key : PublicKey) (list comment padding x rest : List ℕ) (values : List (List ℕ)) → Opens key list values rest → BeginsWithPart Text rest comment padding → ended (same_as key values) comment padding ≡ Ok x → IsPrivateList key list x
list_is key list comment padding x rest values opens stands e = elim (equal_or_not (public_text key.kind values) key.fields) [
  | inl same ↦
      let p = passed_ok (starts_with nat_eq all_padding padding) faults.Padding comment x (rw same.0 at e) in
      let is : IsPrivateList key list comment = record {
        values = values;
        rest = rest;
        opens = opens;
        padding = padding;
        ended = stands;
        same = same.1;
        unused = drop (length padding) all_padding;
        padded = front_taken all_padding padding p.0;
      } in
      subst (IsPrivateList key list) p.1 is
  | inr other ↦ absurd (let h = rw other.0 at e in cc)
]

pub list_found : (key : PublicKey) (list comment : List ℕ) → IsBytes list → list_at key list ≡ Ok comment → IsPrivateList key list comment
list_found key list x fits e =
    let a = bind_ok (table_at faults.Wire (beginning key.kind) [] list) (λ head. secrets_at key head.1) x (sym (by_rows key list) ∙ e) in
    let b = bind_ok (table_at faults.Wire (secrets key.kind) [] a.0.1) (λ secret. ends_at key secret.0 secret.1) x a.2 in
    let c = bind_ok (in_fault faults.Wire (string_at b.0.1)) (λ comment. ended (same_as key b.0.0) comment.0 comment.1) x b.2 in
    let head = table_takes faults.Wire (beginning key.kind) [] list a.0 fits a.1 in
    let secret = table_takes faults.Wire (secrets key.kind) [] a.0.1 b.0 head.rest_fits b.1 in
    let taken = part_takes Text b.0.1 c.0.0 c.0.1 secret.rest_fits (in_fault_ok faults.Wire (string_at b.0.1) c.0 c.1) in
    list_is key list c.0.0 c.0.1 x b.0.1 b.0.0 (record { head = a.0.0; fields = a.0.1; begun = head.begins; read = secret.begins }) taken.stands c.2

pub list_again : (key : PublicKey) (list comment : List ℕ) → IsPrivateList key list comment → list_at key list ≡ Ok comment
list_again key list comment is =
    let o = is.opens in
    let test = front_met all_padding is.padding is.unused is.padded in
    by_rows key list ∙ rw (table_again faults.Wire (beginning key.kind) [] list o.head o.fields o.begun, table_again faults.Wire (secrets key.kind) [] o.fields is.values is.rest o.read, part_again Text is.rest comment is.padding is.ended, (bytes_eq-Decides (public_text key.kind is.values) key.fields).1 is.same, test) refl

-- ---- the refused bytes have that first fault

end_refused : (key : PublicKey) (list comment padding rest : List ℕ) (values : List (List ℕ)) (fault : PrivateFault) → Opens key list values rest → BeginsWithPart Text rest comment padding → ended (same_as key values) comment padding ≡ Err fault → IsListFault key list fault
end_refused key list comment padding rest values fault opens stands e = elim (equal_or_not (public_text key.kind values) key.fields) [
  | inl same ↦
      let p = failed_err (starts_with nat_eq all_padding padding) comment faults.Padding fault (rw same.0 at e) in
      other_padding values rest comment padding opens stands same.1 (front_not all_padding padding p.0) p.1
  | inr other ↦
      let is : fault ≡ faults.PublicDiffers = let h = rw other.0 at e in cc in
      other_public values rest comment padding opens stands other.1 is
]

pub list_refused : (key : PublicKey) (list : List ℕ) (fault : PrivateFault) → IsBytes list → list_at key list ≡ Err fault → IsListFault key list fault
list_refused key list fault fits e =
    elim (bind_err (table_at faults.Wire (beginning key.kind) [] list) (λ head. secrets_at key head.1) fault (sym (by_rows key list) ∙ e)) [
      | inl begun ↦ in_beginning (table_refused faults.Wire (beginning key.kind) [] list fault fits begun)
      | inr a ↦
          let head = table_takes faults.Wire (beginning key.kind) [] list a.0 fits a.1 in
          elim (bind_err (table_at faults.Wire (secrets key.kind) [] a.0.1) (λ secret. ends_at key secret.0 secret.1) fault a.2) [
            | inl read ↦ in_secrets a.0.0 a.0.1 head.begins (table_refused faults.Wire (secrets key.kind) [] a.0.1 fault head.rest_fits read)
            | inr b ↦
                let secret = table_takes faults.Wire (secrets key.kind) [] a.0.1 b.0 head.rest_fits b.1 in
                let opens : Opens key list b.0.0 b.0.1 = record { head = a.0.0; fields = a.0.1; begun = head.begins; read = secret.begins } in
                elim (bind_err (in_fault faults.Wire (string_at b.0.1)) (λ comment. ended (same_as key b.0.0) comment.0 comment.1) fault b.2) [
                  | inl cut ↦ let w = in_fault_err faults.Wire (string_at b.0.1) fault cut in in_comment b.0.0 b.0.1 w.0 opens w.1 w.2
                  | inr c ↦
                      let taken = part_takes Text b.0.1 c.0.0 c.0.1 secret.rest_fits (in_fault_ok faults.Wire (string_at b.0.1) c.0 c.1) in
                      end_refused key list c.0.0 c.0.1 b.0.1 b.0.0 fault opens taken.stands c.2
                ]
          ]
    ]

pub list_met : (key : PublicKey) (list : List ℕ) (fault : PrivateFault) → IsListFault key list fault → list_at key list ≡ Err fault
list_met key list fault (in_beginning fails) = by_rows key list ∙ rw (table_fails faults.Wire (beginning key.kind) [] list fault fails) refl
list_met key list fault (in_secrets head fields begun fails) = by_rows key list ∙ rw (table_again faults.Wire (beginning key.kind) [] list head fields begun, table_fails faults.Wire (secrets key.kind) [] fields fault fails) refl
list_met key list fault (in_comment values rest why o cut is) =
    by_rows key list ∙ rw (is, table_again faults.Wire (beginning key.kind) [] list o.head o.fields o.begun, table_again faults.Wire (secrets key.kind) [] o.fields values rest o.read, cut) refl
list_met key list fault (other_public values rest comment padding o stands other is) =
    by_rows key list ∙ rw (is, table_again faults.Wire (beginning key.kind) [] list o.head o.fields o.begun, table_again faults.Wire (secrets key.kind) [] o.fields values rest o.read, part_again Text rest comment padding stands) (ended_other key values comment padding other)
list_met key list fault (other_padding values rest comment padding o stands same none is) =
    let test = not_front all_padding padding none in
    by_rows key list ∙ rw (is, table_again faults.Wire (beginning key.kind) [] list o.head o.fields o.begun, table_again faults.Wire (secrets key.kind) [] o.fields values rest o.read, part_again Text rest comment padding stands, (bytes_eq-Decides (public_text key.kind values) key.fields).1 same, test) refl

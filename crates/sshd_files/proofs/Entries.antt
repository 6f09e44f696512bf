-- The line of a user is read as that user, and no other line is.
use Rattle.std.proofs.Common.{◌≡◌, ◌∙◌, ℕ, ◌^◌, ◌<◌, ◌&&◌, true, nat_lt, List, ◌∷◌, ◌++◌, Option, Some, None, inl, inr}
use Rattle.std.proofs.Common.{ap, refl, subst, sym}
use Rattle.std.proofs.lemmas.Bool.{and_from, and_parts, cases_Bool, lt-ltb, ltb-true}
use Rattle.std.specs.Str.Parse.{digits_value}
use Rattle.ssh_wire.specs.Ascii.{colon}
use Rattle.sshd_files.specs.Users.{Account, IsEntry, ◌>>=◌, account, account_at, account_if_named, are_digits}
use Rattle.sshd_files.specs.Users.{is_name, number_of}
use Rattle.sshd_files.specs.Words.{split_around}
use Rattle.sshd_files.proofs.Fields.{split_again, split_found}

bind_some : {A B : Type 0} (o : Option A) (f : A → Option B) (y : B) → o >>= f ≡ Some y
    → (x : A) × (o ≡ Some x) × (f x ≡ Some y)
bind_some None f y e = absurd cc
bind_some (Some x) f y e = (x, refl, e)

number_found : (digits : List ℕ) (n : ℕ) → number_of digits ≡ Some n
    → (are_digits digits ≡ true) × (digits_value 10 digits ≡ n) × (n < 2 ^ 32)
unfolding number_of
number_found digits n e = elim (cases_Bool (are_digits digits && nat_lt (digits_value 10 digits) (2 ^ 32))) [
  | inl met ↦
      let parts = and_parts (are_digits digits) (nat_lt (digits_value 10 digits) (2 ^ 32)) met in
      let same = rw met at e in
      let value : digits_value 10 digits ≡ n = cc in
      (parts.0, value, subst (λ (k : ℕ). k < 2 ^ 32) value (ltb-true (digits_value 10 digits) (2 ^ 32) parts.1))
  | inr unmet ↦ absurd (let h = rw unmet at e in cc)
]

number_again : (digits : List ℕ) (n : ℕ) → are_digits digits ≡ true → digits_value 10 digits ≡ n → n < 2 ^ 32
    → number_of digits ≡ Some n
unfolding number_of
number_again digits n is value below =
    let small : nat_lt (digits_value 10 digits) (2 ^ 32) ≡ true =
    lt-ltb (digits_value 10 digits) (2 ^ 32) (subst (λ (k : ℕ). k < 2 ^ 32) (sym value) below) in
    rw (and_from (are_digits digits) (nat_lt (digits_value 10 digits) (2 ^ 32)) is small) (ap (λ (k : ℕ). Some k) value)

named_found : (name home : List ℕ) (n : ℕ) (user : Account) → account_if_named name home n ≡ Some user
    → (is_name name ≡ true) × (account name n home ≡ user)
named_found name home n user e = elim (cases_Bool (is_name name)) [
  | inl met ↦ (met, let h = rw met at e in cc)
  | inr unmet ↦ absurd (let h = rw unmet at e in cc)
]

pub entry_found : (line : List ℕ) (user : Account) → account_at line ≡ Some user → IsEntry line user
unfolding account_at
entry_found line user e =
    let name = bind_some (split_around colon line) _ user e in
    let password = bind_some (split_around colon name.0.1) _ user name.2 in
    let digits = bind_some (split_around colon password.0.1) _ user password.2 in
    let group = bind_some (split_around colon digits.0.1) _ user digits.2 in
    let comment = bind_some (split_around colon group.0.1) _ user group.2 in
    let home = bind_some (split_around colon comment.0.1) _ user comment.2 in
    let number = bind_some (number_of digits.0.0) _ user home.2 in
    let named = named_found name.0.0 home.0.0 number.0 user number.2 in
    let a = split_found colon line name.0 name.1 in
    let b = split_found colon name.0.1 password.0 password.1 in
    let c = split_found colon password.0.1 digits.0 digits.1 in
    let d = split_found colon digits.0.1 group.0 group.1 in
    let f = split_found colon group.0.1 comment.0 comment.1 in
    let g = split_found colon comment.0.1 home.0 home.1 in
    let h = number_found digits.0.0 number.0 number.1 in
    subst (IsEntry line) named.1 (record {
      password = password.0.0;
      digits = digits.0.0;
      group = group.0.0;
      comment = comment.0.0;
      shell = home.0.1;
      fields = (a.1, (b.1, (c.1, (d.1, (f.1, (g.1, tt))))));
      named = named.0;
      numbered = h.0;
      value = h.1;
      below = h.2;
      spelled =
          a.0 ∙ ap (λ (xs : List ℕ). name.0.0 ++ colon ∷ xs)
          (b.0 ∙ ap (λ (xs : List ℕ). password.0.0 ++ colon ∷ xs) (c.0
          ∙ ap (λ (xs : List ℕ). digits.0.0 ++ colon ∷ xs) (d.0 ∙ ap (λ (xs : List ℕ). group.0.0 ++ colon ∷ xs) (f.0
          ∙ ap (λ (xs : List ℕ). comment.0.0 ++ colon ∷ xs) g.0))));
    })

pub entry_again : (line : List ℕ) (user : Account) → IsEntry line user → account_at line ≡ Some user
unfolding account_at
entry_again line user is =
    let free = is.fields in
    let f : List ℕ = user.home ++ colon ∷ is.shell in
    let e : List ℕ = is.comment ++ colon ∷ f in
    let d : List ℕ = is.group ++ colon ∷ e in
    let c : List ℕ = is.digits ++ colon ∷ d in
    let b : List ℕ = is.password ++ colon ∷ c in
    ap account_at is.spelled
    ∙ rw (
      split_again colon user.name b free.0,
      split_again colon is.password c free.1.0,
      split_again colon is.digits
          d free.1.1.0,
      split_again colon is.group e free.1.1.1.0,
      split_again colon is.comment f
          free.1.1.1.1.0,
      split_again colon user.home is.shell free.1.1.1.1.1.0,
      number_again is.digits user.number
          is.numbered is.value is.below,
      is.named,
    ) refl

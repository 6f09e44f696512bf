-- The users of a text that getent(1) prints or that has the form of passwd(5).
use Rattle.std.specs.Prelude.{◌≡◌, ℕ, Bool, true, false, not, ◌^◌, ◌<◌, ◌==◌, ◌&&◌, nat_lt, nat_le}
use Rattle.std.specs.Prelude.{List, [], ◌∷◌, ◌++◌, length, flat_map, Option, Some, None, is_none}
use Rattle.std.specs.Prelude.{Result, Ok, Err, if◌then◌else◌}
use Rattle.std.specs.List.{AllByRecursion, list_all, position_from, slice_split}
use Rattle.std.specs.Option.{option_to_list}
use Rattle.std.specs.Str.Parse.{digits_value}
use Rattle.ssh_wire.specs.Ascii.{colon, hyphen, number_sign, space}
use Rattle.key_text.specs.Blanks.{after_blanks}
use Rattle.key_text.specs.Lines.{is_newline}
use Rattle.sshd_files.specs.declared.users.User.{User}
use Rattle.sshd_files.specs.Words.{IsFree, split_around}

-- the name of a user, the user ID and the home directory
pub record Account : Type 0 where
  pub name : List ℕ
  pub number : ℕ
  pub home : List ℕ

abbrev pub account_of : User → Account
account_of user = record { name = user.name.now; number = user.number; home = user.home.now }

abbrev pub account : (name : List ℕ) → ℕ → (home : List ℕ) → Account
account name number home = record { name = name; number = number; home = home }

abbrev pub plus_sign : ℕ
plus_sign = 43

-- A name begins with neither a blank or another control byte, nor a sign: an entry that begins with
-- a sign stands for users of NIS.
abbrev pub is_name : List ℕ → Bool
is_name [] = false
is_name (byte ∷ rest) = nat_lt space byte && not (byte == plus_sign) && not (byte == hyphen)

abbrev pub is_digit : ℕ → Bool
is_digit byte = nat_le 48 byte && nat_le byte 57

abbrev pub are_digits : List ℕ → Bool
are_digits text = nat_lt 0 (length text) && list_all is_digit text

-- the number below 2^32 that decimal digits spell
unfoldable pub number_of : List ℕ → Option ℕ
number_of digits =
    if are_digits digits && nat_lt (digits_value 10 digits) (2 ^ 32)
    then Some (digits_value 10 digits) else None

infixl 10 ◌>>=◌
-- continues with what was read
abbrev pub ◌>>=◌ : {A B : Type 0} → Option A → (A → Option B) → Option B
None >>= f = None
(Some x) >>= f = f x

abbrev pub account_if_named : (name : List ℕ) → (home : List ℕ) → ℕ → Option Account
account_if_named name home number =
    if is_name name then Some (account name number home) else None

-- The user of a line: name, password, user ID, group ID, comment, home directory and shell, with
-- colons between them. A shell may have colons.
unfoldable pub account_at : List ℕ → Option Account
account_at line =
    split_around colon line >>= λ name.
    (split_around colon name.1 >>= λ password.
    (split_around colon password.1 >>= λ number.
    (split_around colon number.1 >>= λ group.
    (split_around colon group.1 >>= λ comment.
    (split_around colon comment.1 >>= λ home.
    (number_of number.0 >>= account_if_named name.0 home.0))))))

-- a line is that of a user: seven fields with colons between them, the last of which is the rest
pub record IsEntry (line : List ℕ) (user : Account) : Type 0 where
  pub password : List ℕ
  pub digits : List ℕ
  pub group : List ℕ
  pub comment : List ℕ
  pub shell : List ℕ
  pub fields : AllByRecursion (IsFree colon)
      (user.name ∷ password ∷ digits ∷ group ∷ comment ∷ user.home ∷ [])
  pub named : is_name user.name ≡ true
  pub numbered : are_digits digits ≡ true
  pub value : digits_value 10 digits ≡ user.number
  pub below : user.number < 2 ^ 32
  pub spelled : line ≡ user.name ++ colon ∷ (password ++ colon ∷ (digits ++ colon ∷ (group
      ++ colon ∷ (comment ++ colon ∷ (user.home ++ colon ∷ shell)))))

-- nothing, or a comment
abbrev pub is_comment : List ℕ → Bool
is_comment [] = true
is_comment (byte ∷ rest) = byte == number_sign

-- the text of a line, without the blanks at its start, is that of no user
abbrev pub is_fault : List ℕ → Bool
is_fault line =
    not (is_comment (after_blanks line)) && is_none (account_at (after_blanks line))

-- the user of a line, if it has one
abbrev pub accounts_in : List ℕ → List Account
accounts_in line =
    if is_comment (after_blanks line) then []
    else option_to_list (account_at (after_blanks line))

-- the number of the first line with a fault, from 1 on
abbrev pub first_fault : List ℕ → Option ℕ
first_fault text = position_from is_fault 1 (slice_split is_newline text)

abbrev pub accounts_of : List ℕ → List Account
accounts_of text = flat_map accounts_in (slice_split is_newline text)

abbrev pub users_unless : Option ℕ → List Account → Result (List Account) ℕ
users_unless None accounts = Ok accounts
users_unless (Some line) accounts = Err line

-- the users of a text, or the number of its first line with a fault
unfoldable pub users_at : List ℕ → Result (List Account) ℕ
users_at text = users_unless (first_fault text) (accounts_of text)

-- The settings that name files with keys, in a text of `sshd -T`.
use Rattle.std.specs.Prelude.{ℕ, List, [], ◌∷◌, codes, filter_map, nat_eq}
use Rattle.std.specs.Prelude.{Option, Some, None, option_map, unwrap_or, Result, Ok, Err}
use Rattle.std.specs.Prelude.{if◌then◌else◌}
use Rattle.std.specs.List.{ends_with, slice_split}
use Rattle.std.specs.Str.{bytes_eq}
use Rattle.ssh_wire.specs.Ascii.{line_feed, space}
use Rattle.key_text.specs.Lines.{is_newline}
use Rattle.sshd_files.specs.declared.settings.Setting.{Setting}
use Rattle.sshd_files.specs.declared.settings.Setting.TheVariants as setting
use Rattle.sshd_files.specs.declared.settings.Settings.{Settings}
use Rattle.sshd_files.specs.declared.settings.SettingsFault.{SettingsFault}
use Rattle.sshd_files.specs.declared.settings.SettingsFault.TheVariants.{Missing, Twice, NoEnd}
use Rattle.sshd_files.specs.Words.{is_none_word, split_around, texts}

-- the word of a setting, as `sshd -T` prints it
abbrev pub word_of : Setting → List ℕ
word_of setting.Files = codes "authorizedkeysfile"
word_of setting.Authorities = codes "trustedusercakeys"
word_of setting.List = codes "revokedkeys"
word_of setting.Command = codes "authorizedkeyscommand"

-- what is printed about a fault
abbrev pub words_of : SettingsFault → List ℕ
words_of (Missing setting.Files) = codes "authorizedkeysfile is missing"
words_of (Missing setting.Authorities) = codes "trustedusercakeys is missing"
words_of (Missing setting.List) = codes "revokedkeys is missing"
words_of (Missing setting.Command) = codes "authorizedkeyscommand is missing"
words_of (Twice setting.Files) = codes "authorizedkeysfile is there twice"
words_of (Twice setting.Authorities) = codes "trustedusercakeys is there twice"
words_of (Twice setting.List) = codes "revokedkeys is there twice"
words_of (Twice setting.Command) = codes "authorizedkeyscommand is there twice"
words_of NoEnd = codes "the last line has no end"

-- the word of a line and its value: the text before the first space, and the text after it
unfoldable pub word_and_value : List ℕ → List ℕ × List ℕ
word_and_value line = unwrap_or (split_around space line) (line, [])

-- the value of a line, if the line has this word
unfoldable pub value_under : (word line : List ℕ) → Option (List ℕ)
value_under word line =
    if bytes_eq (word_and_value line).0 word then Some (word_and_value line).1 else None

-- the values of all lines with this word, in order
abbrev pub values_of : (word text : List ℕ) → List (List ℕ)
values_of word text = filter_map (value_under word) (slice_split is_newline text)

-- the only one of these values
abbrev pub only : Setting → List (List ℕ) → Result (List ℕ) SettingsFault
only setting [] = Err (Missing setting)
only setting (value ∷ []) = Ok value
only setting (value ∷ other ∷ values) = Err (Twice setting)

unfoldable pub only_value : Setting → List ℕ → Result (List ℕ) SettingsFault
only_value setting text = only setting (values_of (word_of setting) text)

-- the value `none` stands for nothing
abbrev pub unless_none : List ℕ → Option (List ℕ)
unless_none value = if is_none_word value then None else Some value

-- the settings that name files with keys
pub record Configuration : Type 0 where
  pub files : List ℕ
  pub authorities : Option (List ℕ)
  pub list : Option (List ℕ)
  pub command : Option (List ℕ)
  pub host_keys : List (List ℕ)
  pub host_certificates : List (List ℕ)

abbrev pub configuration_of : Settings → Configuration
configuration_of settings = record {
  files = settings.files.now;
  authorities = option_map (λ value. value.now) settings.authorities;
  list = option_map (λ value. value.now) settings.list;
  command = option_map (λ value. value.now) settings.command;
  host_keys = texts settings.host_keys.items;
  host_certificates = texts settings.host_certificates.items;
}

infixl 10 ◌>>=◌
-- continues with what was read
abbrev pub ◌>>=◌ : {A B : Type 0}
    → Result A SettingsFault → (A → Result B SettingsFault) → Result B SettingsFault
(Err fault) >>= f = Err fault
(Ok x) >>= f = f x

abbrev pub configured : (files authorities list command : List ℕ)
    → (host_keys host_certificates : List (List ℕ)) → Configuration
configured files authorities list command host_keys host_certificates = record {
  files = files;
  authorities = unless_none authorities;
  list = unless_none list;
  command = unless_none command;
  host_keys = host_keys;
  host_certificates = host_certificates;
}

-- the settings of a text, and these host keys and host certificates
unfoldable pub settings_with : List ℕ → (host_keys host_certificates : List (List ℕ))
    → Result Configuration SettingsFault
settings_with text host_keys host_certificates =
    if ends_with nat_eq text (line_feed ∷ []) then
    (only_value setting.Files text >>= λ files.
    (only_value setting.Authorities text >>= λ authorities.
    (only_value setting.List text >>= λ list.
    (only_value setting.Command text >>= λ command.
    Ok (configured files authorities list command host_keys host_certificates)))))
    else Err NoEnd

-- The settings of a text of `sshd -T`. A text without a line feed at its end is cut. Each of four
-- words must be there once.
abbrev pub settings_at : List ℕ → Result Configuration SettingsFault
settings_at text = settings_with text (values_of (codes "hostkey") text)
    (values_of (codes "hostcertificate") text)

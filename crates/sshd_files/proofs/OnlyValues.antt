-- The only value of a setting, one line after another.
use Rattle.std.proofs.Common.{◌≡◌, ◌∙◌, ℕ, true, false, List, [], ◌∷◌, ◌++◌, Option, Some, None, Result, Err, ap, sym}
use Rattle.std.proofs.Common.{refl}
use Rattle.std.specs.Borrow.{Bor}
use Rattle.std.specs.List.{cons_option, filter_map, slice_split}
use Rattle.std.proofs.lemmas.List.{append-nil}
use Rattle.std.specs.Option.{is_some, ok_or, option_map, option_to_list}
use Rattle.std.specs.Result.{result_map_both}
use Rattle.key_text.specs.Lines.{is_newline}
use Rattle.sshd_files.specs.declared.settings.Setting.{Setting}
use Rattle.sshd_files.specs.declared.settings.SettingsFault.{SettingsFault}
use Rattle.sshd_files.specs.declared.settings.SettingsFault.TheVariants.{Missing, Twice}
use Rattle.sshd_files.specs.Settings.{only, only_value, value_under, values_of, word_of}

abbrev seen : Option (Bor (List ℕ)) → Option (List ℕ)
seen value = option_map (λ value. value.now) value

-- the values with those of one more line
values_on : (word text rest line : List ℕ) (lines : List (List ℕ)) (found : List (List ℕ)) (value : Option (List ℕ))
    → values_of word text ≡ found ++ values_of word rest → slice_split is_newline rest ≡ line ∷ lines
    → value ≡ value_under word line
    → values_of word text ≡ found ++ cons_option value (filter_map (value_under word) lines)
values_on word text rest line lines found value so_far split is =
    so_far ∙ ap (λ (xs : List (List ℕ)). found ++ xs)
    (ap (filter_map (value_under word)) split
    ∙ ap (λ (o : Option (List ℕ)). cons_option o (filter_map (value_under word) lines)) (sym is))

-- a second value
pub second_value : (setting : Setting) (text rest line : List ℕ) (lines : List (List ℕ)) (found : Option (Bor (List ℕ)))
    (value : List ℕ) → values_of (word_of setting) text ≡ option_to_list (seen found) ++ values_of (word_of setting)
    rest
    → slice_split is_newline rest ≡ line ∷ lines → Some value ≡ value_under (word_of setting) line
    → is_some found ≡ true → Err (Twice setting) ≡ only_value setting text
unfolding only_value
second_value setting text rest line lines None value so_far split is some = absurd cc
second_value setting text rest line lines (Some first) value so_far split is some =
    sym (ap (only setting) (values_on (word_of setting) text rest line lines (first.now ∷ []) (Some value) so_far
    split is))

-- the last line
pub last_line : (setting : Setting) (text rest line : List ℕ) (found : List (List ℕ)) (value : Option (List ℕ))
    → values_of (word_of setting) text ≡ found ++ values_of (word_of setting) rest
    → slice_split is_newline rest ≡ line ∷ [] → value ≡ value_under (word_of setting) line
    → only_value setting text ≡ only setting (found ++ cons_option value [])
unfolding only_value
last_line setting text rest line found value so_far split is =
    ap (only setting) (values_on (word_of setting) text rest line [] found value so_far split is)

-- the result at the last line
pub last_found : (setting : Setting) (text rest line : List ℕ) (before after : Option (Bor (List ℕ)))
    (value : Option (List ℕ))
    (result : Result (Bor (List ℕ)) SettingsFault)
    → values_of (word_of setting) text ≡ option_to_list (seen before) ++ values_of (word_of setting) rest
    → slice_split is_newline rest ≡ line ∷ [] → value ≡ value_under (word_of setting) line
    → option_to_list (seen before) ++ cons_option value [] ≡ option_to_list (seen after)
    → result ≡ ok_or after (Missing setting)
    → result_map_both (λ value. value.now) (λ fault. fault) result ≡ only_value setting text
last_found setting text rest line before after value result so_far split is found made =
    ap (result_map_both (λ value. value.now) (λ fault. fault)) made ∙ by after
    ∙ sym (last_line setting text rest line (option_to_list (seen before)) value so_far split is
    ∙ ap (only setting) found)
  where
    by : (after : Option (Bor (List ℕ)))
        → result_map_both {E = SettingsFault} (λ value. value.now) (λ fault. fault)
        (ok_or after (Missing setting)) ≡ only setting (option_to_list (seen after))
    by None = refl
    by (Some value) = refl

pub found_here : (before after : Option (Bor (List ℕ))) (value : Bor (List ℕ)) → is_some before ≡ false
    → after ≡ Some value
    → option_to_list (seen before) ++ cons_option (Some value.now) [] ≡ option_to_list (seen after)
found_here None after value none is = ap (λ (o : Option (Bor (List ℕ))). option_to_list (seen o)) (sym is)
found_here (Some first) after value none is = absurd cc

pub found_before : (before after : Option (Bor (List ℕ))) → after ≡ before
    → option_to_list (seen before) ++ cons_option None [] ≡ option_to_list (seen after)
found_before before after is =
    append-nil (option_to_list (seen before)) ∙ ap (λ (o : Option (Bor (List ℕ))). option_to_list (seen o)) (sym is)

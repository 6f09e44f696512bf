-- The first word that is unknown, one settings after another.
use Rattle.std.proofs.Common.{◌≡◌, ◌∙◌, ℕ, ◌+◌, ◌<◌, List, [], ◌∷◌, Option, None, ap, sym, drop, get_or, length, map}
use Rattle.std.proofs.Common.{refl}
use Rattle.std.proofs.lemmas.List.{at_drop_more}
use Rattle.std.proofs.lemmas.List.Folds.{find-append}
use Rattle.std.specs.List.{find, flat_map}
use Rattle.std.specs.Option.{option_or}
use Rattle.sshd_files.specs.declared.settings.Settings.{Settings}
use Rattle.sshd_files.specs.Files.{unknown_word}
use Rattle.sshd_files.specs.Pattern.{is_unknown, words_of}
use Rattle.sshd_files.specs.Settings.{Configuration, configuration_of}

next_unknown : (one : Configuration) (rest : List Configuration)
    → unknown_word (one ∷ rest) ≡ option_or (find is_unknown (words_of one.files)) (unknown_word rest)
unfolding unknown_word
next_unknown one rest = find-append is_unknown (words_of one.files) (flat_map (λ one. words_of one.files) rest)

pub at_next : (all : List Settings) (i : ℕ) (one : Settings) (found : Option (List ℕ)) → i < length all
    → one ≡ get_or all i one
    → found ≡ find is_unknown (words_of one.files.now)
    → unknown_word (map configuration_of (drop i all)) ≡ option_or found
    (unknown_word (map configuration_of (drop (i + 1) all)))
at_next all i one found lt is e =
    at_drop_more (λ rest. unknown_word (map configuration_of rest)) all i one lt
    ∙ next_unknown (configuration_of (get_or all i one)) (map configuration_of (drop (i + 1) all))
    ∙ ap (λ (o : Option (List ℕ)). option_or o (unknown_word (map configuration_of (drop (i + 1) all))))
    (ap (λ (s : Settings). find is_unknown (words_of s.files.now)) (sym is) ∙ sym e)

pub no_more : unknown_word [] ≡ None
unfolding unknown_word
no_more = refl

-- A file between two uses of -s is found.
use Rattle.std.proofs.Common.{◌≡◌, ◌∙◌, ◌&&◌, ◌++◌, ◌∷◌, ◌==◌, [], ℕ, Bool, true, false, codes, cond, length, refl, ap, List, None}
use Rattle.std.specs.Prelude.{fold}
use Rattle.std.proofs.lemmas.Bool.{or_left}
use Rattle.std.proofs.lemmas.List.Sums.{fold-append}
use Rattle.clap.specs.Simple.{matches_of}
use Rattle.clap.specs.Walk.{Held, finished, first_of, nothing_held, walk}
use Rattle.option_table.specs.Value.{values_in}
use Rattle.krl_words.specs.Options.{program}
use Rattle.krl_words.specs.Order.{authority_met, file_met, is_divided, letters_met, other_met, word_met}
use Rattle.krl_words.specs.Parts.{AreTaken, NameAuthority, NameFile}
use Rattle.krl_words.specs.declared.order.Context.{Context}
use Rattle.krl_words.proofs.HeldRows.{holds}
use Rattle.krl_words.proofs.Division.{Part, first_none, part_of, values_none}
use Rattle.krl_words.proofs.Program.{files, files_are, files_first, letters, longs, no_authority, no_files, top}
use Rattle.krl_words.proofs.Words.{place_at}

-- ---- what is found stays found

other_keeps : (p : Context) (word : List ℕ) → p.is_divided ≡ true → (other_met p word).is_divided ≡ true
other_keeps p [] is = is
other_keeps p (first ∷ []) is = is
other_keeps p (first ∷ second ∷ rest) is = by (first == 45 && second == 45) (first == 45)
  where
    by : (both one : Bool) → (cond both (record p { is_file = length rest == 0 }) (cond one (authority_met p (letters_met second rest)) (file_met p))).is_divided ≡ true
    by true one = is
    by false true = or_left p.is_divided _ is
    by false false = is

word_keeps : (p : Context) (word : List ℕ) → p.is_divided ≡ true → (word_met p word).is_divided ≡ true
word_keeps p word is = by p.is_value p.is_file
  where
    by : (value ended : Bool) → (cond value (record p { is_value = false }) (cond ended (file_met p) (other_met p word))).is_divided ≡ true
    by true ended = is
    by false true = is
    by false false = other_keeps p word is

words_keep : (words : List (List ℕ)) (p : Context) → p.is_divided ≡ true → (fold word_met p words).is_divided ≡ true
words_keep [] p is = is
words_keep (word ∷ words) p is = words_keep words (word_met p word) (word_keeps p word is)

-- ---- the three parts

abbrev WordPart : List (List ℕ) → (a f d : Bool) → Type 0
WordPart = Part top letters longs files files_first files_are

taken_part : (name : List ℕ) (words : List (List ℕ)) (a f d : Bool) → AreTaken name words → WordPart words a f d
taken_part name words a f d taken = part_of top letters longs files files_first files_are words _ _ a f d taken.texts taken.open_ended taken.free

not_false : (b : Bool) → (b ≡ false → ⊥) → b ≡ true
not_false true differs = refl
not_false false differs = absurd (differs refl)

authority_missing : (name : List ℕ) (words : List (List ℕ)) (held : Held) → (walk top.rules [] nothing_held words).held ≡ held → holds (codes "authority") held ≡ false → first_of (codes "authority") (matches_of program (name ∷ words)) ≡ None
authority_missing name words held is none = first_none (codes "authority") (finished top.rules (walk top.rules [] nothing_held words).held) (no_authority (walk top.rules [] nothing_held words).held (rw is none))

file_missing : (name : List ℕ) (words : List (List ℕ)) (held : Held) → (walk top.rules [] nothing_held words).held ≡ held → holds (codes "files") held ≡ false → values_in (codes "files") (matches_of program (name ∷ words)) ≡ []
file_missing name words held is none = values_none (codes "files") (finished top.rules (walk top.rules [] nothing_held words).held) (no_files (walk top.rules [] nothing_held words).held (rw is none))

pub divided : (name : List ℕ) (front between back rest : List (List ℕ)) → NameAuthority name front → NameFile name between → NameAuthority name back → is_divided (name ∷ (front ++ (between ++ (back ++ rest)))) ≡ true
divided name front between back rest ahead beside behind =
    let one = taken_part name front false false false ahead.taken in
    let has : one.has_authority ≡ true = not_false one.has_authority (λ none. ahead.some (authority_missing name front one.held one.held_is (one.front none))) in
    let two = taken_part name between one.has_authority one.has_file one.is_divided beside.taken in
    let mid = two.between has in
    let also : two.has_file ≡ true = not_false two.has_file (λ none. beside.some (file_missing name between two.held two.held_is (mid.1 none))) in
    let three = taken_part name back two.has_authority two.has_file two.is_divided behind.taken in
    let found : three.is_divided ≡ true = not_false three.is_divided (λ none. behind.some (authority_missing name back three.held three.held_is (three.back mid.0 also none))) in
    let first : Context = place_at false false false false in
    let whole : fold word_met first (front ++ (between ++ (back ++ rest))) ≡ fold word_met (place_at false three.has_authority three.has_file three.is_divided) rest =
    fold-append word_met first front (between ++ (back ++ rest))
    ∙ ap (λ (p : Context). fold word_met p (between ++ (back ++ rest))) one.place_is
    ∙ fold-append word_met (place_at false one.has_authority one.has_file one.is_divided) between (back ++ rest)
    ∙ ap (λ (p : Context). fold word_met p (back ++ rest)) two.place_is
    ∙ fold-append word_met (place_at false two.has_authority two.has_file two.is_divided) back rest
    ∙ ap (λ (p : Context). fold word_met p rest) three.place_is in
    ap (λ (p : Context). p.is_divided) whole ∙ words_keep rest (place_at false three.has_authority three.has_file three.is_divided) found

-- Comments without a last day.
use Rattle.std.proofs.Common.{◌≡◌, ℕ, ◌==◌, ◌&&◌, ◌<◌, Bool, true, false, not, nat_lt, List, [], ◌∷◌, ◌++◌, length, take, drop, slice_index, refl, ap, ◌∙◌, arith, inl, inr}
use Rattle.std.specs.List.{AllPass, position_or_len}
use Rattle.std.proofs.lemmas.Bool.{and_parts, cases_Bool, eqb-true, false_from_ne_true, false≢true}
use Rattle.std.proofs.lemmas.List.Elements.{All-drop, All-tail, All-take}
use Rattle.krl_spec.specs.Blanks.{is_hash}
use Rattle.krl_spec.specs.Spelled.{IsRemark}
use Rattle.krl_spec.proofs.LongestParts.{front_gone}
use Rattle.text_entries.specs.Day.{after_word_ends, begins_with_day, has_day_in_comment, is_dated, is_until, says_until}
use Rattle.text_entries.specs.Misspelt.{is_word_end}
use Rattle.text_entries.specs.Says.{is_misplaced}
use Rattle.text_laws.proofs.SolidBytes.{IsNoHyphen, is_no_hyphen}

pub and_false : (test other : Bool) → other ≡ false → test && other ≡ false
and_false true other is = is
and_false false other is = refl

-- a text without hyphens is no date
hyphenless : (text : List ℕ) → AllPass is_no_hyphen text → 4 < length text → (slice_index text 4 == 45) ≡ true → ⊥
hyphenless text clean long is = let e = clean 4 0 long in false≢true (rw is at e)

no_date : (text : List ℕ) → AllPass is_no_hyphen text → is_dated text ≡ false
unfolding is_dated
no_date text clean = false_from_ne_true (is_dated text) (λ dated.
    let parts = and_parts (length text == 10) _ dated in
    let size : length text ≡ 10 = eqb-true (length text) 10 parts.0 in
    hyphenless text clean (omega (arith, size)) (and_parts (slice_index text 4 == 45) _ parts.1).0)

ends_clean : (text : List ℕ) → AllPass is_no_hyphen text → AllPass is_no_hyphen (after_word_ends text)
unfolding after_word_ends
ends_clean [] clean = clean
ends_clean (byte ∷ bytes) clean = elim (cases_Bool (is_word_end byte)) [
  | inl ends ↦ rw ends (ends_clean bytes (All-tail IsNoHyphen byte bytes clean))
  | inr other ↦ rw other clean
]

-- a text without hyphens has no last day
pub no_until : (text : List ℕ) → AllPass is_no_hyphen text → says_until text ≡ false
unfolding says_until
no_until [] clean = refl
no_until (byte ∷ bytes) clean =
    let text : List ℕ = byte ∷ bytes in
    let rest = ends_clean (drop 5 text) (All-drop IsNoHyphen 5 text clean) in
    let none : begins_with_day text ≡ false =
    and_false (is_until (take 5 text)) _ (no_date (take 10 (after_word_ends (drop 5 text))) (All-take IsNoHyphen 10 (after_word_ends (drop 5 text)) rest)) in
    rw (none, no_until bytes (All-tail IsNoHyphen byte bytes clean)) refl

-- ---- the comment of a line

remark_stops : (remark : List ℕ) → IsRemark remark → position_or_len is_hash remark ≡ 0
remark_stops [] is = refl
remark_stops (byte ∷ bytes) is = rw is refl

-- A line has a last day in its comment where the comment has one.
pub remark_undated : (front remark : List ℕ) → AllPass (λ byte. not (is_hash byte)) front → IsRemark remark → says_until remark ≡ false
    → has_day_in_comment (front ++ remark) ≡ false
remark_undated front remark clean is undated =
    ap says_until (front_gone (λ byte. not (is_hash byte)) front remark clean (remark_stops remark is)) ∙ undated

pub not_misplaced : (line content : List ℕ) → has_day_in_comment line ≡ false → is_misplaced line content ≡ false
not_misplaced line content undated =
    rw undated (and_false (not (length content == 0)) _ (and_false (nat_lt (length content) (length line)) false refl))

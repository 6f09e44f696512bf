-- The content of a line that is a name, a colon, a blank and a value.
use Rattle.std.proofs.Common.{◌≡◌, ℕ, ◌<◌, ◌==◌, Bool, true, false, not, List, [], ◌∷◌, ◌++◌, length, reverse, All, refl, sym, ap, ◌∙◌, arith, append_assoc, inl, inr}
use Rattle.std.specs.List.{AllPass, prefix_len, suffix_len}
use Rattle.std.proofs.lemmas.Bool.{cases_Bool, eqb-true}
use Rattle.std.proofs.lemmas.List.{length-reverse, reverse-append}
use Rattle.std.proofs.lemmas.List.Elements.{All-append, All-cons, All-nil, All-weaker}
use Rattle.key_text.specs.Blanks.{is_blank, is_ending}
use Rattle.krl_spec.specs.Blanks.{bare_line, is_hash}
use Rattle.krl_spec.specs.Spelled.{Counts, IsRemark}
use Rattle.krl_spec.proofs.CountedLaws.{counted_again}
use Rattle.krl_spec.proofs.LongestParts.{none_ends, none_stops}
use Rattle.text_entries.specs.Day.{has_day_in_comment, says_until}
use Rattle.text_laws.proofs.DayWords.{no_until, remark_undated}
use Rattle.text_laws.proofs.SolidBytes.{HasNoFeed, IsKept, IsNoHyphen, IsSolid, is_kept, is_no_hyphen, is_solid, kept_no_hash, solid_kept, solid_no_ending}

abbrev IsNoHash : ℕ → Type 0
IsNoHash byte = not (is_hash byte) ≡ true

-- ---- both ends of a text

-- the first byte decides
pub front_stops : (p : ℕ → Bool) (xs ys : List ℕ) → 0 < length xs → prefix_len p xs ≡ 0 → prefix_len p (xs ++ ys) ≡ 0
front_stops p [] ys some stops = absurd (omega arith)
front_stops p (x ∷ xs) ys some stops = elim (cases_Bool (p x)) [
  | inl passes ↦ absurd (let h = rw passes at stops in omega (arith, h))
  | inr fails ↦ rw fails refl
]

-- the last byte decides
pub back_stops : (p : ℕ → Bool) (xs ys : List ℕ) → 0 < length ys → suffix_len p ys ≡ 0 → suffix_len p (xs ++ ys) ≡ 0
back_stops p xs ys some stops =
    ap (prefix_len p) (reverse-append xs ys) ∙ front_stops p (reverse ys) (reverse xs) (omega (arith, length-reverse ys)) stops

-- ---- names and values

-- text before a colon: the name of a word, or that of an authority, or the one behind the other
pub record IsName (name : List ℕ) : Type 0 where
  pub some : 0 < length name
  pub kept : AllPass is_kept name
  pub starts : prefix_len is_ending name ≡ 0
  pub no_colon : AllPass (λ byte. not (byte == 58)) name

-- what a line keeps: no line feed and no `#`, and neither end is a blank or a carriage return
pub record IsValue (value : List ℕ) : Type 0 where
  pub kept : AllPass is_kept value
  pub starts : prefix_len is_ending value ≡ 0
  pub ends : suffix_len is_ending value ≡ 0

pub solid_value : (value : List ℕ) → AllPass is_solid value → IsValue value
solid_value value solid =
    let none = All-weaker IsSolid (λ byte. not (is_ending byte) ≡ true) solid_no_ending value solid in
    record {
      kept = All-weaker IsSolid IsKept solid_kept value solid;
      starts = none_stops is_ending value none;
      ends = none_ends is_ending value none;
    }

-- a value, a blank and another
pub joined_value : (front back : List ℕ) → 0 < length front → 0 < length back → IsValue front → IsValue back
    → IsValue (front ++ 32 ∷ back)
joined_value front back some more first second = record {
  kept = All-append IsKept front (32 ∷ back) first.kept (All-cons IsKept 32 back refl second.kept);
  starts = front_stops is_ending front (32 ∷ back) some first.starts;
  ends = ap (suffix_len is_ending) (sym (append_assoc front (32 ∷ []) back)) ∙ back_stops is_ending (front ++ 32 ∷ []) back more second.ends;
}

-- a value begins with no blank
pub no_blank : (value : List ℕ) → prefix_len is_ending value ≡ 0 → prefix_len is_blank value ≡ 0
no_blank [] starts = refl
no_blank (byte ∷ value) starts = elim (cases_Bool (is_blank byte)) [
  | inl blank ↦ absurd (let h = rw blank at starts in omega (arith, h))
  | inr other ↦ rw other refl
]

-- ---- the content

-- what follows a value: nothing, or a blank and a comment
pub record IsRest (rest : List ℕ) : Type 0 where
  pub back : List ℕ
  pub remark : List ℕ
  pub parts : rest ≡ back ++ remark
  pub back_is : AllPass is_ending back
  pub remark_is : IsRemark remark
  pub undated : says_until remark ≡ false
  pub no_feed : All HasNoFeed rest

pub nothing_left : IsRest []
nothing_left = record {
  back = [];
  remark = [];
  parts = refl;
  back_is = All-nil (λ byte. is_ending byte ≡ true);
  remark_is = tt;
  undated = no_until [] (All-nil IsNoHyphen);
  no_feed = All-nil HasNoFeed;
}

pub comment_left : (comment : List ℕ) → AllPass is_no_hyphen comment → All HasNoFeed comment → IsRest (32 ∷ 35 ∷ comment)
comment_left comment clean no_feed = record {
  back = 32 ∷ [];
  remark = 35 ∷ comment;
  parts = refl;
  back_is = All-cons (λ byte. is_ending byte ≡ true) 32 [] refl (All-nil (λ byte. is_ending byte ≡ true));
  remark_is = refl;
  undated = no_until (35 ∷ comment) (All-cons IsNoHyphen 35 comment refl clean);
  no_feed = All-cons HasNoFeed 32 (35 ∷ comment) refl (All-cons HasNoFeed 35 comment refl no_feed);
}

-- The content of a line is the name, a colon, blanks and the value.
pub record HasContent (line name value : List ℕ) : Type 0 where
  pub gap : List ℕ
  pub blanks : AllPass is_blank gap
  pub is : bare_line line ≡ name ++ 58 ∷ (gap ++ value)

abbrev pub line_of : (name value rest : List ℕ) → List ℕ
line_of name value rest = name ++ 58 ∷ 32 ∷ (value ++ rest)

name_no_hash : (name : List ℕ) → IsName name → AllPass (λ byte. not (is_hash byte)) name
name_no_hash name is = All-weaker IsKept IsNoHash kept_no_hash name is.kept

pub content_is : (name value rest : List ℕ) → IsName name → IsValue value → IsRest rest
    → HasContent (line_of name value rest) name value
content_is name [] rest is value left =
    let counts : Counts (line_of name [] rest) (name ++ 58 ∷ []) = record {
      front = [];
      back = 32 ∷ left.back;
      remark = left.remark;
      spelled = ap (λ (xs : List ℕ). name ++ 58 ∷ 32 ∷ xs) left.parts ∙ sym (append_assoc name (58 ∷ []) (32 ∷ (left.back ++ left.remark)));
      no_hash = All-append IsNoHash name (58 ∷ []) (name_no_hash name is) (All-cons IsNoHash 58 [] refl (All-nil IsNoHash));
      starts = front_stops is_ending name (58 ∷ []) is.some is.starts;
      ends = back_stops is_ending name (58 ∷ []) (omega arith) refl;
      front_is = All-nil (λ byte. is_ending byte ≡ true);
      back_is = All-cons (λ byte. is_ending byte ≡ true) 32 left.back refl left.back_is;
      remark_is = left.remark_is;
    } in
    record { gap = []; blanks = All-nil (λ byte. is_blank byte ≡ true); is = counted_again (line_of name [] rest) (name ++ 58 ∷ []) counts }
content_is name (byte ∷ value) rest is kept left =
    let text : List ℕ = name ++ 58 ∷ 32 ∷ byte ∷ value in
    let counts : Counts (line_of name (byte ∷ value) rest) text = record {
      front = [];
      back = left.back;
      remark = left.remark;
      spelled = ap (λ (xs : List ℕ). name ++ 58 ∷ 32 ∷ ((byte ∷ value) ++ xs)) left.parts ∙ sym (append_assoc name (58 ∷ 32 ∷ byte ∷ value) (left.back ++ left.remark));
      no_hash = All-append IsNoHash name (58 ∷ 32 ∷ byte ∷ value) (name_no_hash name is)
          (All-cons IsNoHash 58 (32 ∷ byte ∷ value) refl (All-cons IsNoHash 32 (byte ∷ value) refl (All-weaker IsKept IsNoHash kept_no_hash (byte ∷ value) kept.kept)));
      starts = front_stops is_ending name (58 ∷ 32 ∷ byte ∷ value) is.some is.starts;
      ends = ap (suffix_len is_ending) (sym (append_assoc name (58 ∷ 32 ∷ []) (byte ∷ value))) ∙ back_stops is_ending (name ++ 58 ∷ 32 ∷ []) (byte ∷ value) (omega arith) kept.ends;
      front_is = All-nil (λ byte. is_ending byte ≡ true);
      back_is = left.back_is;
      remark_is = left.remark_is;
    } in
    record {
      gap = 32 ∷ [];
      blanks = All-cons (λ byte. is_blank byte ≡ true) 32 [] refl (All-nil (λ byte. is_blank byte ≡ true));
      is = counted_again (line_of name (byte ∷ value) rest) text counts;
    }

ending_no_hash : (byte : ℕ) → is_ending byte ≡ true → IsNoHash byte
ending_no_hash byte ends = elim (cases_Bool (is_hash byte)) [
  | inl hash ↦ let same : byte ≡ 35 = eqb-true byte 35 hash in absurd (let e = rw same at ends in cc e)
  | inr other ↦ rw other refl
]

-- a line has no last day in its comment
pub line_undated : (name value rest : List ℕ) → IsName name → IsValue value → IsRest rest → has_day_in_comment (line_of name value rest) ≡ false
line_undated name value rest is kept left =
    let front : List ℕ = name ++ 58 ∷ 32 ∷ (value ++ left.back) in
    let parts : line_of name value rest ≡ front ++ left.remark =
    ap (λ (xs : List ℕ). name ++ 58 ∷ 32 ∷ (value ++ xs)) left.parts
    ∙ sym (append_assoc name (58 ∷ 32 ∷ (value ++ left.back)) left.remark ∙ ap (λ (xs : List ℕ). name ++ 58 ∷ 32 ∷ xs) (append_assoc value left.back left.remark)) in
    let clean = All-append IsNoHash name (58 ∷ 32 ∷ (value ++ left.back)) (name_no_hash name is)
    (All-cons IsNoHash 58 (32 ∷ (value ++ left.back)) refl (All-cons IsNoHash 32 (value ++ left.back) refl
    (All-append IsNoHash value left.back (All-weaker IsKept IsNoHash kept_no_hash value kept.kept)
    (All-weaker (λ byte. is_ending byte ≡ true) IsNoHash ending_no_hash left.back left.back_is)))) in
    ap has_day_in_comment parts ∙ remark_undated front left.remark clean left.remark_is left.undated

-- a line without a comment has no `#`
pub line_no_hash : (name value : List ℕ) → IsName name → IsValue value
    → AllPass (λ byte. not (is_hash byte)) (line_of name value [])
line_no_hash name value is kept =
    All-append IsNoHash name (58 ∷ 32 ∷ (value ++ [])) (name_no_hash name is)
    (All-cons IsNoHash 58 (32 ∷ (value ++ [])) refl (All-cons IsNoHash 32 (value ++ []) refl
    (All-append IsNoHash value [] (All-weaker IsKept IsNoHash kept_no_hash value kept.kept) (All-nil IsNoHash))))

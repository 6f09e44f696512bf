-- The comment about a list is a line that says nothing.
use Rattle.std.proofs.Common.{◌≡◌, ◌≢◌, ℕ, ◌+◌, ◌/◌, ◌%◌, ◌<◌, ◌^◌, ◌==◌, nat_lt, not, true, false, List, [], ◌∷◌, ◌++◌, length, get_or, All, codes, decimal, encode_utf8, Option, Some, None, Ok, refl, sym, ap, ◌∙◌, arith, append-nil, append_assoc, inl, inr}
use Rattle.std.specs.Char.{is_control}
use Rattle.std.specs.List.{flat_map, list_all}
use Rattle.std.specs.Str.{chars, is_utf8}
use Rattle.std.proofs.lemmas.Bool.{cases_Bool, ne_eqb, not-true}
use Rattle.std.proofs.lemmas.List.Elements.{All-append, All-cons, All-from_get_or, All-nil, All-weaker}
use Rattle.std.proofs.lemmas.List.Sums.{AllPass-from_list_all}
use Rattle.std.proofs.lemmas.Str.{inside_one}
use Rattle.cert_listing.specs.Time.{clock_text, date_digits, day_text, instant_text, month_at, two_digits, year_9999, year_at}
use Rattle.key_text.specs.Blanks.{before_ending}
use Rattle.key_text.specs.Lines.{is_newline}
use Rattle.line_pieces.specs.Visible.{is_bidi_or_line_end, visible, visible_byte, visible_char}
use Rattle.krl_format.specs.declared.header.Header.{Header}
use Rattle.krl_spec.specs.Blanks.{after_endings, bare_line}
use Rattle.list_text.specs.Text.{comment_part, list_line}
use Rattle.ssh_cert.specs.Escape.{hex_digit, numbered}
use Rattle.text_entries.specs.Mark.{mark_in}
use Rattle.text_entries.specs.Says.{content_says, Blank, line_says}
use Rattle.text_entries.specs.Day.{until_in}
use Rattle.text_entries.specs.Word.{order_in}
use Rattle.text_entries.specs.declared.standing.Standing.{Standing}
use Rattle.text_laws.specs.FactLines.{HasNumbers}
use Rattle.text_laws.proofs.LineReads.{Reads}
use Rattle.text_laws.proofs.SolidBytes.{HasNoFeed, IsSolid, decimal_solid, hex_symbol, kept_no_feed, solid_kept}

-- ---- bytes without a line feed

solid_no_feed : (byte : ℕ) → IsSolid byte → HasNoFeed byte
solid_no_feed byte solid = kept_no_feed byte (solid_kept byte solid)

literal_no_feed : (text : List ℕ) → list_all (λ byte. not (is_newline byte)) text ≡ true → All HasNoFeed text
literal_no_feed text passes =
    All-weaker (λ byte. not (is_newline byte) ≡ true) HasNoFeed (λ byte. not-true (is_newline byte)) text (AllPass-from_list_all (λ byte. not (is_newline byte)) text passes)

each_no_feed : (text : ℕ → List ℕ) → ((x : ℕ) → All HasNoFeed (text x)) → (xs : List ℕ)
    → All HasNoFeed (flat_map text xs)
each_no_feed text each [] = All-nil HasNoFeed
each_no_feed text each (x ∷ xs) = All-append HasNoFeed (text x) (flat_map text xs) (each x) (each_no_feed text each xs)

numbered_no_feed : (code : ℕ) → All HasNoFeed (numbered code)
numbered_no_feed code =
    All-cons HasNoFeed 92 (120 ∷ hex_digit (code / 16) ∷ hex_digit (code % 16) ∷ []) refl
    (All-cons HasNoFeed 120 (hex_digit (code / 16) ∷ hex_digit (code % 16) ∷ []) refl
    (All-cons HasNoFeed (hex_digit (code / 16)) (hex_digit (code % 16) ∷ []) (solid_no_feed (hex_digit (code / 16)) (hex_symbol (code / 16)))
    (All-cons HasNoFeed (hex_digit (code % 16)) [] (solid_no_feed (hex_digit (code % 16)) (hex_symbol (code % 16))) (All-nil HasNoFeed))))

char_no_feed : (code : ℕ) → code ≢ 10 → All HasNoFeed (encode_utf8 code)
char_no_feed code other = All-from_get_or HasNoFeed (encode_utf8 code) 0 (λ i within.
    ne_eqb (get_or (encode_utf8 code) i 0) 10 (λ feed.
    other (inside_one code [] (encode_utf8 code) i (sym (append-nil (encode_utf8 code))) within (omega (arith, feed)) ∙ feed)))

visible_char_no_feed : (code : ℕ) → All HasNoFeed (visible_char false code)
unfolding visible_char
visible_char_no_feed code = elim (cases_Bool (is_control code)) [
  | inl control ↦ rw control (numbered_no_feed code)
  | inr plain ↦
      let other : code ≢ 10 = λ feed. let control : is_control code ≡ true = ap is_control feed in cc in
      elim (cases_Bool (is_bidi_or_line_end code)) [
        | inl bidi ↦ rw (plain, bidi) (each_no_feed numbered numbered_no_feed (encode_utf8 code))
        | inr one ↦ rw (plain, one) (char_no_feed code other)
      ]
]

visible_byte_no_feed : (byte : ℕ) → All HasNoFeed (visible_byte false byte)
unfolding visible_byte
visible_byte_no_feed byte = elim (cases_Bool (nat_lt byte 128)) [
  | inl ascii ↦ rw ascii (visible_char_no_feed byte)
  | inr other ↦ rw other (numbered_no_feed byte)
]

visible_no_feed : (text : List ℕ) → All HasNoFeed (visible false text)
unfolding visible
visible_no_feed text = elim (cases_Bool (is_utf8 text)) [
  | inl utf8 ↦ rw utf8 (each_no_feed (visible_char false) visible_char_no_feed (chars text))
  | inr other ↦ rw other (each_no_feed (visible_byte false) visible_byte_no_feed text)
]

-- ---- the date

-- a text without a line feed
record IsInLine (text : List ℕ) : Type 0 where
  each : All HasNoFeed text

joined : {xs ys : List ℕ} → IsInLine xs → IsInLine ys → IsInLine (xs ++ ys)
joined {xs} {ys} first second = record { each = All-append HasNoFeed xs ys first.each second.each }

before : {byte : ℕ} {xs : List ℕ} → HasNoFeed byte → IsInLine xs → IsInLine (byte ∷ xs)
before {byte} {xs} first others = record { each = All-cons HasNoFeed byte xs first others.each }

none : IsInLine []
none = record { each = All-nil HasNoFeed }

digit_in_line : (n : ℕ) → HasNoFeed (48 + n)
digit_in_line n = ne_eqb (48 + n) 10 (λ feed. absurd (omega (arith, feed)))

digits_in_line : (n : ℕ) → IsInLine (two_digits n)
digits_in_line n = before (digit_in_line (n / 10)) (before (digit_in_line (n % 10)) none)

date_in_line : (year : ℕ) (month : ℕ × ℕ) → IsInLine (date_digits year month)
unfolding date_digits
date_in_line year (month, passed) =
    joined (digits_in_line (year / 100)) (joined (digits_in_line (year % 100))
    (before refl (joined (digits_in_line month) (before refl (digits_in_line (passed + 1))))))

day_in_line : (days : ℕ) → IsInLine (day_text days)
unfolding day_text
day_in_line days = date_in_line (year_at days 1970 days).0 (month_at (year_at days 1970 days).0 11 1 (year_at days 1970 days).1)

clock_in_line : (seconds : ℕ) → IsInLine (clock_text seconds)
unfolding clock_text
clock_in_line seconds =
    joined (digits_in_line (seconds / 3600)) (before refl (joined (digits_in_line (seconds / 60 % 60)) (before refl (digits_in_line (seconds % 60)))))

decimal_in_line : (n : ℕ) → n < 2 ^ 64 → IsInLine (decimal n)
decimal_in_line n small = record { each = All-weaker IsSolid HasNoFeed solid_no_feed (decimal n) (decimal_solid n small) }

instant_in_line : (seconds : ℕ) → seconds < 2 ^ 64 → IsInLine (instant_text seconds)
unfolding instant_text
instant_in_line seconds small = elim (cases_Bool (nat_lt seconds year_9999)) [
  | inl near ↦ rw near (joined (day_in_line (seconds / 86400)) (before refl (joined (clock_in_line (seconds % 86400)) (before refl none))))
  | inr far ↦ rw far (before refl (decimal_in_line seconds small))
]

visible_in_line : (text : List ℕ) → IsInLine (visible false text)
visible_in_line text = record { each = visible_no_feed text }

literal_in_line : (text : List ℕ) → list_all (λ byte. not (is_newline byte)) text ≡ true → IsInLine text
literal_in_line text passes = record { each = literal_no_feed text passes }

comment_in_line : (comment : List ℕ) → IsInLine (comment_part comment)
comment_in_line comment = elim (cases_Bool (length comment == 0)) [
  | inl empty ↦ rw empty none
  | inr some ↦ rw some (before refl (before refl (visible_in_line comment)))
]

-- ---- the line

comment_says : (standing : Standing) (comment : List ℕ) → line_says standing (35 ∷ comment) ≡ Ok Blank
unfolding line_says content_says until_in bare_line after_endings before_ending order_in mark_in
comment_says standing comment = refl

comment_reads : (standing : Standing) (comment text : List ℕ) → IsInLine comment
    → text ≡ 35 ∷ (comment ++ 10 ∷ []) → Reads standing text Blank
comment_reads standing comment text no_feed ended =
    record { line = 35 ∷ comment; ended = ended; no_feed = All-cons HasNoFeed 35 comment refl no_feed.each; says = comment_says standing comment }

pub list_reads : (standing : Standing) (name : List ℕ) (header : Option Header) → HasNumbers header
    → Reads standing (list_line name header) Blank
list_reads standing name None fits =
    let comment : List ℕ = 32 ∷ (visible false name ++ codes ": a plain list") in
    comment_reads standing comment (list_line name None) (before refl (joined (visible_in_line name) (literal_in_line (codes ": a plain list") refl))) (simp append_assoc)
list_reads standing name (Some header) fits =
    let comment : List ℕ =
    32 ∷ (visible false name ++ (codes ": version " ++ (decimal header.version ++ (codes ", " ++ (instant_text header.date ++ comment_part header.comment))))) in
    let date = joined (instant_in_line header.date fits.1) (comment_in_line header.comment) in
    let version = joined (decimal_in_line header.version fits.0) (joined (literal_in_line (codes ", ") refl) date) in
    comment_reads standing comment (list_line name (Some header)) (before refl (joined (visible_in_line name) (joined (literal_in_line (codes ": version ") refl) version)))
    (simp append_assoc)

-- The options field: the scan stops only after a field, and always stops after a field.
use Rattle.std.proofs.lemmas.Grind.{common_steps}
use Rattle.std.proofs.Common.{◌≡◌, ◌≢◌, ℕ, ◌==◌, ◌&&◌, Bool, true, false, not, cond, List, [], ◌∷◌, ◌++◌, Some, None, refl, sym, ap, subst, ◌∙◌, arith, inl, inr}
use Rattle.std.proofs.lemmas.Bool.{and_right, both_ways, cases_Bool, cases_eq, eq-eqb, false_from_ne_true, ne_eqb}
use Rattle.std.proofs.lemmas.List.{append_assoc}
use Rattle.std.proofs.lemmas.Option.{same_Some, none-some}
use Rattle.key_text.specs.Blanks.{is_blank}
use Rattle.key_text.specs.KeyLine.{IsNoPair, Options, Quoted, options_byte, options_end, options_pair, options_quoted, quoted_byte, quoted_end, quoted_pair}
use Rattle.key_text.specs.LineReading.{after_options, quoted_after}
use Rattle.key_text.proofs.LineWords.{FailsFirst, not_blank}

-- ---- a step of the scan

pub ends : (quoted escaped : Bool) (byte : ℕ) (rest : List ℕ) → is_blank byte ≡ true → quoted ≡ false → after_options quoted escaped (byte ∷ rest) ≡ Some (byte ∷ rest)
unfolding after_options
ends quoted escaped byte rest blank out = grind (arith, common_steps)

pub goes_on : (quoted escaped : Bool) (byte : ℕ) (rest : List ℕ) → (is_blank byte && not quoted) ≡ false → after_options quoted escaped (byte ∷ rest) ≡ after_options (quoted_after quoted escaped byte) (byte == 92) rest
unfolding after_options
goes_on quoted escaped byte rest inside = grind (arith, common_steps)

pub at_end : (quoted escaped : Bool) → after_options quoted escaped [] ≡ cond quoted None (Some [])
unfolding after_options
at_end quoted escaped = grind (arith, common_steps)

inside : (byte : ℕ) → (is_blank byte && not true) ≡ false
inside byte = and_right (is_blank byte) (not true) refl

outside : (byte : ℕ) → is_blank byte ≡ false → (is_blank byte && not false) ≡ false
outside byte no_blank = rw no_blank refl

-- a byte that is not a quote does not change the state
plain : (quoted escaped : Bool) (byte : ℕ) → byte ≢ 34 → quoted_after quoted escaped byte ≡ quoted
plain quoted escaped byte other = rw (ne_eqb byte 34 other) refl

-- the text does not begin with a quote
abbrev NoQuote : List ℕ → Type 0
NoQuote [] = Unit {0}
NoQuote (byte ∷ rest) = byte ≢ 34

-- a backslash matters only before a quote
unescaped : (quoted : Bool) (text : List ℕ) → NoQuote text → after_options quoted true text ≡ after_options quoted false text
unfolding after_options
unescaped quoted [] other = refl
unescaped quoted (byte ∷ rest) other = rw (ne_eqb byte 34 other) refl

-- a byte that is not a quote, and that does not escape a quote after it
passes : (quoted : Bool) (byte : ℕ) (rest : List ℕ) → byte ≢ 34 → (is_blank byte && not quoted) ≡ false → ((byte ≡ 92) → NoQuote rest) → after_options quoted false (byte ∷ rest) ≡ after_options quoted false rest
passes quoted byte rest other stays apart = grind (arith, common_steps, cases_eq, eq-eqb, goes_on, ne_eqb, plain, unescaped)

pair_passes : (quoted : Bool) (rest : List ℕ) → after_options quoted false (92 ∷ 34 ∷ rest) ≡ after_options quoted false rest
unfolding after_options
pair_passes true rest = refl
pair_passes false rest = refl

quote_opens : (rest : List ℕ) → after_options false false (34 ∷ rest) ≡ after_options true false rest
unfolding after_options
quote_opens rest = grind (arith, common_steps)

quote_closes : (rest : List ℕ) → after_options true false (34 ∷ rest) ≡ after_options false false rest
unfolding after_options
quote_closes rest = grind (arith, common_steps)

-- ---- after a field the scan stops

quoted_apart : (byte : ℕ) (inner rest : List ℕ) → IsNoPair byte (inner ++ 34 ∷ []) → (byte ≡ 92) → NoQuote (inner ++ 34 ∷ rest)
quoted_apart byte [] rest apart backslash = apart backslash
quoted_apart byte (next ∷ inner) rest apart backslash = apart backslash

quoted_passes : (inner rest : List ℕ) → Quoted inner → after_options true false (inner ++ 34 ∷ rest) ≡ after_options false false rest
quoted_passes inner rest quoted_end = quote_closes rest
quoted_passes inner rest (quoted_pair more q) = pair_passes true (more ++ 34 ∷ rest) ∙ quoted_passes more rest q
quoted_passes inner rest (quoted_byte byte more other apart q) =
    passes true byte (more ++ 34 ∷ rest) other (inside byte) (quoted_apart byte more rest apart) ∙ quoted_passes more rest q

blank_is_no_quote : (byte : ℕ) → not_blank byte ≡ false → byte ≢ 34
blank_is_no_quote byte blank same = both_ways (not_blank byte) blank (ap not_blank same)

options_apart : (byte : ℕ) (field rest : List ℕ) → FailsFirst not_blank rest → IsNoPair byte field → (byte ≡ 92) → NoQuote (field ++ rest)
options_apart byte [] [] stops apart backslash = tt
options_apart byte [] (next ∷ rest) stops apart backslash = blank_is_no_quote next stops
options_apart byte (next ∷ field) rest stops apart backslash = apart backslash

stops_at_end : (rest : List ℕ) → FailsFirst not_blank rest → after_options false false rest ≡ Some rest
stops_at_end [] stops = at_end false false
stops_at_end (byte ∷ rest) stops = elim (cases_Bool (is_blank byte)) [
  | inl blank ↦ ends false false byte rest blank refl
  | inr bare ↦ absurd (both_ways (not_blank byte) stops (ap not bare))
]

pub options_again : (field rest : List ℕ) → Options field → FailsFirst not_blank rest → after_options false false (field ++ rest) ≡ Some rest
options_again field rest options_end stops = stops_at_end rest stops
options_again field rest (options_pair more o) stops = pair_passes false (more ++ rest) ∙ options_again more rest o stops
options_again field rest (options_byte byte more other bare apart o) stops =
    passes false byte (more ++ rest) other (outside byte bare) (options_apart byte more rest stops apart) ∙ options_again more rest o stops
options_again field rest (options_quoted inner more q o) stops =
    quote_opens ((inner ++ 34 ∷ more) ++ rest)
    ∙ ap (after_options true false) (append_assoc inner (34 ∷ more) rest)
    ∙ quoted_passes inner (more ++ rest) q
    ∙ options_again more rest o stops

-- ---- the scan stops only after a field

-- the text is a field and the rest
pub record IsOptionsBefore (text rest : List ℕ) : Type 0 where
  pub field : List ℕ
  pub options : Options field
  pub whole : text ≡ field ++ rest
  pub stops : FailsFirst not_blank rest

-- the text is the bytes up to the next quote, that quote, a field and the rest
record IsQuotedBefore (text rest : List ℕ) : Type 0 where
  inner : List ℕ
  is_quoted : Quoted inner
  field : List ℕ
  options : Options field
  whole : text ≡ inner ++ 34 ∷ (field ++ rest)
  stops : FailsFirst not_blank rest

abbrev Found : Bool → List ℕ → List ℕ → Type 0
Found true text rest = IsQuotedBefore text rest
Found false text rest = IsOptionsBefore text rest

abbrev FindsEnd : List ℕ → Type 0
FindsEnd text = (quoted : Bool) (rest : List ℕ) → after_options quoted false text ≡ Some rest → Found quoted text rest

abbrev tail_of : List ℕ → List ℕ
tail_of [] = []
tail_of (byte ∷ rest) = rest

empty : FindsEnd []
empty true rest e = absurd (none-some rest (sym (at_end true false) ∙ e))
empty false rest e =
    let none : [] ≡ rest = same_Some [] rest (sym (at_end false false) ∙ e) in
    record { field = []; options = options_end; whole = none; stops = subst (FailsFirst not_blank) none tt }

apart_from : (byte : ℕ) (text field rest : List ℕ) → text ≡ field ++ rest → ((byte ≡ 92) → NoQuote text) → IsNoPair byte field
apart_from byte text [] rest whole apart = tt
apart_from byte text (next ∷ field) rest whole apart = λ backslash. subst NoQuote whole (apart backslash)

apart_from_quote : (byte : ℕ) (text inner rest : List ℕ) → text ≡ inner ++ 34 ∷ rest → ((byte ≡ 92) → NoQuote text) → IsNoPair byte (inner ++ 34 ∷ [])
apart_from_quote byte text [] rest whole apart = λ backslash. subst NoQuote whole (apart backslash)
apart_from_quote byte text (next ∷ inner) rest whole apart = λ backslash. subst NoQuote whole (apart backslash)

-- a byte that is not a quote, before the bytes that the scan continues with
plain_byte : (byte : ℕ) (text : List ℕ) → FindsEnd text → byte ≢ 34 → ((byte ≡ 92) → NoQuote text) → (quoted : Bool) (rest : List ℕ) → (is_blank byte && not quoted) ≡ false → after_options quoted false (byte ∷ text) ≡ Some rest → Found quoted (byte ∷ text) rest
plain_byte byte text holds other apart true rest stays e =
    let f = holds true rest (sym (passes true byte text other stays apart) ∙ e) in
    record { inner = byte ∷ f.inner; is_quoted = quoted_byte byte f.inner other (apart_from_quote byte text f.inner (f.field ++ rest) f.whole apart) f.is_quoted; field = f.field; options = f.options; whole = ap (λ (xs : List ℕ). byte ∷ xs) f.whole; stops = f.stops }
plain_byte byte text holds other apart false rest stays e =
    let f = holds false rest (sym (passes false byte text other stays apart) ∙ e) in
    let bare : is_blank byte ≡ false = false_from_ne_true (is_blank byte) (λ blank. let h = rw blank at stays in cc) in
    record { field = byte ∷ f.field; options = options_byte byte f.field other bare (apart_from byte text f.field rest f.whole apart) f.options; whole = ap (λ (xs : List ℕ). byte ∷ xs) f.whole; stops = f.stops }

-- a quote that is not escaped
quote_byte : (text : List ℕ) → FindsEnd text → (quoted : Bool) (rest : List ℕ) → after_options quoted false (34 ∷ text) ≡ Some rest → Found quoted (34 ∷ text) rest
quote_byte text holds true rest e =
    let f = holds false rest (sym (quote_closes text) ∙ e) in
    record { inner = []; is_quoted = quoted_end; field = f.field; options = f.options; whole = ap (λ (xs : List ℕ). 34 ∷ xs) f.whole; stops = f.stops }
quote_byte text holds false rest e =
    let f = holds true rest (sym (quote_opens text) ∙ e) in
    record { field = 34 ∷ (f.inner ++ 34 ∷ f.field); options = options_quoted f.inner f.field f.is_quoted f.options; whole = ap (λ (xs : List ℕ). 34 ∷ xs) (f.whole ∙ sym (append_assoc f.inner (34 ∷ f.field) rest)); stops = f.stops }

-- a pair of a backslash and a quote
pair_bytes : (text : List ℕ) → FindsEnd text → (quoted : Bool) (rest : List ℕ) → after_options quoted false (92 ∷ 34 ∷ text) ≡ Some rest → Found quoted (92 ∷ 34 ∷ text) rest
pair_bytes text holds true rest e =
    let f = holds true rest (sym (pair_passes true text) ∙ e) in
    record { inner = 92 ∷ 34 ∷ f.inner; is_quoted = quoted_pair f.inner f.is_quoted; field = f.field; options = f.options; whole = ap (λ (xs : List ℕ). 92 ∷ 34 ∷ xs) f.whole; stops = f.stops }
pair_bytes text holds false rest e =
    let f = holds false rest (sym (pair_passes false text) ∙ e) in
    record { field = 92 ∷ 34 ∷ f.field; options = options_pair f.field f.options; whole = ap (λ (xs : List ℕ). 92 ∷ 34 ∷ xs) f.whole; stops = f.stops }

-- a backslash
backslash_byte : (text : List ℕ) → FindsEnd text → FindsEnd (tail_of text) → (quoted : Bool) (rest : List ℕ) → after_options quoted false (92 ∷ text) ≡ Some rest → Found quoted (92 ∷ text) rest
backslash_byte [] holds after quoted rest e = plain_byte 92 [] holds (omega arith) (λ same. tt) quoted rest refl e
backslash_byte (next ∷ text) holds after quoted rest e = elim (cases_eq next 34) [
  | inl quote ↦ subst (λ (b : ℕ). Found quoted (92 ∷ b ∷ text) rest) (sym quote) (pair_bytes text after quoted rest (subst (λ (b : ℕ). after_options quoted false (92 ∷ b ∷ text) ≡ Some rest) quote e))
  | inr other ↦ plain_byte 92 (next ∷ text) holds (omega arith) (λ same. other) quoted rest refl e
]

step : (byte : ℕ) (text : List ℕ) → FindsEnd text → FindsEnd (tail_of text) → FindsEnd (byte ∷ text)
step byte text holds after quoted rest e = elim (cases_Bool (is_blank byte && not quoted)) [
  | inl stop ↦ blank_byte byte text quoted rest stop e
  | inr stays ↦ elim (cases_eq byte 34) [
    | inl quote ↦ subst (λ (b : ℕ). Found quoted (b ∷ text) rest) (sym quote) (quote_byte text holds quoted rest (subst (λ (b : ℕ). after_options quoted false (b ∷ text) ≡ Some rest) quote e))
    | inr other ↦ elim (cases_eq byte 92) [
      | inl backslash ↦ subst (λ (b : ℕ). Found quoted (b ∷ text) rest) (sym backslash) (backslash_byte text holds after quoted rest (subst (λ (b : ℕ). after_options quoted false (b ∷ text) ≡ Some rest) backslash e))
      | inr different ↦ plain_byte byte text holds other (λ same. absurd (different same)) quoted rest stays e
    ]
  ]
]
  where
    blank_byte : (byte : ℕ) (text : List ℕ) (quoted : Bool) (rest : List ℕ) → (is_blank byte && not quoted) ≡ true → after_options quoted false (byte ∷ text) ≡ Some rest → Found quoted (byte ∷ text) rest
    blank_byte byte text true rest stop e = absurd (both_ways (is_blank byte && not true) (inside byte) stop)
    blank_byte byte text false rest stop e =
        let blank : is_blank byte ≡ true = elim (cases_Bool (is_blank byte)) [
          | inl blank ↦ blank
          | inr bare ↦ absurd (both_ways (is_blank byte && not false) (outside byte bare) stop)
        ] in
        let same : byte ∷ text ≡ rest = same_Some (byte ∷ text) rest (sym (ends false false byte text blank refl) ∙ e) in
        record { field = []; options = options_end; whole = same; stops = subst (FailsFirst not_blank) same (ap not blank) }

-- at a text, and after its first byte
both : (text : List ℕ) → FindsEnd text × FindsEnd (tail_of text)
both [] = (empty, empty)
both (byte ∷ text) = let held = both text in (step byte text held.0 held.1, held.0)

pub options_take : (text rest : List ℕ) → after_options false false text ≡ Some rest → IsOptionsBefore text rest
options_take text rest e = (both text).0 false rest e

-- The lines around a container: reading returns the text between them, and reads every such text.
use Rattle.std.proofs.lemmas.Grind.{common_steps}
use Rattle.std.proofs.Common.{◌≡◌, ℕ, ◌<◌, map, List, [], ◌∷◌, ◌++◌, Option, Some, None, refl, sym, ap, subst, ◌∙◌, inl, inr, arith}
use Rattle.std.specs.Prelude.{option_map}
use Rattle.std.specs.List.{concat, onto_first, slice_split}
use Rattle.std.proofs.lemmas.Bool.{cases_Bool}
use Rattle.ssh_wire.specs.Wire.{IsBytes}
use Rattle.ssh_wire.proofs.Digits.{IsBytes-append, IsBytes-cons, IsBytes-nil, IsBytes-tail, IsBytes-take}
use Rattle.key_text.specs.Armour.{AreInner, IsArmour, armour_at, armoured, begin_line, body_of, end_line, lines_of}
use Rattle.key_text.specs.Lines.{is_newline}
use Rattle.key_text.specs.Blanks.{before_ending}
use Rattle.key_text.proofs.ListLaws.{equal_or_not}

-- if the end line is among the lines, the first end line, and the joined lines before it
record Between (lines : List (List ℕ)) (body : List ℕ) : Type 0 where
  pub between : List (List ℕ)
  pub after : List (List ℕ)
  pub spelled : lines ≡ between ++ end_line ∷ after
  pub inner : AreInner between
  pub joined : body ≡ concat between

mapped_some : (line : List ℕ) (o : Option (List ℕ)) (x : List ℕ) → option_map (λ body. line ++ body) o ≡ Some x → (body : List ℕ) × (o ≡ Some body) × (line ++ body ≡ x)
mapped_some line None x e = absurd cc
mapped_some line (Some body) x e = (body, refl, cc)

body_found : (lines : List (List ℕ)) (x : List ℕ) → body_of lines ≡ Some x → Between lines x
body_found [] x e = absurd cc
body_found (line ∷ lines) x e = elim (equal_or_not line end_line) [
  | inl same ↦
      let h = rw same.0 at e in
      let empty : [] ≡ x = cc in
      record { between = []; after = lines; spelled = ap (λ (l : List ℕ). l ∷ lines) same.1; inner = tt; joined = sym empty }
  | inr other ↦
      let h = rw other.0 at e in
      let m = mapped_some line (body_of lines) x h in
      let b = body_found lines m.0 m.1 in
      record {
        between = line ∷ b.between;
        after = b.after;
        spelled = ap (λ (ls : List (List ℕ)). line ∷ ls) b.spelled;
        inner = (other.1, b.inner);
        joined = sym m.2 ∙ ap (λ (body : List ℕ). line ++ body) b.joined;
      }
]

body_again : (between after : List (List ℕ)) → AreInner between → body_of (between ++ end_line ∷ after) ≡ Some (concat between)
body_again [] after inner = refl
body_again (line ∷ between) after inner = elim (equal_or_not line end_line) [
  | inl same ↦ absurd (inner.0 same.1)
  | inr other ↦ rw (other.0, body_again between after inner.1) refl
]

armoured_found : (lines : List (List ℕ)) (body : List ℕ) → armoured lines ≡ Some body → (rest : List (List ℕ)) × (lines ≡ begin_line ∷ rest) × (body_of rest ≡ Some body)
armoured_found [] body e = absurd cc
armoured_found (line ∷ lines) body e = elim (equal_or_not line begin_line) [
  | inl same ↦ let h = rw same.0 at e in (lines, ap (λ (l : List ℕ). l ∷ lines) same.1, h)
  | inr other ↦ absurd (let h = rw other.0 at e in cc)
]

pub armour_found : (text body : List ℕ) → armour_at text ≡ Some body → IsArmour text body
unfolding armour_at
armour_found text body e =
    let a = armoured_found (lines_of text) body e in
    let b = body_found a.0 body a.2 in
    record { between = b.between; after = b.after; lines = a.1 ∙ ap (λ (ls : List (List ℕ)). begin_line ∷ ls) b.spelled; inner = b.inner; joined = b.joined }

pub armour_again : (text body : List ℕ) → IsArmour text body → armour_at text ≡ Some body
unfolding armour_at
armour_again text body is = grind (arith, common_steps, body_again)

-- ---- the joined lines of bytes are bytes

unfoldable pub AllBytes : List (List ℕ) → Type 0
AllBytes [] = Unit {0}
AllBytes (part ∷ parts) = IsBytes part × AllBytes parts

onto_bytes : (byte : ℕ) (parts : List (List ℕ)) → byte < 256 → AllBytes parts → AllBytes (onto_first byte parts)
unfolding AllBytes
onto_bytes byte [] lt all = (IsBytes-cons byte [] lt IsBytes-nil, tt)
onto_bytes byte (part ∷ parts) lt all = (IsBytes-cons byte part lt all.0, all.1)

pub split_bytes : (text : List ℕ) → IsBytes text → AllBytes (slice_split is_newline text)
unfolding AllBytes
split_bytes [] fits = (IsBytes-nil, tt)
split_bytes (byte ∷ text) fits = elim (cases_Bool (is_newline byte)) [
  | inl feed ↦ rw feed (IsBytes-nil, split_bytes text (IsBytes-tail byte text fits))
  | inr other ↦ rw other (onto_bytes byte (slice_split is_newline text) (fits 0) (split_bytes text (IsBytes-tail byte text fits)))
]

trimmed_bytes : (parts : List (List ℕ)) → AllBytes parts → AllBytes (map before_ending parts)
unfolding AllBytes before_ending
trimmed_bytes [] all = tt
trimmed_bytes (part ∷ parts) all = (IsBytes-take _ part all.0, trimmed_bytes parts all.1)

body_bytes : (lines : List (List ℕ)) (body : List ℕ) → AllBytes lines → body_of lines ≡ Some body → IsBytes body
unfolding AllBytes
body_bytes [] body all e = absurd cc
body_bytes (line ∷ lines) body all e = elim (equal_or_not line end_line) [
  | inl same ↦
      let h = rw same.0 at e in
      let empty : [] ≡ body = cc in
      subst IsBytes empty IsBytes-nil
  | inr other ↦
      let m = mapped_some line (body_of lines) body (rw other.0 at e) in
      subst IsBytes m.2 (IsBytes-append line m.0 all.0 (body_bytes lines m.0 all.1 m.1))
]

pub armour_bytes : (text body : List ℕ) → IsBytes text → armour_at text ≡ Some body → IsBytes body
unfolding armour_at AllBytes
armour_bytes text body fits e = grind (arith, common_steps, AllBytes, armoured_found, body_bytes, split_bytes, trimmed_bytes)

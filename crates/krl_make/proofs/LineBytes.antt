-- If a text consists of bytes, so do its lines.
use Rattle.std.proofs.Common.{ℕ, ◌<◌, List, [], ◌∷◌, inl, inr}
use Rattle.std.specs.List.{All, onto_first, slice_split}
use Rattle.std.proofs.lemmas.Bool.{cases_Bool}
use Rattle.std.proofs.lemmas.List.Elements.{All-cons, All-head, All-nil, All-tail}
use Rattle.key_text.specs.Lines.{is_newline}
use Rattle.ssh_wire.specs.Wire.{IsBytes}
use Rattle.ssh_wire.proofs.Digits.{IsBytes-cons, IsBytes-nil, IsBytes-tail}

onto_bytes : (byte : ℕ) (lines : List (List ℕ)) → byte < 256 → All IsBytes lines
    → All IsBytes (onto_first byte lines)
onto_bytes byte [] lt each =
    All-cons IsBytes (byte ∷ []) [] (IsBytes-cons byte [] lt IsBytes-nil) (All-nil IsBytes)
onto_bytes byte (line ∷ lines) lt each =
    let first = IsBytes-cons byte line lt (All-head IsBytes line lines each) in
    All-cons IsBytes (byte ∷ line) lines first (All-tail IsBytes line lines each)

pub lines_bytes : (text : List ℕ) → IsBytes text → All IsBytes (slice_split is_newline text)
lines_bytes [] fits = All-cons IsBytes [] [] IsBytes-nil (All-nil IsBytes)
lines_bytes (byte ∷ text) fits =
    let lines : List (List ℕ) = slice_split is_newline text in
    let others = lines_bytes text (IsBytes-tail byte text fits) in
    elim (cases_Bool (is_newline byte)) [
      | inl feed ↦ rw feed (All-cons IsBytes [] lines IsBytes-nil others)
      | inr none ↦ rw none (onto_bytes byte lines (fits 0) others)
    ]

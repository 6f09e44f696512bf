-- The next line has a key, or is skipped.
use Rattle.std.proofs.Common.{◌≡◌, ℕ, ◌+◌, ◌^◌, ◌<◌, ◌≤◌, true, false, List, ◌∷◌, length, Option, None, Some, refl, sym, ◌∙◌, arith}
use Rattle.std.specs.Borrow.{Bor}
use Rattle.std.specs.List.{slice_split}
use Rattle.std.specs.Prelude.{IfSome}
use Rattle.key_text.specs.KeyFile.{has_key}
use Rattle.key_text.specs.LineReading.{line_at}
use Rattle.key_text.specs.Lines.{is_newline, lines_left}
use Rattle.run_faults.specs.FileKeys.{line_room}
use Rattle.run_faults.specs.Keys.{key_in, keys_from, key_of_line}
use Rattle.run_faults.proofs.file_keys.Lines.next_with_key.Goals as goal

keyed : (name : List ℕ) (passed : ℕ) (text line : List ℕ) (lines : List (List ℕ)) → slice_split is_newline text ≡ line ∷ lines → has_key line ≡ true
    → keys_from name (passed + 1) (slice_split is_newline text) ≡ key_of_line name (passed + 1) (line_at line) ∷ keys_from name (passed + 1 + 1) lines
unfolding key_in
keyed name passed text line lines split has = rw (split, has) refl

skipped : (name : List ℕ) (passed : ℕ) (text line : List ℕ) (lines : List (List ℕ)) → slice_split is_newline text ≡ line ∷ lines → has_key line ≡ false
    → keys_from name (passed + 1) (slice_split is_newline text) ≡ keys_from name (passed + 1 + 1) lines
unfolding key_in
skipped name passed text line lines split none = rw (split, none) refl

room_left : (passed : ℕ) (text line : List ℕ) (rest : Option (Bor (List ℕ))) → passed + (length text + 1) < 2 ^ 64 → IfSome rest (λ after. length line + length after.now + 1 ≤ length text) → passed + 1 + line_room rest < 2 ^ 64
room_left passed text line None fits short = omega arith
room_left passed text line (Some after) fits short = omega (arith, short)

pub returns-then-has_key-clause-next : goal.returns-then-has_key-clause-next
returns-then-has_key-clause-next c = λ name.
    let same = rw c.in-Some.is at (c.loop-self.invariant.same name) in
    same ∙ keyed name c.loop-self.self.passed c.in-Some.text.now c.split_line.result.0.now (lines_left c.split_line.result.1) c.split_line.ensures.lines (sym c.has_key.ensures.value ∙ c.if-has_key.true)

pub loop-self-preserved : goal.loop-self-preserved
loop-self-preserved c =
    let fits = rw c.in-Some.is at c.loop-self.invariant.room in
    record {
      room = room_left c.loop-self.self.passed c.in-Some.text.now c.split_line.result.0.now c.split_line.result.1 fits c.split_line.ensures.shorter;
      same = λ name.
          let same = rw c.in-Some.is at (c.loop-self.invariant.same name) in
          same ∙ skipped name c.loop-self.self.passed c.in-Some.text.now c.split_line.result.0.now (lines_left c.split_line.result.1) c.split_line.ensures.lines (sym c.has_key.ensures.value ∙ c.if-has_key.false);
    }

-- Fields that name nothing in scope are skipped together.
use Rattle.krl_core.proofs.Common.{◌%◌, ◌*◌, ◌-◌, ◌/◌, ◌<◌, ◌∙◌, ◌≡◌, ◌≤◌, AllocError, ap}
use Rattle.krl_core.proofs.Common.{AreBitsOutOfScope, AreOutOfScope, arith, FieldStore}
use Rattle.krl_core.proofs.Common.{held_with_open, InStep, IsBytes, IsBytes-take, length}
use Rattle.krl_core.proofs.Common.{length-take-le, List, MaySkip, next_bits, next_serial, None}
use Rattle.krl_core.proofs.Common.{number_of, Ok, on_ok_weaker, OnOk, Place, ReadsBuffered}
use Rattle.krl_core.proofs.Common.{ReadsSome, refl, Result, Skips, StoresNoMore, subst, sym, take}
use Rattle.krl_core.proofs.Common.{drop, Err, OnErr, RunsOut, take-append-drop, take_fewer, ℕ}
use Rattle.krl_core.proofs.BufferedFields.{runs_out_here}
use Rattle.krl_core.proofs.SerialFields.{buffered_serials}
use Rattle.krl_core.proofs.StoredEntries.{stored_same}
use Rattle.krl_core.proofs.SkippedBits.{buffered_bits, stays_grow}
use Rattle.krl_format.specs.declared.place.Place.TheVariants as places

pub serials_buffered : (bytes : List ℕ) (count : ℕ) (place next : Place) (stored : FieldStore) (left after : ℕ) → place ≡ places.Serial left after → next ≡ next_serial (left - count) after
    → count ≤ length bytes → count ≤ left → count % 8 ≡ 0 → (count ≡ 0 → ⊥) → IsBytes bytes → InStep place stored.bitmap → AreOutOfScope stored.scope stored.authority bytes count
    → ReadsSome bytes count (Ok (tt {0})) place stored next stored
serials_buffered bytes count place next stored left after at to there within whole some are step out_of_scope =
    let eights : 8 * (count / 8) ≡ count = omega arith in
    let none : stored.bitmap.pending ≡ None = subst (λ (p : Place). InStep p stored.bitmap) at step in
    let all : ReadsBuffered (take (8 * (count / 8)) bytes) (places.Serial left after) stored (next_serial (left - 8 * (count / 8)) after) stored =
    buffered_serials (count / 8) stored left after bytes (omega (arith, some)) none are (omega (arith, eights)) (omega (arith, eights)) (subst (AreOutOfScope stored.scope stored.authority bytes) (sym eights) out_of_scope) in
    let counted : ReadsBuffered (take count bytes) (places.Serial left after) stored (next_serial (left - count) after) stored =
    subst (λ (n : ℕ). ReadsBuffered (take n bytes) (places.Serial left after) stored (next_serial (left - n) after) stored) eights all in
    record {
      within = there;
      ok = subst (λ (p : Place). ReadsBuffered (take count bytes) p stored next stored) (sym at) (subst (λ (p : Place). ReadsBuffered (take count bytes) (places.Serial left after) stored p stored) (sym to) counted);
      ran_out = tt;
      grows = stays_grow count stored stored (omega arith) (stored_same stored stored refl refl refl);
      none = λ z. absurd (some z);
    }

on_err : {P : Type 0} (result : Result (Unit {0}) AllocError) → P → OnErr result P
on_err (Ok done) h = tt
on_err (Err error) h = h

pub bits_buffered : (bytes : List ℕ) (count : ℕ) (result : Result (Unit {0}) AllocError) (place next : Place) (old new : FieldStore) (offset size left after : ℕ)
    → place ≡ places.Byte offset size left after → next ≡ next_bits offset size (left - count) after → MaySkip old offset size left bytes count → (count ≡ 0 → ⊥) → IsBytes bytes
    → InStep place old.bitmap → OnOk result (Skips count old new) → held_with_open new ≤ held_with_open old → StoresNoMore old new → ReadsSome bytes count result place old next new
bits_buffered bytes count result place next old new offset size left after at to may some are step skips held stays =
    let xs : List ℕ = take count bytes in
    let long : length xs ≡ count = length-take-le count bytes may.there in
    let stepped = subst (λ (p : Place). InStep p old.bitmap) at step in
    let first : take 1 xs ≡ take 1 bytes = take_fewer 1 count bytes (omega (arith, some)) in
    let crosses = λ (s : Skips count old new).
    buffered_bits old new offset size left after xs stepped (IsBytes-take count bytes are) (omega (arith, long, may.within)) may.left_is
    (λ same. subst (λ (l : List ℕ). number_of l < 128) (sym first) (may.sign_free same)) may.fits (subst (AreBitsOutOfScope old offset left) (sym long) may.bits_out_of_scope) (subst (λ (n : ℕ). Skips n old new) (sym long) s) in
    let lands : next_bits offset size (left - length xs) after ≡ next = ap (λ (n : ℕ). next_bits offset size (left - n) after) long ∙ sym to in
    record {
      within = may.there;
      ok = on_ok_weaker result (λ s. subst (λ (p : Place). ReadsBuffered xs p old next new) (sym at) (subst (λ (p : Place). ReadsBuffered xs (places.Byte offset size left after) old p new) lands (crosses s))) skips;
      ran_out = on_err result (subst (λ (p : Place). RunsOut xs p old) (sym at) (subst (λ (l : List ℕ). RunsOut l (places.Byte offset size left after) old) (take-append-drop 1 xs)
          (runs_out_here (take 1 xs) (drop 1 xs) (places.Byte offset size left after) old stepped (length-take-le 1 xs (omega (arith, long, some))) tt)));
      grows = stays_grow count old new held stays;
      none = λ z. absurd (some z);
    }

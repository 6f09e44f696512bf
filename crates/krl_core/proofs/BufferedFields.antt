-- Fields that are read, one row after another.
use Rattle.krl_core.proofs.Common.{[], ◌*◌, ◌++◌, ◌+◌, ◌-◌, ◌<◌, ◌∙◌, ◌∷◌, ◌≡◌, ◌≤◌, AllocError, ap}
use Rattle.krl_core.proofs.Common.{append-nil, append_assoc, arith, available, authority_after, Bool}
use Rattle.krl_core.proofs.Common.{concat}
use Rattle.krl_core.proofs.Common.{concat-append, drop, Err, false, false≢true, FieldStore}
use Rattle.krl_core.proofs.Common.{GrowsAtMost, HasRead, HasStored, InStep, is_err, IsBounded}
use Rattle.krl_core.proofs.Common.{IsBytes, IsBytes-append, IsBytes-drop, IsBytes-nil, IsBytes-take}
use Rattle.krl_core.proofs.Common.{Advances, inr, left_of, length, length-append, length-drop}
use Rattle.krl_core.proofs.Common.{length-take-le, List, names, nat_lt, Ok, on_ok_weaker, OnOk}
use Rattle.krl_core.proofs.Common.{Passes, Place, Pull, ReadsBuffered, ReadsMore, ReadsSome}
use Rattle.krl_core.proofs.Common.{ReadsWhole, refl, Result, start, state_after}
use Rattle.krl_core.proofs.Common.{StoresAtMost, StoresEntries, StoresField, subst, suc, sym, take}
use Rattle.krl_core.proofs.Common.{take-add, take_rest, Takes, true, Walk, working, zero, ℕ}
use Rattle.krl_core.proofs.Common.{expected, limit, LooksFor, NeedsMemory, on_err_weaker, OnErr, ran_out, Follows, Refused, RunsOut}
use Rattle.krl_format.proofs.LongestFronts.{nearer, weight}
use Rattle.krl_core.proofs.StoredEntries.{grows_then, header_stored}
use Rattle.krl_core.proofs.Steps.{bounded_more, consumes_some, looked, may_lack}
use Rattle.krl_format.proofs.Walks.{LeadsTo-push}
use Rattle.krl_types.specs.declared.krl_fault.KrlFault.TheVariants as faults

-- ---- sequences of fields

stored_of : (text : List ℕ) (fields : List (List ℕ)) (p : Walk) → HasRead text fields p → HasStored fields p.place p.stored
stored_of text fields p h = record { state = h.state; leads = h.leads; place_is = h.place_is; authority_is = h.authority_is; header_is = h.header_is; stores = h.stores }

buffered_none : (place : Place) (k : FieldStore) → InStep place k.bitmap → ReadsBuffered [] place k place k
buffered_none place k step = record {
  stores = λ fields h. ([], (subst (λ (fs : List (List ℕ)). HasStored fs place k) (sym (append-nil fields)) h, refl));
  are_bytes = IsBytes-nil;
  in_step = step;
  scope_is = refl;
}

buffered_then : (xs ys : List ℕ) (p q r : Place) (a b c : FieldStore) → ReadsBuffered xs p a q b → ReadsBuffered ys q b r c → ReadsBuffered (xs ++ ys) p a r c
buffered_then xs ys p q r a b c h k = record {
  stores = λ fields was.
      let one = h.stores fields was in
      let two = k.stores (fields ++ one.0) one.1.0 in (
        one.0 ++ two.0,
        (
          subst (λ (fs : List (List ℕ)). HasStored fs r c) (append_assoc fields one.0 two.0) two.1.0,
          concat-append one.0 two.0 ∙ ap (λ (l : List ℕ). l ++ concat two.0) one.1.1 ∙ ap (λ (l : List ℕ). xs ++ l) two.1.1,
        ),
      );
  are_bytes = IsBytes-append xs ys h.are_bytes k.are_bytes;
  in_step = k.in_step;
  scope_is = k.scope_is ∙ h.scope_is;
}

-- a field that passes its judgement and is stored
pub buffered_field : (place next : Place) (old new : FieldStore) (field : List ℕ) → Passes place field next → StoresField place field next old new → IsBytes field
    → ReadsBuffered field place old next new
buffered_field place next old new field passes stores_field bytes = record {
  stores = λ fields h.
      let pass : Passes h.state.place field next = subst (λ (p : Place). Passes p field next) h.place_is passes in
      let place_is = h.place_is in
      let authority_is = h.authority_is in
      let named : names place old.authority field ≡ names h.state.place h.state.authority field = cc in
      let authority : authority_after place old.authority field ≡ authority_after h.state.place h.state.authority field = cc in (
        field ∷ [],
        (
          record {
            state = state_after h.state field next;
            leads = LeadsTo-push start h.state fields field next h.leads pass;
            place_is = refl;
            authority_is = stores_field.authority_is ∙ authority;
            header_is = header_stored place h.state.place next field old new h.state.header stores_field h.place_is h.header_is;
            stores = subst (λ n. StoresEntries new (h.state.entries ++ n)) named (stores_field.stores h.state.entries h.stores);
          },
          append-nil field,
        ),
      );
  are_bytes = bytes;
  in_step = stores_field.in_step;
  scope_is = stores_field.scope_is;
}

-- ---- some of the bytes

pub some_none : (bytes : List ℕ) (place : Place) (k : FieldStore) → InStep place k.bitmap → ReadsSome bytes 0 (Ok (tt {0})) place k place k
some_none bytes place k step = record {
  within = omega arith;
  ok = buffered_none place k step;
  ran_out = tt;
  grows = record { held_is = omega arith; stored_is = λ m s. subst (λ (n : ℕ). StoresAtMost k n) (omega arith) s; scope_is = λ s. s; same_scope = refl };
  none = λ _. (refl, refl);
}

-- memory may be needed for the first field
pub runs_out_here : (field after : List ℕ) (place : Place) (k : FieldStore) → InStep place k.bitmap → length field ≡ (expected place).size → NeedsMemory place field
    → RunsOut (field ++ after) place k
runs_out_here field after place k step whole needs = record {
  front = [];
  field = field;
  after = after;
  parts = refl;
  next = place;
  stored = k;
  reads = buffered_none place k step;
  whole = whole;
  needs = needs;
}

runs_out_then : (xs ys : List ℕ) (p q : Place) (a b : FieldStore) → ReadsBuffered xs p a q b → RunsOut ys q b → RunsOut (xs ++ ys) p a
runs_out_then xs ys p q a b h k = record {
  front = xs ++ k.front;
  field = k.field;
  after = k.after;
  parts = ap (λ (l : List ℕ). xs ++ l) k.parts ∙ sym (append_assoc xs k.front (k.field ++ k.after));
  next = k.next;
  stored = k.stored;
  reads = buffered_then xs k.front p q k.next a b k.stored h k.reads;
  whole = k.whole;
  needs = k.needs;
}

-- more of the bytes
pub some_more : (bytes : List ℕ) (at n : ℕ) (result : Result (Unit {0}) AllocError) (p q r : Place) (a b c : FieldStore) → ReadsSome bytes at (Ok (tt {0})) p a q b
    → n ≤ length (drop at bytes) → OnOk result (ReadsBuffered (take n (drop at bytes)) q b r c) → OnErr result (RunsOut (take n (drop at bytes)) q b)
    → GrowsAtMost n b c → (at + n ≡ 0 → (r ≡ p) × (c ≡ a)) → ReadsSome bytes (at + n) result p a r c
some_more bytes at n result p q r a b c h within ok out grows none = record {
  within = omega (arith, within, h.within, length-drop at bytes);
  ok = on_ok_weaker result (λ k. subst (λ (l : List ℕ). ReadsBuffered l p a r c) (sym (take-add at n bytes)) (buffered_then (take at bytes) (take n (drop at bytes)) p q r a b c h.ok k)) ok;
  ran_out = on_err_weaker result (λ k. subst (λ (l : List ℕ). RunsOut l p a) (sym (take-add at n bytes)) (runs_out_then (take at bytes) (take n (drop at bytes)) p q a b h.ok k)) out;
  grows = grows_then a b c at n h.grows grows;
  none = none;
}

pub some_then : (bytes : List ℕ) (at n : ℕ) (result : Result (Unit {0}) AllocError) (p q r : Place) (a b c : FieldStore) → ReadsSome bytes at (Ok (tt {0})) p a q b
    → ReadsSome (drop at bytes) n result q b r c → ReadsSome bytes (at + n) result p a r c
some_then bytes at n result p q r a b c h k =
    some_more bytes at n result p q r a b c h k.within k.ok k.ran_out k.grows
    (λ at_none. let one = h.none (omega arith) in let two = k.none (omega arith) in (two.0 ∙ one.0, two.1 ∙ one.1))

-- the rest of the bytes
pub some_after : (bytes : List ℕ) (at n : ℕ) (result : Result (Unit {0}) AllocError) (p q r : Place) (a b c : FieldStore) → ReadsSome bytes at (Ok (tt {0})) p a q b
    → ReadsSome (take (length bytes - at) (drop at bytes)) n result q b r c → ReadsSome bytes (at + n) result p a r c
some_after bytes at n result p q r a b c h k =
    some_then bytes at n result p q r a b c h (subst (λ (xs : List ℕ). ReadsSome xs n result q b r c) (take_rest bytes at) k)

pub some_ok : (bytes : List ℕ) (n : ℕ) (result : Result (Unit {0}) AllocError) (p q : Place) (a b : FieldStore) → is_err result ≡ false → ReadsSome bytes n result p a q b
    → ReadsSome bytes n (Ok (tt {0})) p a q b
some_ok bytes n (Ok done) p q a b off h = record { within = h.within; ok = h.ok; ran_out = tt; grows = h.grows; none = h.none }
some_ok bytes n (Err fault) p q a b off h = absurd (cc)

pub some_err : {P : Type 0} (result : Result (Unit {0}) AllocError) → is_err result ≡ true → OnErr result P → P
some_err (Ok done) on h = absurd (cc)
some_err (Err error) on h = h

-- ---- one field

-- the field at the front of the rest of the bytes
front_of : (bytes : List ℕ) (at : ℕ) (empty : Bool) (size : ℕ) (result : Result Place AllocError) (q : Place) (b c : FieldStore)
    → ReadsWhole (take (length bytes - at) (drop at bytes)) empty size result q b c → ReadsWhole (drop at bytes) empty size result q b c
front_of bytes at empty size result q b c h = subst (λ (xs : List ℕ). ReadsWhole xs empty size result q b c) (take_rest bytes at) h

some_bytes : (at size : ℕ) → (size ≡ 0 → nat_lt 0 at ≡ true) → at + size ≡ 0 → ⊥
some_bytes zero zero some e = false≢true (some refl)
some_bytes zero (suc size) some e = absurd (omega (arith, e))
some_bytes (suc at) size some e = absurd (omega (arith, e))

pub field_buffered : (bytes : List ℕ) (at size : ℕ) (p q next : Place) (a b c : FieldStore) → IsBytes bytes → ReadsSome bytes at (Ok (tt {0})) p a q b
    → ReadsWhole (take (length bytes - at) (drop at bytes)) (nat_lt 0 at) size (Ok next) q b c → ReadsSome bytes (at + size) (Ok (tt {0})) p a next c
field_buffered bytes at size p q next a b c are h there =
    let field = front_of bytes at _ size (Ok next) q b c there in
    some_more bytes at size (Ok (tt {0})) p q next a b c h field.within
    (buffered_field q next b c (take size (drop at bytes)) field.passes field.stores_field (IsBytes-take size (drop at bytes) (IsBytes-drop at bytes are)))
    tt field.grows (λ none. absurd (some_bytes at size field.some none))

pub field_refused : (bytes : List ℕ) (at size : ℕ) (error : AllocError) (p q : Place) (a b c : FieldStore) → ReadsSome bytes at (Ok (tt {0})) p a q b
    → ReadsWhole (take (length bytes - at) (drop at bytes)) (nat_lt 0 at) size (Err error) q b c → ReadsSome bytes (at + size) (Err error) p a q c
field_refused bytes at size error p q a b c h there =
    let field = front_of bytes at _ size (Err error) q b c there in
    let whole : length (take size (drop at bytes)) ≡ (expected q).size = length-take-le size (drop at bytes) field.within ∙ field.whole in
    let here = runs_out_here (take size (drop at bytes)) [] q b h.ok.in_step whole field.needs in
    some_more bytes at size (Err error) p q q a b c h field.within tt (subst (λ (l : List ℕ). RunsOut l q b) (append-nil (take size (drop at bytes))) here)
    field.grows (λ none. absurd (some_bytes at size field.some none))

pub buffered_nearer : (bytes : List ℕ) (at size : ℕ) (q next : Place) (b c : FieldStore) → at + size ≤ length bytes
    → ReadsWhole (take (length bytes - at) (drop at bytes)) (nat_lt 0 at) size (Ok next) q b c
    → 2 * (length bytes - (at + size)) + weight next < 2 * (length bytes - at) + weight q
buffered_nearer bytes at size q next b c within there =
    let field = front_of bytes at _ size (Ok next) q b c there in
    let near = nearer q next _ field.passes.judged in
    omega (arith, near, field.passes.whole, length-take-le size (drop at bytes) field.within, within)

-- ---- a walk

pub reads_buffered : (old : Walk) (new : Pull) (place : Place) (stored : FieldStore) (bytes : List ℕ) → Takes old.pull bytes new
    → ReadsBuffered bytes old.place old.stored place stored → ReadsMore old (working new place stored)
reads_buffered old new place stored bytes takes crosses text fields h =
    let more = crosses.stores fields (stored_of text fields old h) in
    let now = more.1.0 in
    let after = consumes_some (left_of old.pull) (left_of new) h.rest bytes h.left_is takes.bytes in
    let joined : concat (fields ++ more.0) ≡ concat fields ++ bytes = concat-append fields more.0 ∙ ap (λ (l : List ℕ). concat fields ++ l) more.1.1 in (
      more.0,
      record {
        state = now.state;
        leads = now.leads;
        place_is = now.place_is;
        authority_is = now.authority_is;
        header_is = now.header_is;
        stores = now.stores;
        are_bytes = subst IsBytes (sym joined) (IsBytes-append (concat fields) bytes h.are_bytes crosses.are_bytes);
        rest = after.0;
        left_is = after.1;
        parts = h.parts ∙ ap (λ (l : List ℕ). concat fields ++ l) after.2 ∙ sym (append_assoc (concat fields) bytes after.0) ∙ ap (λ (l : List ℕ). l ++ after.0) (sym joined);
        taken_is = omega (arith, takes.taken, h.taken_is, ap length joined, length-append (concat fields) bytes);
        works = takes.working;
        faultless = refl;
      },
    )

-- an allocation failed at a field in the reader's buffer
pub buffered_ran_out : (old : Walk) (new : Pull) (bytes : List ℕ) → IsBounded old.pull old.stored → Takes old.pull bytes new → RunsOut bytes old.place old.stored → Refused faults.NoMemory old new
buffered_ran_out old new bytes bounded takes out text fields h =
    let more = out.reads.stores fields (stored_of text fields old h) in
    let now = more.1.0 in
    let after = consumes_some (left_of old.pull) (left_of new) h.rest bytes h.left_is takes.bytes in
    let joined : concat (fields ++ more.0) ≡ concat fields ++ out.front = concat-append fields more.0 ∙ ap (λ (l : List ℕ). concat fields ++ l) more.1.1 in
    let parts = h.parts ∙ ap (λ (l : List ℕ). concat fields ++ l) (after.2 ∙ ap (λ (l : List ℕ). l ++ after.0) out.parts)
    ∙ regroup (concat fields) out.front out.field out.after after.0 ∙ ap (λ (l : List ℕ). l ++ (out.field ++ (out.after ++ after.0))) (sym joined) in
    let within : length (concat (fields ++ more.0)) + length out.field ≤ limit =
    omega (arith, ap length joined, length-append (concat fields) out.front, ap length out.parts, length-append out.front (out.field ++ out.after), length-append out.field out.after, takes.within, bounded.limit_is, h.taken_is) in
    ran_out refl (may_lack text (fields ++ more.0) now.state out.field (out.after ++ after.0) now.leads parts (subst (λ (p : Place). length out.field ≡ (expected p).size) now.place_is out.whole)
    within (subst (λ (p : Place). NeedsMemory p out.field) now.place_is out.needs)) takes.working
  where
    regroup : (a b c d e : List ℕ) → a ++ ((b ++ (c ++ d)) ++ e) ≡ (a ++ b) ++ (c ++ (d ++ e))
    regroup a b c d e = simp append_assoc

-- one field
pub one_more : (old : Walk) (mid new : Pull) (place : Place) (stored : FieldStore) (field : List ℕ) → IsBounded old.pull old.stored → LooksFor old.place old.pull false mid
    → Takes mid field new → Passes old.place field place → IsBytes field → StoresField old.place field place old.stored stored → Follows old (working new place stored)
unfolding buffered_field reads_buffered
one_more old mid new place stored field b looks takes passes bytes stores_field =
    let crosses = buffered_field old.place place old.stored stored field passes stores_field bytes in record {
      field = field;
      passes = passes;
      reads = λ text fields h.
          (field, (reads_buffered (working mid old.place old.stored) new place stored field takes crosses text fields (looked old mid false looks text fields h)).1);
      taken = omega (arith, takes.taken, looks.taken);
      within = omega (arith, takes.within, takes.taken, looks.limit_is, b.limit_is);
      scope_is = stores_field.scope_is;
      faultless = refl;
      works = takes.working;
    }

-- if a number of bytes in the reader's buffer were read
pub bounded_count : (old : Walk) (new : Pull) (place : Place) (stored : FieldStore) (count : ℕ) (result : Result (Unit {0}) AllocError) → IsBounded old.pull old.stored
    → ReadsSome (available old.pull) count result old.place old.stored place stored → Takes old.pull (take count (available old.pull)) new → IsBounded new stored
bounded_count old new place stored count result b some takes =
    bounded_more old old.pull new stored (take count (available old.pull)) b refl refl takes
    (subst (λ (n : ℕ). GrowsAtMost n old.stored stored) (sym (length-take-le count (available old.pull) some.within)) some.grows)

-- some bytes were read
pub advances_buffered : (old : Walk) (new : Pull) (place : Place) (stored : FieldStore) (bytes : List ℕ) → IsBounded old.pull old.stored → Takes old.pull bytes new
    → ReadsBuffered bytes old.place old.stored place stored → 0 < length bytes → Advances old (working new place stored)
advances_buffered old new place stored bytes b takes crosses some = record {
  leads = record { reads = reads_buffered old new place stored bytes takes crosses; faultless = refl; scope_is = crosses.scope_is };
  progress = inr (omega (arith, takes.taken));
  within = omega (arith, takes.within, takes.taken, b.limit_is);
  works = takes.working;
}

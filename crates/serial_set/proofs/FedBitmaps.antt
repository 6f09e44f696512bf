-- A bitmap that is fed byte by byte, as a whole.
use Rattle.serial_set.proofs.Common.{[], ◌*◌, ◌++◌, ◌+◌, ◌-◌, ◌<◌, ◌^◌, ◌∙◌, ◌∷◌, ◌≡◌, ◌≤◌, ◌⊎◌}
use Rattle.serial_set.proofs.Common.{All, All-head, All-tail, ap, append-nil, append_assoc}
use Rattle.serial_set.proofs.Common.{AreSerials, arith, big_endian, bit_at-zero, BitNames, BitRuns}
use Rattle.serial_set.proofs.Common.{cases_eq, cases_lt, Covers, Feeds, FeedsAll, HasFault, IfSome}
use Rattle.serial_set.proofs.Common.{inl, inr, IsRunsOf, length, length-append, List, lowest, None}
use Rattle.serial_set.proofs.Common.{Option, option_to_list, PassesEnd, pow-suc, refl, reverse}
use Rattle.serial_set.proofs.Common.{reverse-append, runs_after, RunsFrom, Some, Span, SpanCovers}
use Rattle.serial_set.proofs.Common.{start, subst, suc, sym, zero, ℕ}
use Rattle.serial_set.specs.declared.bit_fault.BitFault.{BitFault}
use Rattle.serial_set.specs.declared.bit_fault.BitFault.TheVariants.{Negative, Wraps}
use Rattle.serial_set.proofs.ByteRuns.{OnFrom, OnFrom-runs}
use Rattle.serial_set.proofs.RisingLists.{RunsFrom-weaker, names_append, names_left, names_right}
use Rattle.serial_set.proofs.RisingLists.{runs_join}
use Rattle.serial_set.proofs.Bits.{bit_below, BitNames-split, BitNames-join}

-- ---- lists

names_end : (a : ℕ) (xs : List Span) → RunsFrom a xs → (c : ℕ) → ((s : ℕ) → Covers xs s → s + 2 ≤ c) → All (λ t. t.hi + 2 ≤ c) xs
names_end a [] r c below k d h = absurd (omega arith)
names_end a (x ∷ xs) r c below zero d h = below x.hi (inl (r.1, omega arith))
names_end a (x ∷ xs) r c below (suc k) d h = names_end (x.hi + 2) xs r.2 c (λ s n. below s (inr n)) k d (omega arith)

raise_to : (n : ℕ) (xs : List Span) → RunsFrom 0 xs → ((s : ℕ) → Covers xs s → n ≤ s) → RunsFrom n xs
raise_to n [] r above = tt
raise_to n (x ∷ xs) r above = (above x.lo (inl (omega arith, r.1)), r.1, r.2)

raise_past : (n : ℕ) (xs : List Span) → RunsFrom n xs → (Covers xs n → ⊥) → RunsFrom (n + 1) xs
raise_past n [] r without = tt
raise_past n (x ∷ xs) r without =
    elim (cases_eq x.lo n) [
      | inl same ↦ absurd (without (inl (omega arith, omega arith)))
      | inr other ↦ (omega arith, r.1, r.2)
    ]

names_turned : (f : List Span) (s : ℕ) → Covers (reverse f) s → Covers f s
names_turned [] s n = n
names_turned (x ∷ xs) s n =
    elim (names_append (reverse xs) (x ∷ []) s (subst (λ l. Covers l s) (reverse-append (x ∷ []) xs) n)) [
      | inl l ↦ inr (names_turned xs s l)
      | inr r ↦ elim r [ inl here ↦ inl here | inr none ↦ absurd none ]
    ]

none_named : (f : List Span) (s : ℕ) → All (λ run. SpanCovers run s → ⊥) f → Covers f s → ⊥
none_named [] s free n = n
none_named (x ∷ xs) s free n =
    elim n [
      | inl here ↦ All-head (λ run. SpanCovers run s → ⊥) x xs free here
      | inr later ↦ none_named xs s (All-tail (λ run. SpanCovers run s → ⊥) x xs free) later
    ]

-- ---- one more byte

-- the runs of the number fed so far, whose lowest bit represents n
record Fed (n number count : ℕ) (p : Option Span) (z : List Span) : Type 0 where
  on : OnFrom n p z
  only : (s : ℕ) → Covers (option_to_list p ++ z) s → BitNames n number s
  found : (s : ℕ) → BitNames n number s → Covers (option_to_list p ++ z) s
  top : (s : ℕ) → Covers (option_to_list p ++ z) s → s < 2 ^ 64
  few : length (option_to_list p ++ z) ≤ count

-- what was fed before begins past all that the next byte can name
record Above (m c : ℕ) (p : Option Span) (z : List Span) : Type 0 where
  rises : RunsFrom c z
  past : m + 1 ≤ c
  over : (s : ℕ) → Covers (option_to_list p) s → s + 2 ≤ c
  from : (s : ℕ) → Covers (option_to_list p) s → m ≤ s

above : (m : ℕ) (p : Option Span) (z : List Span) → OnFrom m p z → (c : ℕ) × Above m c p z
above m None z r = (m + 1, record { rises = r; past = omega arith; over = λ s n. absurd n; from = λ s n. absurd n })
above m (Some run) z r = (
  run.hi + 2,
  record {
    rises = r.2.2;
    past = omega arith;
    over = λ s n. elim n [ inl here ↦ omega (arith, here.1) | inr none ↦ absurd none ];
    from = λ s n. elim n [ inl here ↦ omega (arith, here.0) | inr none ↦ absurd none ];
  },
)

on_next : (n c : ℕ) (q : Option Span) (f z : List Span) → RunsFrom 0 (option_to_list q ++ reverse f) → ((s : ℕ) → Covers (option_to_list q ++ reverse f) s → (0 < s) × (n ≤ s) × (s + 2 ≤ c)) → n + 1 ≤ c → RunsFrom c z
    → IfSome q (λ run. SpanCovers run n) → All (λ run. SpanCovers run n → ⊥) f → OnFrom n q (reverse f ++ z)
on_next n c None f z r bounds past rises goes ends =
    let from_n = raise_to n (reverse f) r (λ s m. (bounds s m).1) in
    let from_past = raise_past n (reverse f) from_n (λ m. none_named f n ends (names_turned f n m)) in
    runs_join (n + 1) c (reverse f) z past from_past (names_end 0 (reverse f) r c (λ s m. (bounds s m).2)) rises
on_next n c (Some run) f z r bounds past rises goes ends =
    let first = bounds run.lo (inl (omega arith, r.1)) in
    let from_n = raise_to n (run ∷ reverse f) r (λ s m. (bounds s m).1) in
    (omega arith, first.0, runs_join n c (run ∷ reverse f) z (omega arith) from_n (names_end 0 (run ∷ reverse f) r c (λ s m. (bounds s m).2)) rises)

fed_more : (n number count byte : ℕ) (p q : Option Span) (f z : List Span) → byte < 256 → Fed (n + 8) number count p z → IsRunsOf (option_to_list q ++ reverse f) (λ s. Covers (option_to_list p) s ⊎ BitNames n byte s)
    → IfSome q (λ run. SpanCovers run n) → All (λ run. SpanCovers run n → ⊥) f → ((s : ℕ) → BitNames n byte s → s < 2 ^ 64) → length (option_to_list q ++ reverse f) ≤ length (option_to_list p) + 4
    → Fed n (number * 256 + byte) (count + 4) q (reverse f ++ z)
fed_more n number count byte p q f z h fed runs goes ends fits four =
    let up = above (n + 8) p z fed.on in
    let c = up.0 in
    let list : option_to_list q ++ (reverse f ++ z) ≡ (option_to_list q ++ reverse f) ++ z = sym (append_assoc (option_to_list q) (reverse f) z) in
    let bounds : (s : ℕ) → Covers (option_to_list q ++ reverse f) s → (0 < s) × (n ≤ s) × (s + 2 ≤ c) = λ s m. elim ((runs.1 s).0 m) [
      | inl old ↦ ((fed.only s (names_left (option_to_list p) z s old)).0, omega (arith, up.1.from s old), up.1.over s old)
      | inr new ↦ (new.0, new.1, omega (arith, up.1.past, bit_below byte 8 (s - n) h new.2))
    ] in
    let cases : (s : ℕ) → Covers ((option_to_list q ++ reverse f) ++ z) s → Covers (option_to_list p ++ z) s ⊎ BitNames n byte s = λ s m. elim (names_append (option_to_list q ++ reverse f) z s m) [
      | inl l ↦ elim ((runs.1 s).0 l) [ inl old ↦ inl (names_left (option_to_list p) z s old) | inr new ↦ inr new ]
      | inr later ↦ inl (names_right (option_to_list p) z s later)
    ] in
    record {
      on = on_next n c q f z runs.0 bounds (omega (arith, up.1.past)) up.1.rises goes ends;
      only = λ s m. BitNames-join n number byte s h (elim (cases s (subst (λ l. Covers l s) list m)) [ inl old ↦ inl (fed.only s old) | inr new ↦ inr new ]);
      found = λ s m. subst (λ l. Covers l s) (sym list) (elim (BitNames-split n number byte s h m) [
        | inl old ↦ elim (names_append (option_to_list p) z s (fed.found s old)) [
          | inl l ↦ names_left (option_to_list q ++ reverse f) z s ((runs.1 s).1 (inl l))
          | inr later ↦ names_right (option_to_list q ++ reverse f) z s later
        ]
        | inr new ↦ names_left (option_to_list q ++ reverse f) z s ((runs.1 s).1 (inr new))
      ]);
      top = λ s m. elim (cases s (subst (λ l. Covers l s) list m)) [ inl old ↦ fed.top s old | inr new ↦ fits s new ];
      few = omega (arith, four, fed.few, ap length list, length-append (option_to_list q ++ reverse f) z, length-append (option_to_list p) z);
    }

-- ---- all bytes

no_past : (before : BitRuns) (fault : Option BitFault) (byte : ℕ) → before.fault ≡ fault → ((e : BitFault) → HasFault before byte e → ⊥) → PassesEnd before byte → ⊥
no_past before None byte e free passes =
    let negative : HasFault before byte Negative → ⊥ = free Negative in
    free Wraps (rw e ((rw e at negative), passes))
no_past before (Some old) byte e free passes = free old (rw e refl)

-- the serials of a byte without a fault
pub byte_fits : (before : BitRuns) (byte : ℕ) → ((e : BitFault) → HasFault before byte e → ⊥) → (s : ℕ) → BitNames (before.offset + 8 * (before.bytes_left - 1)) byte s → s < 2 ^ 64
byte_fits before byte free s n = elim (cases_lt s (2 ^ 64)) [
  | inl below ↦ below
  | inr past ↦ absurd (no_past before before.fault byte refl free (s, (past, n)))
]

fed_same : (n m a b i j : ℕ) (p : Option Span) (y z : List Span) → n ≡ m → a ≡ b → i ≡ j → y ≡ z → Fed n a i p y → Fed m b j p z
fed_same n m a b i j p y z e f g h fed =
    subst (λ l. Fed m b j p l) h (subst (λ k. Fed m b k p y) g (subst (λ k. Fed m k i p y) f (subst (λ k. Fed k a i p y) e fed)))

fed_step : (before : BitRuns) (byte : ℕ) (after : BitRuns) (finished : List Span) (number count : ℕ) (z : List Span) → byte < 256 → Feeds before byte after finished → Fed (lowest before) number count before.pending z
    → Fed (lowest after) (number * 256 + byte) (count + 4) after.pending (reverse finished ++ z) × (after.offset ≡ before.offset)
fed_step before byte after finished number count z h step fed =
    let same : after.offset ≡ before.offset = ap (λ (q : BitRuns). q.offset) step.same_bitmap in
    let bytes_left = step.one_less in
    let low : lowest before ≡ lowest after + 8 = omega arith in
    let base : lowest after ≡ before.offset + 8 * (before.bytes_left - 1) = omega arith in
    let fits : (s : ℕ) → BitNames (lowest after) byte s → s < 2 ^ 64 = λ s n. byte_fits before byte step.no_fault s (subst (λ k. BitNames k byte s) base n) in
    (fed_more (lowest after) number count byte before.pending after.pending finished z h (subst (λ k. Fed k number count before.pending z) low fed) step.runs step.goes_on step.ends fits step.four_more, same)

fed_all : (before : BitRuns) (bytes : List ℕ) (after : BitRuns) (finished : List Span) (number count : ℕ) (z : List Span) → All (λ b. b < 256) bytes → FeedsAll before bytes after finished → Fed (lowest before) number count before.pending z
    → Fed (lowest after) (number * 256 ^ length bytes + big_endian bytes) (count + 4 * length bytes) after.pending (reverse finished ++ z) × (after.bytes_left + length bytes ≡ before.bytes_left) × (after.offset ≡ before.offset)
fed_all before [] after finished number count z small path fed =
    let same : after.pending ≡ before.pending = ap (λ (q : BitRuns). q.pending) path.0 in
    let bytes_left : after.bytes_left ≡ before.bytes_left = ap (λ (q : BitRuns). q.bytes_left) path.0 in
    let offset : after.offset ≡ before.offset = ap (λ (q : BitRuns). q.offset) path.0 in
    let none : z ≡ reverse finished ++ z = ap (λ (l : List Span). reverse l ++ z) (sym path.1) in
    (fed_same (lowest before) (lowest after) number _ count _ after.pending z _ (omega arith) (omega arith) (omega arith) none (subst (λ p. Fed (lowest before) number count p z) (sym same) fed), omega arith, offset)
fed_all before (byte ∷ bytes) after finished number count z small path fed =
    let middle = path.0 in
    let first = path.1.0 in
    let rest = path.1.1.0 in
    let step = path.1.1.1.0 in
    let one = fed_step before byte middle first number count z (All-head (λ b. b < 256) byte bytes small) step fed in
    let more = fed_all middle bytes after rest (number * 256 + byte) (count + 4) (reverse first ++ z) (All-tail (λ b. b < 256) byte bytes small) path.1.1.1.1 one.0 in
    let turned : reverse rest ++ (reverse first ++ z) ≡ reverse finished ++ z =
    sym (append_assoc (reverse rest) (reverse first) z) ∙ ap (λ l. l ++ z) (sym (ap reverse path.1.1.1.2 ∙ reverse-append first rest)) in (
      fed_same (lowest after) (lowest after) _ _ _ _ after.pending _ _ refl (omega (arith, ap (λ k. number * k) (pow-suc 256 (length bytes)))) (omega arith) turned more.0,
      omega (arith, more.1, step.one_less),
      more.2 ∙ one.1,
    )

nothing_fed : (n : ℕ) → Fed n 0 0 None []
nothing_fed n = record {
  on = tt;
  only = λ s m. absurd m;
  found = λ s m. absurd (omega (arith, bit_at-zero (s - n), m.2));
  top = λ s m. absurd m;
  few = omega arith;
}

fed_from_start : (offset len : ℕ) (bytes : List ℕ) (after : BitRuns) (finished : List Span) → All (λ b. b < 256) bytes → FeedsAll (start offset len) bytes after finished
    → Fed (lowest after) (big_endian bytes) (4 * length bytes) after.pending (reverse finished) × (after.bytes_left + length bytes ≡ len) × (after.offset ≡ offset)
fed_from_start offset len bytes after finished small path =
    let whole = fed_all (start offset len) bytes after finished 0 0 [] small path (nothing_fed (offset + 8 * len)) in
    (fed_same (lowest after) (lowest after) _ _ _ _ after.pending _ _ refl (omega arith) (omega arith) (append-nil (reverse finished)) whole.0, whole.1, whole.2)

pub fed_runs : (offset len : ℕ) (bytes : List ℕ) (after : BitRuns) (finished : List Span) → All (λ b. b < 256) bytes → FeedsAll (start offset len) bytes after finished → IsRunsOf (runs_after after finished) (λ s. BitNames (lowest after) (big_endian bytes) s)
fed_runs offset len bytes after finished small path =
    let fed = (fed_from_start offset len bytes after finished small path).0 in
    (RunsFrom-weaker (lowest after) 0 _ (omega arith) (OnFrom-runs (lowest after) after.pending (reverse finished) fed.on), λ s. (fed.only s, fed.found s))

pub fed_serials : (offset len : ℕ) (bytes : List ℕ) (after : BitRuns) (finished : List Span) → All (λ b. b < 256) bytes → FeedsAll (start offset len) bytes after finished → AreSerials (runs_after after finished)
fed_serials offset len bytes after finished small path s n =
    let fed = (fed_from_start offset len bytes after finished small path).0 in
    ((fed.only s n).0, fed.top s n)

pub fed_few : (offset len : ℕ) (bytes : List ℕ) (after : BitRuns) (finished : List Span) → All (λ b. b < 256) bytes → FeedsAll (start offset len) bytes after finished → length (runs_after after finished) ≤ 4 * length bytes
fed_few offset len bytes after finished small path = (fed_from_start offset len bytes after finished small path).0.few

pub fed_position : (offset len : ℕ) (bytes : List ℕ) (after : BitRuns) (finished : List Span) → All (λ b. b < 256) bytes → FeedsAll (start offset len) bytes after finished → (after.bytes_left + length bytes ≡ len) × (after.offset ≡ offset)
fed_position offset len bytes after finished small path =
    let whole = fed_from_start offset len bytes after finished small path in (whole.1, whole.2)

pub fed_whole : (offset len : ℕ) (bytes : List ℕ) (after : BitRuns) (finished : List Span) → All (λ b. b < 256) bytes → length bytes ≡ len → FeedsAll (start offset len) bytes after finished → IsRunsOf (runs_after after finished) (λ s. BitNames offset (big_endian bytes) s)
fed_whole offset len bytes after finished small all path =
    let position = fed_position offset len bytes after finished small path in
    let low : lowest after ≡ offset = omega arith in
    subst (λ n. IsRunsOf (runs_after after finished) (λ s. BitNames n (big_endian bytes) s)) low (fed_runs offset len bytes after finished small path)

pub fed_one_more : (before middle after : BitRuns) (bytes : List ℕ) (byte : ℕ) (finished more : List Span) → FeedsAll before bytes middle finished → Feeds middle byte after more → FeedsAll before (bytes ++ byte ∷ []) after (finished ++ more)
fed_one_more before middle after [] byte finished more path step =
    (after, (more, ([], (subst (λ p. Feeds p byte after more) path.0 step, (refl, refl), ap (λ l. l ++ more) path.1 ∙ sym (append-nil more)))))
fed_one_more before middle after (b ∷ bytes) byte finished more path step =
    let rest = fed_one_more path.0 middle after bytes byte path.1.1.0 more path.1.1.1.1 step in
    (path.0, (path.1.0, (path.1.1.0 ++ more, (path.1.1.1.0, rest, ap (λ l. l ++ more) path.1.1.1.2 ∙ append_assoc path.1.0 path.1.1.0 more))))

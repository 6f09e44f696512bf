-- The effect of a step on the fields that were read, and what its faults say about the text.
use Rattle.krl_core.proofs.Common.{[], ◌++◌, ◌+◌, ◌-◌, ◌<◌, ◌∙◌, ◌∷◌, ◌≡◌, ◌≤◌, ◌⊎◌, after_ahead}
use Rattle.krl_core.proofs.Common.{ap, append-nil, append_assoc, arith, Bool}
use Rattle.krl_core.proofs.Common.{can_end, concat, cut, ends_early, Err, expected}
use Rattle.krl_core.proofs.Common.{failed_read, false, FieldStore, first, GrowsAtMost, HasRead}
use Rattle.krl_core.proofs.Common.{HasRoom, inl, inr, IsBounded, MayLackMemory, NeedsMemory}
use Rattle.krl_core.proofs.Common.{IsFirstKrlFault, IsSome, KrlFault, le-ltb, LeadsTo, left_of, length}
use Rattle.krl_core.proofs.Common.{length-append, limit, List, LooksFor, lt-ltb, ltb, Missed}
use Rattle.krl_core.proofs.Common.{no_room, None, Option, Place, Pull, ran_out, refl}
use Rattle.krl_core.proofs.Common.{Refused, refused, Refuses, Reported, Says, Some, start}
use Rattle.krl_core.proofs.Common.{State, StoresAtMost}
use Rattle.krl_core.proofs.Common.{subst, sym, take, take_all, Takes, too_long, true, Walk}
use Rattle.krl_core.proofs.Common.{ℕ}
use Rattle.std.specs.Io.KnownBytes.{Consumes, IsAtEnd, Keeps}
use Rattle.std.proofs.KnownBytes.{Keeps-refl}
use Rattle.std.proofs.Math.Seq.{take-append_seam}
use Rattle.ssh_wire.specs.declared.pull_fault.PullFault.{PullFault}
use Rattle.ssh_wire.proofs.TruncatedFields.{take-after}
use Rattle.krl_types.specs.KrlFault.{reported_as}
use Rattle.krl_format.proofs.FirstFields.{large_needs}
use Rattle.krl_format.proofs.Fronts.{first_fault_is, end_size, end_room}
use Rattle.krl_format.proofs.LongestFronts.{end_or_early}
use Rattle.ssh_wire.specs.declared.pull_fault.PullFault.TheVariants as pulls
use Rattle.krl_types.specs.declared.krl_fault.KrlFault.TheVariants as faults
use Rattle.krl_core.specs.Reading.{no_room as room_missed}

-- ---- the bytes that a reader has left

pub consumes_some : (a b : Option (List ℕ)) (rest field : List ℕ) → a ≡ Some rest → Consumes a b field
    → (after : List ℕ) × (b ≡ Some after) × (rest ≡ field ++ after)
consumes_some None b rest field e h = absurd (cc)
consumes_some (Some xs) None rest field e h = absurd h
consumes_some (Some xs) (Some ys) rest field e h = let same : xs ≡ rest = cc in (ys, refl, sym same ∙ h)

pub stores_some : (a b : Option (List ℕ)) (rest : List ℕ) → a ≡ Some rest → Keeps a b → b ≡ Some rest
stores_some None b rest e h = absurd (cc)
stores_some (Some xs) None rest e h = absurd h
stores_some (Some xs) (Some ys) rest e h = let same : xs ≡ rest = cc in ap (λ (l : List ℕ). Some l) (h ∙ same)

pub at_end_none : (a : Option (List ℕ)) (rest : List ℕ) → a ≡ Some rest → IsAtEnd a → rest ≡ []
at_end_none None rest e h = absurd (cc)
at_end_none (Some xs) rest e h = let same : xs ≡ rest = cc in sym same ∙ h

ahead_left : (ahead : Option ℕ) (source : Option (List ℕ)) (rest : List ℕ) (p : Pull) → p.ahead ≡ ahead → p.source ≡ source
    → left_of p ≡ Some rest → IsSome p.ahead → rest ≡ [] → ⊥
ahead_left None source rest p e f left some none = let s = rw e at some in absurd (cc)
ahead_left (Some byte) None rest p e f left some none = let l = rw (e, f) at left in absurd (cc)
ahead_left (Some byte) (Some xs) rest p e f left some none = let l = rw (e, f) at left in absurd (cc)

-- a byte that was looked at is left
pub ahead_some : (p : Pull) (rest : List ℕ) → left_of p ≡ Some rest → IsSome p.ahead → rest ≡ [] → ⊥
ahead_some p rest left some none = ahead_left p.ahead p.source rest p refl refl left some none

-- Fields of the text lead to a place, and the reader has the rest of the text left.
pub record HasCome (text : List ℕ) (fields : List (List ℕ)) (reading : Walk) : Type 0 where
  pub state : State
  pub leads : LeadsTo start fields state
  pub place_is : reading.place ≡ state.place
  pub rest : List ℕ
  pub left_is : left_of reading.pull ≡ Some rest
  pub parts : text ≡ concat fields ++ rest
  pub taken_is : reading.pull.taken ≡ length (concat fields)

abbrev pub come : {text : List ℕ} {fields : List (List ℕ)} {p : Walk} → HasRead text fields p → HasCome text fields p
come h = record { state = h.state; leads = h.leads; place_is = h.place_is; rest = h.rest; left_is = h.left_is; parts = h.parts; taken_is = h.taken_is }

-- ---- the front that was read

-- the report at the place that was reached is the first fault
pub reported_there : (text : List ℕ) (fields : List (List ℕ)) (p : Walk) (h : HasCome text fields p) (fault : Option KrlFault)
    → length (concat fields) ≤ limit
    → Reported p.place (take (limit - length (concat fields)) h.rest) (ltb limit (length text)) fault → IsFirstKrlFault text fault
reported_there text fields p h fault le reported =
    let parts : take limit text ≡ concat fields ++ take (limit - length (concat fields)) h.rest =
    ap (take limit) h.parts ∙ take-after (concat fields) h.rest limit le in
    first_fault_is text fault (record {
      last = h.state;
      rest = take (limit - length (concat fields)) h.rest;
      walks = record { fields = fields; leads = h.leads; parts = parts };
      reported = subst (λ (place : Place). Reported place (take (limit - length (concat fields)) h.rest) (ltb limit (length text)) fault) h.place_is reported;
    })

-- the same for other bytes that begin with the fields
reported_given : (fields : List (List ℕ)) (state : State) (came : List ℕ) (fault : Option KrlFault) → LeadsTo start fields state
    → length (concat fields) + length came ≤ limit → Reported state.place came false fault → IsFirstKrlFault (concat fields ++ came) fault
reported_given fields state came fault leads le reported =
    let len = length-append (concat fields) came in
    let whole : take limit (concat fields ++ came) ≡ concat fields ++ came = take_all limit (concat fields ++ came) (omega (arith, len)) in
    let off : ltb limit (length (concat fields ++ came)) ≡ false = le-ltb limit (length (concat fields ++ came)) (omega (arith, len)) in
    first_fault_is (concat fields ++ came) fault (record {
      last = state;
      rest = came;
      walks = record { fields = fields; leads = leads; parts = whole };
      reported = subst (λ (b : Bool). Reported state.place came b fault) (sym off) reported;
    })

-- ---- faults

-- the reader failed in a field, or at the test for the end
pub says_read : (old : Walk) (mid new : Pull) (text : List ℕ) (fields : List (List ℕ)) → IsBounded old.pull old.stored
    → HasCome text fields old → Keeps (left_of old.pull) (left_of mid) → mid.taken ≡ old.pull.taken → mid.limit ≡ old.pull.limit
    → HasRoom (expected old.place) → Refuses mid (expected old.place).size pulls.Read new → Says faults.Read text new.failed new.source
says_read old mid new text fields bounded h stores_field taken limit_is room r =
    let left = stores_some (left_of old.pull) (left_of mid) h.rest h.left_is stores_field in
    let m = r.misses in
    let after = consumes_some (left_of mid) (left_of new) h.rest m.came left m.bytes in
    let le : length (concat fields) + length m.came ≤ limit = omega (arith, m.within, taken, limit_is, bounded.limit_is, h.taken_is) in
    let room' : HasRoom (expected h.state.place) = subst (λ (p : Place). HasRoom (expected p)) h.place_is room in
    let short : length m.came < (expected h.state.place).size = subst (λ (p : Place). length m.came < (expected p).size) h.place_is m.part in
    failed_read refl (record {
      given = concat fields ++ m.came;
      later = after.0;
      parts = h.parts ∙ ap (λ (l : List ℕ). concat fields ++ l) after.2 ∙ sym (append_assoc (concat fields) m.came after.0);
      left_is = ap (λ (ahead : Option ℕ). after_ahead ahead new.source) (sym m.reports.0) ∙ after.1;
      failed_is = m.reports.1;
      reported = elim (end_or_early h.state.place m.came room' short) [
        | inl t ↦ inl (reported_given fields h.state m.came None h.leads le t)
        | inr t ↦ inr (reported_given fields h.state m.came (Some faults.EndsEarly) h.leads le t)
      ];
    })

says_early : (old : Walk) (mid new : Pull) (text : List ℕ) (fields : List (List ℕ)) → IsBounded old.pull old.stored
    → HasCome text fields old → LooksFor old.place old.pull false mid
    → HasRoom (expected old.place) → Refuses mid (expected old.place).size pulls.EndsEarly new → Says faults.EndsEarly text new.failed new.source
says_early old mid new text fields bounded h looks room r =
    let left = stores_some (left_of old.pull) (left_of mid) h.rest h.left_is looks.bytes in
    let m = r.misses in
    let after = consumes_some (left_of mid) (left_of new) h.rest m.came left m.bytes in
    let none : after.0 ≡ [] = at_end_none (left_of new) after.0 after.1 m.reports.0 in
    let all : h.rest ≡ m.came = after.2 ∙ ap (λ (l : List ℕ). m.came ++ l) none ∙ append-nil m.came in
    let len : length h.rest ≡ length m.came = ap length all in
    let total : length text ≡ length (concat fields) + length h.rest = ap length h.parts ∙ length-append (concat fields) h.rest in
    let le : length (concat fields) + length h.rest ≤ limit = omega (arith, len, m.within, looks.taken, looks.limit_is, bounded.limit_is, h.taken_is) in
    let off : ltb limit (length text) ≡ false = le-ltb limit (length text) (omega (arith, total)) in
    let whole : take (limit - length (concat fields)) h.rest ≡ h.rest = take_all (limit - length (concat fields)) h.rest (omega arith) in
    let reported : Reported old.place h.rest false (Some faults.EndsEarly) =
    ends_early room (omega (arith, m.part, len)) (λ at_end. ahead_some mid h.rest left (looks.goes_on refl at_end.0) at_end.1) refl refl in
    first (reported_there text fields old h (Some faults.EndsEarly) (omega arith)
    (rw (whole, off) reported)) m.reports.1

says_long : (old : Walk) (mid new : Pull) (text : List ℕ) (fields : List (List ℕ)) → IsBounded old.pull old.stored
    → HasCome text fields old → LooksFor old.place old.pull false mid
    → HasRoom (expected old.place) → Refuses mid (expected old.place).size pulls.TooLong new → Says faults.TooLong text new.failed new.source
says_long old mid new text fields bounded h looks room r =
    let left = stores_some (left_of old.pull) (left_of mid) h.rest h.left_is looks.bytes in
    let m = r.misses in
    let after = consumes_some (left_of mid) (left_of new) h.rest m.came left m.bytes in
    let some : 0 < length after.0 = not_empty after.0 (ahead_some new after.0 after.1 m.reports.1) in
    let len : length h.rest ≡ length m.came + length after.0 = ap length after.2 ∙ length-append m.came after.0 in
    let total : length text ≡ length (concat fields) + length h.rest = ap length h.parts ∙ length-append (concat fields) h.rest in
    let full : length (concat fields) + length m.came ≡ limit = omega (arith, m.reports.0, r.taken, r.limit, looks.taken, looks.limit_is, bounded.limit_is, h.taken_is) in
    let on : ltb limit (length text) ≡ true = lt-ltb limit (length text) (omega (arith, total, len, full, some)) in
    let left_size : limit - length (concat fields) ≡ length m.came = omega arith in
    let front : take (limit - length (concat fields)) h.rest ≡ m.came =
    ap (λ (n : ℕ). take n h.rest) left_size ∙ ap (take (length m.came)) after.2 ∙ take-append_seam m.came after.0 in
    let reported : Reported old.place m.came true (Some faults.TooLong) = too_long room m.part refl refl in
    first (reported_there text fields old h (Some faults.TooLong) (omega arith) (rw (front, on) reported)) m.reports.2
  where
    not_empty : (l : List ℕ) → (l ≡ [] → ⊥) → 0 < length l
    not_empty [] h = absurd (h refl)
    not_empty (x ∷ l) h = omega arith

-- memory may be needed for a whole field within the limit
pub may_lack : (text : List ℕ) (fields : List (List ℕ)) (state : State) (field after : List ℕ) → LeadsTo start fields state → text ≡ concat fields ++ (field ++ after)
    → length field ≡ (expected state.place).size → length (concat fields) + length field ≤ limit → NeedsMemory state.place field → MayLackMemory text
may_lack text fields state field after leads parts whole within needs =
    let room : ℕ = limit - length (concat fields) in
    let more : List ℕ = take (room - length field) after in
    let front : take room (field ++ after) ≡ field ++ more = take-after field after room (omega (arith, within)) in
    let first : take (expected state.place).size (field ++ more) ≡ field = ap (λ (n : ℕ). take n (field ++ more)) (sym whole) ∙ take-append_seam field more in
    record {
      fields = fields;
      state = state;
      rest = field ++ more;
      front = record {
        leads = leads;
        parts = ap (take limit) parts ∙ take-after (concat fields) (field ++ after) limit (omega (arith, within)) ∙ ap (λ (l : List ℕ). concat fields ++ l) front;
      };
      needs = subst (NeedsMemory state.place) (sym first) needs;
    }

-- an allocation failed before a large field was taken
says_ran_out : (old : Walk) (new : Pull) (text : List ℕ) (fields : List (List ℕ)) → IsBounded old.pull old.stored → HasCome text fields old → 32 < (expected old.place).size
    → new.failed ≡ false → Says faults.NoMemory text new.failed new.source
says_ran_out old new text fields bounded h large works = ran_out refl (record {
  fields = fields;
  state = h.state;
  rest = take (limit - length (concat fields)) h.rest;
  front = record { leads = h.leads; parts = ap (take limit) h.parts ∙ take-after (concat fields) h.rest limit (omega (arith, bounded.within, h.taken_is)) };
  needs = large_needs h.state.place _ (subst (λ (p : Place). 32 < (expected p).size) h.place_is large);
}) works

pub says_cut : (old : Walk) (mid new : Pull) (text : List ℕ) (fields : List (List ℕ)) (why : PullFault) → IsBounded old.pull old.stored
    → HasCome text fields old → LooksFor old.place old.pull false mid
    → HasRoom (expected old.place) → Refuses mid (expected old.place).size why new → (reported_as why ≡ faults.NoMemory → 32 < (expected old.place).size) → Says (reported_as why) text new.failed new.source
says_cut old mid new text fields pulls.EndsEarly bounded h looks room r large = says_early old mid new text fields bounded h looks room r
says_cut old mid new text fields pulls.TooLong bounded h looks room r large = says_long old mid new text fields bounded h looks room r
says_cut old mid new text fields pulls.Read bounded h looks room r large =
    says_read old mid new text fields bounded h looks.bytes looks.taken looks.limit_is room r
says_cut old mid new text fields pulls.NoMemory bounded h looks room r large =
    says_ran_out old new text fields bounded h (large refl) r.misses.reports

-- a field that was not taken
pub missed_says : (old : Walk) (mid new : Pull) (fault : KrlFault) → IsBounded old.pull old.stored
    → LooksFor old.place old.pull false mid → Missed old.place mid fault new → (fault ≡ faults.NoMemory → 32 < (expected old.place).size) → Refused fault old new
missed_says old mid new fault bounded looks (room_missed full is same) large text fields h =
    let le : length (concat fields) ≤ limit = omega (arith, bounded.within, h.taken_is) in
    subst (λ (f : KrlFault). Says f text new.failed new.source) (sym is)
    (first (reported_there text fields old (come h) (Some faults.Length) le (no_room full refl)) (ap (λ p. p.failed) same ∙ looks.works))
missed_says old mid new fault bounded looks (cut why room r is) large text fields h =
    subst (λ (f : KrlFault). Says f text new.failed new.source) (sym is) (says_cut old mid new text fields why bounded (come h) looks room r (λ e. large (is ∙ e)))

-- a field that was refused
pub refused_says : (old : Walk) (mid new : Pull) (field : List ℕ) (fault : KrlFault) → IsBounded old.pull old.stored
    → LooksFor old.place old.pull false mid → Takes mid field new → HasRoom (expected old.place) → length field ≡ (expected old.place).size
    → ((fault ≡ faults.NoMemory) × NeedsMemory old.place field) ⊎ ((expected old.place).judged field ≡ Err fault) → Refused fault old new
refused_says old mid new field fault bounded looks takes room size (inl none) text fields h =
    let left = stores_some (left_of old.pull) (left_of mid) h.rest h.left_is looks.bytes in
    let after = consumes_some (left_of mid) (left_of new) h.rest field left takes.bytes in
    let within : length (concat fields) + length field ≤ limit = omega (arith, takes.within, looks.taken, looks.limit_is, bounded.limit_is, h.taken_is) in
    ran_out none.0 (may_lack text fields h.state field after.0 h.leads (h.parts ∙ ap (λ (l : List ℕ). concat fields ++ l) after.2)
    (subst (λ (p : Place). length field ≡ (expected p).size) h.place_is size) within (subst (λ (p : Place). NeedsMemory p field) h.place_is none.1)) takes.working
refused_says old mid new field fault bounded looks takes room size (inr judged) text fields h =
    let left = stores_some (left_of old.pull) (left_of mid) h.rest h.left_is looks.bytes in
    let after = consumes_some (left_of mid) (left_of new) h.rest field left takes.bytes in
    let within : length (concat fields) + length field ≤ limit = omega (arith, takes.within, looks.taken, looks.limit_is, bounded.limit_is, h.taken_is) in
    let front : take (limit - length (concat fields)) h.rest ≡ field ++ take (limit - length (concat fields) - length field) after.0 =
    ap (take (limit - length (concat fields))) after.2 ∙ take-after field after.0 (limit - length (concat fields)) (omega arith) in
    first (reported_there text fields old (come h) (Some fault) (omega arith)
    (refused field (take (limit - length (concat fields) - length field) after.0) fault room front size judged refl)) takes.working

-- ---- one more field

-- the end of the list was looked for
pub looked : (old : Walk) (mid : Pull) (ended : Bool) → LooksFor old.place old.pull ended mid → (text : List ℕ) (fields : List (List ℕ)) → HasRead text fields old
    → HasRead text fields (record { pull = mid; place = old.place; stored = old.stored; ended = ended; fault = None })
looked old mid ended looks text fields h = record {
  state = h.state;
  leads = h.leads;
  place_is = h.place_is;
  authority_is = h.authority_is;
  header_is = h.header_is;
  stores = h.stores;
  are_bytes = h.are_bytes;
  rest = h.rest;
  left_is = stores_some (left_of old.pull) (left_of mid) h.rest h.left_is looks.bytes;
  parts = h.parts;
  taken_is = looks.taken ∙ h.taken_is;
  works = looks.works;
  faultless = refl;
}

pub bounded_more : (old : Walk) (mid new : Pull) (stored : FieldStore) (field : List ℕ) → IsBounded old.pull old.stored
    → mid.taken ≡ old.pull.taken → mid.limit ≡ old.pull.limit → Takes mid field new → GrowsAtMost (length field) old.stored stored → IsBounded new stored
bounded_more old mid new stored field b same_taken same_limit takes grows =
    let taken : new.taken ≡ old.pull.taken + length field = omega (arith, takes.taken, same_taken) in
    record {
      limit_is = takes.limit ∙ same_limit ∙ b.limit_is;
      within = omega (arith, takes.within, takes.taken, same_limit, b.limit_is);
      all_is = λ every.
          let was = b.all_is (sym grows.same_scope ∙ every) in
          (omega (arith, grows.held_is, was.0, taken), subst (λ (n : ℕ). StoresAtMost stored n) (sym taken) (grows.stored_is old.pull.taken was.1));
      scope_is = grows.scope_is b.scope_is;
    }

-- ---- the parts of a step

-- the reader failed at the test for the end
pub end_refused : (old : Walk) (new : Pull) (fault : KrlFault) → IsBounded old.pull old.stored → fault ≡ faults.Read
    → can_end old.place ≡ true → Refuses old.pull 1 pulls.Read new → Refused fault old new
end_refused old new fault bounded is may r text fields h =
    let one : (expected old.place).size ≡ 1 = end_size old.place may in
    let refuses : Refuses old.pull (expected old.place).size pulls.Read new = subst (λ (n : ℕ). Refuses old.pull n pulls.Read new) (sym one) r in
    subst (λ (f : KrlFault). Says f text new.failed new.source) (sym is)
    (says_read old old.pull new text fields bounded (come h) (Keeps-refl (left_of old.pull)) refl refl (end_room old.place may) refuses)

-- Parts that a reader gave, one after another.
use Rattle.std.proofs.Common.{◌≡◌, ℕ, ◌+◌, ◌-◌, ◌<◌, ◌≤◌, Bool, true, false, Result, Ok, Err, rules, List, [], ◌∷◌, ◌++◌, length, take, drop, Option, None, Some, refl, sym, ap, ◌∙◌, subst, le_refl, drop_at, length-take-le, length-append, length-drop, append-nil, slice_set, arith}
use Rattle.std.proofs.lemmas.Slice.{take-put_mid_below}
use Rattle.std.proofs.lemmas.List.{drop_all}
use Rattle.std.specs.Io.KnownBytes.{Consumes, Keeps, prepend_known}
use Rattle.std.proofs.KnownBytes.{Consumes-kept, Consumes-trans}
use Rattle.ssh_wire.specs.declared.pull_fault.PullFault.{PullFault}
use Rattle.ssh_wire.specs.declared.pull_fault.PullFault.TheVariants.{EndsEarly, TooLong, Read, NoMemory}
use Rattle.byte_streams.specs.Filling.{Fills, FallsShort, ReportsEnd, pull_of}
use Rattle.byte_streams.specs.Pull.{Misses, MissesRest, Pull, Refuses, RefusesRest, Reports, ReportsRest, after_ahead, left_of}
use borrow.Rule.Slice.PartMut.{put_mid, post_of}
use lib.Seq.{take-add, take-append-le}

-- the byte ahead is the first
pub Consumes-ahead : (byte : ℕ) (source : Option (List ℕ))
    → Consumes (prepend_known (byte ∷ []) source) source (byte ∷ [])
Consumes-ahead byte None = tt
Consumes-ahead byte (Some xs) = refl

-- the front of a slice after a part was written into it at an offset
pub take-put_mid-part : (a k n : ℕ) (xs ys : List ℕ) → a ≤ length xs → n ≤ length ys → take (a + n) (put_mid a k xs ys) ≡ take a xs ++ take n ys
take-put_mid-part a k n xs ys within fits =
    let front : take a (put_mid a k xs ys) ≡ take a xs = take-put_mid_below a k xs ys a (le_refl a) within in
    let back : drop a (put_mid a k xs ys) ≡ ys ++ post_of a k xs = drop_at (take a xs) (ys ++ post_of a k xs) a (length-take-le a xs within) in
    let part : take n (drop a (put_mid a k xs ys)) ≡ take n ys = ap (take n) back ∙ take-append-le n ys (post_of a k xs) fits in
    take-add a n (put_mid a k xs ys) ∙ ap (λ (l : List ℕ). l ++ take n (drop a (put_mid a k xs ys))) front ∙ ap (λ (l : List ℕ). take a xs ++ l) part

-- the front of a slice was filled, and then the next part of it
pub Consumes-filled : (first second third : Option (List ℕ)) (into part : List ℕ) (count more : ℕ) → count ≤ length into → more ≤ length part → Consumes first second (take count into) → Consumes second third (take more part) → Consumes first third (take (count + more) (put_mid count (length into - count) into part))
Consumes-filled first second third into part count more within fits before after =
    subst (Consumes first third) (sym (take-put_mid-part count (length into - count) more into part within fits)) (Consumes-trans first second third (take count into) (take more part) before after)

-- a count rose by as many bytes as came
pub record Comes (before after : Option (List ℕ)) (start now : ℕ) : Type 0 where
  pub came : List ℕ
  pub bytes : Consumes before after came
  pub count : start + length came ≡ now

-- a front came, followed by less than what was missing
pub FallsShort-after : (fault : PullFault) (before mid after : Option (List ℕ)) (failed : Bool) (front : List ℕ) (part size : ℕ) → Consumes before mid front → FallsShort fault mid after failed part → length front + part ≤ size → FallsShort fault before after failed size
FallsShort-after fault before mid after failed front part size came stops fits = record {
  came = front ++ stops.came;
  bytes = Consumes-trans before mid after front stops.came came stops.bytes;
  part = omega (arith, length-append front stops.came, stops.part);
  reports = stops.reports;
}

-- a front came, and then the reader ended or failed
pub FallsShort-front : (fault : PullFault) (before mid after : Option (List ℕ)) (failed : Bool) (front : List ℕ) (size : ℕ) → Consumes before mid front → Keeps mid after → length front < size → ReportsEnd fault after failed → FallsShort fault before after failed size
FallsShort-front fault before mid after failed front size came kept part reports = record {
  came = front;
  bytes = Consumes-kept before mid after front came kept;
  part = part;
  reports = reports;
}

-- a slice was filled in between, so all of its bytes came
pub Comes-more : (before mid after : Option (List ℕ)) (start now : ℕ) (slice : List ℕ) (part : ℕ) → Comes before mid start now → Consumes mid after slice → length slice ≡ part → Comes before after start (now + part)
Comes-more before mid after start now slice part comes more size = record {
  came = comes.came ++ slice;
  bytes = Consumes-trans before mid after comes.came slice comes.bytes more;
  count = omega (arith, length-append comes.came slice, comes.count, size);
}

Reports-end : (fault : PullFault) (pull : Pull) (came : ℕ) → ReportsEnd fault (left_of pull) pull.failed → pull.ahead ≡ None → Reports fault pull came
Reports-end EndsEarly pull came reports none_ahead = reports
Reports-end TooLong pull came reports none_ahead = absurd reports
Reports-end Read pull came reports none_ahead = (none_ahead, reports)
Reports-end NoMemory pull came reports none_ahead = absurd reports

-- less came than the field has room for
pub Misses-short : (old new : Pull) (fault : PullFault) (room size : ℕ) → FallsShort fault (left_of old) (left_of new) new.failed room → new.ahead ≡ None → room ≤ size → old.taken + room ≤ old.limit → Misses old size fault new
Misses-short old new fault room size stops none_ahead fits within = record {
  came = stops.came;
  bytes = stops.bytes;
  part = omega (arith, stops.part);
  within = omega (arith, stops.part);
  reports = Reports-end fault new (length stops.came) stops.reports none_ahead;
}

-- bytes came, and then an allocation for the rest of the field failed
pub Misses-memory : (old new : Pull) (size : ℕ) (front : List ℕ) → Consumes (left_of old) (left_of new) front → length front < size → old.taken + size ≤ old.limit → new.failed ≡ false → Misses old size NoMemory new
Misses-memory old new size front before part fits working = record {
  came = front;
  bytes = before;
  part = part;
  within = omega arith;
  reports = working;
}

Reports-kept : (fault : PullFault) (new : Pull) (taken limit came : ℕ) → new.taken ≡ taken → new.limit ≡ limit → Reports fault (pull_of new.source new.failed new.ahead taken limit) came → Reports fault new came
Reports-kept EndsEarly new taken limit came taken_is limit_is reports = reports
Reports-kept TooLong new taken limit came taken_is limit_is reports = (omega (arith, reports.0), reports.1, reports.2)
Reports-kept Read new taken limit came taken_is limit_is reports = reports
Reports-kept NoMemory new taken limit came taken_is limit_is reports = reports

-- the fault is kept
pub Refuses-misses : (old new : Pull) (size : ℕ) (fault : PullFault) → Misses (pull_of old.source false old.ahead old.taken old.limit) size fault (pull_of new.source new.failed new.ahead old.taken old.limit) → new.taken ≡ old.taken → new.limit ≡ old.limit → new.fault ≡ Some fault → Refuses old size fault new
Refuses-misses old new size fault misses taken_is limit_is fault_is = record {
  misses = record {
    came = misses.came;
    bytes = misses.bytes;
    part = misses.part;
    within = misses.within;
    reports = Reports-kept fault new old.taken old.limit (length misses.came) taken_is limit_is misses.reports;
  };
  taken = taken_is;
  limit = limit_is;
  fault_is = fault_is;
}

-- ---- all that is left

-- bytes came, and then an allocation for some more failed
pub MissesRest-memory : (old new : Pull) (mid : Option (List ℕ)) (front slice : List ℕ) (count : ℕ) → Consumes (left_of old) mid front → Consumes mid new.source (take count slice) → new.ahead ≡ None → 0 < count → count ≤ length slice → old.taken + (length front + count) ≤ old.limit → new.failed ≡ false → MissesRest old NoMemory new
MissesRest-memory old new mid front slice count before after none_ahead some part within working =
    let size = length-take-le count slice part in
    let all = length-append front (take count slice) in
    record {
      came = front ++ take count slice;
      bytes = subst (λ (ahead : Option ℕ). Consumes (left_of old) (after_ahead ahead new.source) (front ++ take count slice)) (sym none_ahead) (Consumes-trans (left_of old) mid new.source front (take count slice) before after);
      within = omega (arith, size, all);
      reports = (omega (arith, size, all), none_ahead, working);
    }

-- bytes came, and then the reader failed
pub MissesRest-read : (old new : Pull) (mid : Option (List ℕ)) (front : List ℕ) → Consumes (left_of old) mid front → Keeps mid new.source → new.ahead ≡ None → old.taken + length front ≤ old.limit → new.failed ≡ true → MissesRest old Read new
MissesRest-read old new mid front before kept none_ahead within failed = record {
  came = front;
  bytes = subst (λ (ahead : Option ℕ). Consumes (left_of old) (after_ahead ahead new.source) front) (sym none_ahead) (Consumes-kept (left_of old) mid new.source front before kept);
  within = within;
  reports = (none_ahead, failed);
}

-- bytes came, and then looking at the next one met the fault
pub MissesRest-look : (old new : Pull) (mid : Option (List ℕ)) (front : List ℕ) (fault : PullFault) → Consumes (left_of old) mid front → Keeps mid (left_of new) → old.taken + length front ≤ old.limit → ReportsRest fault new (length front) → MissesRest old fault new
MissesRest-look old new mid front fault before kept within reports = record {
  came = front;
  bytes = Consumes-kept (left_of old) mid (left_of new) front before kept;
  within = within;
  reports = reports;
}

-- looking at the next byte met the failure of the reader
pub MissesRest-failed : (old new : Pull) (mid : Option (List ℕ)) (front : List ℕ) (fault : PullFault) → Consumes (left_of old) mid front → Keeps mid (left_of new) → old.taken + length front ≤ old.limit → fault ≡ Read → new.ahead ≡ None → new.failed ≡ true → MissesRest old fault new
MissesRest-failed old new mid front fault before kept within is_read none_ahead failed =
    subst (λ (met : PullFault). MissesRest old met new) (sym is_read) (MissesRest-look old new mid front Read before kept within (none_ahead, failed))

ReportsRest-kept : (fault : PullFault) (new : Pull) (taken limit came : ℕ) → new.taken ≡ taken → new.limit ≡ limit → ReportsRest fault (pull_of new.source new.failed new.ahead taken limit) came → ReportsRest fault new came
ReportsRest-kept EndsEarly new taken limit came taken_is limit_is reports = reports
ReportsRest-kept TooLong new taken limit came taken_is limit_is reports = (omega (arith, reports.0), reports.1, reports.2)
ReportsRest-kept Read new taken limit came taken_is limit_is reports = reports
ReportsRest-kept NoMemory new taken limit came taken_is limit_is reports = reports

-- the fault is kept
pub RefusesRest-misses : (old new : Pull) (fault : PullFault) → MissesRest (pull_of old.source false old.ahead old.taken old.limit) fault (pull_of new.source new.failed new.ahead old.taken old.limit) → new.taken ≡ old.taken → new.limit ≡ old.limit → new.fault ≡ Some fault → RefusesRest old fault new
RefusesRest-misses old new fault misses taken_is limit_is fault_is = record {
  misses = record {
    came = misses.came;
    bytes = misses.bytes;
    within = misses.within;
    reports = ReportsRest-kept fault new old.taken old.limit (length misses.came) taken_is limit_is misses.reports;
  };
  taken = taken_is;
  limit = limit_is;
  fault_is = fault_is;
}

-- ---- the byte ahead, in front of a slice

-- a slice that was written to from an offset on
put_mid-last : (count : ℕ) (s part : List ℕ) → put_mid count (length s - count) s part ≡ take count s ++ part
put_mid-last count s part =
    let all : length (drop count s) ≤ length s - count = omega (arith, length-drop count s) in
    let none : post_of count (length s - count) s ≡ [] = search (rules, drop_all) in
    ap (λ (l : List ℕ). take count s ++ (part ++ l)) none ∙ ap (λ (l : List ℕ). take count s ++ l) (append-nil part)

pub take-set_first : (into : List ℕ) (byte : ℕ) → 0 < length into → take 1 (slice_set into 0 byte) ≡ byte ∷ []
take-set_first [] byte some = absurd (omega arith)
take-set_first (x ∷ xs) byte some = refl

-- a slice was filled up to a count, and then the rest of it
pub Fills-on : {A : Type 0} (result : Result A PullFault) (before mid after : Option (List ℕ)) (failed : Bool) (s part : List ℕ) (count : ℕ) → length part ≡ length s - count → count ≤ length s → Consumes before mid (take count s) → Fills result mid after failed part → Fills result before after failed (put_mid count (length s - count) s part)
Fills-on (Ok filled) before mid after failed s part count fits within came fills =
    (subst (Consumes before after) (sym (put_mid-last count s part)) (Consumes-trans before mid after (take count s) part came fills.0), fills.1)
Fills-on (Err fault) before mid after failed s part count fits within came fills =
    FallsShort-after fault before mid after failed (take count s) (length part) _ came fills (omega (arith, ap length (put_mid-last count s part), length-append (take count s) part))

pub Fills-ahead : {A : Type 0} (result : Result A PullFault) (byte : ℕ) (source after : Option (List ℕ)) (failed : Bool) (s part : List ℕ) → 0 < length s → take 1 s ≡ byte ∷ [] → length part ≡ length s - 1 → Fills result source after failed part → Fills result (prepend_known (byte ∷ []) source) after failed (put_mid 1 (length s - 1) s part)
Fills-ahead result byte source after failed s part some first fits fills =
    Fills-on result (prepend_known (byte ∷ []) source) source after failed s part 1 fits (omega arith) (subst (Consumes (prepend_known (byte ∷ []) source) source) (sym first) (Consumes-ahead byte source)) fills

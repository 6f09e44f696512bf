-- Auditing one thing after another.
use Rattle.std.proofs.Common.{◌≡◌, ℕ, ◌<◌, nat_lt, ◌||◌, ◌&&◌, not, Bool, true, false, List, [], ◌∷◌, ◌++◌, Option, Some, None}
use Rattle.std.proofs.Common.{Result, Ok, Err, arith, refl, sym, ap, subst, ◌∙◌, append_assoc, inl, inr}
use Rattle.std.specs.Prelude.{IfSome, is_some}
use Rattle.std.specs.Result.{result_err}
use Rattle.std.proofs.lemmas.Bool.{ltb-true}
use Rattle.std.proofs.lemmas.List.{append-nil}
use Rattle.std.proofs.lemmas.List.Concat.{flat_map-append}
use Rattle.run_faults.specs.RunFault.{RunFault, ended_by}
use Rattle.run_faults.specs.declared.cause.Cause.{Cause}
use Rattle.run_faults.specs.declared.cause.Cause.TheVariants as causes
use Rattle.run_output.specs.Carries.{Carries, IsEnded}
use Rattle.run_output.specs.Printer.{HasSaid, Printer}
use Rattle.run_output.specs.Run.{Item, Stopped}
use Rattle.krl_types.specs.Subject.{Subject}
use Rattle.audit_text.specs.Answer.{Answer}
use Rattle.krl_audit.specs.Audit.{FileName, JudgesAs, ToldFile, file_kinds}
use Rattle.krl_audit.specs.Counts.{all_counted}
use Rattle.krl_audit.specs.declared.counts.Counts.{Counts}
use Rattle.krl_audit.specs.declared.judge.Judge.{Judge}
use Rattle.krl_audit.specs.declared.judge.Shown.{Shown}
use Rattle.audit_lines.specs.declared.why.Refusal.{Refusal}
use Rattle.audit_run.specs.Visits.{AreQuiet, AreTimely, Audited, Audits, AuditsBy, Begun, Goes, IsSince, IsStopped}
use Rattle.audit_run.specs.Visits.{IsTallied, IsTimely, Meets, Same, Says, Skipped, State, Tally, Visit}
use Rattle.audit_run.specs.Visits.{all_tallied, gives, gives_one, is_seen, passes, reveals, stop_for, tallied}
use Rattle.audit_run.specs.Visits.{visit_items, visits_items, with_audited, with_key, with_skipped}
use Rattle.audit_run.specs.declared.files.Files.{Files}
use Rattle.audit_run.specs.declared.files.Since.{Since}
use Rattle.audit_run.specs.declared.files.Skip.{Skip}
use Rattle.audit_run.specs.declared.stop.Stop.{Stop}
use Rattle.audit_run.specs.declared.stop.Stop.TheVariants as stops

-- ---- items and tallies

items_append : (answers : Subject → Answer) (shown : Shown) (xs ys : List Visit)
    → visits_items answers shown (xs ++ ys) ≡ visits_items answers shown xs ++ visits_items answers shown ys
unfolding visits_items
items_append answers shown xs ys = flat_map-append (visit_items answers shown) xs ys

items_one : (answers : Subject → Answer) (shown : Shown) (visit : Visit)
    → visits_items answers shown (visit ∷ []) ≡ visit_items answers shown visit
unfolding visits_items
items_one answers shown visit = append-nil (visit_items answers shown visit)

items_none : (answers : Subject → Answer) (shown : Shown) → visits_items answers shown [] ≡ []
unfolding visits_items
items_none answers shown = refl

tallied_append : (answers : Subject → Answer) (tally : Tally) (xs ys : List Visit)
    → all_tallied answers tally (xs ++ ys) ≡ all_tallied answers (all_tallied answers tally xs) ys
tallied_append answers tally [] ys = refl
tallied_append answers tally (x ∷ xs) ys = tallied_append answers (tallied answers tally x) xs ys

timely_append : (answers : Subject → Answer) (tally : Tally) (xs ys : List Visit) → AreTimely answers tally xs
    → AreTimely answers (all_tallied answers tally xs) ys → AreTimely answers tally (xs ++ ys)
timely_append answers tally [] ys first second = second
timely_append answers tally (x ∷ xs) ys first second =
    (first.0, timely_append answers (tallied answers tally x) xs ys first.1 second)

-- ---- an audit of which no finding is asked for

false_unless : (b : Bool) → (b ≡ true → ⊥) → b ≡ false
false_unless true not_true = absurd (not_true refl)
false_unless false not_true = refl

pub not_more : (n : ℕ) → nat_lt n n ≡ false
not_more n = false_unless (nat_lt n n) (λ is. let less : n < n = ltb-true n n is in omega (arith, less))

quiet_append : (answers : Subject → Answer) (stopped : Bool) (tally : Tally) (xs ys : List Visit) → AreQuiet answers false tally xs
    → AreQuiet answers stopped (all_tallied answers tally xs) ys → AreQuiet answers stopped tally (xs ++ ys)
quiet_append answers stopped tally [] ys first second = second
quiet_append answers false tally (x ∷ xs) ys first second =
    (first.0, quiet_append answers false (tallied answers tally x) xs ys first.1 second)
quiet_append answers true tally (x ∷ xs) ys first second =
    inl (first.0, quiet_append answers true (tallied answers tally x) xs ys first.1 second)

-- the same if the audit stopped
pub quiet_stopped : (answers : Subject → Answer) (tally : Tally) (visits : List Visit) → AreQuiet answers false tally visits
    → AreQuiet answers true tally visits
quiet_stopped answers tally [] quiet = tt
quiet_stopped answers tally (x ∷ xs) quiet = inl (quiet.0, quiet_stopped answers (tallied answers tally x) xs quiet.1)

-- ---- since a directory that is named was entered

or_true : (b : Bool) → true ≡ b || true
or_true true = refl
or_true false = refl

or_false : (b : Bool) → b ≡ b || false
or_false true = refl
or_false false = refl

or_assoc : (a b c : Bool) → (a || b) || c ≡ a || (b || c)
or_assoc true b c = refl
or_assoc false b c = refl

gives_append : (xs ys : List Visit) → gives (xs ++ ys) ≡ gives xs || gives ys
gives_append [] ys = refl
gives_append (x ∷ xs) ys =
    ap (λ (b : Bool). gives_one x || b) (gives_append xs ys) ∙ sym (or_assoc (gives_one x) (gives xs) (gives ys))

passes_append : (xs ys : List Visit) → passes (xs ++ ys) ≡ passes xs || passes ys
passes_append [] ys = refl
passes_append (Audited key name content ∷ xs) ys = passes_append xs ys
passes_append (Same told key name ∷ xs) ys = passes_append xs ys
passes_append (Skipped why count ∷ xs) ys =
    ap (λ (b : Bool). nat_lt 0 count || b) (passes_append xs ys) ∙ sym (or_assoc (nat_lt 0 count) (passes xs) (passes ys))

since_then : (xs ys : List Visit) (stop : Option Stop) (old mid new : Since) → IsSince xs None old mid → IsSince ys stop mid new
    → IsSince (xs ++ ys) stop old new
since_then xs ys None old mid new first second = (
  second.0 ∙ ap (λ (b : Bool). b || gives ys) first.0 ∙ or_assoc old.gave (gives xs) (gives ys)
      ∙ ap (λ (b : Bool). old.gave || b) (sym (gives_append xs ys)),
  second.1 ∙ ap (λ (b : Bool). b || passes ys) first.1 ∙ or_assoc old.passed (passes xs) (passes ys)
      ∙ ap (λ (b : Bool). old.passed || b) (sym (passes_append xs ys)),
)
since_then xs ys (Some stop) old mid new first second = tt

-- ---- one file

stopped_by : (before : Option (List ℕ)) (all items : List Item) (cause : Cause) (fault : RunFault) (now : State)
    → all ≡ items → IsEnded (ended_by cause) before items fault now.printer → IsStopped before all (stop_for cause) now
stopped_by before all items (causes.Output count) fault now is lost = record {
  said = lost.said;
  later = lost.later;
  parts = is ∙ lost.parts;
  unstopped = lost.unstopped;
  cut_off = record { named = refl; cut = lost.cut_off.cut; broken = lost.cut_off.broken };
}
stopped_by before all items causes.NoMemory fault now is out = record {
  said = out.said;
  later = out.runs_out.next ∷ out.runs_out.later;
  parts = is ∙ out.runs_out.parts;
  has_said = out.has_said;
}
stopped_by before all items (causes.File f) fault now is at =
    record { said = at.said; later = Stopped fault ∷ at.later; parts = is ∙ at.parts; has_said = at.has_said }
stopped_by before all items (causes.Krl f) fault now is at =
    record { said = at.said; later = Stopped fault ∷ at.later; parts = is ∙ at.parts; has_said = at.has_said }
stopped_by before all items (causes.Key f) fault now is at =
    record { said = at.said; later = Stopped fault ∷ at.later; parts = is ∙ at.parts; has_said = at.has_said }
stopped_by before all items (causes.Private f) fault now is at =
    record { said = at.said; later = Stopped fault ∷ at.later; parts = is ∙ at.parts; has_said = at.has_said }
stopped_by before all items (causes.Spec f) fault now is at =
    record { said = at.said; later = Stopped fault ∷ at.later; parts = is ∙ at.parts; has_said = at.has_said }
stopped_by before all items causes.VersionFull fault now is at =
    record { said = at.said; later = Stopped fault ∷ at.later; parts = is ∙ at.parts; has_said = at.has_said }
stopped_by before all items causes.TextTooLong fault now is at =
    record { said = at.said; later = Stopped fault ∷ at.later; parts = is ∙ at.parts; has_said = at.has_said }

not_tallied : (answers : Subject → Answer) (visits : List Visit) (cause : Cause) (old new : Tally)
    → IsTallied answers visits (Some (stop_for cause)) old new
not_tallied answers visits (causes.Output count) old new = tt
not_tallied answers visits causes.NoMemory old new = tt
not_tallied answers visits (causes.File f) old new = tt
not_tallied answers visits (causes.Krl f) old new = tt
not_tallied answers visits (causes.Key f) old new = tt
not_tallied answers visits (causes.Private f) old new = tt
not_tallied answers visits (causes.Spec f) old new = tt
not_tallied answers visits causes.VersionFull old new = tt
not_tallied answers visits causes.TextTooLong old new = tt

-- the items of one visit, after what was said
item_said : (answers : Subject → Answer) (shown : Shown) (visit : Visit) (said : List Item)
    → said ++ visits_items answers shown (visit ∷ []) ≡ said ++ visit_items answers shown visit
item_said answers shown visit said = ap (λ (items : List Item). said ++ items) (items_one answers shown visit)

-- the audit was stopped within what was met
pub met_stopped : (answers : Subject → Answer) (visit : Visit) (fault : RunFault) (old new : State)
    → Carries {A = Unit {0}} (visit_items answers old.judge.shown visit) (Err fault) old.printer new.printer → IsTimely old.tally visit
    → Audits answers (visit ∷ []) (Some (stop_for fault.cause)) old new
met_stopped answers visit fault old new carries timely = record {
  says = λ before said has.
      stopped_by before (said ++ visits_items answers old.judge.shown (visit ∷ [])) (said ++ visit_items answers old.judge.shown visit)
      fault.cause fault new (item_said answers old.judge.shown visit said) (carries.says before said has);
  tallies = not_tallied answers (visit ∷ []) fault.cause old.tally new.tally;
  timely = (timely, tt);
  quiet = λ silent. inr refl;
  writer = carries.writer;
}

said_all : (answers : Subject → Answer) (visit : Visit) (value : Unit {0}) (old new : State)
    → Carries {A = Unit {0}} (visit_items answers old.judge.shown visit) (Ok value) old.printer new.printer
    → (before : Option (List ℕ)) (said : List Item) → HasSaid before said old.printer
    → HasSaid before (said ++ visits_items answers old.judge.shown (visit ∷ [])) new.printer
said_all answers visit value old new carries before said has =
    subst (λ (items : List Item). HasSaid before items new.printer) (sym (item_said answers old.judge.shown visit said))
    (carries.says before said has)

-- all of it was met
pub met : (answers : Subject → Answer) (visit : Visit) (value : Unit {0}) (old new : State)
    → Carries {A = Unit {0}} (visit_items answers old.judge.shown visit) (Ok value) old.printer new.printer → IsTimely old.tally visit
    → new.tally ≡ tallied answers old.tally visit
    → (old.judge.shown.revoked ≡ false → reveals answers old.tally visit ≡ false) → Audits answers (visit ∷ []) None old new
met answers visit value old new carries timely tallies quiet = record {
  says = said_all answers visit value old new carries;
  tallies = tallies;
  timely = (timely, tt);
  quiet = λ silent. (quiet silent, tt);
  writer = carries.writer;
}

-- its key is revoked, and no finding is asked for
pub met_revoked : (answers : Subject → Answer) (visit : Visit) (value : Unit {0}) (old new : State)
    → Carries {A = Unit {0}} (visit_items answers old.judge.shown visit) (Ok value) old.printer new.printer → IsTimely old.tally visit
    → new.tally ≡ tallied answers old.tally visit → new.judge.shown.revoked ≡ false → 0 < new.tally.counts.revoked
    → Audits answers (visit ∷ []) (Some stops.Revoked) old new
met_revoked answers visit value old new carries timely tallies quiet some = record {
  says = λ before said has. (said_all answers visit value old new carries before said has, (quiet, some));
  tallies = tallies;
  timely = (timely, tt);
  quiet = λ silent. inr refl;
  writer = carries.writer;
}

pub same_tally : (c c' : Counts) (f f' : Files) → c ≡ c' → f ≡ f'
    → (let one : Tally = record { counts = c; files = f } in one) ≡ record { counts = c'; files = f' }
same_tally c c' f f' counts files = rw (counts, files) refl

-- a file was counted
pub file_tallied : (answers : Subject → Answer) (key : Option (List ℕ)) (name : FileName) (content : Result (List ℕ) Refusal)
    (old new : Tally) (kept : Files) → new.counts ≡ all_counted old.counts (file_kinds answers name.read_as content)
    → kept ≡ with_key key old.files → new.files ≡ with_audited (nat_lt old.counts.revoked new.counts.revoked) kept
    → new ≡ tallied answers old (Audited key name content)
file_tallied answers key name content old new kept counts keeps files =
    same_tally new.counts _ new.files _ counts
    (files ∙ ap (λ (f : Files). with_audited (nat_lt old.counts.revoked new.counts.revoked) f) keeps
    ∙ ap (λ (c : Counts). with_audited (nat_lt old.counts.revoked c.revoked) (with_key key old.files)) counts)

pub key_timely : (tally : Tally) (key : Option (List ℕ)) (name : FileName) (content : Result (List ℕ) Refusal)
    → IfSome key (λ new. is_seen tally.files new ≡ false) → IsTimely tally (Audited key name content)
key_timely tally None name content new = tt
key_timely tally (Some key) name content new = new

-- the same of a file
pub file_stopped : (answers : Subject → Answer) (key : Option (List ℕ)) (name : FileName) (content : Result (List ℕ) Refusal)
    (fault : RunFault) (old new : State)
    → ToldFile answers old.judge.shown name content (Err fault) old.printer new.printer old.tally.counts new.tally.counts
    → IfSome key (λ new. is_seen old.tally.files new ≡ false)
    → Audits answers (Audited key name content ∷ []) (Some (stop_for fault.cause)) old new
file_stopped answers key name content fault old new told is_new =
    met_stopped answers (Audited key name content) fault old new told.carries (key_timely old.tally key name content is_new)

not_revoked : (ends more revoked : Bool) → ends ≡ more && not revoked → ends ≡ false → revoked ≡ false → more ≡ false
not_revoked ends true true is so silent = absurd (cc)
not_revoked true true false is so silent = absurd (cc)
not_revoked false true false is so silent = absurd (cc)
not_revoked ends false revoked is so silent = refl

pub file_met : (answers : Subject → Answer) (key : Option (List ℕ)) (name : FileName) (content : Result (List ℕ) Refusal)
    (value : Unit {0}) (old new : State) (kept : Files) (ends : Bool) → new.judge ≡ old.judge
    → ToldFile answers old.judge.shown name content (Ok value) old.printer new.printer old.tally.counts new.tally.counts
    → IfSome key (λ new. is_seen old.tally.files new ≡ false) → kept ≡ with_key key old.tally.files
    → new.tally.files ≡ with_audited (nat_lt old.tally.counts.revoked new.tally.counts.revoked) kept
    → ends ≡ nat_lt old.tally.counts.revoked new.tally.counts.revoked && not new.judge.shown.revoked → ends ≡ false
    → Audits answers (Audited key name content ∷ []) None old new
file_met answers key name content value old new kept ends judge told is_new keeps files is so =
    met answers (Audited key name content) value old new told.carries (key_timely old.tally key name content is_new)
    (file_tallied answers key name content old.tally new.tally kept told.counts keeps files)
    (λ silent.
    let more = nat_lt old.tally.counts.revoked new.tally.counts.revoked in
    let none : more ≡ false =
    not_revoked ends more new.judge.shown.revoked is so (ap (λ (j : Judge). j.shown.revoked) judge ∙ silent) in
    ap (λ (c : Counts). nat_lt old.tally.counts.revoked c.revoked) (sym told.counts) ∙ none)

ends_quiet : (ends some revoked : Bool) → ends ≡ some && not revoked → ends ≡ true → revoked ≡ false
ends_quiet true true true is so = is
ends_quiet true true false is so = refl
ends_quiet true false true is so = absurd (cc)
ends_quiet true false false is so = refl
ends_quiet false some revoked is so = absurd (cc)

ends_some : (ends some revoked : Bool) → ends ≡ some && not revoked → ends ≡ true → some ≡ true
ends_some true true revoked is so = refl
ends_some true false revoked is so = absurd (cc)
ends_some false some revoked is so = absurd (cc)

some_more : (a b : ℕ) → nat_lt a b ≡ true → 0 < b
some_more a b is = let less : a < b = ltb-true a b is in omega (arith, less)

pub file_revoked : (answers : Subject → Answer) (key : Option (List ℕ)) (name : FileName) (content : Result (List ℕ) Refusal)
    (value : Unit {0}) (old new : State) (kept : Files) (ends : Bool)
    → ToldFile answers old.judge.shown name content (Ok value) old.printer new.printer old.tally.counts new.tally.counts
    → IfSome key (λ new. is_seen old.tally.files new ≡ false) → kept ≡ with_key key old.tally.files
    → new.tally.files ≡ with_audited (nat_lt old.tally.counts.revoked new.tally.counts.revoked) kept
    → ends ≡ nat_lt old.tally.counts.revoked new.tally.counts.revoked && not new.judge.shown.revoked → ends ≡ true
    → Audits answers (Audited key name content ∷ []) (Some stops.Revoked) old new
file_revoked answers key name content value old new kept ends told is_new keeps files is so =
    let more = nat_lt old.tally.counts.revoked new.tally.counts.revoked in
    met_revoked answers (Audited key name content) value old new told.carries (key_timely old.tally key name content is_new)
    (file_tallied answers key name content old.tally new.tally kept told.counts keeps files)
    (ends_quiet ends more new.judge.shown.revoked is so)
    (some_more old.tally.counts.revoked new.tally.counts.revoked (ends_some ends more new.judge.shown.revoked is so))

pub gave_since : (old new : Since) (key : Option (List ℕ)) (name : FileName) (content : Result (List ℕ) Refusal)
    → new.gave ≡ true → new.passed ≡ old.passed → IsSince (Audited key name content ∷ []) None old new
gave_since old new key name content is was = (is ∙ or_true old.gave, was ∙ or_false old.passed)

pub same_gave_since : (old new : Since) (told : Bool) (key name : List ℕ) → new.gave ≡ true → new.passed ≡ old.passed
    → IsSince (Same told key name ∷ []) None old new
same_gave_since old new told key name is was = (is ∙ or_true old.gave, was ∙ or_false old.passed)

-- names were passed over
pub skipped_meets : (why : Skip) (count : ℕ) (old new : State) → new.judge ≡ old.judge → new.printer ≡ old.printer
    → new.tally ≡ record { counts = old.tally.counts; files = with_skipped why count old.tally.files }
    → new.since.gave ≡ old.since.gave → new.since.passed ≡ old.since.passed || nat_lt 0 count
    → Meets (Skipped why count ∷ []) None old new
skipped_meets why count old new judge printer tally gave passed = record {
  audits = record {
    judge = judge;
    audits = λ answers judges. record {
      says = λ before said has.
          let kept : HasSaid before said new.printer = subst (λ (p : Printer). HasSaid before said p) (sym printer) has in
          let none = items_one answers old.judge.shown (Skipped why count) in
          subst (λ (items : List Item). HasSaid before items new.printer)
          (sym (ap (λ (items : List Item). said ++ items) none ∙ append-nil said)) kept;
      tallies = tally;
      timely = (tt, tt);
      quiet = λ silent. (not_more old.tally.counts.revoked, tt);
      writer = ap (λ (p : Printer). p.writer) printer;
    };
  };
  since = (gave ∙ or_false old.since.gave, passed ∙ ap (λ (b : Bool). old.since.passed || b) (or_false (nat_lt 0 count)));
}

-- ---- one after another

pub nothing_met : (now : State) → Meets [] None now now
nothing_met now = record {
  audits = record {
    judge = refl;
    audits = λ answers judges. record {
      says = λ before said has.
          subst (λ (items : List Item). HasSaid before items now.printer)
          (sym (ap (λ (items : List Item). said ++ items) (items_none answers now.judge.shown) ∙ append-nil said)) has;
      tallies = refl;
      timely = tt;
      quiet = λ silent. tt;
      writer = refl;
    };
  };
  since = (or_false now.since.gave, or_false now.since.passed);
}

pub nothing_begun : (now : State) → Meets [] (Some stops.NoMemory) now now
nothing_begun now = record {
  audits = record {
    judge = refl;
    audits = λ answers judges. record {
      says = λ before said has. record {
        said = said;
        later = [];
        parts = ap (λ (items : List Item). said ++ items) (items_none answers now.judge.shown);
        has_said = has;
      };
      tallies = tt;
      timely = tt;
      quiet = λ silent. tt;
      writer = refl;
    };
  };
  since = tt;
}

tallied_then : (answers : Subject → Answer) (xs ys : List Visit) (stop : Option Stop) (old mid new : Tally)
    → mid ≡ all_tallied answers old xs → IsTallied answers ys stop mid new → IsTallied answers (xs ++ ys) stop old new
tallied_then answers xs ys None old mid new first second =
    second ∙ ap (λ (t : Tally). all_tallied answers t ys) first ∙ sym (tallied_append answers old xs ys)
tallied_then answers xs ys (Some stops.Revoked) old mid new first second =
    second ∙ ap (λ (t : Tally). all_tallied answers t ys) first ∙ sym (tallied_append answers old xs ys)
tallied_then answers xs ys (Some stops.NoMemory) old mid new first second = tt
tallied_then answers xs ys (Some (stops.Lost count)) old mid new first second = tt

audits_then : (answers : Subject → Answer) (xs ys : List Visit) (stop : Option Stop) (old mid new : State) → mid.judge ≡ old.judge
    → Audits answers xs None old mid → Audits answers ys stop mid new → Audits answers (xs ++ ys) stop old new
audits_then answers xs ys stop old mid new judge first second = record {
  says = λ before said has.
      let there = second.says before (said ++ visits_items answers old.judge.shown xs) (first.says before said has) in
      let same : visits_items answers mid.judge.shown ys ≡ visits_items answers old.judge.shown ys =
      ap (λ (j : Judge). visits_items answers j.shown ys) judge in
      let all : (said ++ visits_items answers old.judge.shown xs) ++ visits_items answers mid.judge.shown ys
      ≡ said ++ visits_items answers old.judge.shown (xs ++ ys) =
      append_assoc said _ _
      ∙ ap (λ (items : List Item). said ++ (visits_items answers old.judge.shown xs ++ items)) same
      ∙ ap (λ (items : List Item). said ++ items) (sym (items_append answers old.judge.shown xs ys)) in
      subst (λ (items : List Item). Says before items stop new) all there;
  tallies = tallied_then answers xs ys stop old.tally mid.tally new.tally first.tallies second.tallies;
  timely = timely_append answers old.tally xs ys first.timely
      (subst (λ (t : Tally). AreTimely answers t ys) first.tallies second.timely);
  quiet = λ silent.
      let also : mid.judge.shown.revoked ≡ false = ap (λ (j : Judge). j.shown.revoked) judge ∙ silent in
      quiet_append answers (is_some stop) old.tally xs ys (first.quiet silent)
      (subst (λ (t : Tally). AreQuiet answers (is_some stop) t ys) first.tallies (second.quiet also));
  writer = second.writer ∙ first.writer;
}

pub by_then : (xs ys : List Visit) (stop : Option Stop) (old mid new : State) → AuditsBy xs None old mid
    → AuditsBy ys stop mid new → AuditsBy (xs ++ ys) stop old new
by_then xs ys stop old mid new first second = record {
  judge = second.judge ∙ first.judge;
  audits = λ answers judges.
      let also : JudgesAs mid.judge answers = subst (λ (j : Judge). JudgesAs j answers) (sym first.judge) judges in
      audits_then answers xs ys stop old mid new first.judge (first.audits answers judges) (second.audits answers also);
}

pub meets_then : (xs ys : List Visit) (stop : Option Stop) (old mid new : State) → Meets xs None old mid
    → Meets ys stop mid new → Meets (xs ++ ys) stop old new
meets_then xs ys stop old mid new first second = record {
  audits = by_then xs ys stop old mid new first.audits second.audits;
  since = since_then xs ys stop old.since mid.since new.since first.since second.since;
}

-- ---- what was begun

pub begun : {A : Type 0} (result : Result A Stop) (value : A) (Is : List Visit → Type 0) (visits : List Visit) → Is visits
    → Begun result (λ (a : A). Is) visits
begun (Ok done) value Is visits is = is
begun (Err stop) value Is visits is = inl (value, is)

-- what holds of it holds of more
pub begun_as : {A : Type 0} (result : Result A Stop) (Is Also : List Visit → Type 0) (visits : List Visit)
    → (Is visits → Also visits) → Begun result (λ (a : A). Is) visits → Begun result (λ (a : A). Also) visits
begun_as (Ok done) Is Also visits goes is = goes is
begun_as (Err stop) Is Also visits goes (inl is) = inl (is.0, goes is.1)
begun_as (Err stop) Is Also visits goes (inr none) = inr none

pub goes : (result : Result (Unit {0}) Stop) (visits : List Visit) (Is : List Visit → Type 0) (old new : State) → Is visits
    → Meets visits (result_err result) old new → Goes result (λ (done : Unit {0}). Is) old new
goes result visits Is old new is meets = record { visits = visits; is = begun result tt Is visits is; meets = meets }

pub goes_as : (result : Result (Unit {0}) Stop) (Is Also : List Visit → Type 0) (old new : State)
    → ((visits : List Visit) → Is visits → Also visits) → Goes result (λ (done : Unit {0}). Is) old new
    → Goes result (λ (done : Unit {0}). Also) old new
goes_as result Is Also old new implies was =
    record { visits = was.visits; is = begun_as result Is Also was.visits (implies was.visits) was.is; meets = was.meets }

begun_more : {A : Type 0} (result : Result A Stop) (Is Also : A → List Visit → Type 0) (visits : List Visit)
    → ((value : A) → Is value visits → Also value visits) → Begun result Is visits → Begun result Also visits
begun_more (Ok done) Is Also visits implies is = implies done is
begun_more (Err stop) Is Also visits implies (inl is) = inl (is.0, implies is.0 is.1)
begun_more (Err stop) Is Also visits implies (inr none) = inr none

-- what holds of it, by its value, holds of more
pub goes_more : {A : Type 0} (result : Result A Stop) (Is Also : A → List Visit → Type 0) (old new : State)
    → ((value : A) (visits : List Visit) → Is value visits → Also value visits) → Goes result Is old new → Goes result Also old new
goes_more result Is Also old new implies was = record {
  visits = was.visits;
  is = begun_more result Is Also was.visits (λ value. implies value was.visits) was.is;
  meets = was.meets;
}

pub goes_nothing : {A : Type 0} (Is : A → List Visit → Type 0) (now : State) → Goes (Err stops.NoMemory) Is now now
goes_nothing Is now = record { visits = []; is = inr refl; meets = nothing_begun now }

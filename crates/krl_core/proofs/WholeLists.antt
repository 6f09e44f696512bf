-- A whole list, read field by field.
use Rattle.krl_core.proofs.Common.{[], ◌*◌, ◌++◌, ◌+◌, ◌-◌, ◌<◌, ◌∙◌, ◌≡◌, ap, append-nil}
use Rattle.krl_core.proofs.Common.{append_assoc, arith, can_end, concat, ended, Ends, EndsAfter}
use Rattle.krl_core.proofs.Common.{Entry, false, FieldStore, Follows, HasRead, Header, HoldsInScope}
use Rattle.krl_core.proofs.Common.{InStep, IsBounded, IsBytes, IsFirstKrlFault, IsReached, IsWholeAs}
use Rattle.krl_core.proofs.Common.{IsWithinLimit, le-ltb, left_of, length, limit, List, ltb}
use Rattle.krl_core.proofs.Common.{LeadsOn, NamesSame, None, OfHeader, open_run, Option, option_to_list}
use Rattle.krl_core.proofs.Common.{Place, Pull, refl, Revocations, run_entries, ◌∷◌}
use Rattle.krl_core.proofs.Common.{same_within, Some, Span, subst, sym, take, take_all, true, Walk}
use Rattle.krl_core.proofs.Common.{ℕ}
use Rattle.std.specs.Io.KnownBytes.{IsAtEnd}
use Rattle.krl_format.specs.declared.place.Place.TheVariants.{SectionType}
use Rattle.krl_format.proofs.LongestFronts.{weight, nearer}
use Rattle.krl_format.proofs.Fronts.{first_fault_is}
use Rattle.krl_entries.specs.Scope.{all as every_name}

-- no field was read yet
pub leads_on : (p : Walk) → p.fault ≡ None → LeadsOn p p
leads_on p faultless = record {
  reads = λ text fields h. ([], subst (λ (row : List (List ℕ)). HasRead text row p) (sym (append-nil fields)) h);
  faultless = faultless;
  scope_is = refl;
}

pub leads_further : (old mid new : Walk) → LeadsOn old mid → LeadsOn mid new → LeadsOn old new
leads_further old mid new first then = record {
  reads = λ text fields h.
      let one = first.reads text fields h in
      let two = then.reads text (fields ++ one.0) one.1 in
      (one.0 ++ two.0, subst (λ (row : List (List ℕ)). HasRead text row new) (append_assoc fields one.0 two.0) two.1);
  faultless = then.faultless;
  scope_is = then.scope_is ∙ first.scope_is;
}

-- one more field was read
pub leads_one : (old new : Walk) → Follows old new → LeadsOn old new
leads_one old new h = record {
  reads = λ text fields read. let one = h.reads text fields read in (one.0 ∷ [], one.1);
  faultless = h.faultless;
  scope_is = h.scope_is;
}

-- the fields that were read are all of the text
pub ends_after : (old mid new : Walk) → LeadsOn old mid → Ends mid new → EndsAfter old new
ends_after old mid new first ends = record {
  is = ends.is;
  whole = λ text fields h.
      let one = first.reads text fields h in
      let still = ends.still text (fields ++ one.0) one.1 in
      (one.0, still.0, still.1);
  scope_is = ends.scope_is ∙ first.scope_is;
}

-- each step brings the end nearer
pub step_nearer : (old new : Walk) → Follows old new
    → 2 * (limit - new.pull.taken) + weight new.place < 2 * (limit - old.pull.taken) + weight old.place
step_nearer old new h =
    let near = nearer old.place new.place h.field h.passes.judged in
    omega (arith, near, h.taken, h.within, h.passes.whole)

-- if the list may end, no run is open
pub none_open : (p : Place) (stored : FieldStore) → can_end p ≡ true → InStep p stored.bitmap → stored.bitmap.pending ≡ None
none_open (SectionType signed) stored may step = step
none_open _ stored may step = absurd (cc)

-- the bytes that were read up to the end are all of the text
pub all_read : (text front rest : List ℕ) (left : Option (List ℕ)) → text ≡ front ++ rest → left ≡ Some rest → IsAtEnd left → text ≡ front
all_read text front rest left parts is end = parts ∙ ap (λ (x : List ℕ). front ++ x) (subst IsAtEnd is end) ∙ append-nil front

pub whole_list : (text : List ℕ) (fields : List (List ℕ)) (p : Walk) → IsReached p → p.ended ≡ true → HasRead text fields p
    → OfHeader p.stored.scope p.stored.header
    (λ header. IsWholeAs (HoldsInScope p.stored.scope) text header p.stored.contents)
whole_list text fields p sound off h =
    let may = (sound.ends off).may_end in
    let all = all_read text (concat fields) h.rest (left_of p.pull) h.parts h.left_is (sound.ends off).at_end in
    let stored = p.stored in
    let stores = h.stores in
    let none = none_open p.place stored may (sound.in_step h.faultless) in
    let size : p.pull.taken ≡ length text = h.taken_is ∙ sym (ap length all) in
    let open_none : stores.closed ++ run_entries stored.authority (open_run stored) ≡ stores.closed =
    ap (λ (o : Option Span). stores.closed ++ run_entries stored.authority (option_to_list o)) none ∙ append-nil stores.closed in
    let same : NamesSame stores.closed h.state.entries = subst (λ (xs : List Entry). NamesSame xs h.state.entries) open_none stores.same in
    let whole : IsWholeAs (HoldsInScope stored.scope) text h.state.header stored.contents = record {
      fields = fields;
      state = h.state;
      leads = h.leads;
      text_is = all;
      within = omega (arith, size, sound.bounded.within);
      are_bytes = subst IsBytes (sym all) h.are_bytes;
      may_end = subst (λ (q : Place). can_end q ≡ true) h.place_is may;
      header_is = refl;
      holds = record {
        means = same_within stored.scope stored.contents stores.closed h.state.entries stores.means same;
        within = sound.bounded.scope_is;
        bounds = λ every. let b = sound.bounded.all_is every in (omega (arith, b.0, size), omega (arith, b.1.now, size));
      };
    } in
    (h.state.header, h.header_is, whole)

-- if all names are in scope, the whole header is stored
pub of_all : (Holds : Header → Type 0) (stores : Header) → OfHeader every_name stores Holds → Holds stores
of_all Holds stores h = subst Holds (sym h.1) h.2

-- a walk within its bounds is within the limit
pub within_limit : (pull : Pull) (stored : FieldStore) → IsBounded pull stored → IsWithinLimit stored.scope stored.contents
within_limit pull stored h = record {
  within = h.scope_is;
  bounds = λ every. let b = h.all_is every in (omega (arith, b.0, h.within), omega (arith, b.1.now, h.within));
}

-- if the stored entries also have another property
pub whole_holds : (Holds Other : List ℕ → Revocations → List Entry → Type 0) (text : List ℕ) (header : Header) (contents : Revocations)
    → ((entries : List Entry) → Holds text contents entries → Other text contents entries) → IsWholeAs Holds text header contents → IsWholeAs Other text header contents
whole_holds Holds Other text header contents other h = record {
  fields = h.fields;
  state = h.state;
  leads = h.leads;
  text_is = h.text_is;
  within = h.within;
  are_bytes = h.are_bytes;
  may_end = h.may_end;
  header_is = h.header_is;
  holds = other h.state.entries h.holds;
}

-- fields that lead to the end of a list have no fault
pub whole_unfaulted : (Holds : List ℕ → Revocations → List Entry → Type 0) (text : List ℕ) (header : Header) (contents : Revocations) → IsWholeAs Holds text header contents → IsFirstKrlFault text None
whole_unfaulted Holds text header contents h =
    let all : take limit text ≡ text = take_all limit text h.within in
    let off : ltb limit (length text) ≡ false = le-ltb limit (length text) h.within in
    first_fault_is text None (record {
      last = h.state;
      rest = [];
      walks = record { fields = h.fields; leads = h.leads; parts = all ∙ h.text_is ∙ sym (append-nil (concat h.fields)) };
      reported = ended (h.may_end, refl) off refl;
    })

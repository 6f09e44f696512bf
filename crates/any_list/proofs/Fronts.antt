-- The front of a list, with one byte more than a list may have.
use Rattle.std.proofs.Common.{◌≡◌, ℕ, ◌+◌, ◌<◌, ◌≤◌, ◌⊎◌, nat_eq, nat_lt, Bool, true, false, List, length, take, Option, Some, Result, Ok, Err, refl, sym, subst, ◌∙◌, inl, inr, arith}
use Rattle.std.specs.Prelude.{◌↔◌, IfErr, IfOk}
use Rattle.std.specs.List.{starts_with}
use Rattle.std.proofs.lemmas.Bool.{cases_lt, lt-ltb}
use Rattle.std.proofs.lemmas.List.{length-take-le, take_all, take-take}
use Rattle.krl_types.specs.Entry.{Entry}
use Rattle.krl_types.specs.declared.krl_fault.KrlFault.{KrlFault}
use Rattle.krl_format.specs.Front.{IsFirstKrlFault, IsFront, limit}
use Rattle.krl_format.specs.Krl.{magic}
use Rattle.krl_format.specs.declared.header.Header.{Header}
use Rattle.plain_list.specs.Any.{Names, NamesIf, begins_list}
use Rattle.plain_list.specs.List.{HasFault}
use Rattle.plain_list.specs.declared.fault.PlainFault.{PlainFault}
use Rattle.plain_list.specs.declared.fault.PlainFault.TheVariants as faults
use Rattle.run_faults.specs.RunFault.{RunFault}
use Rattle.any_list.specs.List.{IsFaultIf, IsFileRead, IsListFault, IsReadList, whole_fault, whole_ran_out}
use Rattle.any_list.specs.declared.list.List.{List as ListOf}

-- as many bytes as are read of a file
abbrev most : ℕ
most = limit + 1

-- ---- how a text begins

starts_take : (n : ℕ) (text begin : List ℕ) → length begin ≤ n → starts_with nat_eq (take n text) begin ≡ starts_with nat_eq text begin
starts_take n text begin h = rw (take-take (length begin) n text h) refl

begins_take : (bytes : List ℕ) → begins_list (take most bytes) ≡ begins_list bytes
begins_take bytes = starts_take most bytes magic (omega arith)

-- ---- lists

too_long : (begins : Bool) (bytes : List ℕ) (header : Option Header) (entries : List Entry) → limit < length bytes → NamesIf begins bytes header entries → ⊥
too_long true bytes header entries long named = let within : length bytes ≤ limit = named.is.within in omega (arith, long, within)
too_long false bytes header entries long named = let within : length bytes ≤ limit = named.is.within in omega (arith, long, within)

long_front : (bytes : List ℕ) → most < length bytes → limit < length (take most bytes)
long_front bytes more = rw (length-take-le most bytes (omega arith)) (omega arith)

-- the front of a file that is a list is the whole file
whole_as : (file : List ℕ) (header : Option Header) (entries : List Entry) → (most < length file) ⊎ (length file ≤ most) → Names (take most file) header entries → take most file ≡ file
whole_as file header entries (inl more) named = absurd (too_long (begins_list (take most file)) (take most file) header entries (long_front file more) named)
whole_as file header entries (inr all) named = take_all most file all

-- ---- faults

front_as : (text other : List ℕ) (fields : List (List ℕ)) (state : _) (rest : List ℕ) → take limit text ≡ take limit other → IsFront text fields state rest → IsFront other fields state rest
front_as text other fields state rest same front = record { leads = front.leads; parts = sym same ∙ front.parts }

first_as : (text other : List ℕ) (fault : Option KrlFault) → take limit text ≡ take limit other → nat_lt limit (length text) ≡ nat_lt limit (length other) → IsFirstKrlFault text fault → IsFirstKrlFault other fault
first_as text other fault same more first = record {
  fields = first.fields;
  state = first.state;
  rest = first.rest;
  front = record {
    front = front_as text other first.fields first.state first.rest same first.front.front;
    longest = λ field next after front. first.front.longest field next after (front_as other text _ next after (sym same) front);
  };
  reported = rw (← more) first.reported;
}

lines_as : (text other : List ℕ) (fault : PlainFault) → limit < length text → limit < length other → HasFault text fault → HasFault other fault
lines_as text other faults.TooLong long also has = also
lines_as text other (faults.Line number cause) long also has = absurd (omega (arith, long, has.0))
lines_as text other faults.NoMemory long also has = absurd (omega (arith, long, has))

fault_as : (begins : Bool) (name text other : List ℕ) (stop : RunFault) → take limit text ≡ take limit other → nat_lt limit (length text) ≡ nat_lt limit (length other) → limit < length text → limit < length other → IsFaultIf begins name text stop → IsFaultIf begins name other stop
fault_as true name text other stop same more long also (whole_ran_out lacks is) =
    whole_ran_out (record { fields = lacks.fields; state = lacks.state; rest = lacks.rest; front = front_as text other lacks.fields lacks.state lacks.rest same lacks.front; needs = lacks.needs }) is
fault_as true name text other stop same more long also (whole_fault fault first is) = whole_fault fault (first_as text other (Some fault) same more first) is
fault_as false name text other stop same more long also refused = record { fault = refused.fault; has = lines_as text other refused.fault long also refused.has; stop_is = refused.stop_is }

faults_as : (name bytes : List ℕ) (stop : RunFault) → (most < length bytes) ⊎ (length bytes ≤ most) → IsListFault name bytes stop ↔ IsListFault name (take most bytes) stop
faults_as name bytes stop (inl more) =
    let long : limit < length bytes = omega arith in
    let also = long_front bytes more in
    let same : take limit bytes ≡ take limit (take most bytes) = sym (take-take limit most bytes (omega arith)) in
    let beyond : nat_lt limit (length bytes) ≡ nat_lt limit (length (take most bytes)) = lt-ltb limit (length bytes) long ∙ sym (lt-ltb limit (length (take most bytes)) also) in
    let begins = begins_take bytes in
    rw begins (
      λ fault. fault_as (begins_list bytes) name bytes (take most bytes) stop same beyond long also fault,
      λ fault. fault_as (begins_list bytes) name (take most bytes) bytes stop (sym same) (sym beyond) also long fault,
    )
faults_as name bytes stop (inr all) = rw (take_all most bytes all) (λ fault. fault, λ fault. fault)

faults_are : (name bytes : List ℕ) (stop : RunFault) → IsListFault name bytes stop ↔ IsListFault name (take most bytes) stop
faults_are name bytes stop = faults_as name bytes stop (cases_lt most (length bytes))

-- ---- a file, by its front

pub file_read : (name bytes file : List ℕ) (result : Result ListOf RunFault) → bytes ≡ take most file → IfOk result (λ list. IsReadList name bytes list) → IfErr result (λ stop. IsListFault name bytes stop)
    → IsFileRead name file result
file_read name bytes file (Ok list) is read refused =
    let front : IsReadList name (take most file) list = subst (λ (b : List ℕ). IsReadList name b list) is read in
    subst (λ (b : List ℕ). IsReadList name b list) (whole_as file list.header front.entries (cases_lt most (length file)) front.named) front
file_read name bytes file (Err stop) is read refused =
    (faults_are name file stop).1 (subst (λ (b : List ℕ). IsListFault name b stop) is refused)

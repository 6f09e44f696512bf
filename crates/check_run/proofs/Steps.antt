-- One condition after another.
use Rattle.std.proofs.Common.{◌≡◌, ◌||◌, Bool, true, false, List, [], ◌++◌, Result, Ok, Err, refl, ap, ◌∙◌}
use Rattle.std.specs.Prelude.{OnOk}
use Rattle.run_faults.specs.RunFault.{RunFault}
use Rattle.run_output.specs.Carries.{Carries}
use Rattle.run_output.specs.Printer.{Printer}
use Rattle.run_output.specs.Run.{Item}
use Rattle.run_output.proofs.RunParts.{carries_more, carries_none, carries_then}
use Rattle.check_run.specs.Lists.{Checks}

pub or_assoc : (a b c : Bool) → ((a || b) || c) ≡ (a || (b || c))
or_assoc true b c = refl
or_assoc false b c = refl

pub or_false : (a : Bool) → a ≡ (a || false)
or_false true = refl
or_false false = refl

pub or_true : (a : Bool) → true ≡ (a || true)
or_true true = refl
or_true false = refl

pub on_ok : {A : Type 0} (result : Result A RunFault) (one other : Bool) → one ≡ other → OnOk result (one ≡ other)
on_ok (Ok done) one other is = is
on_ok (Err stop) one other is = tt

pub on_ok_or : {A : Type 0} (result : Result A RunFault) (after one other : Bool) → one ≡ other → OnOk result (after ≡ one) → OnOk result (after ≡ other)
on_ok_or (Ok done) after one other same is = is ∙ same
on_ok_or (Err stop) after one other same is = tt

pub checks_none : (now : Printer) (refused : Bool) → Checks [] false (Ok tt) now now refused refused
checks_none now refused = record { carries = carries_none tt now; refused = or_false refused }

pub checks_then : (xs ys : List Item) (one two : Bool) (value : Unit {0}) (result : Result (Unit {0}) RunFault) (old mid new : Printer) (before between after : Bool)
    → Checks xs one (Ok value) old mid before between → Checks ys two result mid new between after → Checks (xs ++ ys) (one || two) result old new before after
checks_then xs ys one two value result old mid new before between after first second = record {
  carries = carries_then xs ys value result old mid new first.carries second.carries;
  refused = on_ok_or result after (between || two) (before || (one || two)) (ap (λ (b : Bool). b || two) first.refused ∙ or_assoc before one two) second.refused;
}

-- Where a condition stops the check, the later ones do not matter.
pub checks_more : (xs ys : List Item) (one two : Bool) (stop : RunFault) (old new : Printer) (before after other : Bool) → Checks xs one (Err stop) old new before after → Checks (xs ++ ys) two (Err stop) old new before other
checks_more xs ys one two stop old new before after other first = record {
  carries = carries_more {A = Unit {0}} xs ys stop old new first.carries;
  refused = tt;
}

-- A condition that was checked, for which this much is known.
pub checks_of : (items : List Item) (fails : Bool) (result : Result (Unit {0}) RunFault) (old new : Printer) (before after : Bool) → Carries items result old new → after ≡ (before || fails) → Checks items fails result old new before after
checks_of items fails result old new before after carries is = record { carries = carries; refused = on_ok result after (before || fails) is }

-- Progress: each step takes one field or several.
use Rattle.krl_core.proofs.Common.{◌*◌, ◌+◌, ◌-◌, ◌<◌, ◌≡◌, Advances, arith, Bool, Err, false, Follows}
use Rattle.krl_core.proofs.Common.{IfOk, inl, inr, IsTrue, KrlFault, limit, None, Ok, Option, refl}
use Rattle.krl_core.proofs.Common.{Result, Some, Stops, Walk}
use Rattle.std.specs.Prelude.{is_some}
use Rattle.krl_format.proofs.LongestFronts.{weight, weight_below}
use Rattle.krl_core.proofs.WholeLists.{leads_one, step_nearer}

pub advance_nearer : (old new : Walk) → Advances old new → 2 * (limit - new.pull.taken) + weight new.place < 2 * (limit - old.pull.taken) + weight old.place
advance_nearer old new h = elim h.progress [
  | inl follows ↦ step_nearer old new follows
  | inr some ↦ omega (arith, some, h.within, weight_below new.place)
]

pub advances_of : (result : Result Bool KrlFault) (old : Walk) (new : Walk) → IfOk result (λ more. IsTrue more → Follows old new) → IfOk result (λ more. IsTrue more → Advances old new)
advances_of (Ok more) old new h = λ on.
    let one = h on in record { leads = leads_one old new one; progress = inl one; within = one.within; works = one.works }
advances_of (Err fault) old new h = h

-- a fault is returned again
pub stops_again : (walk : Walk) (fault : KrlFault) → walk.fault ≡ Some fault → Stops fault walk walk
stops_again walk fault is = record {
  says = λ text fields h. absurd (cc (h.faultless, is));
  failure = λ none. absurd (cc (none, is));
  stays = is;
}

pub none_there : (fault : Option KrlFault) → is_some fault ≡ false → fault ≡ None
none_there None e = refl
none_there (Some fault) e = absurd (cc)

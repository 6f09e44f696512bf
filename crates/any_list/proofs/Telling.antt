-- The readings of several steps, one after the other.
use Rattle.std.proofs.Common.{◌≡◌, ◌∙◌, [], ◌++◌, append_assoc, append-nil, ap, List, None, Option, refl, Some, sym}
use Rattle.any_list.specs.Told.{Reading, Tells, told_more}

pub told_none : (now : Option (List Reading)) → now ≡ told_more now []
told_none None = refl
told_none (Some told) = ap Some (sym (append-nil told))

more_twice : (before : Option (List Reading)) (xs ys : List Reading) → told_more (told_more before xs) ys ≡ told_more before (xs ++ ys)
more_twice None xs ys = refl
more_twice (Some told) xs ys = ap Some (append_assoc told xs ys)

pub told_then : (before mid after : Option (List Reading)) (xs ys : List Reading) → mid ≡ told_more before xs → after ≡ told_more mid ys → after ≡ told_more before (xs ++ ys)
told_then before mid after xs ys first second = second ∙ (ap (λ (m : Option (List Reading)). told_more m ys) first ∙ more_twice before xs ys)

-- the readings of one step, and then those of another
pub tells_then : (Are More All : List Reading → Type 0) (before mid after : Option (List Reading)) → ((xs ys : List Reading) → Are xs → More ys → All (xs ++ ys))
    → Tells before mid Are → Tells mid after More → Tells before after All
tells_then Are More All before mid after both first second = record {
  told = first.told ++ second.told;
  after_is = told_then before mid after first.told second.told first.after_is second.after_is;
  are = both first.told second.told first.are second.are;
}

pub tells_as : (Are More : List Reading → Type 0) (before after : Option (List Reading)) → ((xs : List Reading) → Are xs → More xs) → Tells before after Are → Tells before after More
tells_as Are More before after as_more first = record { told = first.told; after_is = first.after_is; are = as_more first.told first.are }

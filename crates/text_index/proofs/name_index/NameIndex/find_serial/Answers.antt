-- Each front is a key.
use Rattle.std.proofs.Common.{◌≡◌, ◌⊎◌, ◌<◌, ◌-◌, ◌/◌, ◌∙◌, ◌++◌, List, ℕ, ap, arith, inl, inr}
use Rattle.krl_types.specs.Naming.{SerialOf}
use Rattle.text_index.specs.Fronts.{fronts}
use Rattle.text_index.specs.NameIndex.{numbers}
use Rattle.text_index.proofs.Gathered.{at_fronts, front_taken, last_taken}
use Rattle.text_index.proofs.name_index.NameIndex.find_serial.Goals as goal
use Rattle.text_index.proofs.name_index.NameIndex.find_serial.Goals.{then-front-eq0-via-then-front-eq0, then-front-eq0-via-else-front-eq0+then-bits-eq0}

pub cutting-init : goal.cutting-init
unfolding numbers
cutting-init c =
    ap (λ (lines : List ℕ). lines ++ at_fronts c.args.self.now (SerialOf c.args.authority.now c.args.serial) (fronts 64 c.args.serial)) c.new-lines.ensures.items

pub returns-then-front-eq0 : goal.returns-then-front-eq0
returns-then-front-eq0 c =
    let name = SerialOf c.args.authority.now c.args.serial in
    let last : (c.cutting.bits ≡ 0) ⊎ (c.cutting.front ≡ 0) =
    elim c.then-front-eq0.branch [
      | then-front-eq0-via-then-front-eq0 w ↦ inr (omega (arith, w.if-front-eq0.true))
      | then-front-eq0-via-else-front-eq0+then-bits-eq0 w ↦ inl (omega (arith, w.if-bits-eq0.true))
    ] in
    c.in_ok-gather.ensures
    ∙ last_taken c.args.self.now name c.cutting.bits c.cutting.front c.cutting.lines.items last
    ∙ c.cutting.invariant

pub cutting-preserved : goal.cutting-preserved
cutting-preserved c =
    let name = SerialOf c.args.authority.now c.args.serial in
    let some : 0 < c.cutting.bits = omega (arith, c.if-bits-eq0.false) in
    let rest : 0 < c.cutting.front = omega (arith, c.if-front-eq0.false) in
    ap (λ (lines : List ℕ). lines ++ at_fronts c.args.self.now name (fronts (c.cutting.bits - 1) (c.cutting.front / 2)))
    c.in_ok-gather.ensures
    ∙ front_taken c.args.self.now name c.cutting.bits c.cutting.front c.cutting.lines.items some rest
    ∙ c.cutting.invariant

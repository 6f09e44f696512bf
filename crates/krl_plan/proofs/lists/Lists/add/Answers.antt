use Rattle.std.proofs.Common.{◌+◌, ◌-◌, ◌*◌, ◌≤◌, refl, arith}
use Rattle.krl_plan.proofs.ListCandidates.{list_filled, list_past}
use Rattle.krl_plan.proofs.lists.Lists.add.Goals as goal

pub push-requires : goal.push-requires
push-requires c =
    let listed = c.requires.lists in
    list_past c.args.self.now.queue.candidates.items c.forget_past.new.self.candidates.items c.args.self.now.base (c.args.at + 1) (c.args.at + 1024) listed.0 listed.1.0
    listed.1.1.filled c.forget_past.ensures

pub returns : goal.returns
returns c runs rests listed =
    let room = listed.room in
    let bounded = listed.bounded in
    let bytes : 8 * (c.args.run.hi - c.args.run.lo + 1) ≤ c.args.self.now.base = omega arith in
    record {
      room = omega arith;
      bounded = omega arith;
      filled = list_filled c.args.self.now.queue.candidates.items c.forget_past.new.self.candidates.items c.push.new.self.candidates.items
          (record { position = c.args.at + 1; value = c.args.self.now.base + c.args.rest; end = c.args.at + 1 })
          c.args.self.now.base (c.args.self.now.base - 8 * (c.args.run.hi - c.args.run.lo + 1)) c.args.at c.args.rest c.args.run runs rests
          listed.filled c.forget_past.ensures c.in_ok-push.ensures (omega arith) (omega arith) refl refl refl (omega arith);
    }

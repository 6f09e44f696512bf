use Rattle.std.proofs.Common.{◌≡◌, ◌+◌, ◌/◌, ◌%◌, get_or, length, arith, refl, rules}
use Rattle.krl_plan.proofs.EightQueues.{queues_more}
use Rattle.krl_plan.proofs.BitmapCandidates.{bitmap_past}
use Rattle.krl_plan.proofs.bitmaps.Bitmaps.add.Goals as goal

pub push-requires : goal.push-requires
push-requires c =
    let queues = c.args.self.now.queues in
    let r = (c.args.run.hi + 1) % 8 in
    let was = c.index-self-after.result in
    let known = c.requires.bitmaps in
    bitmap_past (get_or queues r was).candidates.items (c.args.at + 1) r c.args.run known.0 known.1.0 known.1.1.0 (known.1.1.1 r was (omega arith))

pub returns : goal.returns
returns c runs rests rises mapped =
    let len : length c.args.self.now.queues ≡ 8 = search rules in
    queues_more c.args.self.now.queues c.forget_past.new.queues c.index-self-after.result _
    (record { position = c.args.run.hi; value = (c.args.run.hi + 1) / 8 + c.args.rest; end = c.args.at + 1 })
    c.args.at c.args.rest c.args.run runs rests len rises mapped c.in_ok-push.ensures c.forget_past.ensures refl refl refl (omega arith)

use Rattle.std.proofs.Common.{arith, rules}
use Rattle.cert_listing.proofs.Instants.{far_text, of_date}
use Rattle.cert_listing.proofs.time.time_text.Goals as goal

pub returns-then-seconds-ge-YEAR_9999 : goal.returns-then-seconds-ge-YEAR_9999
returns-then-seconds-ge-YEAR_9999 c =
    rw (far_text c.args.seconds (omega (arith, c.if-seconds-ge-YEAR_9999.true))) (search rules)

pub returns : goal.returns
returns c =
    of_date c.args.seconds _ (omega (arith, c.if-seconds-ge-YEAR_9999.false)) (record {
      datetime = c.to_datetime-datetime.result;
      instant = search (rules, arith);
      spelled = search rules;
    })

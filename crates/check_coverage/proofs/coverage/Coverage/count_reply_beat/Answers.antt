-- A beat of channel D is counted.
use Rattle.std.proofs.Common.{Bool, subst, find}
use Rattle.check_beats.specs.Bus.{bus_bytes}
use Rattle.check_beats.specs.Message.{is_spoiled}
use Rattle.check_beats.specs.declared.rules.LinkRules.{LinkRules}
use Rattle.check_coverage.specs.Bins.{of_found, reply_part_bins}
use Rattle.check_coverage.specs.Flights.{is_of}
use Rattle.check_bins.specs.Counting.{Adds}
use Rattle.check_coverage.proofs.Noted.{reply_counted}
use Rattle.check_coverage.proofs.coverage.Coverage.count_reply_beat.Goals as goal

pub returns : goal.returns
returns c = λ plan rules.
    reply_counted plan (bus_bytes c.args.bus) c.args.wide c.args.time c.args.times c.args.beat.now c.args.end c.args.self.now
    c.answer.new.self c.reply_part.new.self c.leave.new.flights c.in_ok-answer.ensures.mirrors c.in_ok-answer.ensures.times
    c.in_ok-answer.ensures.latest
    c.in_ok-answer.ensures.flights c.in_ok-answer.ensures.counts c.in_ok-reply_part.ensures.mirrors
    c.in_ok-reply_part.ensures.times c.in_ok-reply_part.ensures.latest c.in_ok-reply_part.ensures.flights
    (λ before is. subst (λ (r : LinkRules). Adds c.answer.new.self.counts c.reply_part.new.self.counts
    (of_found (find (is_of c.args.wide) before) (reply_part_bins r c.args.time c.args.times (is_spoiled c.args.beat.now)))) rules
    (subst (λ (b : Bool). Adds c.answer.new.self.counts c.reply_part.new.self.counts
    (of_found (find (is_of c.args.wide) before) (reply_part_bins c.args.rules c.args.time c.args.times b)))
    c.is_spoiled.ensures (c.in_ok-reply_part.ensures.counts before is)))
    c.leave.ensures

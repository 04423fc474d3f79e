-- A beat is counted, then the latest requests go on, and then the times.
use Rattle.std.proofs.Common.{◌∙◌, ap}
use Rattle.check_beats.specs.Bus.{bus_bytes}
use Rattle.check_coverage.specs.Mirrors.{mirrors_in}
use Rattle.check_coverage.proofs.Noted.{beat_noted}
use Rattle.check_coverage.proofs.coverage.Coverage.note_beat.Goals as goal

pub returns : goal.returns
returns c = λ plan suits has size.
    let counted = c.in_ok-count_beat.ensures plan suits has size in
    beat_noted plan (bus_bytes c.args.bus) c.args.wide c.args.time c.args.beat.now c.args.end c.args.self.now
    c.count_beat.new.self c.note_latest.new.self c.insert.new.self c.times_of-times.result c.after.result c.is_last_ask.result
    c.times_of-times.ensures c.after.ensures c.is_last_ask.ensures counted c.in_ok-note_latest.ensures.mirrors
    c.in_ok-note_latest.ensures.times c.in_ok-note_latest.ensures.flights c.in_ok-note_latest.ensures.latest
    (λ later before is was. c.in_ok-note_latest.ensures.counts plan later before
    (λ port. ap (λ m. mirrors_in m.items port) counted.mirrors ∙ has port) is was)
    c.in_ok-insert.ensures.updates

use Rattle.std.proofs.Common.{◌≡◌, ◌∙◌, ◌^◌, false, Option, None, ap, sym}
use Rattle.check_beats.specs.Bus.{bus_log}
use Rattle.check_beats.specs.Form.{FitsAsk}
use Rattle.check_beats.specs.State.{AskBegun, AskChannel, ends_ask}
use Rattle.check_beats.proofs.Going.{all_shown, all_marks, kept_first, first_is}
use Rattle.check_beats.proofs.asking.Asking.begin.Goals as goal

pub invariant_of-self : goal.invariant_of-self
invariant_of-self c =
    let w = bus_log c.self.inside.bus in
    let beat = c.args.beat.now in
    let lanes = c.args.lanes.now in
    let bus : c.args.self.now.bus ≡ 2 ^ w = sym (ap (λ (v : AskChannel). v.bus) c.self.view_is) in
    let fits : FitsAsk (2 ^ w) None beat = rw (bus, c.requires.none) at c.requires.fits in
    let goes_on : ends_ask (2 ^ w) None beat ≡ false = rw (bus, c.requires.none) at c.requires.goes_on in
    let bytes : c.push_shown.new.bytes ≡ all_shown beat lanes = rw c.clear.ensures at c.push_shown.ensures in
    let marks : c.push.new.self ≡ all_marks beat lanes = rw c.clear-2.ensures at c.push.ensures in
    rw (bytes, marks) (kept_first w beat lanes fits (c.requires.lanes ∙ bus) goes_on)

pub returns : goal.returns
returns c =
    let w = bus_log c.self.inside.bus in
    let beat = c.args.beat.now in
    let lanes = c.args.lanes.now in
    let bus : c.args.self.now.bus ≡ 2 ^ w = sym (ap (λ (v : AskChannel). v.bus) c.self.view_is) in
    let fits : FitsAsk (2 ^ w) None beat = rw (bus, c.requires.none) at c.requires.fits in
    let goes_on : ends_ask (2 ^ w) None beat ≡ false = rw (bus, c.requires.none) at c.requires.goes_on in
    let bytes : c.push_shown.new.bytes ≡ all_shown beat lanes = rw c.clear.ensures at c.push_shown.ensures in
    let marks : c.push.new.self ≡ all_marks beat lanes = rw c.clear-2.ensures at c.push.ensures in
    rw (bytes, marks, bus, c.requires.none)
    (ap (λ (b : Option AskBegun). let channel : AskChannel = record { bus = 2 ^ w; begun = b } in channel) (first_is w beat lanes fits (c.requires.lanes ∙ bus) goes_on))

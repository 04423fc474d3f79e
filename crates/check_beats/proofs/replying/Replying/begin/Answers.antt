use Rattle.std.proofs.Common.{◌≡◌, ◌∙◌, ◌^◌, false, length, replicate, None, ap, sym}
use Rattle.check_beats.specs.Bus.{bus_log}
use Rattle.check_beats.specs.Form.{FitsReply}
use Rattle.check_beats.specs.Message.{seen_cells, is_spoiled}
use Rattle.check_beats.specs.State.{ReplyChannel, ends_reply}
use Rattle.check_beats.proofs.Returning.{reply_kept_first}
use Rattle.check_beats.proofs.replying.Replying.begin.Goals as goal

pub invariant_of-self : goal.invariant_of-self
invariant_of-self c =
    let w = bus_log c.self.inside.bus in
    let beat = c.args.beat.now in
    let lanes = c.args.lanes.now in
    let bus : c.args.self.now.bus ≡ 2 ^ w = sym (ap (λ (v : ReplyChannel). v.bus) c.self.view_is) in
    let fits : FitsReply None beat = rw c.requires.none at c.requires.fits in
    let goes_on : ends_reply (2 ^ w) None beat ≡ false = rw (bus, c.requires.none) at c.requires.goes_on in
    let bytes : c.push_seen.new.cells ≡ seen_cells beat c.args.known lanes 0 (length lanes) = rw c.clear.ensures at c.push_seen.ensures in
    let marks : c.push.new.self ≡ replicate (length lanes) (is_spoiled beat) = rw (c.clear-2.ensures, c.is_spoiled.ensures) at c.push.ensures in
    rw (bytes, marks) (reply_kept_first w beat c.args.known lanes fits (c.requires.lanes ∙ bus) goes_on)

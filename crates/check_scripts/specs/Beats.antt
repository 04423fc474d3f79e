-- What it says that a bus of eight bytes is that of `tl_beats`: these are this project's own words.
use Rattle.std.specs.Prelude.{◌≡◌, ◌↔◌, ℕ, Bool, false, ◌&&◌, List, map, Some, slice_get}
use Rattle.tl_types.specs.Operation.{reply_carries_bytes}
use Rattle.tl_types.specs.Request.{Request}
use Rattle.tl_types.specs.Response.{Response}
use Rattle.tl_types.specs.declared.operation.AskOp.{AskOp}
use Rattle.tl_beats.specs.Beats as narrow
use Rattle.tl_beats.specs.Replies as narrow_reply
use Rattle.tl_beats.specs.declared.beat.ABeat.{ABeat}
use Rattle.tl_beats.specs.declared.beat.DBeat.{DBeat}
use Rattle.check_cells.specs.Pattern.{seen_as}
use Rattle.check_cells.specs.Sent.{unspoiled_ask}
use Rattle.check_beats.specs.Bus.{active_mask_on_bus, beat_count_on_bus, lane_on_bus}
use Rattle.check_beats.specs.Form.{IsLawfulMaskOnBus}
use Rattle.check_beats.specs.Rules.{IsMarkedBy}
use Rattle.check_beats.specs.Spelling.{AskBeat, ReplyBeat, SpellsAskOnBus, SpellsReplyOnBus}
use Rattle.check_scripts.specs.Instance.{strict_rules}

-- on a bus of 8 bytes each byte stands at the lane, each message has the beats, and the same lanes are active as
-- `tl_beats` says.
pub record BusIsThatOfEight : Type 0 where
  pub lane : (address size j : ℕ) → lane_on_bus 8 address size j ≡ narrow.lane_of address size j
  pub beats : (carries : Bool) (size : ℕ) → beat_count_on_bus 8 carries size ≡ narrow.beat_count carries size
  pub active : (address size : ℕ) → active_mask_on_bus 8 address size ≡ narrow.active_mask address size

-- on a bus of 8 bytes a mask is lawful exactly if it is so in `tl_beats`.
abbrev pub MaskIsThatOfEight : Type 0
MaskIsThatOfEight = (op : AskOp) (size address mask : ℕ) → IsLawfulMaskOnBus 8 op size address mask ↔ narrow.IsLawfulMask op size address mask

-- ---- messages

-- a beat of a request, with its lanes apart
abbrev pub ask_beat_of : ABeat → AskBeat
ask_beat_of beat = record {
  head = record { opcode = beat.opcode; param = beat.param; size = beat.size; source = beat.source; address = beat.address; mask = beat.mask; corrupt = false };
  lanes = beat.lanes;
}

-- the bits of all eight lanes
abbrev pub all_lanes : ℕ
all_lanes = 255

-- a beat of a reply, all of whose lanes are known
abbrev pub reply_beat_of : DBeat → ReplyBeat
reply_beat_of beat = record {
  head = record { opcode = beat.opcode; param = 0; size = beat.size; source = beat.source; denied = beat.denied; corrupt = beat.corrupt };
  known = all_lanes;
  lanes = beat.lanes;
}

-- beats spell a request exactly if they do in `tl_beats`
abbrev pub AskSpelledAlike : Type 0
AskSpelledAlike =
    (ask : Request) (beats : List ABeat)
    → SpellsAskOnBus 8 (unspoiled_ask ask) (map ask_beat_of beats) ↔ narrow.SpellsAsk ask beats

-- the beats are marked corrupt as the standard asks: those that carry bytes of a denied reply are, and no others
abbrev pub AreMarked : Response → List DBeat → Type 0
AreMarked reply beats =
    (b : ℕ) (beat : DBeat) → slice_get beats b ≡ Some beat
    → beat.corrupt ≡ (reply.denied && reply_carries_bytes reply.op)

-- the same by the rules of a script's links: no beat is marked of a reply that is not denied
abbrev pub AreMarkedByRules : List DBeat → Type 0
AreMarkedByRules beats =
    (b : ℕ) (beat : DBeat) → slice_get beats b ≡ Some beat → IsMarkedBy strict_rules (reply_beat_of beat).head

-- and a reply, which is wholly known, if the beats are marked as the standard asks, which `tl_beats` leaves open
abbrev pub ReplySpelledAlike : Type 0
ReplySpelledAlike =
    (reply : Response) (address : ℕ) (beats : List DBeat)
    → (SpellsReplyOnBus 8 (seen_as reply) address (map reply_beat_of beats) × AreMarkedByRules beats)
    ↔ (narrow_reply.SpellsReply reply address beats × AreMarked reply beats)

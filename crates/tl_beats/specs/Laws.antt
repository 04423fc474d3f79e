-- What follows from the definitions of the bus and of spelling, and so from the chapter "Beats and bursts" of the
-- TileLink specification.
use Rattle.std.specs.Prelude.{◌≡◌, ◌↔◌, ℕ, List}
use Rattle.std.specs.Int.{bit_at}
use Rattle.tl_types.specs.Request.{Request, IsLawfulRequest}
use Rattle.tl_types.specs.Response.{Response, IsLawfulResponse}
use Rattle.tl_beats.specs.Beats.{IsActive, SpellsAsk, active_mask}
use Rattle.tl_beats.specs.Replies.{SpellsReply}
use Rattle.tl_beats.specs.declared.beat.ABeat.{ABeat}
use Rattle.tl_beats.specs.declared.beat.DBeat.{DBeat}

-- the mask of the active lanes sets the bits of just these
abbrev pub MaskSetsActiveLanes : Type 0
MaskSetsActiveLanes =
    (address size lane : ℕ) → (bit_at (active_mask address size) lane ≡ 1) ↔ IsActive address size lane

-- beats spell at most one request
abbrev pub AtMostOneAsk : Type 0
AtMostOneAsk =
    (ask other : Request) (beats : List ABeat)
    → IsLawfulRequest ask.op ask.size ask.bytes → IsLawfulRequest other.op other.size other.bytes
    → SpellsAsk ask beats → SpellsAsk other beats → ask ≡ other

-- beats spell at most one reply to a request at an address
abbrev pub AtMostOneReply : Type 0
AtMostOneReply =
    (reply other : Response) (address : ℕ) (beats : List DBeat)
    → IsLawfulResponse reply.op reply.size reply.denied reply.bytes
    → IsLawfulResponse other.op other.size other.denied other.bytes
    → SpellsReply reply address beats → SpellsReply other address beats → reply ≡ other

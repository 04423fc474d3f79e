-- The record of a slot, and what it spells. The record is this project's own; how beats spell a message is the chapter
-- "Beats and bursts" of the TileLink specification.
use Rattle.std.specs.Prelude.{ℕ, List, Option}
use Rattle.tl_types.specs.Request.{Request, IsLawfulRequest}
use Rattle.tl_types.specs.Response.{Response, IsLawfulResponse}
use Rattle.tl_beats.specs.declared.beat.ABeat.{ABeat}
use Rattle.tl_beats.specs.declared.beat.DBeat.{DBeat}
use Rattle.tl_beats.specs.Beats.{SpellsAsk}
use Rattle.tl_beats.specs.Replies.{SpellsReply}

-- what a slot holds: the beats of a request, its port, and the place and the beats of its reply. Beats spell at most one
-- message, so a record has one meaning. No rule of the arena speaks of `port`, since the slot's word has the port; it is
-- for who reads a record by itself.
pub record SlotRecord : Type 0 where
  pub beats : List ABeat
  pub port : ℕ
  pub index : ℕ
  pub replies : List DBeat

-- what a slot has of its record: the record, or nothing while somebody else holds it
abbrev pub Berth : Type 0
Berth = Option SlotRecord

-- the record spells the request, which keeps the rule of requests
pub record Spells (r : SlotRecord) (ask : Request) : Type 0 where
  pub lawful : IsLawfulRequest ask.op ask.size ask.bytes
  pub beats : SpellsAsk ask r.beats

-- the record spells the reply to a request at the address; the reply keeps the rule of replies
pub record SpellsAnswer (r : SlotRecord) (address : ℕ) (reply : Response) : Type 0 where
  pub lawful : IsLawfulResponse reply.op reply.size reply.denied reply.bytes
  pub beats : SpellsReply reply address r.replies

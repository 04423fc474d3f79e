-- What beats show does not depend on the slaves of a system, nor do the rules of messages and of their crossing.
use Rattle.std.proofs.Common.{◌≡◌, ℕ, List, refl}
use Rattle.check_flight.specs.PortSlave.{PortSlave}
use Rattle.check_watch.specs.declared.beat.Link.{Link}
use Rattle.check_watch.specs.Plan.{Plan, IsPlan, Sighting, LinkSide}
use Rattle.check_watch_laws.specs.Crossings.{MessagesCross}
use Rattle.check_watch_laws.specs.Memories.{exchanges_at}
use Rattle.check_watch_laws.specs.Messages.{AreMessages, AsksAt, RepliesAt, TakeTurns}
use Rattle.check_watch_laws.specs.Moments.{moments}

module _ (plan : Plan) (before after : List PortSlave) where
  abbrev one : Plan
  one = record plan { resets = before }

  abbrev other : Plan
  other = record plan { resets = after }

  pub same_moments : (port : ℕ) (past : List Sighting) → moments one port past ≡ moments other port past
  same_moments port past = refl

  pub same_exchanges : (port wide : ℕ) (past : List Sighting)
      → exchanges_at one port wide past ≡ exchanges_at other port wide past
  same_exchanges port wide past = refl

  pub same_plan : IsPlan one → IsPlan other
  same_plan is = record { owners = is.owners; wide = is.wide; decode = is.decode }

  asks_at : (past : List Sighting) (wide : ℕ) (link : Link) → AsksAt other past wide link → AsksAt one past wide link
  asks_at past wide link at = record { first = at.first; more = at.more; begun = at.begun; of = at.of }

  replies_at : (past : List Sighting) (wide : ℕ) (link : Link) → RepliesAt other past wide link
      → RepliesAt one past wide link
  replies_at past wide link at = record { first = at.first; more = at.more; begun = at.begun; of = at.of }

  same_turns : (past : List Sighting) (side : LinkSide) (wide : ℕ) → TakeTurns one past side wide
      → TakeTurns other past side wide
  unfolding replies_at
  same_turns past side wide take = record {
    no_reply_more = take.no_reply_more;
    one_unanswered = take.one_unanswered;
    answered = take.answered;
    begins_answered = λ link on at. take.begins_answered link on (asks_at past wide link at);
    begins_once = λ link second on on' at at'. take.begins_once link second on on' (asks_at past wide link at)
        (asks_at past wide second at');
    replies_asked = λ link on at. take.replies_asked link on (replies_at past wide link at);
  }

  pub same_messages : (past : List Sighting) → AreMessages one past → AreMessages other past
  same_messages past are = record {
    links = are.links;
    sources = λ side wide. same_turns past side wide (are.sources side wide);
    asks_sorted = are.asks_sorted;
    replies_sorted = are.replies_sorted;
    known = are.known;
    placed = are.placed;
    begun_placed = are.begun_placed;
  }

  pub same_crossing : (past : List Sighting) (wide : ℕ) → MessagesCross one past wide → MessagesCross other past wide
  same_crossing past wide cross = record {
    owned = cross.owned;
    requests = cross.requests;
    given = cross.given;
  }

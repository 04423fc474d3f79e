-- What is lawful by the orders of ports is lawful if nobody knows some of them.
use Rattle.std.proofs.Common.{◌≡◌, ◌∙◌, inl, inr, ℕ, List, [], ◌∷◌, ◌++◌, refl, ap, sym, subst}
use Rattle.check_cells.specs.Sent.{Sent}
use Rattle.check_cells.specs.Pattern.{Pattern}
use Rattle.check_contests.specs.Laws.{IsBelowAtReset}
use Rattle.check_contests.specs.Moments.{SlaveMoment}
use Rattle.check_memory.specs.declared.slave.Slave.{Slave}
use Rattle.check_flight.specs.declared.order.Order.{Order}
use Rattle.check_flight.specs.declared.order.Order.TheVariants.{Accept, Reply, Any}
use Rattle.check_flight.specs.PortSlave.{PortSlave, may_be_unknown}
use Rattle.check_watch.specs.declared.beat.Beat.{Beat}
use Rattle.check_watch.specs.declared.beat.Beat.TheVariants.{A, D}
use Rattle.check_watch.specs.Allowed.{HasKnownLanes}
use Rattle.check_watch.specs.Lawful.{IsLawfulGroup}
use Rattle.check_watch.specs.Plan.{Plan, IsPlan, Layout, Sighting, bus_of}
use Rattle.check_watch.proofs.Earlier.{earlier_is_lawful}
use Rattle.check_watch_laws.specs.Crossed.{AreWatched}
use Rattle.check_watch_laws.specs.Memories.{order_at, port_for, reset_of}
use Rattle.check_watch_laws.specs.Moments.{IsDueAt, dues_of, moments}
use Rattle.check_watch_laws.specs.Rules.{KeepsRules, IsCompliant, AreCompliant}
use Rattle.check_watch_laws.specs.Whenever.{IsDoneWhenever, AreFresh}
use Rattle.check_watch_laws.proofs.Back.{rules_make_lawful}
use Rattle.check_watch_laws.proofs.Crossing.{crossing}
use Rattle.check_watch_laws.proofs.Orders.{done_of_due}
use Rattle.check_watch_laws.proofs.Sequential.{due_at}
use Rattle.check_watch_laws.proofs.Turned.{messages}
use Rattle.check_watch_laws.proofs.Whenever.{whenever_is_due}
use Rattle.check_watch_laws.proofs.Whole.{all_compliant}
use Rattle.check_order_laws.specs.Looser.{IsSameOrAny, IsLooser, AreSoundSlaves, HaveByteLanes}
use Rattle.check_order_laws.proofs.Same.{same_plan, same_messages, same_crossing}
use Rattle.check_order_laws.proofs.Whenever.{accept_done, reply_done}

-- ---- what is seen

pub earlier_watched : (layout : Layout) (later earlier : List Sighting) → AreWatched layout (later ++ earlier)
    → AreWatched layout earlier
earlier_watched layout [] earlier are = are
earlier_watched layout (x ∷ later) earlier are = earlier_watched layout later earlier are.1

earlier_bytes : (later earlier : List Sighting) → HaveByteLanes (later ++ earlier) → HaveByteLanes earlier
earlier_bytes [] earlier have = have
earlier_bytes (x ∷ later) earlier have = earlier_bytes later earlier have.1

pub same_lanes : (loose strict : PortSlave) → IsSameOrAny loose strict → may_be_unknown loose ≡ may_be_unknown strict
same_lanes loose strict (inl is) = ap (λ (s : PortSlave). may_be_unknown s) is
same_lanes loose strict (inr is) = ap (λ (s : PortSlave). may_be_unknown s) is

module _ (plan : Plan) (before after : List PortSlave) where
  abbrev one : Plan
  one = record plan { resets = before }

  abbrev other : Plan
  other = record plan { resets = after }

  pub same_seen : ((port : ℕ) → may_be_unknown (reset_of one port) ≡ may_be_unknown (reset_of other port))
      → (past : List Sighting) → AreCompliant one past → AreCompliant other past
  same_seen lanes [] seen = tt
  same_seen lanes (x ∷ past) seen = (same_seen lanes past seen.0, go x.beat seen.1)
    where
      go : (beat : Beat) → IsCompliant one past (record x { beat = beat }) beat
          → IsCompliant other past (record x { beat = beat }) beat
      go (A beat) was = was
      go (D beat) was = (
        was.0,
        λ sent next. subst (λ b. HasKnownLanes (bus_of plan.layout x.link) b sent.ask beat x.known)
            (lanes (port_for plan x.link sent.ask)) (was.1 sent next),
      )

  -- what is due at a port whose slave is the same
  pub same_due : (past : List Sighting) (port : ℕ) → reset_of other port ≡ reset_of one port
      → (history : List (Sent × Pattern)) × IsDueAt one past port history
      → (history : List (Sent × Pattern)) × IsDueAt other past port history
  same_due past port same due = (
    due.0,
    record {
      dues = due.1.dues ∙ ap (λ (s : PortSlave). dues_of port s (moments plan port past)) (sym same);
      captured = due.1.captured;
    },
  )

  same_done : (past : List Sighting) (port : ℕ) (slave : Slave) (all : List SlaveMoment)
      → (reset_of other port).kept ≡ (reset_of one port).kept
      → IsDoneWhenever one past port slave all → IsDoneWhenever other past port slave all
  same_done past port slave all same done = record {
    reset = subst (λ k. IsBelowAtReset k slave) (sym same) done.reset;
    may_come = done.may_come;
    seen = done.seen;
    captured = done.captured;
  }

  -- the rules, by what is due at each port
  pub rules_by_dues : (past : List Sighting) → IsPlan one → AreWatched plan.layout past → IsLawfulGroup one past
      → ((port : ℕ) → (history : List (Sent × Pattern)) × IsDueAt other past port history)
      → KeepsRules other past
  rules_by_dues past is watched lawful dues = record {
    messages = same_messages plan before after past (messages one past watched lawful);
    memories = λ port known.
        let due = dues port in
        (due.0, done_of_due other past port due.0 known due.1);
    any_orders = λ port any. dues port;
    crossings = λ both wide. same_crossing plan before after past wide (crossing one past is both watched lawful wide);
  }

  module _ (looser : (port : ℕ) → IsSameOrAny (reset_of other port) (reset_of one port)) (fresh : AreFresh one)
      (sound : AreSoundSlaves one) where
    -- nobody knows the order of a port where it was known
    any_due : (past : List Sighting) → AreWatched plan.layout past → HaveByteLanes past → IsLawfulGroup one past
        → (port : ℕ) → reset_of other port ≡ record (reset_of one port) { order = Any }
        → (history : List (Sent × Pattern)) × IsDueAt other past port history
    any_due past watched bytes lawful port is = go (order_at one port) refl
      where
        any : order_at other port ≡ Any
        any = ap (λ (s : PortSlave). s.order) is

        none : (reset_of other port).contests ≡ []
        none = ap (λ (s : PortSlave). s.contests) is ∙ fresh port

        done_so : (all : List SlaveMoment) → IsDoneWhenever one past port (reset_of one port).kept all
            → (history : List (Sent × Pattern)) × IsDueAt other past port history
        done_so all done =
            whenever_is_due other past port (reset_of one port).kept all any none
            (same_done past port (reset_of one port).kept all (ap (λ (s : PortSlave). s.kept) is) done)

        go : (order : Order) → order_at one port ≡ order
            → (history : List (Sent × Pattern)) × IsDueAt other past port history
        go Accept order = done_so _ (accept_done one past watched lawful port bytes (sound port) order)
        go Reply order = done_so _ (reply_done one past watched lawful port bytes (sound port) order)
        go Any order =
            same_due past port (is ∙ ap (λ o. record (reset_of one port) { order = o }) (sym order))
            (due_at one past watched lawful port)

    looser_due : (past : List Sighting) → AreWatched plan.layout past → HaveByteLanes past → IsLawfulGroup one past
        → (port : ℕ) → IsSameOrAny (reset_of other port) (reset_of one port)
        → (history : List (Sent × Pattern)) × IsDueAt other past port history
    looser_due past watched bytes lawful port (inl is) = same_due past port is (due_at one past watched lawful port)
    looser_due past watched bytes lawful port (inr is) = any_due past watched bytes lawful port is

    pub loosened : (past : List Sighting) → IsPlan one → AreWatched plan.layout past → HaveByteLanes past
        → IsLawfulGroup one past → IsLawfulGroup other past
    loosened past is watched bytes lawful =
        rules_make_lawful other past (same_plan plan before after is) watched
        (same_seen (λ port. sym (same_lanes (reset_of other port) (reset_of one port) (looser port))) past
        (all_compliant one past lawful))
        (λ later earlier so.
        let watched' = earlier_watched plan.layout later earlier
        (subst (λ l. AreWatched plan.layout l) (sym so) watched) in
        let bytes' = earlier_bytes later earlier (subst (λ l. HaveByteLanes l) (sym so) bytes) in
        let lawful' = earlier_is_lawful one later earlier (subst (λ l. IsLawfulGroup one l) (sym so) lawful) in
        rules_by_dues earlier is watched' lawful' (λ port.
        looser_due earlier watched' bytes' lawful' port (looser port)))

pub any_is_looser : (loose strict : Plan) (past : List Sighting) → IsLooser loose strict → IsPlan strict → AreFresh strict
    → AreSoundSlaves strict → AreWatched strict.layout past → HaveByteLanes past → IsLawfulGroup strict past
    → IsLawfulGroup loose past
any_is_looser loose strict past looser is fresh sound watched bytes lawful =
    subst (λ p. IsLawfulGroup p past) (sym looser.same)
    (loosened strict strict.resets loose.resets looser.slaves fresh sound past is watched bytes lawful)

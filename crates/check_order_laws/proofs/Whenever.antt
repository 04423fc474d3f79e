-- A slave whose order is known does its requests at moments that a slave may have whose order nobody knows.
use Rattle.std.proofs.Common.{◌≡◌, ◌∙◌, ℕ, List, [], ◌++◌, length, Option, Some, None, refl, ap, sym, subst, arith, append-nil}
use Rattle.std.proofs.lemmas.Bool.{eq-eqb}
use Rattle.check_cells.specs.Sent.{Sent}
use Rattle.check_cells.specs.Pattern.{Pattern}
use Rattle.check_contests.specs.Laws.{IsBelowAtReset}
use Rattle.check_contests.specs.Moments.{untouched}
use Rattle.check_contests.specs.Moments.Course.{Idle as CourseIdle}
use Rattle.check_memory.proofs.Unknown.{known_where}
use Rattle.check_memory.specs.Partial.{is_volatile}
use Rattle.check_memory.specs.declared.slave.Slave.{Slave}
use Rattle.check_memory.specs.declared.slave.Slave.TheVariants.{Memory, Device}
use Rattle.check_flight.specs.declared.order.Order.TheVariants.{Accept, Reply}
use Rattle.check_flight.specs.Flight.{Flight}
use Rattle.check_watch.specs.Lawful.{IsLawfulGroup}
use Rattle.check_watch.specs.Past.{state}
use Rattle.check_watch.specs.Plan.{Plan, Sighting, LinkSide}
use Rattle.check_watch_laws.specs.Crossed.{AreWatched}
use Rattle.check_watch_laws.specs.Memories.{AreEntries, entries_of, exchanges_at, order_at, port_for, reset_of, side_for}
use Rattle.check_watch_laws.specs.Moments.{moments}
use Rattle.check_watch_laws.specs.Whenever.{given_in, IsDoneWhenever}
use Rattle.check_watch_laws.proofs.Memory.{owed, history_at}
use Rattle.check_watch_laws.proofs.Sequential.{due_at}
use Rattle.check_watch_laws.proofs.Telling.{are_told}
use Rattle.check_watch_laws.proofs.Told.{matched_but_one}
use Rattle.check_watch_laws.proofs.Turns.{link_on}
use Rattle.check_order_laws.specs.Looser.{IsSoundSlave, HaveByteLanes}
use Rattle.check_order_laws.proofs.InTurn.{none_open, open_after}
use Rattle.check_order_laws.proofs.Turning.{are_open, come_in_turn}
use Rattle.check_order_laws.proofs.Effects.{with_effects}
use Rattle.check_order_laws.proofs.ReplyEffects as reply
use Rattle.check_order_laws.proofs.AcceptEffects as accept
use Rattle.check_order_laws.proofs.Carried.{are_carried}
use Rattle.check_order_laws.proofs.DueSoon.{IsDueSoon, are_due_soon}
use Rattle.check_order_laws.proofs.Fronts.{same_front}
use Rattle.check_order_laws.proofs.Asked.{asked_if_open, one_owed}

-- a slave says no more than itself
pub below_itself : (slave : Slave) → IsSoundSlave slave → IsBelowAtReset slave slave
below_itself (Memory memory) sound = record {
  same = refl;
  below = record { counted = refl; kept = λ place byte is. is };
  within = sound.within;
  bytes = λ clears place byte is.
      sound.bytes clears place byte (known_where (is_volatile memory) memory.cells place byte is).1;
}
below_itself Device sound = tt

-- ---- at a port

module _ (plan : Plan) (past : List Sighting) (watched : AreWatched plan.layout past) (lawful : IsLawfulGroup plan past)
    (port : ℕ) where
  abbrev side : LinkSide
  side = side_for plan.layout port

  abbrev dues : List (Sent × Pattern)
  dues = history_at plan port past

  captured_due : (wide : ℕ) → AreEntries wide (exchanges_at plan port wide past) (entries_of wide dues)
  captured_due wide =
      let due = due_at plan past watched lawful port in
      subst (λ l. AreEntries wide (exchanges_at plan port wide past) (entries_of wide l)) due.1.dues (due.1.captured wide)

  -- what was captured fits what the slave gave, if it fits what is due, and one that is not answered is left out
  accept_captured : order_at plan port ≡ Accept → (wide : ℕ) (given : List (Sent × Pattern))
      → accept.GivesBut wide CourseIdle dues given (open_after none_open (moments plan port past) wide)
      → AreEntries wide (exchanges_at plan port wide past) (entries_of wide given)
  accept_captured order wide given gives = go (open_after none_open (moments plan port past) wide) refl
    where
      flight : Flight
      flight = (state plan past).flights side wide

      go : (left : Option Sent) → open_after none_open (moments plan port past) wide ≡ left
          → AreEntries wide (exchanges_at plan port wide past) (entries_of wide given)
      go None is =
          subst (λ l. AreEntries wide (exchanges_at plan port wide past) l)
          (gives.is ∙ ap (λ l. entries_of wide given ++ l) (gives.none is) ∙ append-nil (entries_of wide given))
          (captured_due wide)
      go (Some ask) is =
          let at = asked_if_open plan (state plan past) port wide side flight.turn ask
          (sym (are_open plan past watched lawful port wide) ∙ is) in
          let told = are_told plan past watched lawful port wide in
          let soon = subst (λ t. IsDueSoon plan side t flight.due) at.turn_is
          (are_due_soon plan past watched lawful side wide) in
          let one : length (owed plan port wide side flight.turn flight.due) ≡ 1 =
          ap (λ t. length (owed plan port wide side t flight.due)) at.turn_is
          ∙ one_owed plan port wide side at.number ask flight.due
          (eq-eqb (port_for plan (link_on side at.number) ask.ask) port at.goes)
          (soon (ap (λ p. side_for plan.layout p) (sym at.goes)) (ap (λ p. order_at plan p) at.goes ∙ order)) in
          let same : entries_of wide given ≡ told.front =
          same_front (entries_of wide given) told.front gives.rest (owed plan port wide side flight.turn flight.due)
          (gives.some ask is) one (sym gives.is ∙ told.entries_are) in
          subst (λ l. AreEntries wide (exchanges_at plan port wide past) l) (append-nil told.front ∙ sym same)
          (matched_but_one wide (exchanges_at plan port wide past) told.front [] told.matched (omega arith))

  pub accept_done : HaveByteLanes past → IsSoundSlave (reset_of plan port).kept → order_at plan port ≡ Accept
      → IsDoneWhenever plan past port (reset_of plan port).kept (with_effects Accept (moments plan port past))
  accept_done bytes sound order =
      let reset = reset_of plan port in
      let all = accept.all_given port (moments plan port past) none_open reset (untouched reset.kept) order refl
      (λ wide. refl) (come_in_turn plan past watched lawful port) (are_carried plan past watched lawful bytes port) in
      record {
        reset = below_itself reset.kept sound;
        may_come = all.may;
        seen = all.shows;
        captured = λ wide. accept_captured order wide
            (given_in (untouched reset.kept) (with_effects Accept (moments plan port past))) (all.gives wide);
      }

  pub reply_done : HaveByteLanes past → IsSoundSlave (reset_of plan port).kept → order_at plan port ≡ Reply
      → IsDoneWhenever plan past port (reset_of plan port).kept (with_effects Reply (moments plan port past))
  reply_done bytes sound order =
      let reset = reset_of plan port in
      let all = reply.all_given port (moments plan port past) none_open reset (untouched reset.kept) order refl
      (λ wide. refl) (come_in_turn plan past watched lawful port) (are_carried plan past watched lawful bytes port) in
      record {
        reset = below_itself reset.kept sound;
        may_come = all.may;
        seen = all.shows;
        captured = λ wide. subst (λ l. AreEntries wide (exchanges_at plan port wide past) (entries_of wide l))
            (sym all.gives) (captured_due wide);
      }

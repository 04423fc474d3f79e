-- What lawful beats say of slaves.
use Rattle.std.proofs.Common.{◌≡◌, ◌≢◌, ◌∙◌, ℕ, ◌≤◌, Bool, true, false, if◌then◌else◌, List, [], ◌∷◌, length, Option, Some, None, refl, sym, subst, arith}
use Rattle.std.specs.Prelude.{◌==◌}
use Rattle.check_cells.specs.Sent.{Sent}
use Rattle.check_cells.specs.Pattern.{Pattern}
use Rattle.check_flight.specs.declared.answer.Answer.{Answer}
use Rattle.check_flight.specs.declared.order.Order.TheVariants.{Any}
use Rattle.check_flight.specs.Flight.{Turn}
use Rattle.check_flight.specs.Flight.Turn.{Idle, Asking, Asked}
use Rattle.check_watch.specs.Lawful.{IsLawfulGroup}
use Rattle.check_watch.specs.Past.{state}
use Rattle.check_watch.specs.Plan.{Plan, Sighting, LinkSide}
use Rattle.check_watch_laws.specs.Crossed.{AreWatched}
use Rattle.check_watch_laws.specs.Memories.{side_for, port_for, order_at, asks_done, replay_slave, reset_of, IsDoneAt, AreEntries, exchanges_at, with_source}
use Rattle.check_watch_laws.specs.Moments.{IsDueAt}
use Rattle.check_watch_laws.proofs.Done.{are_replayed}
use Rattle.check_watch_laws.proofs.Turns.{link_on}
use Rattle.check_watch_laws.proofs.Told.{matched_but_one}
use Rattle.check_watch_laws.proofs.Memory.{owed, history_at}
use Rattle.check_watch_laws.proofs.Orders.{done_of_due, slave_is_replayed}
use Rattle.check_watch_laws.proofs.Telling.{are_told}

few_owed : (plan : Plan) (port wide : ℕ) (side : LinkSide) (turn : Turn) (due : Option Answer)
    → length (owed plan port wide side turn due) ≤ 1
few_owed plan port wide side Idle due = omega arith
few_owed plan port wide side (Asking n) due = omega arith
few_owed plan port wide side (Asked n ask) None = omega arith
few_owed plan port wide side (Asked n ask) (Some answer) = go (port_for plan (link_on side n) ask.ask == port)
  where
    go : (here : Bool) → length {A = Sent × Pattern}
        (if here then (with_source wide ask, record answer.reply { source = wide }) ∷ [] else []) ≤ 1
    go true = omega arith
    go false = omega arith

pub due_at : (plan : Plan) (past : List Sighting) → AreWatched plan.layout past → IsLawfulGroup plan past → (port : ℕ)
    → (history : List (Sent × Pattern)) × IsDueAt plan past port history
due_at plan past watched lawful port = (
  history_at plan port past,
  record {
    dues = refl;
    captured = λ wide.
        let side = side_for plan.layout port in
        let flight = (state plan past).flights side wide in
        let so = are_told plan past watched lawful port wide in
        subst (λ l. AreEntries wide (exchanges_at plan port wide past) l) (sym so.entries_are)
        (matched_but_one wide (exchanges_at plan port wide past) so.front
        (owed plan port wide side flight.turn flight.due) so.matched
        (few_owed plan port wide side flight.turn flight.due));
  },
)

pub done_at : (plan : Plan) (past : List Sighting) → AreWatched plan.layout past → IsLawfulGroup plan past → (port : ℕ)
    → order_at plan port ≢ Any → (history : List (Sent × Pattern)) × IsDoneAt plan past port history
done_at plan past watched lawful port known =
    let due = due_at plan past watched lawful port in
    (due.0, done_of_due plan past port due.0 known due.1)

-- what the judge keeps of the slave is what these requests leave
pub kept_at : (plan : Plan) (past : List Sighting) → AreWatched plan.layout past → IsLawfulGroup plan past → (port : ℕ)
    → order_at plan port ≢ Any
    → (state plan past).slaves port ≡ replay_slave (reset_of plan port) (asks_done plan port past)
kept_at plan past watched lawful port known =
    are_replayed plan past watched lawful port ∙ slave_is_replayed plan port past known

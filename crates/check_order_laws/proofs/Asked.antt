-- A request that is open at a port is in flight there, has ended, and has no beat of a reply.
use Rattle.std.proofs.Common.{◌≡◌, ◌∙◌, ℕ, Bool, true, false, if◌then◌else◌, [], ◌∷◌, length, Option, Some, refl, ap, sym, eqb-true}
use Rattle.std.specs.Prelude.{◌==◌}
use Rattle.check_cells.specs.Sent.{Sent}
use Rattle.check_cells.specs.Pattern.{Pattern}
use Rattle.check_flight.specs.declared.answer.Answer.{Answer}
use Rattle.check_flight.specs.Flight.{Turn}
use Rattle.check_flight.specs.Flight.Turn.{Idle, Asking, Asked}
use Rattle.check_watch.specs.Past.{State}
use Rattle.check_watch.specs.Plan.{Plan, LinkSide, side_of, link_number}
use Rattle.check_watch_laws.specs.Memories.{with_source, port_for}
use Rattle.check_watch_laws.proofs.Memory.{owed}
use Rattle.check_watch_laws.proofs.Turns.{link_on}
use Rattle.check_order_laws.proofs.Openings.{open_if, open_in, replies_to}

-- it is in flight, ended, and of this port
pub record IsAskedAt (plan : Plan) (s : State) (port wide : ℕ) (side : LinkSide) (turn : Turn) (ask : Sent) : Type 0 where
  pub number : ℕ
  pub turn_is : turn ≡ Asked number ask
  pub goes : port_for plan (link_on side number) ask.ask ≡ port
  pub unanswered : replies_to plan (link_on side number) wide
      (s.links (side_of (link_on side number)) (link_number (link_on side number))).replying ≡ false

open_only : (here replying : Bool) (ask other : Sent) → open_if here replying ask ≡ Some other
    → (here ≡ true) × (replying ≡ false) × (ask ≡ other)
open_only true true ask other is = cc
open_only true false ask other is = let same : ask ≡ other = cc in (refl, refl, same)
open_only false replying ask other is = cc

pub asked_if_open : (plan : Plan) (s : State) (port wide : ℕ) (side : LinkSide) (turn : Turn) (ask : Sent)
    → open_in plan s port wide side turn ≡ Some ask → IsAskedAt plan s port wide side turn ask
asked_if_open plan s port wide side Idle ask is = cc
asked_if_open plan s port wide side (Asking n) ask is = cc
asked_if_open plan s port wide side (Asked n first) ask is =
    let so = open_only (port_for plan (link_on side n) first.ask == port)
    (replies_to plan (link_on side n) wide (s.links (side_of (link_on side n)) (link_number (link_on side n))).replying)
    first ask is in
    record {
      number = n;
      turn_is = ap (λ r. Asked n r) so.2;
      goes = ap (λ r. port_for plan (link_on side n) r.ask) (sym so.2)
          ∙ eqb-true (port_for plan (link_on side n) first.ask) port so.0;
      unanswered = so.1;
    }

-- if its reply is known to have to fit something, that is owed
pub one_owed : (plan : Plan) (port wide : ℕ) (side : LinkSide) (number : ℕ) (ask : Sent) (due : Option Answer)
    → (port_for plan (link_on side number) ask.ask == port) ≡ true → (answer : Answer) × (due ≡ Some answer)
    → length (owed plan port wide side (Asked number ask) due) ≡ 1
one_owed plan port wide side number ask due here has =
    ap (λ d. length (owed plan port wide side (Asked number ask) d)) has.1
    ∙ ap (λ b. length {A = Sent × Pattern}
    (if b then (with_source wide ask, record (has.0).reply { source = wide }) ∷ [] else [])) here

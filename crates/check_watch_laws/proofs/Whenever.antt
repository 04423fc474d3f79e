-- What is due of a port's replies is no more than what a slave replies that does each request at some moment after it is
-- accepted and before its reply begins.
use Rattle.std.proofs.Common.{◌≡◌, ◌∙◌, ℕ, ◌≤◌, Bool, true, false, if◌then◌else◌, List, [], ◌∷◌, ◌++◌, length, Option, refl, ap, sym, subst, arith}
use Rattle.std.specs.Prelude.{◌==◌}
use Rattle.check_cells.specs.Sent.{Sent}
use Rattle.check_cells.specs.Pattern.{Pattern, FitsPattern}
use Rattle.check_contests.specs.declared.accepted.Accepted.{Accepted}
use Rattle.check_contests.specs.Below.{IsBelowTruth}
use Rattle.check_contests.specs.Contests.{kept_answering}
use Rattle.check_contests.specs.Laws.{IsDueBelow}
use Rattle.check_contests.specs.Moments.{SlaveMoment, Course, Truth, IsServedCourse, IsWaiting, MayAllCome, truth_accepting, truth_answering, truth_serving, truth_taking, untouched}
use Rattle.check_contests.specs.Moments.SlaveMoment.{Accepts as SlaveAccepts, TakesEffect, Answers as SlaveAnswers}
use Rattle.check_contests.specs.Moments.Course.{Idle, Waiting, Served}
use Rattle.check_contests.proofs.AcceptedSlave.{accepting_keeps}
use Rattle.check_contests.proofs.Answering.{answering_keeps}
use Rattle.check_contests.proofs.Expected.{captured_through}
use Rattle.check_contests.proofs.Runs.{answer_is_due, reset_is_below}
use Rattle.check_contests.proofs.Serving.{serving_keeps}
use Rattle.check_memory.specs.declared.slave.Slave.{Slave}
use Rattle.check_flight.specs.declared.order.Order.TheVariants.{Any}
use Rattle.check_flight.specs.PortSlave.{PortSlave, accepted_by, answered_by, answer_of_kept, contested_by, due_accepted_by, due_answered_by}
use Rattle.check_watch.specs.Lawful.{IsLawfulGroup}
use Rattle.check_watch.specs.Plan.{Plan, IsPlan, Sighting}
use Rattle.check_watch_laws.specs.Crossed.{AskSeen, ReplySeen, AreWatched}
use Rattle.check_watch_laws.specs.Memories.{AreEntries, entries_of, exchanges_at, order_at, reset_of, with_source}
use Rattle.check_watch_laws.specs.Moments.{IsDueAt, RequestMoment, dues_of, entry_due, moments, slave_then}
use Rattle.check_watch_laws.specs.Moments.Act.{Accepts, Answers}
use Rattle.check_watch_laws.specs.Whenever.{AlwaysKeepsRulesWhenever, AreFresh, IsDoneWhenever, answer_given, given_in, seen_answer, seen_in}
use Rattle.check_watch_laws.specs.Rules.{AreCompliant}
use Rattle.check_watch_laws.proofs.Back.{rules_make_lawful}
use Rattle.check_watch_laws.proofs.Told.{dues_none, dues_cons}

-- ---- entries, one by one

-- the same request, and what is due says no more than what was given
pub record IsNoMore (due given : Sent × Pattern) : Type 0 where
  pub ask : due.0 ≡ given.0
  pub fits : FitsPattern due.1 given.1

abbrev AreNoMore : List (Sent × Pattern) → List (Sent × Pattern) → Type 0
AreNoMore [] [] = Unit {0}
AreNoMore [] (given ∷ more) = ⊥
AreNoMore (due ∷ dues) [] = ⊥
AreNoMore (due ∷ dues) (given ∷ more) = IsNoMore due given × AreNoMore dues more

-- so it is of one source
of_source : (wide : ℕ) (dues given : List (Sent × Pattern)) → AreNoMore dues given
    → AreNoMore (entries_of wide dues) (entries_of wide given)
of_source wide [] [] all = tt
of_source wide [] (g ∷ given) all = absurd all
of_source wide (d ∷ dues) [] all = absurd all
of_source wide (d ∷ dues) (g ∷ given) all =
    subst (λ b. AreNoMore (if b then d ∷ entries_of wide dues else entries_of wide dues)
    (if g.0.ask.source == wide then g ∷ entries_of wide given else entries_of wide given))
    (sym (ap (λ (r : Sent). r.ask.source == wide) all.0.ask))
    (go (g.0.ask.source == wide) (of_source wide dues given all.1))
  where
    go : (b : Bool) → AreNoMore (entries_of wide dues) (entries_of wide given)
        → AreNoMore (if b then d ∷ entries_of wide dues else entries_of wide dues)
        (if b then g ∷ entries_of wide given else entries_of wide given)
    go true rest = (all.0, rest)
    go false rest = rest

-- a source does not matter, if both have it
fits_with : (due given : Pattern) (source : ℕ) → FitsPattern due given
    → FitsPattern (record due { source = source }) (record given { source = source })
fits_with due given source fits = record {
  op_is = fits.op_is;
  size_is = fits.size_is;
  source_is = refl;
  denied_is = fits.denied_is;
  counted = fits.counted;
  bytes_fit = fits.bytes_fit;
}

few : (dues given : List (Sent × Pattern)) → AreNoMore dues given → length given ≤ 1 → length dues ≤ 1
few [] given all one = omega arith
few (d ∷ []) given all one = omega arith
few (d ∷ e ∷ dues) [] all one = absurd all
few (d ∷ e ∷ dues) (g ∷ []) all one = absurd all.1
few (d ∷ e ∷ dues) (g ∷ h ∷ given) all one = absurd (omega (arith, one))

-- what was captured fits what is due, if it fits what was given
entries_due : (wide : ℕ) (seen : List (AskSeen × ReplySeen)) (dues given : List (Sent × Pattern))
    → AreNoMore dues given → AreEntries wide seen given → AreEntries wide seen dues
entries_due wide [] dues given all are = few dues given all are
entries_due wide (x ∷ seen) [] [] all are = are
entries_due wide (x ∷ seen) [] (g ∷ given) all are = absurd all
entries_due wide (x ∷ seen) (d ∷ dues) [] all are = absurd all
entries_due wide (x ∷ seen) (d ∷ dues) (g ∷ given) all are = (
  record {
    ask = all.0.ask ∙ are.0.ask;
    fits = captured_through (record d.1 { source = x.0.sent.ask.source }) (record g.1 { source = x.0.sent.ask.source })
        (x.1.reply x.0.sent.ask.address) (fits_with d.1 g.1 x.0.sent.ask.source all.0.fits) are.0.fits;
  },
  entries_due wide seen dues given all.1 are.1,
)

-- ---- moment by moment

-- what is due of what is seen later is no more than what is given later
abbrev LaterIsNoMore : ℕ → List SlaveMoment → Type 0
LaterIsNoMore port later =
    (slave : PortSlave) (truth : Truth) → slave.order ≡ Any → IsBelowTruth slave.kept slave.contests truth
    → MayAllCome truth later → AreNoMore (dues_of port slave (seen_in truth later)) (given_in truth later)

module _ (port : ℕ) (later : List SlaveMoment) (rest : LaterIsNoMore port later) (slave : PortSlave) (truth : Truth)
    (any : slave.order ≡ Any) (below : IsBelowTruth slave.kept slave.contests truth) (wide : ℕ) where
  accepts : (ask : Sent) → IsBelowTruth (contested_by slave wide ask).kept (contested_by slave wide ask).contests
      (truth_accepting truth wide ask) → MayAllCome (truth_accepting truth wide ask) later
      → AreNoMore (dues_of port slave (record { act = Accepts; wide = wide; sent = ask }
      ∷ seen_in (truth_accepting truth wide ask) later))
      (given_in (truth_accepting truth wide ask) later)
  accepts ask kept may =
      let here : RequestMoment = record { act = Accepts; wide = wide; sent = ask } in
      let after = truth_accepting truth wide ask in
      let seen = seen_in after later in
      let is : dues_of port slave (here ∷ seen) ≡ dues_of port (contested_by slave wide ask) seen =
      dues_cons port slave here seen
      ∙ ap (λ o. entry_due wide ask (due_accepted_by o port slave ask) ++ dues_of port (slave_then slave here) seen) any
      ∙ ap (λ o. dues_of port (accepted_by o slave wide ask) seen) any in
      subst (λ l. AreNoMore l (given_in after later)) (sym is) (rest (contested_by slave wide ask) after any kept may)

  takes_effect : (course : Course) → truth.course wide ≡ course → IsWaiting course
      → MayAllCome (truth_taking truth wide course) later
      → AreNoMore (dues_of port slave (seen_in (truth_taking truth wide course) later))
      (given_in (truth_taking truth wide course) later)
  takes_effect Idle at waits may = absurd waits
  takes_effect (Waiting ask) at waits may =
      rest slave (truth_serving truth wide ask) any
      (serving_keeps slave.kept slave.contests truth wide ask below at) may
  takes_effect (Served ask reply) at waits may = absurd waits

  answers : (ask : Sent) (reply : Pattern) → truth.course wide ≡ Served ask reply
      → MayAllCome (truth_answering truth wide) later
      → AreNoMore (dues_of port slave (record { act = Answers; wide = wide; sent = ask }
      ∷ seen_in (truth_answering truth wide) later))
      ((with_source wide ask, record reply { source = wide }) ∷ given_in (truth_answering truth wide) later)
  answers ask reply at may =
      let here : RequestMoment = record { act = Answers; wide = wide; sent = ask } in
      let after = truth_answering truth wide in
      let seen = seen_in after later in
      let left : PortSlave = record slave { contests = kept_answering slave.contests wide } in
      let due : IsDueBelow slave.contests wide ask.ask reply =
      answer_is_due slave.kept slave.contests truth wide ask reply below at in
      let is : dues_of port slave (here ∷ seen)
      ≡ (with_source wide ask, record due.entry.due { source = wide }) ∷ dues_of port left seen =
      dues_cons port slave here seen
      ∙ ap (λ o. entry_due wide ask (due_answered_by o port slave wide ask) ++ dues_of port (slave_then slave here) seen)
      any
      ∙ ap (λ (k : Option Accepted). entry_due wide ask (answer_of_kept port ask k)
      ++ dues_of port (slave_then slave here) seen) due.kept_as
      ∙ ap (λ o. (with_source wide ask, record due.entry.due { source = wide })
      ∷ dues_of port (answered_by o slave wide ask) seen) any in
      subst (λ l. AreNoMore l
      ((with_source wide ask, record reply { source = wide }) ∷ given_in after later)) (sym is) (
        record { ask = refl; fits = fits_with due.entry.due reply wide due.fits },
        rest left after any (answering_keeps slave.kept slave.contests truth wide ask reply below at) may,
      )

  answers_if : (course : Course) → truth.course wide ≡ course → IsServedCourse course
      → MayAllCome (truth_answering truth wide) later
      → AreNoMore (dues_of port slave (seen_answer wide course ++ seen_in (truth_answering truth wide) later))
      (answer_given wide course ++ given_in (truth_answering truth wide) later)
  answers_if Idle at served may = absurd served
  answers_if (Waiting ask) at served may = absurd served
  answers_if (Served ask reply) at served may = answers ask reply at may

all_no_more : (port : ℕ) (all : List SlaveMoment) → LaterIsNoMore port all
all_no_more port [] slave truth any below may =
    subst (λ l. AreNoMore l []) (sym (dues_none port slave)) tt
all_no_more port (SlaveAccepts wide ask ∷ later) slave truth any below may =
    accepts port later (all_no_more port later) slave truth any below wide ask
    (accepting_keeps slave.kept slave.contests truth wide slave.served ask below may.0.0 may.0.1) may.1
all_no_more port (TakesEffect wide ∷ later) slave truth any below may =
    takes_effect port later (all_no_more port later) slave truth any below wide (truth.course wide) refl may.0 may.1
all_no_more port (SlaveAnswers wide ∷ later) slave truth any below may =
    answers_if port later (all_no_more port later) slave truth any below wide (truth.course wide) refl may.0 may.1

-- ---- at a port

pub whenever_is_due : (plan : Plan) (past : List Sighting) (port : ℕ) (slave : Slave) (all : List SlaveMoment)
    → order_at plan port ≡ Any → (reset_of plan port).contests ≡ [] → IsDoneWhenever plan past port slave all
    → (history : List (Sent × Pattern)) × IsDueAt plan past port history
whenever_is_due plan past port slave all any fresh done =
    let reset = reset_of plan port in
    let below : IsBelowTruth reset.kept reset.contests (untouched slave) =
    subst (λ (k : List Accepted). IsBelowTruth reset.kept k (untouched slave)) (sym fresh)
    (reset_is_below reset.kept slave done.reset) in
    let no_more : AreNoMore (dues_of port reset (moments plan port past)) (given_in (untouched slave) all) =
    subst (λ l. AreNoMore (dues_of port reset l) (given_in (untouched slave) all)) done.seen
    (all_no_more port all reset (untouched slave) any below done.may_come) in (
      dues_of port reset (moments plan port past),
      record {
        dues = refl;
        captured = λ wide. entries_due wide (exchanges_at plan port wide past)
            (entries_of wide (dues_of port reset (moments plan port past)))
            (entries_of wide (given_in (untouched slave) all))
            (of_source wide (dues_of port reset (moments plan port past)) (given_in (untouched slave) all) no_more)
            (done.captured wide);
      },
    )

-- ---- all beats

pub whenever_is_lawful : (plan : Plan) (past : List Sighting) → IsPlan plan → AreFresh plan
    → AreWatched plan.layout past → AreCompliant plan past → AlwaysKeepsRulesWhenever plan past → IsLawfulGroup plan past
whenever_is_lawful plan past is fresh watched seen always =
    rules_make_lawful plan past is watched seen (λ later earlier so.
    let rules = always later earlier so in
    record {
      messages = rules.messages;
      memories = rules.memories;
      any_orders = λ port any.
          let done = rules.any_orders port any in
          whenever_is_due plan earlier port done.0 done.1 any (fresh port) done.2;
      crossings = rules.crossings;
    })

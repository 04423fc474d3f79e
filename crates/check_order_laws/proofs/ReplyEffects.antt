-- A slave of which requests take effect as they are answered: what is due of its replies is what it gives, if each takes
-- effect right before it is answered.
use Rattle.std.proofs.Common.{◌≡◌, ◌∙◌, ℕ, List, [], ◌∷◌, ◌++◌, Option, refl, ap, sym, subst}
use Rattle.check_cells.specs.Sent.{Sent}
use Rattle.check_cells.specs.Pattern.{Pattern}
use Rattle.check_contests.specs.Moments.{SlaveMoment, Truth, IsWaiting, IsServedCourse, MayAllCome, truth_accepting, truth_answering, truth_serving, truth_taking}
use Rattle.check_contests.specs.Moments.SlaveMoment.{Accepts as SlaveAccepts, TakesEffect, Answers as SlaveAnswers}
use Rattle.check_contests.specs.Moments.Course.{Idle, Waiting, Served}
use Rattle.check_contests.proofs.Courses.{course-here}
use Rattle.check_contests.specs.Sent.{slave_after_sent, expected_of_sent}
use Rattle.check_flight.specs.declared.order.Order.TheVariants.{Reply}
use Rattle.check_flight.specs.PortSlave.{PortSlave, accepted_by, answered_by, due_accepted_by, due_answered_by, served_by}
use Rattle.check_watch_laws.specs.Moments.{Act, RequestMoment, dues_of, entry_due, slave_then}
use Rattle.check_watch_laws.specs.Moments.Act.{Accepts, Answers}
use Rattle.check_watch_laws.specs.Whenever.{answer_given, given_in, seen_answer, seen_in}
use Rattle.check_watch_laws.proofs.Told.{dues_none, dues_cons}
use Rattle.check_order_laws.proofs.InTurn.{open_then, open_here, IsInTurn, AreInTurn}
use Rattle.check_order_laws.proofs.Effects.{with_effects, AreCarried, CarriedBy, carried_at, HasCourse, HaveCourses, courses_then, courses_over, idle_at, waiting_at, one_entry}

-- these moments of the slave may come, they show the port's, and give what is due
pub record GivesAll (port : ℕ) (slave : PortSlave) (truth : Truth) (seen : List RequestMoment) (all : List SlaveMoment)
    : Type 0 where
  pub may : MayAllCome truth all
  pub shows : seen_in truth all ≡ seen
  pub gives : given_in truth all ≡ dues_of port slave seen

module _ (port : ℕ) (slave : PortSlave) (truth : Truth) (order : slave.order ≡ Reply) (same : truth.slave ≡ slave.kept)
    (wide : ℕ) (ask : Sent) (moments : List RequestMoment) (later : List SlaveMoment) where
  abbrev accepted : RequestMoment
  accepted = record { act = Accepts; wide = wide; sent = ask }

  abbrev answered : RequestMoment
  answered = record { act = Answers; wide = wide; sent = ask }

  accepts : truth.course wide ≡ Idle → CarriedBy Accepts ask
      → GivesAll port slave (truth_accepting truth wide ask) moments later
      → GivesAll port slave truth (accepted ∷ moments) (SlaveAccepts wide ask ∷ later)
  accepts idle carried rest = record {
    may = ((idle, carried_at truth.slave ask.ask carried), rest.may);
    shows = ap (λ l. accepted ∷ l) rest.shows;
    gives = rest.gives ∙ sym (dues_cons port slave accepted moments
        ∙ ap (λ o. entry_due wide ask (due_accepted_by o port slave ask)
        ++ dues_of port (slave_then slave accepted) moments) order
        ∙ ap (λ o. dues_of port (accepted_by o slave wide ask) moments) order);
  }

  abbrev expected : Pattern
  expected = expected_of_sent truth.slave ask

  abbrev serves : Truth
  serves = truth_serving truth wide ask

  answers : truth.course wide ≡ Waiting ask
      → GivesAll port (served_by slave ask) (truth_answering serves wide) moments later
      → GivesAll port slave truth (answered ∷ moments) (TakesEffect wide ∷ SlaveAnswers wide ∷ later)
  answers waits rest = record {
    may = subst (λ c. IsWaiting c × MayAllCome (truth_taking truth wide c) (SlaveAnswers wide ∷ later)) (sym waits)
        (tt, (subst (λ c. IsServedCourse c) (sym is_served) tt, rest.may));
    shows = ap (λ c. seen_in (truth_taking truth wide c) (SlaveAnswers wide ∷ later)) waits
        ∙ ap (λ c. seen_answer wide c ++ seen_in (truth_answering serves wide) later) is_served
        ∙ ap (λ l. answered ∷ l) rest.shows;
    gives = ap (λ c. given_in (truth_taking truth wide c) (SlaveAnswers wide ∷ later)) waits
        ∙ ap (λ c. answer_given wide c ++ given_in (truth_answering serves wide) later) is_served
        ∙ ap (λ l. one_entry wide ask expected ∷ l) rest.gives
        ∙ ap (λ k. one_entry wide ask (expected_of_sent k ask) ∷ dues_of port (served_by slave ask) moments) same
        ∙ sym (dues_cons port slave answered moments
        ∙ ap (λ o. entry_due wide ask (due_answered_by o port slave wide ask)
        ++ dues_of port (slave_then slave answered) moments) order
        ∙ ap (λ o. one_entry wide ask (expected_of_sent slave.kept ask)
        ∷ dues_of port (answered_by o slave wide ask) moments) order);
  }
    where
      is_served : serves.course wide ≡ Served ask expected
      is_served = course-here truth.course wide (Served ask expected)

-- so it is of all moments that come in turn
abbrev AllGiven : ℕ → List RequestMoment → Type 0
AllGiven port moments =
    (held : ℕ → Option Sent) (slave : PortSlave) (truth : Truth) → slave.order ≡ Reply → truth.slave ≡ slave.kept
    → HaveCourses Reply held truth.course → AreInTurn held moments → AreCarried moments
    → GivesAll port slave truth moments (with_effects Reply moments)

step : (port : ℕ) (moment : RequestMoment) (moments : List RequestMoment) → AllGiven port moments → AllGiven port (moment ∷ moments)
step port moment moments rest held slave truth order same courses turns carried =
    go moment.act turns.0 turns.1 carried.0
  where
    wide : ℕ
    wide = moment.wide

    ask : Sent
    ask = moment.sent

    go : (act : Act) → IsInTurn act ask (held wide) → AreInTurn (open_then held (record moment { act = act })) moments
        → CarriedBy act ask → GivesAll port slave truth (record moment { act = act } ∷ moments)
        (with_effects Reply (record moment { act = act } ∷ moments))
    go Accepts turn later bytes =
        let here : RequestMoment = record moment { act = Accepts } in
        accepts port slave truth order same wide ask moments (with_effects Reply moments)
        (idle_at Reply (held wide) (truth.course wide) (courses wide) turn) bytes
        (rest (open_then held here) slave (truth_accepting truth wide ask) order same
        (courses_then Reply held truth.course here (Waiting ask) courses
        (subst (λ o. HasCourse Reply o (Waiting ask)) (sym (open_here held here wide refl)) refl)) later carried.1)
    go Answers turn later bytes =
        let here : RequestMoment = record moment { act = Answers } in
        answers port slave truth order same wide ask moments (with_effects Reply moments)
        (waiting_at (held wide) (truth.course wide) ask (courses wide) turn)
        (rest (open_then held here) (served_by slave ask)
        (truth_answering (truth_serving truth wide ask) wide) order
        (ap (λ k. slave_after_sent k ask) same)
        (courses_over Reply (open_then held here) truth.course wide (Served ask (expected_of_sent truth.slave ask)) Idle
        (courses_then Reply held truth.course here Idle courses
        (subst (λ o. HasCourse Reply o Idle) (sym (open_here held here wide refl)) refl))) later carried.1)

pub all_given : (port : ℕ) (moments : List RequestMoment) → AllGiven port moments
all_given port [] held slave truth order same courses turns carried =
    record { may = tt; shows = refl; gives = sym (dues_none port slave) }
all_given port (moment ∷ moments) held slave truth order same courses turns carried =
    step port moment moments (all_given port moments) held slave truth order same courses turns carried

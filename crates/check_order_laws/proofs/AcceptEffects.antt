-- A slave of which requests take effect as they are accepted: what is due of its replies is what it gives, source by source,
-- if each takes effect right after it is accepted; but for one that is accepted and not answered.
use Rattle.std.proofs.Common.{◌≡◌, ◌∙◌, ⊎_elim, ℕ, List, [], ◌∷◌, ◌++◌, length, Option, Some, None, refl, ap, sym, subst, append-nil}
use Rattle.std.specs.Prelude.{◌≢◌}
use Rattle.std.proofs.lemmas.Bool.{cases_eq}
use Rattle.check_cells.specs.Sent.{Sent}
use Rattle.check_cells.specs.Pattern.{Pattern}
use Rattle.check_contests.specs.Moments.{SlaveMoment, Course, Truth, IsWaiting, IsServedCourse, MayAllCome, course_with, truth_accepting, truth_answering, truth_serving, truth_taking}
use Rattle.check_contests.specs.Moments.SlaveMoment.{Accepts as SlaveAccepts, TakesEffect, Answers as SlaveAnswers}
use Rattle.check_contests.specs.Moments.Course.{Idle, Waiting, Served}
use Rattle.check_contests.proofs.Courses.{course-here, course-there}
use Rattle.check_contests.specs.Sent.{slave_after_sent, expected_of_sent}
use Rattle.check_flight.specs.declared.order.Order.TheVariants.{Accept}
use Rattle.check_flight.specs.PortSlave.{PortSlave, accepted_by, answered_by, due_accepted_by, due_answered_by, served_by}
use Rattle.check_watch_laws.specs.Memories.{entries_of}
use Rattle.check_watch_laws.specs.Moments.{Act, RequestMoment, dues_of, entry_due, slave_then}
use Rattle.check_watch_laws.specs.Moments.Act.{Accepts, Answers}
use Rattle.check_watch_laws.specs.Whenever.{answer_given, given_in, seen_answer, seen_in}
use Rattle.check_watch_laws.proofs.Told.{dues_none, dues_cons}
use Rattle.check_order_laws.proofs.InTurn.{open_then, open_after, open_here, IsInTurn, AreInTurn}
use Rattle.check_order_laws.proofs.Effects.{with_effects, AreCarried, CarriedBy, carried_at, HasCourse, HaveCourses, courses_then, courses_over, idle_at, served_at, one_entry, entry_own, entry_other}

-- of one source: what was given before it is answered, and what is due later, is what is given later, and at most one more,
-- that of a request which is left open
pub record GivesBut (wide : ℕ) (course : Course) (dues given : List (Sent × Pattern)) (left : Option Sent)
    : Type 0 where
  pub rest : List (Sent × Pattern)
  pub is : answer_given wide course ++ entries_of wide dues ≡ entries_of wide given ++ rest
  pub none : left ≡ None → rest ≡ []
  pub some : (ask : Sent) → left ≡ Some ask → length rest ≡ 1

-- these moments of the slave may come, they show the port's, and give what is due
pub record GivesAll (port : ℕ) (held : ℕ → Option Sent) (slave : PortSlave) (truth : Truth) (seen : List RequestMoment)
    (all : List SlaveMoment) : Type 0 where
  pub may : MayAllCome truth all
  pub shows : seen_in truth all ≡ seen
  pub gives : (wide : ℕ)
      → GivesBut wide (truth.course wide) (dues_of port slave seen) (given_in truth all) (open_after held seen wide)

one_given : (wide : ℕ) (held : Option Sent) (course : Course) (ask : Sent) → HasCourse Accept held course
    → held ≡ Some ask → length (answer_given wide course) ≡ 1
one_given wide held course ask has left = ap (λ c. length (answer_given wide c)) (served_at held course ask has left).1

module _ (port : ℕ) (held : ℕ → Option Sent) (slave : PortSlave) (truth : Truth) (order : slave.order ≡ Accept)
    (same : truth.slave ≡ slave.kept) (wide : ℕ) (ask : Sent) (moments : List RequestMoment)
    (later : List SlaveMoment) where
  abbrev accepted : RequestMoment
  accepted = record { act = Accepts; wide = wide; sent = ask }

  abbrev answered : RequestMoment
  answered = record { act = Answers; wide = wide; sent = ask }

  abbrev expected : Pattern
  expected = expected_of_sent truth.slave ask

  abbrev accepts_it : Truth
  accepts_it = truth_accepting truth wide ask

  abbrev serves : Truth
  serves = truth_serving accepts_it wide ask

  -- what it is due at once, and later
  dues_accepting : dues_of port slave (accepted ∷ moments)
      ≡ one_entry wide ask expected ∷ dues_of port (served_by slave ask) moments
  dues_accepting =
      dues_cons port slave accepted moments
      ∙ ap (λ o. entry_due wide ask (due_accepted_by o port slave ask) ++ dues_of port (slave_then slave accepted) moments)
      order
      ∙ ap (λ o. one_entry wide ask (expected_of_sent slave.kept ask) ∷ dues_of port (accepted_by o slave wide ask) moments)
      order
      ∙ ap (λ k. one_entry wide ask (expected_of_sent k ask) ∷ dues_of port (served_by slave ask) moments) (sym same)

  dues_answering : dues_of port slave (answered ∷ moments) ≡ dues_of port slave moments
  dues_answering =
      dues_cons port slave answered moments
      ∙ ap (λ o. entry_due wide ask (due_answered_by o port slave wide ask)
      ++ dues_of port (slave_then slave answered) moments) order
      ∙ ap (λ o. dues_of port (answered_by o slave wide ask) moments) order

  accepts : truth.course wide ≡ Idle → CarriedBy Accepts ask
      → GivesAll port (open_then held accepted) (served_by slave ask) serves moments later
      → GivesAll port held slave truth (accepted ∷ moments) (SlaveAccepts wide ask ∷ TakesEffect wide ∷ later)
  accepts idle carried rest = record {
    may = (
      (idle, carried_at truth.slave ask.ask carried),
      subst (λ c. IsWaiting c × MayAllCome (truth_taking accepts_it wide c) later) (sym waits) (tt, rest.may),
    );
    shows = ap (λ c. accepted ∷ seen_in (truth_taking accepts_it wide c) later) waits ∙ ap (λ l. accepted ∷ l) rest.shows;
    gives = λ other.
        let was = rest.gives other in
        record {
          rest = was.rest;
          is = ap (λ l. answer_given other (truth.course other) ++ entries_of other l) dues_accepting
              ∙ front other ∙ was.is
              ∙ ap (λ c. entries_of other (given_in (truth_taking accepts_it wide c) later) ++ was.rest) (sym waits);
          none = was.none;
          some = was.some;
        };
  }
    where
      waits : accepts_it.course wide ≡ Waiting ask
      waits = course-here truth.course wide (Waiting ask)

      dues : List (Sent × Pattern)
      dues = dues_of port (served_by slave ask) moments

      front : (other : ℕ)
          → answer_given other (truth.course other) ++ entries_of other (one_entry wide ask expected ∷ dues)
          ≡ answer_given other (serves.course other) ++ entries_of other dues
      front other = ⊎_elim
          (λ (is : other ≡ wide). subst (λ w. answer_given w (truth.course w)
          ++ entries_of w (one_entry wide ask expected ∷ dues)
          ≡ answer_given w (serves.course w) ++ entries_of w dues) (sym is)
          (ap (λ c. answer_given wide c ++ entries_of wide (one_entry wide ask expected ∷ dues)) idle
          ∙ entry_own wide ask expected dues
          ∙ ap (λ c. answer_given wide c ++ entries_of wide dues)
          (sym (course-here accepts_it.course wide (Served ask expected)))))
          (λ (apart : other ≢ wide).
          ap (λ l. answer_given other (truth.course other) ++ l)
          (entry_other other wide ask expected dues (λ is. apart (sym is)))
          ∙ ap (λ c. answer_given other c ++ entries_of other dues)
          (sym (course-there accepts_it.course wide (Served ask expected) other apart
          ∙ course-there truth.course wide (Waiting ask) other apart)))
          (cases_eq other wide)

  answers : (reply : Pattern) → truth.course wide ≡ Served ask reply
      → GivesAll port (open_then held answered) slave (truth_answering truth wide) moments later
      → GivesAll port held slave truth (answered ∷ moments) (SlaveAnswers wide ∷ later)
  answers reply served rest = record {
    may = (subst (λ c. IsServedCourse c) (sym served) tt, rest.may);
    shows = ap (λ c. seen_answer wide c ++ seen_in after later) served ∙ ap (λ l. answered ∷ l) rest.shows;
    gives = λ other.
        let was = rest.gives other in
        record {
          rest = was.rest;
          is = ap (λ l. answer_given other (truth.course other) ++ entries_of other l) dues_answering
              ∙ both other was.rest was.is
              ∙ ap (λ c. entries_of other (answer_given wide c ++ given_in after later) ++ was.rest) (sym served);
          none = was.none;
          some = was.some;
        };
  }
    where
      after : Truth
      after = truth_answering truth wide

      dues : List (Sent × Pattern)
      dues = dues_of port slave moments

      given : List (Sent × Pattern)
      given = given_in (truth_answering truth wide) later

      both : (other : ℕ) (more : List (Sent × Pattern))
          → answer_given other (course_with truth.course wide Idle other) ++ entries_of other (dues_of port slave moments)
          ≡ entries_of other (given_in (truth_answering truth wide) later) ++ more
          → answer_given other (truth.course other) ++ entries_of other (dues_of port slave moments)
          ≡ entries_of other (one_entry wide ask reply ∷ given_in (truth_answering truth wide) later) ++ more
      both other more was = ⊎_elim
          (λ (is : other ≡ wide).
          subst (λ w. answer_given w (course_with truth.course wide Idle w) ++ entries_of w (dues_of port slave moments)
          ≡ entries_of w (given_in (truth_answering truth wide) later) ++ more
          → answer_given w (truth.course w) ++ entries_of w (dues_of port slave moments)
          ≡ entries_of w (one_entry wide ask reply ∷ given_in (truth_answering truth wide) later) ++ more) (sym is)
          (λ here. ap (λ c. answer_given wide c ++ entries_of wide (dues_of port slave moments)) served
          ∙ ap (λ l. one_entry wide ask reply ∷ l)
          (ap (λ c. answer_given wide c ++ entries_of wide (dues_of port slave moments))
          (sym (course-here truth.course wide Idle)) ∙ here)
          ∙ ap (λ l. l ++ more) (sym (entry_own wide ask reply (given_in (truth_answering truth wide) later))))
          was)
          (λ (apart : other ≢ wide).
          ap (λ c. answer_given other c ++ entries_of other (dues_of port slave moments))
          (sym (course-there truth.course wide Idle other apart))
          ∙ was
          ∙ ap (λ l. l ++ more) (sym (entry_other other wide ask reply
          (given_in (truth_answering truth wide) later) (λ is. apart (sym is)))))
          (cases_eq other wide)

-- so it is of all moments that come in turn
abbrev AllGiven : ℕ → List RequestMoment → Type 0
AllGiven port moments =
    (held : ℕ → Option Sent) (slave : PortSlave) (truth : Truth) → slave.order ≡ Accept → truth.slave ≡ slave.kept
    → HaveCourses Accept held truth.course → AreInTurn held moments → AreCarried moments
    → GivesAll port held slave truth moments (with_effects Accept moments)

step : (port : ℕ) (moment : RequestMoment) (moments : List RequestMoment) → AllGiven port moments → AllGiven port (moment ∷ moments)
step port moment moments rest held slave truth order same courses turns carried =
    go moment.act turns.0 turns.1 carried.0
  where
    wide : ℕ
    wide = moment.wide

    ask : Sent
    ask = moment.sent

    go : (act : Act) → IsInTurn act ask (held wide) → AreInTurn (open_then held (record moment { act = act })) moments
        → CarriedBy act ask → GivesAll port held slave truth (record moment { act = act } ∷ moments)
        (with_effects Accept (record moment { act = act } ∷ moments))
    go Accepts turn later bytes =
        let here : RequestMoment = record moment { act = Accepts } in
        let reply = expected_of_sent truth.slave ask in
        accepts port held slave truth order same wide ask moments (with_effects Accept moments)
        (idle_at Accept (held wide) (truth.course wide) (courses wide) turn) bytes
        (rest (open_then held here) (served_by slave ask)
        (truth_serving (truth_accepting truth wide ask) wide ask) order
        (ap (λ k. slave_after_sent k ask) same)
        (courses_over Accept (open_then held here) truth.course wide (Waiting ask) (Served ask reply)
        (courses_then Accept held truth.course here (Served ask reply) courses
        (subst (λ o. HasCourse Accept o (Served ask reply)) (sym (open_here held here wide refl)) (reply, refl))))
        later carried.1)
    go Answers turn later bytes =
        let here : RequestMoment = record moment { act = Answers } in
        let served = served_at (held wide) (truth.course wide) ask (courses wide) turn in
        answers port held slave truth order same wide ask moments (with_effects Accept moments)
        served.0 served.1
        (rest (open_then held here) slave (truth_answering truth wide) order same
        (courses_then Accept held truth.course here Idle courses
        (subst (λ o. HasCourse Accept o Idle) (sym (open_here held here wide refl)) refl)) later carried.1)

pub all_given : (port : ℕ) (moments : List RequestMoment) → AllGiven port moments
all_given port [] held slave truth order same courses turns carried = record {
  may = tt;
  shows = refl;
  gives = λ wide. record {
    rest = answer_given wide (truth.course wide);
    is = ap (λ l. answer_given wide (truth.course wide) ++ entries_of wide l) (dues_none port slave)
        ∙ append-nil (answer_given wide (truth.course wide));
    none = λ left. ap (λ c. answer_given wide c)
        (idle_at Accept (held wide) (truth.course wide) (courses wide) left);
    some = λ ask left. one_given wide (held wide) (truth.course wide) ask (courses wide) left;
  };
}
all_given port (moment ∷ moments) held slave truth order same courses turns carried =
    step port moment moments (all_given port moments) held slave truth order same courses turns carried

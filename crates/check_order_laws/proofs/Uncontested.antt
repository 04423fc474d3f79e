-- While nothing is contested, what is due of the replies of a slave of which nobody knows when it does its requests is,
-- source by source, what is due of one that does them as they are accepted.
use Rattle.std.proofs.Common.{◌≡◌, ◌∙◌, ⊎_elim, ℕ, List, [], ◌∷◌, ◌++◌, length, Option, Some, None, refl, ap, sym, subst, append-nil, append_assoc}
use Rattle.std.specs.Prelude.{◌≢◌}
use Rattle.std.proofs.lemmas.Bool.{cases_eq}
use Rattle.check_cells.specs.Sent.{Sent}
use Rattle.check_cells.specs.Pattern.{Pattern}
use Rattle.check_contests.specs.Sent.{slave_after_sent, expected_of_sent}
use Rattle.check_memory.specs.declared.slave.Slave.{Slave}
use Rattle.check_memory.specs.declared.slave.Slave.TheVariants.{Memory, Device}
use Rattle.check_contests.specs.declared.accepted.Accepted.{Accepted}
use Rattle.check_contests.specs.Contests.{kept_of, kept_answering}
use Rattle.check_contests.specs.Laws.{IsAsServed}
use Rattle.check_contests.proofs.Courses.{entry_of}
use Rattle.check_contests.proofs.Kept.{answering-other}
use Rattle.check_flight.specs.declared.order.Order.TheVariants.{Accept, Any}
use Rattle.check_flight.specs.PortSlave.{PortSlave, accepted_by, answered_by, answer_of_kept, contested_by, due_accepted_by, due_answered_by, served_by}
use Rattle.check_watch_laws.specs.Memories.{entries_of}
use Rattle.check_watch_laws.specs.Moments.{Act, RequestMoment, dues_of, entry_due, slave_then}
use Rattle.check_watch_laws.specs.Moments.Act.{Accepts, Answers}
use Rattle.check_watch_laws.proofs.Told.{dues_none, dues_cons}
use Rattle.check_order_laws.specs.Open.{AreApart, IsOpen}
use Rattle.check_order_laws.proofs.InTurn.{open_by, open_then, open_after, open_more, open_here, open_there, none_open, IsInTurn, AreInTurn}
use Rattle.check_order_laws.proofs.OpenSince.{open_is}
use Rattle.check_order_laws.proofs.Effects.{one_entry, entry_own, entry_other}
use Rattle.check_order_laws.proofs.Beside.{IsSameButCells, same_after, AreUncontestedAt, ask_held, ask_kept, AreKept, kept_here, kept_there, kept_more, kept_less, as_served}

-- ---- each request that is accepted is contested by none that is open

abbrev pub BesideBy : Act → Slave → (ℕ → Option Sent) → Sent → Type 0
BesideBy Accepts slave held ask =
    (other : ℕ) (with : Sent) → held other ≡ Some with → AreUncontestedAt slave ask with
BesideBy Answers slave held ask = Unit {0}

abbrev pub AreBeside : Slave → (ℕ → Option Sent) → List RequestMoment → Type 0
AreBeside slave held [] = Unit {0}
AreBeside slave held (moment ∷ moments) =
    BesideBy moment.act slave held moment.sent × AreBeside slave (open_then held moment) moments

apart_at : (slave : Slave) (moments : List RequestMoment) (wide other : ℕ) (ask with : Sent) → AreApart slave moments
    → wide ≢ other → IsOpen moments wide ask → IsOpen moments other with → AreUncontestedAt slave ask with
apart_at (Memory memory) moments wide other ask with apart different first second =
    apart wide other ask with different first second
apart_at Device moments wide other ask with apart different first second = tt

none_some : (ask : Sent) → None ≡ Some ask → ⊥
none_some ask is = cc

pub beside_all : (slave : Slave) (before moments : List RequestMoment)
    → ((front rest : List RequestMoment) → front ++ rest ≡ before ++ moments → AreApart slave front)
    → AreInTurn (open_after none_open before) moments → AreBeside slave (open_after none_open before) moments
beside_all slave before [] apart turns = tt
beside_all slave before (moment ∷ moments) apart turns = (
  go moment.act refl turns.0,
  subst (λ held. AreBeside slave held moments) (open_more none_open before (moment ∷ []))
      (beside_all slave (before ++ moment ∷ []) moments
      (λ front rest is. apart front rest (is ∙ append_assoc before (moment ∷ []) moments))
      (subst (λ held. AreInTurn held moments) (sym (open_more none_open before (moment ∷ []))) turns.1)),
)
  where
    go : (act : Act) → moment.act ≡ act → IsInTurn act moment.sent (open_after none_open before moment.wide)
        → BesideBy act slave (open_after none_open before) moment.sent
    go Answers is turn = tt
    go Accepts is turn = λ other with held.
        let here : List RequestMoment = before ++ moment ∷ [] in
        let after : (wide : ℕ) → open_after none_open here wide ≡ open_then (open_after none_open before) moment wide =
        λ wide. ap (λ (f : ℕ → Option Sent). f wide) (open_more none_open before (moment ∷ [])) in
        let different : moment.wide ≢ other =
        λ same. none_some with (sym turn ∙ ap (λ w. open_after none_open before w) same ∙ held) in
        apart_at slave here moment.wide other moment.sent with
        (apart here moments (append_assoc before (moment ∷ []) moments)) different
        (open_is here moment.wide moment.sent (after moment.wide
        ∙ open_here (open_after none_open before) moment moment.wide refl
        ∙ ap (λ a. open_by a moment.sent) is))
        (open_is here other with (after other
        ∙ open_there (open_after none_open before) moment other (λ same. different (sym same)) ∙ held))

-- ---- what is due, source by source

-- what is due to the one that is open, once it is answered, by what is kept of it
abbrev pub waiting : ℕ → Option Sent → Option Accepted → List (Sent × Pattern)
waiting wide None kept = []
waiting wide (Some sent) None = []
waiting wide (Some sent) (Some entry) = one_entry wide sent entry.due ∷ []

-- of one source: what is due to the one that is open, and to those that are accepted later, is what is due of those that are
-- answered later, and at most one more, that of a request which is left open
pub record KeepsBut (wide : ℕ) (held : Option Sent) (kept : Option Accepted) (accept any : List (Sent × Pattern))
    (left : Option Sent) : Type 0 where
  pub rest : List (Sent × Pattern)
  pub is : waiting wide held kept ++ entries_of wide accept ≡ entries_of wide any ++ rest
  pub none : left ≡ None → rest ≡ []
  pub some : (ask : Sent) → left ≡ Some ask → length rest ≡ 1

module _ (port : ℕ) (held : ℕ → Option Sent) (strict loose : PortSlave) (accept : strict.order ≡ Accept)
    (any : loose.order ≡ Any) (same : loose.kept ≡ strict.kept) (are : AreKept held loose.contests) (wide : ℕ)
    (ask : Sent) (moments : List RequestMoment) where
  abbrev accepted : RequestMoment
  accepted = record { act = Accepts; wide = wide; sent = ask }

  abbrev answered : RequestMoment
  answered = record { act = Answers; wide = wide; sent = ask }

  abbrev expected : Pattern
  expected = expected_of_sent strict.kept ask

  strict_accepting : dues_of port strict (accepted ∷ moments)
      ≡ one_entry wide ask expected ∷ dues_of port (served_by strict ask) moments
  strict_accepting =
      dues_cons port strict accepted moments
      ∙ ap (λ o. entry_due wide ask (due_accepted_by o port strict ask) ++ dues_of port (slave_then strict accepted) moments)
      accept
      ∙ ap (λ o. one_entry wide ask expected ∷ dues_of port (accepted_by o strict wide ask) moments) accept

  loose_accepting : dues_of port loose (accepted ∷ moments) ≡ dues_of port (contested_by loose wide ask) moments
  loose_accepting =
      dues_cons port loose accepted moments
      ∙ ap (λ o. entry_due wide ask (due_accepted_by o port loose ask) ++ dues_of port (slave_then loose accepted) moments)
      any
      ∙ ap (λ o. dues_of port (accepted_by o loose wide ask) moments) any

  strict_answering : dues_of port strict (answered ∷ moments) ≡ dues_of port strict moments
  strict_answering =
      dues_cons port strict answered moments
      ∙ ap (λ o. entry_due wide ask (due_answered_by o port strict wide ask)
      ++ dues_of port (slave_then strict answered) moments) accept
      ∙ ap (λ o. dues_of port (answered_by o strict wide ask) moments) accept

  abbrev left : PortSlave
  left = record loose { contests = kept_answering loose.contests wide }

  loose_answering : (entry : Accepted) → kept_of loose.contests wide ≡ Some entry
      → dues_of port loose (answered ∷ moments) ≡ one_entry wide ask entry.due ∷ dues_of port left moments
  loose_answering entry there =
      dues_cons port loose answered moments
      ∙ ap (λ o. entry_due wide ask (due_answered_by o port loose wide ask)
      ++ dues_of port (slave_then loose answered) moments) any
      ∙ ap (λ (k : Option Accepted). entry_due wide ask (answer_of_kept port ask k)
      ++ dues_of port (slave_then loose answered) moments) there
      ∙ ap (λ o. one_entry wide ask entry.due ∷ dues_of port (answered_by o loose wide ask) moments) any

  -- the one of another source stays
  accepts : held wide ≡ None → IsAsServed loose.kept loose.contests wide loose.served ask → (other : ℕ)
      (later : Option Sent)
      → KeepsBut other (open_then held accepted other) (kept_of (contested_by loose wide ask).contests other)
      (dues_of port (served_by strict ask) moments) (dues_of port (contested_by loose wide ask) moments) later
      → KeepsBut other (held other) (kept_of loose.contests other) (dues_of port strict (accepted ∷ moments))
      (dues_of port loose (accepted ∷ moments)) later
  accepts none served other later was = record {
    rest = was.rest;
    is = ap (λ l. waiting other (held other) (kept_of loose.contests other) ++ entries_of other l) strict_accepting
        ∙ front
        ∙ ap (λ k. waiting other (open_then held accepted other) (kept_of k other) ++ entries_of other dues)
        (sym served.keeps)
        ∙ was.is ∙ ap (λ l. entries_of other l ++ was.rest) (sym loose_accepting);
    none = was.none;
    some = was.some;
  }
    where
      kept : List Accepted
      kept = loose.contests

      new : Accepted
      new = record { wide = wide; ask = ask.ask; due = expected_of_sent loose.kept ask; index = loose.served }

      dues : List (Sent × Pattern)
      dues = dues_of port (served_by strict ask) moments

      front : waiting other (held other) (kept_of kept other) ++ entries_of other (one_entry wide ask expected ∷ dues)
          ≡ waiting other (open_then held accepted other) (kept_of (kept ++ new ∷ []) other) ++ entries_of other dues
      front = ⊎_elim
          (λ (is : other ≡ wide). subst (λ w. waiting w (held w) (kept_of kept w)
          ++ entries_of w (one_entry wide ask expected ∷ dues)
          ≡ waiting w (open_then held accepted w) (kept_of (kept ++ new ∷ []) w) ++ entries_of w dues) (sym is)
          (ap (λ h. waiting wide h (kept_of kept wide) ++ entries_of wide (one_entry wide ask expected ∷ dues)) none
          ∙ entry_own wide ask expected dues
          ∙ ap (λ k. one_entry wide ask (expected_of_sent k ask) ∷ entries_of wide dues) (sym same)
          ∙ ap (λ k. waiting wide (Some ask) k ++ entries_of wide dues)
          (sym (kept_here held kept are loose.kept wide loose.served ask none))
          ∙ ap (λ h. waiting wide h (kept_of (kept ++ new ∷ []) wide) ++ entries_of wide dues)
          (sym (open_here held accepted wide refl))))
          (λ (apart : other ≢ wide).
          ap (λ l. waiting other (held other) (kept_of kept other) ++ l)
          (entry_other other wide ask expected dues (λ is. apart (sym is)))
          ∙ ap (λ k. waiting other (held other) k ++ entries_of other dues)
          (sym (kept_there held kept are loose.kept wide loose.served ask none other apart))
          ∙ ap (λ h. waiting other h (kept_of (kept ++ new ∷ []) other) ++ entries_of other dues)
          (sym (open_there held accepted other apart)))
          (cases_eq other wide)

  answers : (entry : Accepted) → kept_of loose.contests wide ≡ Some entry → held wide ≡ Some ask → (other : ℕ)
      (later : Option Sent)
      → KeepsBut other (open_then held answered other) (kept_of (kept_answering loose.contests wide) other)
      (dues_of port strict moments) (dues_of port left moments) later
      → KeepsBut other (held other) (kept_of loose.contests other) (dues_of port strict (answered ∷ moments))
      (dues_of port loose (answered ∷ moments)) later
  answers entry there turn other later was = record {
    rest = was.rest;
    is = ap (λ l. waiting other (held other) (kept_of loose.contests other) ++ entries_of other l) strict_answering
        ∙ both was.rest was.is ∙ ap (λ l. entries_of other l ++ was.rest) (sym (loose_answering entry there));
    none = was.none;
    some = was.some;
  }
    where
      dues : List (Sent × Pattern)
      dues = dues_of port strict moments

      given : List (Sent × Pattern)
      given = dues_of port left moments

      both : (more : List (Sent × Pattern))
          → waiting other (open_then held answered other) (kept_of (kept_answering loose.contests wide) other)
          ++ entries_of other dues
          ≡ entries_of other given ++ more
          → waiting other (held other) (kept_of loose.contests other) ++ entries_of other dues
          ≡ entries_of other (one_entry wide ask entry.due ∷ given) ++ more
      both more = ⊎_elim
          (λ (is : other ≡ wide).
          subst (λ w. waiting w (open_then held answered w) (kept_of (kept_answering loose.contests wide) w)
          ++ entries_of w dues
          ≡ entries_of w given ++ more
          → waiting w (held w) (kept_of loose.contests w) ++ entries_of w dues
          ≡ entries_of w (one_entry wide ask entry.due ∷ given) ++ more) (sym is)
          (λ here. ap (λ k. waiting wide (held wide) k ++ entries_of wide dues) there
          ∙ ap (λ h. waiting wide h (Some entry) ++ entries_of wide dues) turn
          ∙ ap (λ l. one_entry wide ask entry.due ∷ l)
          (ap (λ h. waiting wide h (kept_of (kept_answering loose.contests wide) wide) ++ entries_of wide dues)
          (sym (open_here held answered wide refl)) ∙ here)
          ∙ ap (λ l. l ++ more) (sym (entry_own wide ask entry.due given))))
          (λ (apart : other ≢ wide) here.
          ap (λ h. waiting other h (kept_of loose.contests other) ++ entries_of other dues)
          (sym (open_there held answered other apart))
          ∙ ap (λ k. waiting other (open_then held answered other) k ++ entries_of other dues)
          (sym (answering-other loose.contests wide other apart))
          ∙ here
          ∙ ap (λ l. l ++ more) (sym (entry_other other wide ask entry.due given (λ is. apart (sym is)))))
          (cases_eq other wide)

one_waits : (wide : ℕ) (kept : Option Accepted) (held : Option Sent) (ask : Sent)
    → ask_kept kept ≡ ask_held held → held ≡ Some ask → length (waiting wide held kept) ≡ 1
one_waits wide kept None ask is some = absurd (none_some ask some)
one_waits wide None (Some sent) ask is some = cc
one_waits wide (Some entry) (Some sent) ask is some = refl

-- so it is of all moments that come in turn
abbrev NothingLost : ℕ → Slave → List RequestMoment → Type 0
NothingLost port reset moments =
    (held : ℕ → Option Sent) (strict loose : PortSlave) → strict.order ≡ Accept → loose.order ≡ Any
    → loose.kept ≡ strict.kept → IsSameButCells loose.kept reset → AreKept held loose.contests → AreInTurn held moments
    → AreBeside reset held moments → (wide : ℕ)
    → KeepsBut wide (held wide) (kept_of loose.contests wide) (dues_of port strict moments)
    (dues_of port loose moments) (open_after held moments wide)

step : (port : ℕ) (reset : Slave) (moment : RequestMoment) (moments : List RequestMoment) → NothingLost port reset moments
    → NothingLost port reset (moment ∷ moments)
step port reset moment moments rest held strict loose accept any same kind are turns beside other =
    go moment.act turns.0 turns.1 beside.0 beside.1
  where
    wide : ℕ
    wide = moment.wide

    ask : Sent
    ask = moment.sent

    go : (act : Act) → IsInTurn act ask (held wide) → AreInTurn (open_then held (record moment { act = act })) moments
        → BesideBy act reset held ask → AreBeside reset (open_then held (record moment { act = act })) moments
        → KeepsBut other (held other) (kept_of loose.contests other)
        (dues_of port strict (record moment { act = act } ∷ moments))
        (dues_of port loose (record moment { act = act } ∷ moments))
        (open_after (open_then held (record moment { act = act })) moments other)
    go Accepts turn later by bys =
        let here : RequestMoment = record moment { act = Accepts } in
        let served = as_served loose.kept reset held loose.contests wide loose.served ask kind are by in
        accepts port held strict loose accept any same are wide ask moments turn served other
        (open_after (open_then held here) moments other)
        (rest (open_then held here) (served_by strict ask) (contested_by loose wide ask)
        accept any (served.leaves ∙ ap (λ k. slave_after_sent k ask) same)
        (subst (λ k. IsSameButCells k reset) (sym served.leaves) (same_after loose.kept reset ask kind))
        (subst (λ k. AreKept (open_then held here) k) (sym served.keeps)
        (kept_more held loose.contests are loose.kept wide loose.served ask turn)) later bys other)
    go Answers turn later by bys =
        let here : RequestMoment = record moment { act = Answers } in
        let entry = entry_of (kept_of loose.contests wide) ask.ask (are.asks wide ∙ ap ask_held turn) in
        answers port held strict loose accept any same are wide ask moments entry.0 entry.1 turn other
        (open_after (open_then held here) moments other)
        (rest (open_then held here) strict
        (record loose { contests = kept_answering loose.contests wide }) accept any same kind
        (kept_less held loose.contests wide ask are) later bys other)

pub nothing_lost : (port : ℕ) (reset : Slave) (moments : List RequestMoment) → NothingLost port reset moments
nothing_lost port reset [] held strict loose accept any same kind are turns beside wide = record {
  rest = waiting wide (held wide) (kept_of loose.contests wide);
  is = ap (λ l. waiting wide (held wide) (kept_of loose.contests wide) ++ entries_of wide l) (dues_none port strict)
      ∙ append-nil (waiting wide (held wide) (kept_of loose.contests wide))
      ∙ ap (λ l. entries_of wide l ++ waiting wide (held wide) (kept_of loose.contests wide)) (sym (dues_none port loose));
  none = λ none. ap (λ h. waiting wide h (kept_of loose.contests wide)) none;
  some = λ ask some. one_waits wide (kept_of loose.contests wide) (held wide) ask (are.asks wide) some;
}
nothing_lost port reset (moment ∷ moments) held strict loose accept any same kind are turns beside wide =
    step port reset moment moments (nothing_lost port reset moments) held strict loose accept any same kind are turns
    beside wide

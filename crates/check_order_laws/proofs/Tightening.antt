-- What is lawful if nobody knows the order of some ports is lawful if their requests take effect as they are accepted, as long
-- as none of them is contested.
use Rattle.std.proofs.Common.{◌≡◌, ◌≢◌, ◌∙◌, inl, inr, ℕ, false, List, [], ◌∷◌, ◌++◌, Option, Some, None, refl, ap, sym, subst, arith, append-nil, append_assoc}
use Rattle.std.specs.Prelude.{◌↔◌}
use Rattle.std.proofs.lemmas.Bool.{eq-eqb}
use Rattle.check_cells.specs.Sent.{Sent}
use Rattle.check_cells.specs.Pattern.{Pattern}
use Rattle.check_contests.specs.declared.accepted.Accepted.{Accepted}
use Rattle.check_contests.specs.Contests.{kept_of}
use Rattle.check_flight.specs.declared.answer.Answer.{Answer}
use Rattle.check_flight.specs.declared.order.Order.{Order}
use Rattle.check_flight.specs.declared.order.Order.TheVariants.{Accept, Reply, Any}
use Rattle.check_flight.specs.Flight.{Flight}
use Rattle.check_flight.specs.Flight.Turn.{Asked}
use Rattle.check_flight.specs.Order.{is_due_at_reply}
use Rattle.check_flight.specs.PortSlave.{PortSlave}
use Rattle.check_watch.specs.Lawful.{IsLawfulGroup}
use Rattle.check_watch.specs.Past.{state}
use Rattle.check_watch.specs.Plan.{Plan, IsPlan, Sighting, LinkSide, side_of, link_number}
use Rattle.check_watch.proofs.Earlier.{earlier_is_lawful}
use Rattle.check_watch_laws.specs.Crossed.{AreWatched}
use Rattle.check_watch_laws.specs.Memories.{AreEntries, entries_of, exchanges_at, order_at, port_for, reset_of, side_for}
use Rattle.check_watch_laws.specs.Moments.{IsDueAt, RequestMoment, dues_of, moments, moments_with}
use Rattle.check_watch_laws.specs.Whenever.{AreFresh}
use Rattle.check_watch_laws.proofs.Back.{rules_make_lawful}
use Rattle.check_watch_laws.proofs.Dues.{HasBegun, IsReplying, are_due}
use Rattle.check_watch_laws.proofs.Memory.{owed, history_at}
use Rattle.check_watch_laws.proofs.Sequential.{due_at}
use Rattle.check_watch_laws.proofs.Telling.{are_told}
use Rattle.check_watch_laws.proofs.Told.{matched_but_one}
use Rattle.check_watch_laws.proofs.Turns.{link_on, true_or_false}
use Rattle.check_watch_laws.proofs.Whole.{all_compliant}
use Rattle.check_order_laws.specs.Looser.{IsSameOrAny, IsLooser, AreSoundSlaves, HaveByteLanes}
use Rattle.check_order_laws.specs.Open.{NothingIsContested, DifferByAccept}
use Rattle.check_order_laws.proofs.InTurn.{none_open, open_after}
use Rattle.check_order_laws.proofs.Openings.{replies_to}
use Rattle.check_order_laws.proofs.Turning.{are_open, come_in_turn}
use Rattle.check_order_laws.proofs.Same.{same_plan}
use Rattle.check_order_laws.proofs.Asked.{IsAskedAt, asked_if_open}
use Rattle.check_order_laws.proofs.Loosening.{any_is_looser, earlier_watched, rules_by_dues, same_due, same_lanes, same_seen}
use Rattle.check_order_laws.proofs.Beside.{AreKept, IsSameButCells, same_itself}
use Rattle.check_order_laws.proofs.Uncontested.{KeepsBut, beside_all, nothing_lost}

-- ---- a request that is open at a port of which nobody knows the order

-- nothing is owed of it: what its reply has to fit is known as it is answered, and not before
module _ (plan : Plan) (past : List Sighting) (watched : AreWatched plan.layout past) (lawful : IsLawfulGroup plan past)
    (port : ℕ) (any : order_at plan port ≡ Any) (wide : ℕ) where
  abbrev side : LinkSide
  side = side_for plan.layout port

  abbrev flight : Flight
  flight = (state plan past).flights side wide

  no_due : (number : ℕ) (ask : Sent) → port_for plan (link_on side number) ask.ask ≡ port
      → replies_to plan (link_on side number) wide
      ((state plan past).links (side_of (link_on side number)) (link_number (link_on side number))).replying ≡ false
      → (due : Option Answer) → HasBegun plan (state plan past) side wide (Asked number ask) due → due ≡ None
  no_due number ask goes unanswered None begun = refl
  no_due number ask goes unanswered (Some answer) begun =
      let here : IsReplying plan (state plan past) wide (link_on side number) =
      begun (ap (λ p. is_due_at_reply (order_at plan p)) goes ∙ ap is_due_at_reply any) in
      absurd (true_or_false _
      (ap (λ k. replies_to plan (link_on side number) wide k) here.1
      ∙ eq-eqb _ wide here.2) unanswered)

  pub none_owed : (ask : Sent) → IsAskedAt plan (state plan past) port wide side flight.turn ask
      → owed plan port wide side flight.turn flight.due ≡ []
  none_owed ask at =
      let due : flight.due ≡ None = no_due at.number ask at.goes at.unanswered flight.due
      (subst (λ t. HasBegun plan (state plan past) side wide t flight.due) at.turn_is
      (are_due plan past watched lawful side wide).begun) in
      ap (λ d. owed plan port wide side flight.turn d) due
      ∙ ap (λ t. owed plan port wide side t None) at.turn_is

  -- what was captured fits what is due of the replies of a slave that keeps this
  pub captured_keeps : (accept : List (Sent × Pattern))
      → KeepsBut wide None None accept (history_at plan port past) (open_after none_open (moments plan port past) wide)
      → AreEntries wide (exchanges_at plan port wide past) (entries_of wide accept)
  captured_keeps accept keeps = go (open_after none_open (moments plan port past) wide) refl
    where
      go : (left : Option Sent) → open_after none_open (moments plan port past) wide ≡ left
          → AreEntries wide (exchanges_at plan port wide past) (entries_of wide accept)
      go None is =
          subst (λ l. AreEntries wide (exchanges_at plan port wide past) l)
          (sym (keeps.is ∙ ap (λ l. entries_of wide (history_at plan port past) ++ l) (keeps.none is)
          ∙ append-nil (entries_of wide (history_at plan port past))))
          (let due = due_at plan past watched lawful port in
          subst (λ l. AreEntries wide (exchanges_at plan port wide past) (entries_of wide l)) due.1.dues
          (due.1.captured wide))
      go (Some ask) is =
          let at = asked_if_open plan (state plan past) port wide side flight.turn ask
          (sym (are_open plan past watched lawful port wide) ∙ is) in
          let told = are_told plan past watched lawful port wide in
          let front : entries_of wide (history_at plan port past) ≡ told.front =
          told.entries_are ∙ ap (λ l. told.front ++ l) (none_owed ask at) ∙ append-nil told.front in
          subst (λ l. AreEntries wide (exchanges_at plan port wide past) l)
          (sym (keeps.is ∙ ap (λ l. l ++ keeps.rest) front))
          (matched_but_one wide (exchanges_at plan port wide past) told.front keeps.rest told.matched
          (omega (arith, keeps.some ask is)))

-- ---- moments up to an earlier one

more_moments : (plan : Plan) (port : ℕ) (later earlier : List Sighting)
    → (more : List RequestMoment) × (moments plan port earlier ++ more ≡ moments plan port (later ++ earlier))
more_moments plan port [] earlier = ([], append-nil (moments plan port earlier))
more_moments plan port (x ∷ later) earlier =
    let before = more_moments plan port later earlier in
    let now = moments_with plan port (later ++ earlier) x x.beat in (
      before.0 ++ now,
      sym (append_assoc (moments plan port earlier) before.0 now) ∙ ap (λ l. l ++ now) before.1,
    )

earlier_uncontested : (plan : Plan) (port : ℕ) (later earlier : List Sighting)
    → NothingIsContested plan port (later ++ earlier) → NothingIsContested plan port earlier
earlier_uncontested plan port later earlier none before rest is =
    let more = more_moments plan port later earlier in
    none before (rest ++ more.0)
    (sym (append_assoc before rest more.0) ∙ ap (λ l. l ++ more.0) is ∙ more.1)

-- ---- the way back

module _ (plan : Plan) (before after : List PortSlave) where
  abbrev loose : Plan
  loose = record plan { resets = before }

  abbrev strict : Plan
  strict = record plan { resets = after }

  -- at a port of which nobody knew the order
  accept_due : (past : List Sighting) (port : ℕ) → AreWatched plan.layout past → IsLawfulGroup loose past
      → reset_of loose port ≡ record (reset_of strict port) { order = Any } → order_at strict port ≡ Accept
      → (reset_of strict port).contests ≡ [] → NothingIsContested strict port past
      → (history : List (Sent × Pattern)) × IsDueAt strict past port history
  accept_due past port watched lawful is accept fresh none = (
    dues_of port (reset_of strict port) (moments plan port past),
    record {
      dues = refl;
      captured = λ wide. captured_keeps loose past watched lawful port any wide
          (dues_of port (reset_of strict port) (moments plan port past))
          (subst (λ (k : List Accepted). KeepsBut wide None (kept_of k wide)
          (dues_of port (reset_of strict port) (moments plan port past)) (history_at loose port past)
          (open_after none_open (moments plan port past) wide)) empty
          (nothing_lost port (reset_of strict port).kept (moments plan port past) none_open (reset_of strict port)
          (reset_of loose port) accept any kept
          (subst (λ k. IsSameButCells k (reset_of strict port).kept) (sym kept) (same_itself (reset_of strict port).kept))
          (subst (λ (k : List Accepted). AreKept none_open k) (sym empty) nothing_kept)
          (come_in_turn loose past watched lawful port)
          (beside_all (reset_of strict port).kept [] (moments plan port past) none
          (come_in_turn loose past watched lawful port)) wide));
    },
  )
    where
      any : order_at loose port ≡ Any
      any = ap (λ (s : PortSlave). s.order) is

      kept : (reset_of loose port).kept ≡ (reset_of strict port).kept
      kept = ap (λ (s : PortSlave). s.kept) is

      empty : (reset_of loose port).contests ≡ []
      empty = ap (λ (s : PortSlave). s.contests) is ∙ fresh

      none_some : (entry : Accepted) → None ≡ Some entry → ⊥
      none_some entry e = cc

      nothing_kept : AreKept none_open []
      nothing_kept = record {
        apart = tt;
        asks = λ wide. refl;
        short = λ wide entry there. absurd (none_some entry there);
      }

  module _ (looser : (port : ℕ) → IsSameOrAny (reset_of loose port) (reset_of strict port)) (fresh : AreFresh strict)
      (accept : (port : ℕ) → order_at loose port ≢ order_at strict port → order_at strict port ≡ Accept) where
    tight_due : (past : List Sighting) → AreWatched plan.layout past → IsLawfulGroup loose past
        → ((port : ℕ) → order_at loose port ≢ order_at strict port → NothingIsContested strict port past)
        → (port : ℕ) → IsSameOrAny (reset_of loose port) (reset_of strict port)
        → (history : List (Sent × Pattern)) × IsDueAt strict past port history
    tight_due past watched lawful none port (inl is) =
        same_due plan before after past port (sym is) (due_at loose past watched lawful port)
    tight_due past watched lawful none port (inr is) = go (order_at strict port) refl
      where
        any : order_at loose port ≡ Any
        any = ap (λ (s : PortSlave). s.order) is

        go : (order : Order) → order_at strict port ≡ order
            → (history : List (Sent × Pattern)) × IsDueAt strict past port history
        go Accept order =
            let differ : order_at loose port ≢ order_at strict port =
            λ same. let both : Any ≡ Accept = sym any ∙ same ∙ order in absurd (cc) in
            accept_due past port watched lawful is order (fresh port) (none port differ)
        go Reply order =
            let differ : order_at loose port ≢ order_at strict port =
            λ same. let both : Any ≡ Reply = sym any ∙ same ∙ order in absurd (cc) in
            let no : Reply ≡ Accept = sym order ∙ accept port differ in absurd (cc)
        go Any order =
            same_due plan before after past port
            (sym (is ∙ ap (λ o. record (reset_of strict port) { order = o }) (sym order)))
            (due_at loose past watched lawful port)

    pub tightened : (past : List Sighting) → IsPlan loose → AreWatched plan.layout past
        → ((port : ℕ) → order_at loose port ≢ order_at strict port → NothingIsContested strict port past)
        → IsLawfulGroup loose past → IsLawfulGroup strict past
    tightened past is watched none lawful =
        rules_make_lawful strict past (same_plan plan before after is) watched
        (same_seen plan before after (λ port. same_lanes (reset_of loose port) (reset_of strict port) (looser port)) past
        (all_compliant loose past lawful))
        (λ later earlier so.
        let watched' = earlier_watched plan.layout later earlier
        (subst (λ l. AreWatched plan.layout l) (sym so) watched) in
        let lawful' = earlier_is_lawful loose later earlier (subst (λ l. IsLawfulGroup loose l) (sym so) lawful) in
        let none' : (port : ℕ) → order_at loose port ≢ order_at strict port → NothingIsContested strict port earlier =
        λ port differ. earlier_uncontested strict port later earlier
        (subst (λ l. NothingIsContested strict port l) (sym so) (none port differ)) in
        rules_by_dues plan before after earlier is watched' lawful' (λ port.
        tight_due earlier watched' lawful' none' port (looser port)))

pub uncontested_is_tight : (loose strict : Plan) (past : List Sighting) → IsLooser loose strict → IsPlan strict
    → AreFresh strict → AreWatched strict.layout past → DifferByAccept loose strict past
    → IsLawfulGroup loose past → IsLawfulGroup strict past
uncontested_is_tight loose strict past looser is fresh watched differ lawful =
    tightened strict loose.resets strict.resets looser.slaves fresh (λ port other. (differ port other).0) past
    (same_plan strict strict.resets loose.resets is) watched (λ port other. (differ port other).1)
    (subst (λ p. IsLawfulGroup p past) looser.same lawful)

pub uncontested_is_same : (loose strict : Plan) (past : List Sighting) → IsLooser loose strict → IsPlan strict
    → AreFresh strict → AreSoundSlaves strict → AreWatched strict.layout past → HaveByteLanes past
    → DifferByAccept loose strict past → (IsLawfulGroup loose past ↔ IsLawfulGroup strict past)
uncontested_is_same loose strict past looser is fresh sound watched bytes differ = (
  uncontested_is_tight loose strict past looser is fresh watched differ,
  any_is_looser loose strict past looser is fresh sound watched bytes,
)

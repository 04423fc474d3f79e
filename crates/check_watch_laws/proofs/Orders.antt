-- A slave whose order is known does its requests one by one: what its moments leave is what these requests leave, and
-- what is due of its replies is what is expected of it there.
use Rattle.std.proofs.Common.{◌≡◌, ◌≢◌, ◌∙◌, ℕ, Bool, true, false, if◌then◌else◌, List, [], ◌∷◌, ◌++◌, map, filter, Some, refl, ap, sym, subst, append_assoc}
use Rattle.check_cells.specs.Sent.{Sent}
use Rattle.check_cells.specs.Pattern.{Pattern}
use Rattle.check_contests.specs.Sent.{expected_of_sent}
use Rattle.check_flight.specs.declared.order.Order.{Order}
use Rattle.check_flight.specs.declared.order.Order.TheVariants.{Accept, Reply, Any}
use Rattle.check_flight.specs.PortSlave.{PortSlave, accepted_by, answered_by, due_accepted_by, due_answered_by, served_by}
use Rattle.check_watch.specs.declared.beat.Beat.{Beat}
use Rattle.check_watch.specs.declared.beat.Beat.TheVariants.{A, D}
use Rattle.check_watch.specs.Plan.{Plan, Sighting, source_of, wide_of}
use Rattle.check_watch_laws.specs.Crossed.{AskSeen, ask_ended}
use Rattle.check_watch_laws.specs.Memories.{is_for, order_at, ask_answered, ask_done, widened, asks_done, replay_slave, reset_of, IsDoneAt, IsSlaveHistory, with_source}
use Rattle.check_watch_laws.specs.Moments.{Act, RequestMoment, moment_of, moments_with, moments, due_acting, slave_then, slave_after_all, entry_due, dues_of, IsDueAt}
use Rattle.check_watch_laws.specs.Moments.Act.{Accepts, Answers}
use Rattle.check_watch_laws.specs.Rules.{KeepsRules}
use Rattle.check_watch_laws.proofs.History.{told, told_append, told_lawful, told_none, told_one, asks_told, lawful_is_told}
use Rattle.check_watch_laws.proofs.Slaves.{act_stays, reply_with, same_after}
use Rattle.check_watch_laws.proofs.Told.{dues_none, dues_cons}

-- ---- requests

-- such a slave does a request then
abbrev does : Order → Act → Bool
does Accept Accepts = true
does Accept Answers = false
does Reply Accepts = false
does Reply Answers = true
does Any act = false

abbrev done_then : Order → RequestMoment → List Sent
done_then order moment = if does order moment.act then with_source moment.wide moment.sent ∷ [] else []

-- the requests that it has done after these moments
abbrev done_in : Order → List RequestMoment → List Sent
done_in order [] = []
done_in order (moment ∷ moments) = done_then order moment ++ done_in order moments

done_more : (order : Order) (before later : List RequestMoment)
    → done_in order (before ++ later) ≡ done_in order before ++ done_in order later
done_more order [] later = refl
done_more order (moment ∷ before) later =
    ap (λ l. done_then order moment ++ l) (done_more order before later)
    ∙ sym (append_assoc (done_then order moment) (done_in order before) (done_in order later))

all_done : (order : Order) (act : Act) → does order act ≡ true → (wide : ℕ) (seen : List AskSeen)
    → done_in order (map (moment_of act wide) seen) ≡ map (widened wide) seen
all_done order act does_it wide [] = refl
all_done order act does_it wide (one ∷ seen) =
    ap (λ b. (if b then widened wide one ∷ [] else []) ++ done_in order (map (moment_of act wide) seen)) does_it
    ∙ ap (λ l. widened wide one ∷ l) (all_done order act does_it wide seen)

none_done : (order : Order) (act : Act) → does order act ≡ false → (wide : ℕ) (seen : List AskSeen)
    → done_in order (map (moment_of act wide) seen) ≡ []
none_done order act does_not wide [] = refl
none_done order act does_not wide (one ∷ seen) =
    ap (λ b. (if b then widened wide one ∷ [] else []) ++ done_in order (map (moment_of act wide) seen)) does_not
    ∙ none_done order act does_not wide seen

-- with one beat
done_with : (plan : Plan) (port : ℕ) (past : List Sighting) (x : Sighting) (beat : Beat) (order : Order)
    → done_in order (moments_with plan port past (record x { beat = beat }) beat)
    ≡ map (widened (wide_of plan x.link (source_of beat)))
    (filter (is_for plan port) (ask_done plan order past (record x { beat = beat })))
done_with plan port past x (A beat) Accept =
    all_done Accept Accepts refl (wide_of plan x.link beat.source)
    (filter (is_for plan port) (ask_ended plan.layout past (record x { beat = A beat }) (A beat)))
done_with plan port past x (A beat) Reply =
    none_done Reply Accepts refl (wide_of plan x.link beat.source)
    (filter (is_for plan port) (ask_ended plan.layout past (record x { beat = A beat }) (A beat)))
done_with plan port past x (A beat) Any =
    none_done Any Accepts refl (wide_of plan x.link beat.source)
    (filter (is_for plan port) (ask_ended plan.layout past (record x { beat = A beat }) (A beat)))
done_with plan port past x (D beat) Any =
    none_done Any Answers refl (wide_of plan x.link beat.source)
    (filter (is_for plan port) (ask_answered plan past (record x { beat = D beat }) (D beat)))
done_with plan port past x (D beat) Accept =
    none_done Accept Answers refl (wide_of plan x.link beat.source)
    (filter (is_for plan port) (ask_answered plan past (record x { beat = D beat }) (D beat)))
done_with plan port past x (D beat) Reply =
    all_done Reply Answers refl (wide_of plan x.link beat.source)
    (filter (is_for plan port) (ask_answered plan past (record x { beat = D beat }) (D beat)))

asks_are_done : (plan : Plan) (port : ℕ) (past : List Sighting)
    → done_in (order_at plan port) (moments plan port past) ≡ asks_done plan port past
asks_are_done plan port [] = refl
asks_are_done plan port (x ∷ past) =
    let order = order_at plan port in
    done_more order (moments plan port past) (moments_with plan port past x x.beat)
    ∙ ap (λ l. l ++ done_in order (moments_with plan port past x x.beat)) (asks_are_done plan port past)
    ∙ ap (λ l. asks_done plan port past ++ l) (done_with plan port past x x.beat order)

-- ---- slaves

-- the slave after a moment is the one after the requests that it does then
served_then : (order : Order) (slave : PortSlave) (moment : RequestMoment) → order ≢ Any → slave.order ≡ order
    → slave_then slave moment ≡ replay_slave slave (done_then order moment)
served_then order slave moment known is = go moment.act
  where
    accepts : (o : Order) → o ≢ Any → accepted_by o slave moment.wide moment.sent
        ≡ replay_slave slave (done_then o (record moment { act = Accepts }))
    accepts Accept known = sym (same_after slave moment.sent moment.wide)
    accepts Reply known = refl
    accepts Any known = absurd (known refl)

    answers : (o : Order) → o ≢ Any → answered_by o slave moment.wide moment.sent
        ≡ replay_slave slave (done_then o (record moment { act = Answers }))
    answers Accept known = refl
    answers Reply known = sym (same_after slave moment.sent moment.wide)
    answers Any known = absurd (known refl)

    go : (act : Act) → slave_then slave (record moment { act = act })
        ≡ replay_slave slave (done_then order (record moment { act = act }))
    go Accepts = ap (λ o. accepted_by o slave moment.wide moment.sent) is ∙ accepts order known
    go Answers = ap (λ o. answered_by o slave moment.wide moment.sent) is ∙ answers order known

replay_append : (slave : PortSlave) (before later : List Sent)
    → replay_slave slave (before ++ later) ≡ replay_slave (replay_slave slave before) later
replay_append slave [] later = refl
replay_append slave (ask ∷ before) later = replay_append (served_by slave ask) before later

all_served : (order : Order) (slave : PortSlave) (moments : List RequestMoment) → order ≢ Any → slave.order ≡ order
    → slave_after_all slave moments ≡ replay_slave slave (done_in order moments)
all_served order slave [] known is = refl
all_served order slave (moment ∷ moments) known is =
    all_served order (slave_then slave moment) moments known
    ((act_stays moment.act slave moment.wide (Some moment.sent)).order ∙ is)
    ∙ ap (λ s. replay_slave s (done_in order moments)) (served_then order slave moment known is)
    ∙ sym (replay_append slave (done_then order moment) (done_in order moments))

pub slave_is_replayed : (plan : Plan) (port : ℕ) (past : List Sighting) → order_at plan port ≢ Any
    → slave_after_all (reset_of plan port) (moments plan port past)
    ≡ replay_slave (reset_of plan port) (asks_done plan port past)
slave_is_replayed plan port past known =
    all_served (order_at plan port) (reset_of plan port) (moments plan port past) known refl
    ∙ ap (λ l. replay_slave (reset_of plan port) l) (asks_are_done plan port past)

-- ---- replies

-- what is due of replies then is what is expected of the slave
due_then : (order : Order) (port : ℕ) (slave : PortSlave) (moment : RequestMoment) → order ≢ Any → slave.order ≡ order
    → entry_due moment.wide moment.sent (due_acting moment.act port slave moment.wide (Some moment.sent))
    ≡ told slave (done_then order moment)
due_then order port slave moment known is = go moment.act
  where
    expected : (with_source moment.wide moment.sent, record (expected_of_sent slave.kept moment.sent) { source = moment.wide })
        ∷ [] ≡ told slave (with_source moment.wide moment.sent ∷ [])
    expected = ap (λ (r : Pattern). (with_source moment.wide moment.sent, r) ∷ [])
        (sym (reply_with slave.kept moment.sent moment.wide))
        ∙ sym (told_one slave (with_source moment.wide moment.sent))

    accepts : (o : Order) → o ≢ Any → entry_due moment.wide moment.sent (due_accepted_by o port slave moment.sent)
        ≡ told slave (done_then o (record moment { act = Accepts }))
    accepts Accept known = expected
    accepts Reply known = sym (told_none slave)
    accepts Any known = absurd (known refl)

    answers : (o : Order) → o ≢ Any
        → entry_due moment.wide moment.sent (due_answered_by o port slave moment.wide moment.sent)
        ≡ told slave (done_then o (record moment { act = Answers }))
    answers Accept known = sym (told_none slave)
    answers Reply known = expected
    answers Any known = absurd (known refl)

    go : (act : Act) → entry_due moment.wide moment.sent (due_acting act port slave moment.wide (Some moment.sent))
        ≡ told slave (done_then order (record moment { act = act }))
    go Accepts = ap (λ o. entry_due moment.wide moment.sent (due_accepted_by o port slave moment.sent)) is
        ∙ accepts order known
    go Answers = ap (λ o. entry_due moment.wide moment.sent (due_answered_by o port slave moment.wide moment.sent)) is
        ∙ answers order known

all_due : (order : Order) (port : ℕ) (slave : PortSlave) (moments : List RequestMoment) → order ≢ Any → slave.order ≡ order
    → dues_of port slave moments ≡ told slave (done_in order moments)
all_due order port slave [] known is = dues_none port slave ∙ sym (told_none slave)
all_due order port slave (moment ∷ moments) known is =
    let later = slave_then slave moment in
    dues_cons port slave moment moments
    ∙ ap (λ l. l ++ dues_of port later moments) (due_then order port slave moment known is)
    ∙ ap (λ l. told slave (done_then order moment) ++ l)
    (all_due order port later moments known ((act_stays moment.act slave moment.wide (Some moment.sent)).order ∙ is)
    ∙ ap (λ s. told s (done_in order moments)) (served_then order slave moment known is))
    ∙ sym (told_append slave (done_then order moment) (done_in order moments))

dues_are_told : (plan : Plan) (port : ℕ) (past : List Sighting) → order_at plan port ≢ Any
    → dues_of port (reset_of plan port) (moments plan port past)
    ≡ told (reset_of plan port) (asks_done plan port past)
dues_are_told plan port past known =
    all_due (order_at plan port) port (reset_of plan port) (moments plan port past) known refl
    ∙ ap (λ l. told (reset_of plan port) l) (asks_are_done plan port past)

-- ---- both ways

-- what is due is what the slave has done
pub done_of_due : (plan : Plan) (past : List Sighting) (port : ℕ) (history : List (Sent × Pattern))
    → order_at plan port ≢ Any → IsDueAt plan past port history → IsDoneAt plan past port history
done_of_due plan past port history known due =
    let reset = reset_of plan port in
    let is : history ≡ told reset (asks_done plan port past) = due.dues ∙ dues_are_told plan port past known in
    record {
      order = ap (λ (l : List (Sent × Pattern)). map (λ (entry : Sent × Pattern). entry.0) l) is
          ∙ asks_told reset (asks_done plan port past);
      lawful = subst (λ l. IsSlaveHistory reset l) (sym is) (told_lawful reset (asks_done plan port past));
      captured = due.captured;
    }

pub due_of_done : (plan : Plan) (past : List Sighting) (port : ℕ) (history : List (Sent × Pattern))
    → order_at plan port ≢ Any → IsDoneAt plan past port history → IsDueAt plan past port history
due_of_done plan past port history known done =
    let reset = reset_of plan port in
    record {
      dues = lawful_is_told reset history done.lawful ∙ ap (λ l. told reset l) done.order
          ∙ sym (dues_are_told plan port past known);
      captured = done.captured;
    }

-- what the rules say of the port's replies, by its order
pub due_by_rules : (plan : Plan) (past : List Sighting) (port : ℕ) → KeepsRules plan past
    → (history : List (Sent × Pattern)) × IsDueAt plan past port history
due_by_rules plan past port rules = go (order_at plan port) refl
  where
    done : order_at plan port ≢ Any → (history : List (Sent × Pattern)) × IsDueAt plan past port history
    done known =
        let at = rules.memories port known in
        (at.0, due_of_done plan past port at.0 known at.1)

    go : (order : Order) → order_at plan port ≡ order
        → (history : List (Sent × Pattern)) × IsDueAt plan past port history
    go Accept is = done (λ any. let both : Accept ≡ Any = sym is ∙ any in cc)
    go Reply is = done (λ any. let both : Reply ≡ Any = sym is ∙ any in cc)
    go Any is = rules.any_orders port is

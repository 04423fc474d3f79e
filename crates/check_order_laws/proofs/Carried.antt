-- The requests that a port accepts are as messages carry them: lawful ones, of bytes.
use Rattle.std.proofs.Common.{◌≡◌, ℕ, Bool, true, false, if◌then◌else◌, List, [], ◌∷◌, ◌++◌, map, filter, take, Option, refl, subst}
use Rattle.std.specs.List.{AllByRecursion}
use Rattle.check_cells.specs.Sent.{Sent}
use Rattle.check_beats.specs.Laws.{IsSpelled, begun, ended_asks}
use Rattle.check_beats.specs.State.{AskBegun, ask_of, ends_ask}
use Rattle.check_memory.specs.Laws.{IsLawfulAsk}
use Rattle.check_watch.specs.declared.beat.Beat.{Beat}
use Rattle.check_watch.specs.declared.beat.Beat.TheVariants.{A, D}
use Rattle.check_watch.specs.Lawful.{IsLawfulGroup}
use Rattle.check_watch.specs.Plan.{Plan, Sighting, wide_of, bus_of}
use Rattle.check_watch_laws.specs.Crossed.{AskSeen, AreWatched, ask_beat, ask_ended, asking_at, asks_over, more_asks}
use Rattle.check_watch_laws.specs.Memories.{is_for, ask_answered}
use Rattle.check_watch_laws.specs.Moments.{RequestMoment, moment_of, moments, moments_with}
use Rattle.check_watch_laws.specs.Moments.Act.{Accepts, Answers}
use Rattle.check_watch_laws.proofs.Turned.{messages}
use Rattle.check_watch_laws.proofs.Turns.{own_is}
use Rattle.check_order_laws.specs.Looser.{HaveByteLanes}
use Rattle.check_order_laws.proofs.Bytes.{small_ended}
use Rattle.check_order_laws.proofs.Effects.{IsCarriedAsk, AreCarried}

last_of : {X : Type 0} (P : X → Type 0) (xs : List X) (x : X) → AllByRecursion P (xs ++ x ∷ []) → P x
last_of P [] x all = all.0
last_of P (y ∷ xs) x all = last_of P xs x all.1

-- ---- lists of moments

pub carried_more : (before later : List RequestMoment) → AreCarried before → AreCarried later → AreCarried (before ++ later)
carried_more [] later all more = more
carried_more (moment ∷ before) later all more = (all.0, carried_more before later all.1 more)

abbrev AreCarriedAsks : List AskSeen → Type 0
AreCarriedAsks seen = AllByRecursion (λ (one : AskSeen). IsCarriedAsk one.sent.ask) seen

accepted_so : (plan : Plan) (port wide : ℕ) (seen : List AskSeen) → AreCarriedAsks seen
    → AreCarried (map (moment_of Accepts wide) (filter (is_for plan port) seen))
accepted_so plan port wide [] all = tt
accepted_so plan port wide (one ∷ seen) all = go (accepted_so plan port wide seen all.1) (is_for plan port one)
  where
    go : AreCarried (map (moment_of Accepts wide) (filter (is_for plan port) seen)) → (here : Bool)
        → AreCarried (map (moment_of Accepts wide)
        (if here then one ∷ filter (is_for plan port) seen else filter (is_for plan port) seen))
    go more true = (all.0, more)
    go more false = more

answered_so : (wide : ℕ) (seen : List AskSeen) → AreCarried (map (moment_of Answers wide) seen)
answered_so wide [] = tt
answered_so wide (one ∷ seen) = (tt, answered_so wide seen)

-- ---- the request that a beat ends

ended_so : (plan : Plan) (past : List Sighting) (x : Sighting) (beat : Beat)
    → AreWatched plan.layout (record x { beat = beat } ∷ past) → IsLawfulGroup plan (record x { beat = beat } ∷ past)
    → HaveByteLanes (record x { beat = beat } ∷ past)
    → AreCarriedAsks (ask_ended plan.layout past (record x { beat = beat }) beat)
ended_so plan past x (D beat) watched lawful bytes = tt
ended_so plan past x (A beat) watched lawful bytes = go (ends_ask bus before beat) refl
  where
    now : Sighting
    now = record x { beat = A beat }

    bus : ℕ
    bus = bus_of plan.layout x.link

    before : Option AskBegun
    before = asking_at plan.layout x.link past

    ask : Sent
    ask = ask_of bus before beat (take bus x.lanes)

    spelled : AllByRecursion (IsSpelled bus) (ended_asks bus (ask_beat bus beat x.lanes ∷ asks_over plan.layout x.link past))
    spelled = subst (λ (h : Bool). AllByRecursion (IsSpelled bus) (ended_asks bus
        (if h then more_asks bus now (A beat) (asks_over plan.layout x.link past) else asks_over plan.layout x.link past)))
        (own_is x.link) ((messages plan (now ∷ past) watched lawful).links x.link).asks_spelled

    lawful_ask : ends_ask bus before beat ≡ true → IsLawfulAsk ask.ask
    lawful_ask is =
        let over = asks_over plan.layout x.link past in
        let all = subst (λ (e : Bool). AllByRecursion (IsSpelled bus) (if e
        then ended_asks bus over ++ (ask, begun bus over ++ ask_beat bus beat x.lanes ∷ []) ∷ []
        else ended_asks bus over)) is spelled in
        (last_of (IsSpelled bus) (ended_asks bus over) (ask, begun bus over ++ ask_beat bus beat x.lanes ∷ []) all).0.lawful

    go : (ends : Bool) → ends_ask bus before beat ≡ ends
        → AreCarriedAsks (if ends then record { link = x.link; sent = ask } ∷ [] else [])
    go true is = (record { lawful = lawful_ask is; bytes = small_ended plan.layout past now beat bytes }, tt)
    go false is = tt

-- ---- all beats

pub are_carried : (plan : Plan) (past : List Sighting) → AreWatched plan.layout past → IsLawfulGroup plan past
    → HaveByteLanes past → (port : ℕ) → AreCarried (moments plan port past)
are_carried plan [] watched lawful bytes port = tt
are_carried plan (x ∷ past) watched lawful bytes port =
    carried_more (moments plan port past) (moments_with plan port past x x.beat)
    (are_carried plan past watched.1 lawful.0 bytes.1 port) (go x.beat (ended_so plan past x x.beat watched lawful bytes))
  where
    go : (beat : Beat) → AreCarriedAsks (ask_ended plan.layout past (record x { beat = beat }) beat)
        → AreCarried (moments_with plan port past (record x { beat = beat }) beat)
    go (A beat) all =
        accepted_so plan port (wide_of plan x.link beat.source)
        (ask_ended plan.layout past (record x { beat = A beat }) (A beat)) all
    go (D beat) all =
        answered_so (wide_of plan x.link beat.source)
        (filter (is_for plan port) (ask_answered plan past (record x { beat = D beat }) (D beat)))

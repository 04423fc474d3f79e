-- A reply that has ended answered its request with each beat.
use Rattle.std.proofs.Common.{◌≡◌, ◌∙◌, ℕ, Bool, true, false, if◌then◌else◌, List, [], ◌∷◌, ◌++◌, length, zip, Option, Some, None, slice_get, suc, refl, ap, sym, subst, append-nil}
use Rattle.std.specs.List.{AllByRecursion}
use Rattle.tl_types.specs.Request.{Request}
use Rattle.check_cells.specs.Sent.{Sent}
use Rattle.check_cells.specs.Pattern.{Pattern}
use Rattle.check_beats.specs.Form.{Continues, SameReplyFields}
use Rattle.check_beats.specs.Spelling.{ReplyBeat}
use Rattle.check_beats.specs.State.{Under, ReplyBegun, ends_reply, first_reply}
use Rattle.check_beats.specs.declared.beat.AskHead.{AskHead}
use Rattle.check_beats.specs.declared.beat.ReplyHead.{ReplyHead}
use Rattle.check_flight.specs.Flight.Turn.{Asked}
use Rattle.check_watch.specs.declared.beat.Beat.{Beat}
use Rattle.check_watch.specs.declared.beat.Beat.TheVariants.{A, D}
use Rattle.check_watch.specs.declared.beat.Link.{Link}
use Rattle.check_watch.specs.Allowed.{IsAllowedAsk, IsAllowedReply}
use Rattle.check_watch.specs.Lawful.{IsLawfulGroup, IsAllowed}
use Rattle.check_watch.specs.Past.{State, scene_of, state}
use Rattle.check_watch.specs.Plan.{Plan, Sighting, LinkSide, side_of, link_number, wide_of, is_of, bus_of}
use Rattle.check_watch.proofs.InFlight.{ask_at, reply_at, of_is}
use Rattle.check_watch_laws.specs.Crossed.{AreWatched, AskSeen, ReplySeen, reply_beat, begun_replies_at, replying_at, replies_over, ask_ended, reply_ended, asks, replies}
use Rattle.check_watch_laws.specs.Messages.{IsReplyBeatTo, IsAnswered}
use Rattle.check_watch_laws.proofs.Buses.{bus_is}
use Rattle.check_watch_laws.proofs.Fitting.{replies_fit}
use Rattle.check_watch_laws.proofs.Flights.{pending, AreInStep, nothing_pending, in_step}
use Rattle.check_watch_laws.proofs.Heads.{ReplyHeads, reply_heads}
use Rattle.check_watch_laws.proofs.Links.{LinksAre, links_are}
use Rattle.check_watch_laws.proofs.Lists.{zip_past, zip_more}
use Rattle.check_watch_laws.proofs.Turns.{AsksFly, asks_fly, asked_at, own_link}

all_from_each : {X : Type 0} (P : X → Type 0) (xs : List X) → ((k : ℕ) (x : X) → slice_get xs k ≡ Some x → P x)
    → AllByRecursion P xs
all_from_each P [] each = tt
all_from_each P (x ∷ xs) each = (each 0 x refl, all_from_each P xs (λ k. each (suc k)))

pub all_more : {X : Type 0} (P : X → Type 0) (xs : List X) (x : X) → AllByRecursion P xs → P x
    → AllByRecursion P (xs ++ x ∷ [])
all_more P [] x all last = (last, tt)
all_more P (y ∷ xs) x all last = (all.0, all_more P xs x all.1 last)

-- beats that have crossed of a reply answer what a later one does
begun_answers : (kept : Option ReplyBegun) (beats : List ReplyBeat) (beat : ReplyHead) (ask : Request)
    → ReplyHeads kept beats → Continues SameReplyFields (first_reply kept) beat → IsReplyBeatTo ask beat
    → AllByRecursion (λ (b : ReplyBeat). IsReplyBeatTo ask b.head) beats
begun_answers None beats beat ask heads same answers =
    subst (λ (l : List ReplyBeat). AllByRecursion (λ (b : ReplyBeat). IsReplyBeatTo ask b.head) l) (sym (heads.empty refl)) tt
begun_answers (Some b) beats beat ask heads same answers =
    all_from_each (λ (c : ReplyBeat). IsReplyBeatTo ask c.head) beats
    (λ k c at.
    let fields = heads.each k c at b.first refl in
    let last = same b.first refl in
    record {
      size = fields.size ∙ sym last.size ∙ answers.size;
      opcode = fields.opcode ∙ sym last.opcode ∙ answers.opcode;
    })

abbrev pub AreAnswered : Plan → List Sighting → Type 0
AreAnswered plan past =
    (side : LinkSide) (wide : ℕ) → AllByRecursion IsAnswered (zip (asks plan side wide past) (replies plan side wide past))

-- the beats of the reply that is under way at each link have the fields of its first
abbrev pub RepliesHaveHeads : Plan → List Sighting → Type 0
RepliesHaveHeads plan past =
    (link : Link) → ReplyHeads (replying_at plan.layout link past) (begun_replies_at plan.layout link past)

pub replies_have_heads : (plan : Plan) (past : List Sighting) → AreWatched plan.layout past → IsLawfulGroup plan past
    → RepliesHaveHeads plan past
replies_have_heads plan past watched lawful link =
    let bus = bus_is plan.layout link in
    reply_heads (bus_of plan.layout link) bus.0 bus.1 (replies_over plan.layout link past)
    (replies_fit plan past watched lawful link)

module _ (plan : Plan) (s : State) (past : List Sighting) (linked : LinksAre plan s past)
    (busy : AsksFly plan s) (steps : AreInStep plan s past)
    (heads : RepliesHaveHeads plan past) (before : AreAnswered plan past) (link : Link)
    (known : ℕ) (lanes : List ℕ) where
  pub ask_answered : (beat : AskHead) → IsAllowedAsk plan.layout link (scene_of plan s link (A beat)) beat known lanes
      → AreAnswered plan (ask_at link known lanes beat ∷ past)
  ask_answered beat allowed side wide = go (is_of plan (ask_at link known lanes beat) side wide) refl
    where
      more : List AskSeen
      more = ask_ended plan.layout past (ask_at link known lanes beat) (A beat)

      go : (of : Bool) → is_of plan (ask_at link known lanes beat) side wide ≡ of
          → AllByRecursion IsAnswered (zip (if of then asks plan side wide past
          ++ ask_ended plan.layout past (ask_at link known lanes beat) (A beat) else asks plan side wide past)
          (if of then replies plan side wide past ++ [] else replies plan side wide past))
      go false is = before side wide
      go true is =
          let both = of_is plan (ask_at link known lanes beat) side wide is in
          let none : pending side (s.flights side wide).turn ≡ [] =
          subst (λ sd. pending sd (s.flights sd wide).turn ≡ []) both.0
          (subst (λ w. pending (side_of link) (s.flights (side_of link) w).turn ≡ []) both.1
          (nothing_pending plan s past linked busy steps link known lanes beat allowed)) in
          let step = steps side wide in
          let counted : length (asks plan side wide past) ≡ length (replies plan side wide past) =
          ap (λ (l : List AskSeen). length l) (step.asks_are ∙ ap (λ l. step.done ++ l) none ∙ append-nil step.done)
          ∙ sym step.counted in
          subst (λ l. AllByRecursion IsAnswered l)
          (sym (zip_past (asks plan side wide past) more (replies plan side wide past) counted)
          ∙ ap (λ l. zip (asks plan side wide past ++ more) l)
          (sym (append-nil (replies plan side wide past)))) (before side wide)

  module _ (beat : ReplyHead) (allowed : IsAllowedReply plan.layout link
      (scene_of plan s link (D beat)) beat known lanes) where
    abbrev own : ℕ
    own = wide_of plan link beat.source

    -- the request that it answers
    answers : (ask : Sent) × ((s.flights (side_of link) own).turn ≡ Asked (link_number link) ask) × IsReplyBeatTo ask.ask beat
    answers =
        let found = asked_at (link_number link) (s.flights (side_of link) own).turn _ allowed.answers in
        (found.0, found.1, record { size = found.2.size; opcode = found.2.opcode })

    abbrev message : List ReplyBeat
    message = begun_replies_at plan.layout link past ++ reply_beat (bus_of plan.layout link) beat known lanes ∷ []

    whole : AllByRecursion (λ (b : ReplyBeat). IsReplyBeatTo answers.0.ask b.head) message
    whole = all_more (λ (b : ReplyBeat). IsReplyBeatTo answers.0.ask b.head) (begun_replies_at plan.layout link past)
        (reply_beat (bus_of plan.layout link) beat known lanes)
        (begun_answers (replying_at plan.layout link past) (begun_replies_at plan.layout link past) beat answers.0.ask
        (heads link)
        (subst (λ (u : Under). Continues SameReplyFields (first_reply u.replying) beat) (linked link)
        allowed.fits.same) answers.2) answers.2

    own_answered : AllByRecursion IsAnswered
        (zip (asks plan (side_of link) own past ++ [])
        (replies plan (side_of link) own past
        ++ reply_ended plan.layout past (reply_at link known lanes beat) (D beat)))
    own_answered = go (ends_reply (bus_of plan.layout link) (replying_at plan.layout link past) beat) _ whole
      where
        go : (ends : Bool) (reply : ℕ → Pattern)
            → AllByRecursion (λ (b : ReplyBeat). IsReplyBeatTo answers.0.ask b.head) message
            → AllByRecursion IsAnswered (zip (asks plan (side_of link) own past ++ [])
            (replies plan (side_of link) own past ++
            (if ends then record { link = link; reply = reply; beats = message } ∷ [] else [])))
        go false captured all = subst (λ l. AllByRecursion IsAnswered l)
            (sym (ap (λ l. zip l (replies plan (side_of link) own past ++ []))
            (append-nil (asks plan (side_of link) own past))
            ∙ ap (λ l. zip (asks plan (side_of link) own past) l) (append-nil (replies plan (side_of link) own past))))
            (before (side_of link) own)
        go true captured all =
            let step = steps (side_of link) own in
            let last : AskSeen = record { link = link; sent = answers.0 } in
            let reply : ReplySeen = record { link = link; reply = captured; beats = message } in
            let answered = replies plan (side_of link) own past in
            let asked_is : asks plan (side_of link) own past ≡ step.done ++ last ∷ [] =
            step.asks_are ∙ ap (λ t. step.done ++ pending (side_of link) t) answers.1
            ∙ ap (λ (l : Link). step.done ++ record { link = l; sent = answers.0 } ∷ []) (own_link link) in
            let was : AllByRecursion IsAnswered (zip step.done answered) =
            subst (λ l. AllByRecursion IsAnswered l)
            (ap (λ l. zip l answered) asked_is ∙ zip_past step.done (last ∷ []) answered (sym step.counted))
            (before (side_of link) own) in
            subst (λ l. AllByRecursion IsAnswered l)
            (sym (ap (λ l. zip l (answered ++ reply ∷ []))
            (append-nil (asks plan (side_of link) own past) ∙ asked_is)
            ∙ zip_more step.done answered last reply (sym step.counted)))
            (all_more IsAnswered (zip step.done answered) (last, reply) was (record { link = refl; beats = all }))

    pub reply_answered : AreAnswered plan (reply_at link known lanes beat ∷ past)
    reply_answered side wide = go (is_of plan (reply_at link known lanes beat) side wide) refl
      where
        go : (of : Bool) → is_of plan (reply_at link known lanes beat) side wide ≡ of
            → AllByRecursion IsAnswered (zip (if of then asks plan side wide past ++ [] else asks plan side wide past)
            (if of then replies plan side wide past
            ++ reply_ended plan.layout past (reply_at link known lanes beat) (D beat) else replies plan side wide past))
        go false is = before side wide
        go true is =
            let both = of_is plan (reply_at link known lanes beat) side wide is in
            let P : LinkSide → ℕ → Type 0 =
            λ sd w. AllByRecursion IsAnswered (zip (asks plan sd w past ++ [])
            (replies plan sd w past ++ reply_ended plan.layout past (reply_at link known lanes beat) (D beat))) in
            subst (λ sd. P sd wide) both.0 (subst (λ w. P (side_of link) w) both.1 own_answered)

pub are_answered : (plan : Plan) (past : List Sighting) → AreWatched plan.layout past → IsLawfulGroup plan past
    → AreAnswered plan past
are_answered plan [] watched lawful = λ side wide. tt
are_answered plan (x ∷ past) watched lawful = go (are_answered plan past watched.1 lawful.0) x.beat lawful.1
  where
    go : AreAnswered plan past → (beat : Beat)
        → IsAllowed plan (scene_of plan (state plan past) x.link beat) (record x { beat = beat })
        → AreAnswered plan (record x { beat = beat } ∷ past)
    go before (A beat) allowed =
        ask_answered plan (state plan past) past (links_are plan past) (asks_fly plan past lawful.0)
        (in_step plan past lawful.0) (replies_have_heads plan past watched.1 lawful.0) before x.link x.known x.lanes beat
        allowed
    go before (D beat) allowed =
        reply_answered plan (state plan past) past (links_are plan past) (asks_fly plan past lawful.0)
        (in_step plan past lawful.0) (replies_have_heads plan past watched.1 lawful.0) before x.link x.known x.lanes beat
        allowed

-- The messages of a source are those of its links that have its source.
use Rattle.std.proofs.Common.{◌≡◌, ◌∙◌, ℕ, ◌%◌, ◌^◌, Bool, true, false, if◌then◌else◌, List, [], ◌∷◌, ◌++◌, Option, Some, None, map, filter, take, refl, ap, sym, subst, append-nil}
use Rattle.std.specs.Prelude.{◌==◌, ◌&&◌}
use Rattle.std.proofs.lemmas.List.{map-append}
use Rattle.std.proofs.lemmas.List.Elements.{filter-append}
use Rattle.check_cells.specs.Sent.{Sent}
use Rattle.check_cells.specs.Pattern.{Pattern}
use Rattle.check_beats.specs.Form.{Continues, SameReplyFields}
use Rattle.check_beats.specs.Laws.{ended_asks, ended_replies}
use Rattle.check_beats.specs.Spelling.{AskBeat, ReplyBeat}
use Rattle.check_beats.specs.State.{Under, ReplyBegun, ask_of, ends_ask, ends_reply, reply_of, first_reply}
use Rattle.check_watch.specs.declared.beat.Beat.{Beat}
use Rattle.check_watch.specs.declared.beat.Beat.TheVariants.{A, D}
use Rattle.check_watch.specs.declared.beat.Link.{Link}
use Rattle.check_watch.specs.Lawful.{IsLawfulGroup, IsAllowed}
use Rattle.check_watch.specs.Past.{state, scene_of}
use Rattle.check_watch.specs.Plan.{Plan, Layout, Sighting, side_of, link_number, source_of, wide_of, is_link, is_of, bus_of}
use Rattle.check_watch_laws.specs.Crossed.{AreWatched, AskSeen, ReplySeen, ask_beat, reply_beat, asks_over, replies_over, more_asks, more_replies, asking_at, begun_at, ended_at, replying_at, begun_replies_at, ended_replies_at, ask_ended, reply_ended, asks, replies}
use Rattle.check_watch_laws.specs.Messages.{asks_at, replies_at, asks_of_source, replies_of_source, source_of_reply}
use Rattle.check_watch_laws.proofs.Heads.{ReplyHeads}
use Rattle.check_watch_laws.proofs.Links.{links_are, same_link}
use Rattle.check_watch_laws.proofs.Replying.{replies_have_heads}
use Rattle.check_watch_laws.proofs.Turns.{same_side-refl, own_is}

-- ---- requests

-- the requests of a list with more at its end
asks_more : (link : Link) (seen more : List AskSeen)
    → asks_at link (seen ++ more) ≡ asks_at link seen ++ asks_at link more
asks_more link seen more =
    let test : AskSeen → Bool = λ one. is_link one.link (side_of link) (link_number link) in
    ap (λ l. map (λ (one : AskSeen). one.sent) l) (filter-append test seen more)
    ∙ map-append (λ (one : AskSeen). one.sent) (filter test seen) (filter test more)

-- what a beat adds that is at another link
asks_other : (layout : Layout) (past : List Sighting) (link : Link) (x : Sighting) (beat : Beat)
    → is_link x.link (side_of link) (link_number link) ≡ false → asks_at link (ask_ended layout past x beat) ≡ []
asks_other layout past link x (D beat) is = refl
asks_other layout past link x (A beat) is =
    go (ask_of (bus_of layout x.link) (asking_at layout x.link past) beat (take (bus_of layout x.link) x.lanes))
    (ends_ask (bus_of layout x.link) (asking_at layout x.link past) beat)
  where
    go : (ask : Sent) (ends : Bool) → asks_at link (if ends then record { link = x.link; sent = ask } ∷ [] else []) ≡ []
    go ask true = ap (λ b. map (λ (one : AskSeen). one.sent) (if b then record { link = x.link; sent = ask } ∷ [] else []))
        is
    go ask false = refl

-- at its own link: it is one of the link's messages
asks_own : (plan : Plan) (past : List Sighting) (x : Sighting) (wide : ℕ) (beat : Beat)
    → asks_of_source plan x.link wide (ended_asks (bus_of plan.layout x.link)
    (more_asks (bus_of plan.layout x.link) x beat (asks_over plan.layout x.link past)))
    ≡ asks_of_source plan x.link wide (ended_at plan.layout x.link past)
    ++ (if wide_of plan x.link (source_of beat) == wide then asks_at x.link (ask_ended plan.layout past x beat) else [])
asks_own plan past x wide beat = by beat
  where
    none : (b : Bool) → ◌≡◌ {A = List Sent} (if b then [] else []) []
    none true = refl
    none false = refl

    before : List Sent
    before = asks_of_source plan x.link wide (ended_at plan.layout x.link past)

    nothing : (b : Bool) → before ≡ before ++ (if b then [] else [])
    nothing b = sym (ap (λ l. before ++ l) (none b) ∙ append-nil before)

    by : (beat : Beat) → asks_of_source plan x.link wide (ended_asks (bus_of plan.layout x.link)
        (more_asks (bus_of plan.layout x.link) x beat (asks_over plan.layout x.link past)))
        ≡ asks_of_source plan x.link wide (ended_at plan.layout x.link past)
        ++ (if wide_of plan x.link (source_of beat) == wide
        then asks_at x.link (ask_ended plan.layout past x beat) else [])
    by (D beat) = nothing (wide_of plan x.link beat.source == wide)
    by (A beat) = go (ends_ask (bus_of plan.layout x.link) (asking_at plan.layout x.link past) beat)
        (ask_of (bus_of plan.layout x.link) (asking_at plan.layout x.link past) beat
        (take (bus_of plan.layout x.link) x.lanes)) refl
        (begun_at plan.layout x.link past ++ ask_beat (bus_of plan.layout x.link) beat x.lanes ∷ [])
      where
        go : (ends : Bool) (ask : Sent) → ask.ask.source ≡ beat.source → (message : List AskBeat)
            → asks_of_source plan x.link wide (if ends then ended_at plan.layout x.link past ++ (ask, message) ∷ []
            else ended_at plan.layout x.link past)
            ≡ asks_of_source plan x.link wide (ended_at plan.layout x.link past)
            ++ (if wide_of plan x.link beat.source == wide then asks_at x.link
            (if ends then record { link = x.link; sent = ask } ∷ [] else []) else [])
        go false ask is message = nothing (wide_of plan x.link beat.source == wide)
        go true ask is message =
            let entry : Sent × List AskBeat = (ask, message) in
            let whole = ended_at plan.layout x.link past in
            let test : Sent × List AskBeat → Bool = λ one. wide_of plan x.link one.0.ask.source == wide in
            ap (λ l. map (λ (one : Sent × List AskBeat). one.0) l) (filter-append test whole (entry ∷ []))
            ∙ map-append (λ (one : Sent × List AskBeat). one.0) (filter test whole)
            (if wide_of plan x.link ask.ask.source == wide then entry ∷ [] else [])
            ∙ ap (λ l. before ++ l) (ap (λ n. map (λ (one : Sent × List AskBeat). one.0)
            (if wide_of plan x.link n == wide then entry ∷ [] else [])) is
            ∙ each (wide_of plan x.link beat.source == wide))
          where
            each : (b : Bool) → map (λ (one : Sent × List AskBeat). one.0)
                (if b then (ask, message) ∷ [] else [])
                ≡ (if b then asks_at x.link (record { link = x.link; sent = ask } ∷ []) else [])
            each true = ap (λ h. map (λ (one : AskSeen). one.sent)
                (if h then record { link = x.link; sent = ask } ∷ [] else [])) (sym (own_is x.link))
            each false = refl

-- the list of a source after one beat more at its own link
asks_here : (plan : Plan) (past : List Sighting) (x : Sighting) (wide : ℕ)
    → asks_at x.link (asks plan (side_of x.link) wide past)
    ≡ asks_of_source plan x.link wide (ended_at plan.layout x.link past)
    → asks_at x.link (asks plan (side_of x.link) wide (x ∷ past))
    ≡ asks_of_source plan x.link wide (ended_asks (bus_of plan.layout x.link)
    (more_asks (bus_of plan.layout x.link) x x.beat (asks_over plan.layout x.link past)))
asks_here plan past x wide was =
    ap (λ b. asks_at x.link (if b then asks plan (side_of x.link) wide past ++ ask_ended plan.layout past x x.beat
    else asks plan (side_of x.link) wide past)) of_is
    ∙ by (wide_of plan x.link (source_of x.beat) == wide)
    ∙ ap (λ l. l ++ (if wide_of plan x.link (source_of x.beat) == wide
    then asks_at x.link (ask_ended plan.layout past x x.beat) else [])) was
    ∙ sym (asks_own plan past x wide x.beat)
  where
    of_is : is_of plan x (side_of x.link) wide ≡ (wide_of plan x.link (source_of x.beat) == wide)
    of_is = ap (λ b. b && (wide_of plan x.link (source_of x.beat) == wide)) (same_side-refl (side_of x.link))

    by : (b : Bool) → asks_at x.link (if b then asks plan (side_of x.link) wide past
        ++ ask_ended plan.layout past x x.beat else asks plan (side_of x.link) wide past)
        ≡ asks_at x.link (asks plan (side_of x.link) wide past)
        ++ (if b then asks_at x.link (ask_ended plan.layout past x x.beat) else [])
    by true = asks_more x.link (asks plan (side_of x.link) wide past) (ask_ended plan.layout past x x.beat)
    by false = sym (append-nil (asks_at x.link (asks plan (side_of x.link) wide past)))

pub asks_sorted : (plan : Plan) (past : List Sighting) (link : Link) (wide : ℕ)
    → asks_at link (asks plan (side_of link) wide past)
    ≡ asks_of_source plan link wide (ended_at plan.layout link past)
asks_sorted plan [] link wide = refl
asks_sorted plan (x ∷ past) link wide =
    go (is_link x.link (side_of link) (link_number link)) refl (asks_sorted plan past link wide)
  where
    Sorted : Bool → Link → Type 0
    Sorted at l = asks_at l (asks plan (side_of l) wide (x ∷ past))
        ≡ asks_of_source plan l wide (ended_asks (bus_of plan.layout l)
        (if at then more_asks (bus_of plan.layout l) x x.beat (asks_over plan.layout l past)
        else asks_over plan.layout l past))

    go : (at : Bool) → is_link x.link (side_of link) (link_number link) ≡ at
        → asks_at link (asks plan (side_of link) wide past)
        ≡ asks_of_source plan link wide (ended_at plan.layout link past)
        → Sorted at link
    go true is before =
        let at : x.link ≡ link = same_link x.link link is in
        subst (λ l. Sorted true l) at (asks_here plan past x wide
        (subst (λ l. asks_at l (asks plan (side_of l) wide past)
        ≡ asks_of_source plan l wide (ended_at plan.layout l past)) (sym at) before))
    go false is before = by (is_of plan x (side_of link) wide) ∙ before
      where
        by : (b : Bool) → asks_at link (if b then asks plan (side_of link) wide past
            ++ ask_ended plan.layout past x x.beat else asks plan (side_of link) wide past)
            ≡ asks_at link (asks plan (side_of link) wide past)
        by false = refl
        by true = asks_more link (asks plan (side_of link) wide past) (ask_ended plan.layout past x x.beat)
            ∙ ap (λ l. asks_at link (asks plan (side_of link) wide past) ++ l)
            (asks_other plan.layout past link x x.beat is)
            ∙ append-nil (asks_at link (asks plan (side_of link) wide past))

-- ---- replies

abbrev Message : Type 0
Message = (ℕ → Pattern) × List ReplyBeat

replies_more : (link : Link) (seen more : List ReplySeen)
    → replies_at link (seen ++ more) ≡ replies_at link seen ++ replies_at link more
replies_more link seen more =
    let test : ReplySeen → Bool = λ one. is_link one.link (side_of link) (link_number link) in
    ap (λ l. map (λ (one : ReplySeen). (one.reply, one.beats)) l) (filter-append test seen more)
    ∙ map-append (λ (one : ReplySeen). (one.reply, one.beats)) (filter test seen) (filter test more)

replies_other : (layout : Layout) (past : List Sighting) (link : Link) (x : Sighting) (beat : Beat)
    → is_link x.link (side_of link) (link_number link) ≡ false → replies_at link (reply_ended layout past x beat) ≡ []
replies_other layout past link x (A beat) is = refl
replies_other layout past link x (D beat) is =
    go (λ address. reply_of (bus_of layout x.link) (replying_at layout x.link past) address beat
    (x.known % 2 ^ bus_of layout x.link) (take (bus_of layout x.link) x.lanes))
    (begun_replies_at layout x.link past ++ reply_beat (bus_of layout x.link) beat x.known x.lanes ∷ [])
    (ends_reply (bus_of layout x.link) (replying_at layout x.link past) beat)
  where
    go : (reply : ℕ → Pattern) (message : List ReplyBeat) (ends : Bool)
        → replies_at link (if ends then record { link = x.link; reply = reply; beats = message } ∷ [] else []) ≡ []
    go reply message true = ap (λ b. map (λ (one : ReplySeen). (one.reply, one.beats))
        (if b then record { link = x.link; reply = reply; beats = message } ∷ [] else [])) is
    go reply message false = refl

-- the source of a reply is that of its last beat
source_is : (kept : Option ReplyBegun) (beats : List ReplyBeat) (last : ReplyBeat) → ReplyHeads kept beats
    → Continues SameReplyFields (first_reply kept) last.head → source_of_reply (beats ++ last ∷ []) ≡ last.head.source
source_is kept [] last heads same = refl
source_is None (first ∷ more) last heads same = let none : first ∷ more ≡ [] = heads.empty refl in absurd (cc)
source_is (Some b) (first ∷ more) last heads same =
    (heads.each 0 first refl b.first refl).source ∙ sym (same b.first refl).source

-- a beat of a reply has the source of its first beat
abbrev HasSame : Layout → List Sighting → Sighting → Beat → Type 0
HasSame layout past x (A beat) = Unit {0}
HasSame layout past x (D beat) =
    source_of_reply (begun_replies_at layout x.link past
    ++ reply_beat (bus_of layout x.link) beat x.known x.lanes ∷ []) ≡ beat.source

replies_own : (plan : Plan) (past : List Sighting) (x : Sighting) (wide : ℕ) (beat : Beat)
    → HasSame plan.layout past x beat
    → replies_of_source plan x.link wide (ended_replies (bus_of plan.layout x.link)
    (more_replies (bus_of plan.layout x.link) x beat (replies_over plan.layout x.link past)))
    ≡ replies_of_source plan x.link wide (ended_replies_at plan.layout x.link past)
    ++ (if wide_of plan x.link (source_of beat) == wide
    then replies_at x.link (reply_ended plan.layout past x beat) else [])
replies_own plan past x wide beat = by beat
  where
    none : (b : Bool) → ◌≡◌ {A = List Message} (if b then [] else []) []
    none true = refl
    none false = refl

    before : List Message
    before = replies_of_source plan x.link wide (ended_replies_at plan.layout x.link past)

    nothing : (b : Bool) → before ≡ before ++ (if b then [] else [])
    nothing b = sym (ap (λ l. before ++ l) (none b) ∙ append-nil before)

    by : (beat : Beat) → HasSame plan.layout past x beat
        → replies_of_source plan x.link wide (ended_replies (bus_of plan.layout x.link)
        (more_replies (bus_of plan.layout x.link) x beat (replies_over plan.layout x.link past)))
        ≡ replies_of_source plan x.link wide (ended_replies_at plan.layout x.link past)
        ++ (if wide_of plan x.link (source_of beat) == wide
        then replies_at x.link (reply_ended plan.layout past x beat) else [])
    by (A beat) same = nothing (wide_of plan x.link beat.source == wide)
    by (D beat) same = go (ends_reply (bus_of plan.layout x.link) (replying_at plan.layout x.link past) beat)
        (λ address. reply_of (bus_of plan.layout x.link) (replying_at plan.layout x.link past) address beat
        (x.known % 2 ^ bus_of plan.layout x.link) (take (bus_of plan.layout x.link) x.lanes))
        (begun_replies_at plan.layout x.link past
        ++ reply_beat (bus_of plan.layout x.link) beat x.known x.lanes ∷ []) same
      where
        go : (ends : Bool) (reply : ℕ → Pattern) (message : List ReplyBeat) → source_of_reply message ≡ beat.source
            → replies_of_source plan x.link wide
            (if ends then ended_replies_at plan.layout x.link past ++ (reply, message) ∷ []
            else ended_replies_at plan.layout x.link past)
            ≡ replies_of_source plan x.link wide (ended_replies_at plan.layout x.link past)
            ++ (if wide_of plan x.link beat.source == wide then replies_at x.link
            (if ends then record { link = x.link; reply = reply; beats = message } ∷ [] else []) else [])
        go false reply message is = nothing (wide_of plan x.link beat.source == wide)
        go true reply message is =
            let entry : Message = (reply, message) in
            let test : Message → Bool = λ one. wide_of plan x.link (source_of_reply one.1) == wide in
            filter-append test (ended_replies_at plan.layout x.link past) (entry ∷ [])
            ∙ ap (λ n. before ++ (if wide_of plan x.link n == wide then entry ∷ [] else [])) is
            ∙ ap (λ l. before ++ l) (each (wide_of plan x.link beat.source == wide))
          where
            each : (b : Bool) → (if b then (reply, message) ∷ [] else [])
                ≡ (if b then replies_at x.link (record { link = x.link; reply = reply; beats = message } ∷ []) else [])
            each true = ap (λ h. map (λ (one : ReplySeen). (one.reply, one.beats))
                (if h then record { link = x.link; reply = reply; beats = message } ∷ [] else [])) (sym (own_is x.link))
            each false = refl

replies_here : (plan : Plan) (past : List Sighting) (x : Sighting) (wide : ℕ) → HasSame plan.layout past x x.beat
    → replies_at x.link (replies plan (side_of x.link) wide past)
    ≡ replies_of_source plan x.link wide (ended_replies_at plan.layout x.link past)
    → replies_at x.link (replies plan (side_of x.link) wide (x ∷ past))
    ≡ replies_of_source plan x.link wide (ended_replies (bus_of plan.layout x.link)
    (more_replies (bus_of plan.layout x.link) x x.beat (replies_over plan.layout x.link past)))
replies_here plan past x wide same was =
    ap (λ b. replies_at x.link (if b then replies plan (side_of x.link) wide past
    ++ reply_ended plan.layout past x x.beat else replies plan (side_of x.link) wide past)) of_is
    ∙ by (wide_of plan x.link (source_of x.beat) == wide)
    ∙ ap (λ l. l ++ (if wide_of plan x.link (source_of x.beat) == wide
    then replies_at x.link (reply_ended plan.layout past x x.beat) else [])) was
    ∙ sym (replies_own plan past x wide x.beat same)
  where
    of_is : is_of plan x (side_of x.link) wide ≡ (wide_of plan x.link (source_of x.beat) == wide)
    of_is = ap (λ b. b && (wide_of plan x.link (source_of x.beat) == wide)) (same_side-refl (side_of x.link))

    by : (b : Bool) → replies_at x.link (if b then replies plan (side_of x.link) wide past
        ++ reply_ended plan.layout past x x.beat else replies plan (side_of x.link) wide past)
        ≡ replies_at x.link (replies plan (side_of x.link) wide past)
        ++ (if b then replies_at x.link (reply_ended plan.layout past x x.beat) else [])
    by true = replies_more x.link (replies plan (side_of x.link) wide past) (reply_ended plan.layout past x x.beat)
    by false = sym (append-nil (replies_at x.link (replies plan (side_of x.link) wide past)))

pub replies_sorted : (plan : Plan) (past : List Sighting) → AreWatched plan.layout past → IsLawfulGroup plan past
    → (link : Link) (wide : ℕ)
    → replies_at link (replies plan (side_of link) wide past)
    ≡ replies_of_source plan link wide (ended_replies_at plan.layout link past)
replies_sorted plan [] watched lawful link wide = refl
replies_sorted plan (x ∷ past) watched lawful link wide =
    go (is_link x.link (side_of link) (link_number link)) refl
    (replies_sorted plan past watched.1 lawful.0 link wide)
  where
    same_at : (beat : Beat) → IsAllowed plan (scene_of plan (state plan past) x.link beat)
        (record x { beat = beat }) → HasSame plan.layout past x beat
    same_at (A beat) allowed = tt
    same_at (D beat) allowed =
        source_is (replying_at plan.layout x.link past) (begun_replies_at plan.layout x.link past)
        (reply_beat (bus_of plan.layout x.link) beat x.known x.lanes)
        (replies_have_heads plan past watched.1 lawful.0 x.link)
        (subst (λ (u : Under). Continues SameReplyFields (first_reply u.replying) beat) (links_are plan past x.link)
        allowed.fits.same)

    Sorted : Bool → Link → Type 0
    Sorted at l = replies_at l (replies plan (side_of l) wide (x ∷ past))
        ≡ replies_of_source plan l wide (ended_replies (bus_of plan.layout l)
        (if at then more_replies (bus_of plan.layout l) x x.beat (replies_over plan.layout l past)
        else replies_over plan.layout l past))

    go : (at : Bool) → is_link x.link (side_of link) (link_number link) ≡ at
        → replies_at link (replies plan (side_of link) wide past)
        ≡ replies_of_source plan link wide (ended_replies_at plan.layout link past)
        → Sorted at link
    go true is before =
        let at : x.link ≡ link = same_link x.link link is in
        subst (λ l. Sorted true l) at (replies_here plan past x wide (same_at x.beat lawful.1)
        (subst (λ l. replies_at l (replies plan (side_of l) wide past)
        ≡ replies_of_source plan l wide (ended_replies_at plan.layout l past)) (sym at) before))
    go false is before = by (is_of plan x (side_of link) wide) ∙ before
      where
        by : (b : Bool) → replies_at link (if b then replies plan (side_of link) wide past
            ++ reply_ended plan.layout past x x.beat else replies plan (side_of link) wide past)
            ≡ replies_at link (replies plan (side_of link) wide past)
        by false = refl
        by true = replies_more link (replies plan (side_of link) wide past) (reply_ended plan.layout past x x.beat)
            ∙ ap (λ l. replies_at link (replies plan (side_of link) wide past) ++ l)
            (replies_other plan.layout past link x x.beat is)
            ∙ append-nil (replies_at link (replies plan (side_of link) wide past))

-- A reply that is under way answers the request in flight.
use Rattle.std.proofs.Common.{◌≡◌, ◌∙◌, ℕ, ◌⊎◌, inl, inr, Bool, true, false, if◌then◌else◌, List, [], ◌∷◌, Option, Some, None, unwrap_or, refl, ap, sym, subst}
use Rattle.tl_types.specs.Request.{Request}
use Rattle.check_beats.specs.Form.{Continues, SameReplyFields}
use Rattle.check_beats.specs.State.{Under, ReplyBegun, first_reply}
use Rattle.check_beats.specs.declared.beat.AskHead.{AskHead}
use Rattle.check_beats.specs.declared.beat.ReplyHead.{ReplyHead}
use Rattle.check_flight.specs.Flight.{Turn, Flight, idle}
use Rattle.check_flight.specs.Flight.Turn.{Idle, Asking, Asked}
use Rattle.check_watch.specs.declared.beat.Beat.{Beat}
use Rattle.check_watch.specs.declared.beat.Beat.TheVariants.{A, D}
use Rattle.check_watch.specs.declared.beat.Link.{Link}
use Rattle.check_watch.specs.Allowed.{OfAsked, IsAllowedAsk, IsAllowedReply}
use Rattle.check_watch.specs.Lawful.{IsLawfulGroup, IsAllowed}
use Rattle.check_watch.specs.Past.{State, scene_of, state, state_after}
use Rattle.check_watch.specs.Plan.{Plan, Sighting, side_of, link_number, wide_of, is_link, is_of}
use Rattle.check_watch.specs.Scene.{under_after}
use Rattle.check_watch.proofs.InFlight.{ask_at, reply_at, of_is, of_own, own_after}
use Rattle.check_watch_laws.specs.Messages.{IsReplyBeatTo}
use Rattle.check_watch_laws.proofs.Heads.{first_reply_after}
use Rattle.check_watch_laws.proofs.Links.{same_link}
use Rattle.check_watch_laws.proofs.Turns.{AsksFly, asks_fly, open_before, elsewhere, mine, is_link_by, true_or_false}

abbrev pub RepliesAnswer : Plan → State → Type 0
RepliesAnswer plan s =
    (link : Link) (begun : ReplyBegun) → (s.links (side_of link) (link_number link)).replying ≡ Some begun
    → OfAsked (link_number link) (s.flights (side_of link) (wide_of plan link begun.first.source)).turn
    (λ ask. IsReplyBeatTo ask begun.first)

pub of_weaker : (n : ℕ) (turn : Turn) (P Q : Request → Type 0) → OfAsked n turn P → ((ask : Request) → P ask → Q ask)
    → OfAsked n turn Q
of_weaker n Idle P Q of weaker = of
of_weaker n (Asking m) P Q of weaker = of
of_weaker n (Asked m ask) P Q of weaker = (of.0, weaker ask.ask of.1)

-- one request in flight is at one link
one_number : (m n : ℕ) (turn : Turn) (P Q : Request → Type 0) → OfAsked m turn P → OfAsked n turn Q → m ≡ n
one_number m n Idle P Q of other = absurd of
one_number m n (Asking k) P Q of other = absurd of
one_number m n (Asked k ask) P Q of other = sym of.0 ∙ other.0

none_open : (n k : ℕ) (turn : Turn) (P : Request → Type 0) → OfAsked n turn P
    → (turn ≡ Idle) ⊎ (turn ≡ Asking k) → ⊥
none_open n k turn P of (inl is) = subst (λ t. OfAsked n t P) is of
none_open n k turn P of (inr is) = subst (λ t. OfAsked n t P) is of

-- the first beat of a reply answers what a later one does
first_answers : (kept : Option ReplyBegun) (beat : ReplyHead) (ask : Request)
    → Continues SameReplyFields (first_reply kept) beat → IsReplyBeatTo ask beat
    → IsReplyBeatTo ask (unwrap_or (first_reply kept) beat)
first_answers None beat ask same answers = answers
first_answers (Some b) beat ask same answers =
    let fields = same b.first refl in
    record { size = sym fields.size ∙ answers.size; opcode = sym fields.opcode ∙ answers.opcode }

pub first_source : (kept : Option ReplyBegun) (beat : ReplyHead) → Continues SameReplyFields (first_reply kept) beat
    → (unwrap_or (first_reply kept) beat).source ≡ beat.source
first_source None beat same = refl
first_source (Some b) beat same = sym (same b.first refl).source

module _ (plan : Plan) (s : State) (busy : AsksFly plan s) (before : RepliesAnswer plan s) (link : Link) (known : ℕ)
    (lanes : List ℕ) where
  ask_replying : (beat : AskHead) → IsAllowedAsk plan.layout link (scene_of plan s link (A beat)) beat known lanes
      → RepliesAnswer plan (state_after plan s (ask_at link known lanes beat))
  ask_replying beat allowed at begun = go (is_link link (side_of at) (link_number at)) refl
    where
      P : Turn → Type 0
      P t = OfAsked (link_number at) t (λ ask. IsReplyBeatTo ask begun.first)

      still : (s.links (side_of at) (link_number at)).replying ≡ Some begun
          → P ((state_after plan s (ask_at link known lanes beat)).flights (side_of at)
          (wide_of plan at begun.first.source)).turn
      still is =
          let was = before at begun is in
          elsewhere plan s (ask_at link known lanes beat) (side_of at) (wide_of plan at begun.first.source) P was
          (λ same. none_open (link_number at) (link_number link)
          (s.flights (side_of link) (wide_of plan link beat.source)).turn (λ ask. IsReplyBeatTo ask begun.first)
          (mine plan s (ask_at link known lanes beat) (side_of at) (wide_of plan at begun.first.source) P same was)
          (open_before plan s busy link known lanes beat allowed))

      go : (here : Bool) → is_link link (side_of at) (link_number at) ≡ here
          → (if here then under_after (s.links (side_of link) (link_number link)) (A beat) known lanes
          else s.links (side_of at) (link_number at)).replying ≡ Some begun
          → P ((state_after plan s (ask_at link known lanes beat)).flights (side_of at)
          (wide_of plan at begun.first.source)).turn
      go true here is =
          still (ap (λ (l : Link). (s.links (side_of l) (link_number l)).replying) (sym (same_link link at here)) ∙ is)
      go false here is = still is

  module _ (beat : ReplyHead) (allowed : IsAllowedReply plan.layout link
      (scene_of plan s link (D beat)) beat known lanes) where
    abbrev under : Under
    under = s.links (side_of link) (link_number link)

    own_replying : (begun : ReplyBegun) → (under_after under (D beat) known lanes).replying ≡ Some begun
        → OfAsked (link_number link) ((state_after plan s (reply_at link known lanes beat)).flights (side_of link)
        (wide_of plan link begun.first.source)).turn (λ ask. IsReplyBeatTo ask begun.first)
    own_replying begun is =
        let after = first_reply_after under.bus under.replying beat known lanes begun is in
        let same = allowed.fits.same in
        let source : begun.first.source ≡ beat.source =
        sym (ap (λ (h : ReplyHead). h.source) after.0) ∙ first_source under.replying beat same in
        let own : is_of plan (reply_at link known lanes beat) (side_of link)
        (wide_of plan link begun.first.source) ≡ true =
        ap (λ n. is_of plan (reply_at link known lanes beat) (side_of link) (wide_of plan link n)) source
        ∙ of_own plan (reply_at link known lanes beat) in
        let turn = (s.flights (side_of link) (wide_of plan link beat.source)).turn in
        let is_turn : ((state_after plan s (reply_at link known lanes beat)).flights (side_of link)
        (wide_of plan link begun.first.source)).turn ≡ turn =
        ap (λ (f : Flight). f.turn) (own_after plan s (reply_at link known lanes beat) (side_of link)
        (wide_of plan link begun.first.source) own)
        ∙ ap (λ (b : Bool). (if b then idle else (scene_of plan s link (D beat)).flight).turn) after.1 in
        subst (λ t. OfAsked (link_number link) t (λ ask. IsReplyBeatTo ask begun.first)) (sym is_turn)
        (of_weaker (link_number link) turn _ (λ ask. IsReplyBeatTo ask begun.first) allowed.answers
        (λ ask answer. subst (λ (h : ReplyHead). IsReplyBeatTo ask h) after.0
        (first_answers under.replying beat ask same (record { size = answer.size; opcode = answer.opcode }))))

    reply_replying : RepliesAnswer plan (state_after plan s (reply_at link known lanes beat))
    reply_replying at begun = go (is_link link (side_of at) (link_number at)) refl
      where
        P : Turn → Type 0
        P t = OfAsked (link_number at) t (λ ask. IsReplyBeatTo ask begun.first)

        go : (here : Bool) → is_link link (side_of at) (link_number at) ≡ here
            → (if here then under_after (s.links (side_of link) (link_number link)) (D beat) known lanes
            else s.links (side_of at) (link_number at)).replying ≡ Some begun
            → P ((state_after plan s (reply_at link known lanes beat)).flights (side_of at)
            (wide_of plan at begun.first.source)).turn
        go true here is =
            subst (λ l. OfAsked (link_number l) ((state_after plan s (reply_at link known lanes beat)).flights (side_of l)
            (wide_of plan l begun.first.source)).turn (λ ask. IsReplyBeatTo ask begun.first)) (same_link link at here)
            (own_replying begun is)
        go false here is =
            let was = before at begun is in
            elsewhere plan s (reply_at link known lanes beat) (side_of at) (wide_of plan at begun.first.source) P was
            (λ same. true_or_false (is_link link (side_of at) (link_number at))
            (is_link_by link at (of_is plan (reply_at link known lanes beat) (side_of at)
            (wide_of plan at begun.first.source) same).0
            (one_number (link_number link) (link_number at)
            (s.flights (side_of link) (wide_of plan link beat.source)).turn _ (λ ask. IsReplyBeatTo ask begun.first)
            allowed.answers
            (mine plan s (reply_at link known lanes beat) (side_of at) (wide_of plan at begun.first.source) P same was)))
            here)

pub replies_answer : (plan : Plan) (past : List Sighting) → IsLawfulGroup plan past
    → RepliesAnswer plan (state plan past)
replies_answer plan [] lawful = λ link begun is. absurd (cc)
replies_answer plan (x ∷ past) lawful = go (replies_answer plan past lawful.0) x.beat lawful.1
  where
    go : RepliesAnswer plan (state plan past) → (beat : Beat)
        → IsAllowed plan (scene_of plan (state plan past) x.link beat) (record x { beat = beat })
        → RepliesAnswer plan (state_after plan (state plan past) (record x { beat = beat }))
    go before (A beat) allowed =
        ask_replying plan (state plan past) (asks_fly plan past lawful.0) before x.link x.known x.lanes beat allowed
    go before (D beat) allowed =
        reply_replying plan (state plan past) (asks_fly plan past lawful.0) before x.link x.known x.lanes beat allowed

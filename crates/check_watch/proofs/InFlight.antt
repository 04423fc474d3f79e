-- A message that is under way is one of a request in flight.
use Rattle.std.proofs.Common.{◌≡◌, ◌∙◌, ℕ, ◌⊎◌, inl, inr, Bool, true, false, if◌then◌else◌, List, [], ◌∷◌, Option, Some, None, unwrap_or, ◌+◌, ◌++◌, replicate, refl, ap, sym, subst, eqb-true}
use Rattle.std.specs.Prelude.{◌==◌, ◌&&◌}
use Rattle.std.proofs.lemmas.Bool.{eqb-false}
use Rattle.tl_types.specs.Request.{Request}
use Rattle.check_cells.specs.Sent.{Sent}
use Rattle.check_beats.specs.Form.{Continues, SameFields, SameReplyFields}
use Rattle.check_beats.specs.State.{Under, AskBegun, ReplyBegun, first_ask, first_reply, ends_ask, ends_reply, ask_of, ask_after, reply_after, asked_beats, asked_bytes, asked_spoiled, replied_beats, replied_bytes, replied_spoiled}
use Rattle.check_beats.specs.declared.beat.AskHead.{AskHead}
use Rattle.check_beats.specs.declared.beat.ReplyHead.{ReplyHead}
use Rattle.check_beats.specs.Message.{ask_part, spoiled_ask_part, seen_cells as seen_bytes, is_spoiled}
use Rattle.check_flight.specs.Flight.{Turn, Flight, idle}
use Rattle.check_flight.specs.Flight.Turn.{Idle, Asking, Asked}
use Rattle.check_watch.specs.declared.beat.Beat.{Beat}
use Rattle.check_watch.specs.declared.beat.Beat.TheVariants.{A, D}
use Rattle.check_watch.specs.declared.beat.Link.{Link}
use Rattle.check_watch.specs.declared.beat.Link.TheVariants.{Master, Port}
use Rattle.check_watch.specs.Allowed.{OfAsked, IsAllowedAsk, IsAllowedReply}
use Rattle.check_watch.specs.Lawful.{IsLawfulGroup, IsAllowed}
use Rattle.check_watch.specs.Past.{State, scene_of, state, state_after}
use Rattle.check_watch.specs.Plan.{Plan, Sighting, LinkSide, side_of, link_number, source_of, wide_of, same_side, is_link, is_of, seen_at}
use Rattle.check_watch.specs.Plan.LinkSide.{AtMasters, AtPorts}
use Rattle.check_watch.specs.Scene.{turn_by, flight_after, under_after}

-- ---- sides and links

same_side-true : (a b : LinkSide) → same_side a b ≡ true → a ≡ b
same_side-true AtMasters AtMasters is = refl
same_side-true AtMasters AtPorts is = cc
same_side-true AtPorts AtMasters is = cc
same_side-true AtPorts AtPorts is = refl

same_side-refl : (a : LinkSide) → same_side a a ≡ true
same_side-refl AtMasters = refl
same_side-refl AtPorts = refl

eqb_own : (n : ℕ) → (n == n) ≡ true
eqb_own n = go (n == n) refl
  where
    go : (b : Bool) → (n == n) ≡ b → b ≡ true
    go true is = refl
    go false is = absurd (eqb-false n n is refl)

both_true : (a b : Bool) → (a && b) ≡ true → (a ≡ true) × (b ≡ true)
both_true true b is = (refl, is)
both_true false b is = cc

true_or_false : (b : Bool) → b ≡ true → b ≡ false → ⊥
true_or_false b so not = absurd (cc)

-- a beat is of its own source, and of no other
pub of_own : (plan : Plan) (x : Sighting)
    → is_of plan x (side_of x.link) (wide_of plan x.link (source_of x.beat)) ≡ true
of_own plan x = rw (same_side-refl (side_of x.link)) (eqb_own (wide_of plan x.link (source_of x.beat)))

pub of_is : (plan : Plan) (x : Sighting) (side : LinkSide) (wide : ℕ) → is_of plan x side wide ≡ true
    → (side_of x.link ≡ side) × (wide_of plan x.link (source_of x.beat) ≡ wide)
of_is plan x side wide is =
    let both = both_true (same_side (side_of x.link) side) (wide_of plan x.link (source_of x.beat) == wide) is in
    (same_side-true (side_of x.link) side both.0, eqb-true (wide_of plan x.link (source_of x.beat)) wide both.1)

pub same_link : (a b : Link) → is_link a (side_of b) (link_number b) ≡ true → a ≡ b
same_link (Master m) (Master n) is = ap (λ k. Master k) (eqb-true m n is)
same_link (Master m) (Port n) is = cc
same_link (Port m) (Master n) is = cc
same_link (Port m) (Port n) is = ap (λ k. Port k) (eqb-true m n is)

link_by : (a b : Link) → side_of a ≡ side_of b → link_number a ≡ link_number b
    → is_link a (side_of b) (link_number b) ≡ true
link_by a b side number = rw (← side, ← number, same_side-refl (side_of a)) (eqb_own (link_number a))

-- ---- turns

pub idle_or_asking : (k : ℕ) → Idle ≡ Asking k → ⊥
idle_or_asking k is = subst IsIdle is tt
  where
    IsIdle : Turn → Type 0
    IsIdle Idle = Unit {0}
    IsIdle (Asking k) = ⊥
    IsIdle (Asked k ask) = ⊥

pub idle_or_asked : (k : ℕ) (ask : Sent) → Idle ≡ Asked k ask → ⊥
idle_or_asked k ask is = subst IsIdle is tt
  where
    IsIdle : Turn → Type 0
    IsIdle Idle = Unit {0}
    IsIdle (Asking k) = ⊥
    IsIdle (Asked k ask) = ⊥

asked_or_asking : (m n : ℕ) (ask : Sent) → Asked m ask ≡ Asking n → ⊥
asked_or_asking m n ask is = subst IsAsked is tt
  where
    IsAsked : Turn → Type 0
    IsAsked Idle = ⊥
    IsAsked (Asking k) = ⊥
    IsAsked (Asked k r) = Unit {0}

abbrev number_in : Turn → ℕ
number_in Idle = 0
number_in (Asking k) = k
number_in (Asked k ask) = k

pub asked_at : (n : ℕ) (turn : Turn) (P : Request → Type 0) → OfAsked n turn P
    → (ask : Sent) × (turn ≡ Asked n ask)
asked_at n Idle P of = absurd of
asked_at n (Asking m) P of = absurd of
asked_at n (Asked m ask) P of = (ask, ap (λ k. Asked k ask) of.0)

-- ---- options

none_or_some : {X : Type 0} (x : X) → None ≡ Some x → ⊥
none_or_some x is = absurd (cc)

some_same : {X : Type 0} (x y : X) → Some x ≡ Some y → x ≡ y
some_same x y is = cc

-- ---- what is in flight of a message that is under way

-- a request is in flight of its source, and has not ended
abbrev AsksFly : Plan → State → Type 0
AsksFly plan s =
    (link : Link) (begun : AskBegun)
    → (s.links (side_of link) (link_number link)).asking ≡ Some begun
    → (s.flights (side_of link) (wide_of plan link begun.first.source)).turn ≡ Asking (link_number link)

-- the request of a reply is in flight, and has ended
abbrev RepliesFly : Plan → State → Type 0
RepliesFly plan s =
    (link : Link) (begun : ReplyBegun)
    → (s.links (side_of link) (link_number link)).replying ≡ Some begun
    → (ask : Sent)
    × ((s.flights (side_of link) (wide_of plan link begun.first.source)).turn ≡ Asked (link_number link) ask)

head_ask : (asking : Option AskBegun) (beat : AskHead) → Continues SameFields (first_ask asking) beat
    → (unwrap_or (first_ask asking) beat).source ≡ beat.source
head_ask None beat same = refl
head_ask (Some begun) beat same = sym (same begun.first refl).source

head_reply : (replying : Option ReplyBegun) (beat : ReplyHead) → Continues SameReplyFields (first_reply replying) beat
    → (unwrap_or (first_reply replying) beat).source ≡ beat.source
head_reply None beat same = refl
head_reply (Some begun) beat same = sym (same begun.first refl).source

abbrev pub ask_at : Link → ℕ → List ℕ → AskHead → Sighting
ask_at link known lanes beat = seen_at link (A beat) known lanes

abbrev pub reply_at : Link → ℕ → List ℕ → ReplyHead → Sighting
reply_at link known lanes beat = seen_at link (D beat) known lanes

-- what is in flight of another source stays
pub other_stays : (plan : Plan) (s : State) (x : Sighting) (side : LinkSide) (wide : ℕ) → is_of plan x side wide ≡ false
    → (state_after plan s x).flights side wide ≡ s.flights side wide
other_stays plan s x side wide is =
    ap (λ (b : Bool). if b then flight_after plan.layout x.link (scene_of plan s x.link x.beat) x.beat x.lanes else s.flights side wide) is

pub own_after : (plan : Plan) (s : State) (x : Sighting) (side : LinkSide) (wide : ℕ) → is_of plan x side wide ≡ true
    → (state_after plan s x).flights side wide ≡ flight_after plan.layout x.link (scene_of plan s x.link x.beat) x.beat x.lanes
own_after plan s x side wide is =
    ap (λ (b : Bool). if b then flight_after plan.layout x.link (scene_of plan s x.link x.beat) x.beat x.lanes else s.flights side wide) is

module _ (plan : Plan) (s : State) (asks : AsksFly plan s) (replies : RepliesFly plan s) (link : Link) (known : ℕ)
    (lanes : List ℕ) where
  -- a beat of a request finds nothing in flight of its source, or its own request
  open_before : (beat : AskHead) → IsAllowedAsk plan.layout link (scene_of plan s link (A beat)) beat known lanes
      → ((s.flights (side_of link) (wide_of plan link beat.source)).turn ≡ Idle)
      ⊎ ((s.flights (side_of link) (wide_of plan link beat.source)).turn ≡ Asking (link_number link))
  open_before beat allowed = go (s.links (side_of link) (link_number link)).asking refl
    where
      go : (begun : Option AskBegun) → (s.links (side_of link) (link_number link)).asking ≡ begun
          → ((s.flights (side_of link) (wide_of plan link beat.source)).turn ≡ Idle)
          ⊎ ((s.flights (side_of link) (wide_of plan link beat.source)).turn ≡ Asking (link_number link))
      go None is = inl (allowed.free is)
      go (Some begun) is =
          let source : beat.source ≡ begun.first.source =
          (allowed.fits.same begun.first (ap first_ask is)).source in
          inr (ap (λ n. (s.flights (side_of link) (wide_of plan link n)).turn) source ∙ asks link begun is)

  -- what is in flight of a source after a beat that is not of it
  elsewhere : (x : Sighting) (side : LinkSide) (wide : ℕ) (turn : Turn) → (s.flights side wide).turn ≡ turn
      → (is_of plan x side wide ≡ true → ⊥) → ((state_after plan s x).flights side wide).turn ≡ turn
  elsewhere x side wide turn is none = go (is_of plan x side wide) refl
    where
      go : (of : Bool) → is_of plan x side wide ≡ of → ((state_after plan s x).flights side wide).turn ≡ turn
      go true same = absurd (none same)
      go false same = ap (λ (f : Flight). f.turn) (other_stays plan s x side wide same) ∙ is

  -- the turn that a beat finds of its own source
  mine : (x : Sighting) (side : LinkSide) (wide : ℕ) (turn : Turn) → is_of plan x side wide ≡ true
      → (s.flights side wide).turn ≡ turn
      → (s.flights (side_of x.link) (wide_of plan x.link (source_of x.beat))).turn ≡ turn
  mine x side wide turn same is = let both = of_is plan x side wide same in rw (both.0, both.1) is

  not_here : (at : Link) → side_of link ≡ side_of at → link_number link ≡ link_number at
      → is_link link (side_of at) (link_number at) ≡ false → ⊥
  not_here at side number other =
      true_or_false (is_link link (side_of at) (link_number at)) (link_by link at side number) other

  -- ---- a beat of a request

  own_asks : (beat : AskHead) → IsAllowedAsk plan.layout link (scene_of plan s link (A beat)) beat known lanes
      → (begun : AskBegun)
      → (under_after (s.links (side_of link) (link_number link)) (A beat) known lanes).asking ≡ Some begun
      → ((state_after plan s (ask_at link known lanes beat)).flights (side_of link) (wide_of plan link begun.first.source)).turn
      ≡ Asking (link_number link)
  own_asks beat allowed begun = go (ends_ask before.bus before.asking beat) refl
    where
      before : Under
      before = s.links (side_of link) (link_number link)

      go : (ends : Bool) → ends_ask before.bus before.asking beat ≡ ends
          → (ask_after before.bus before.asking beat lanes) ≡ Some begun
          → ((state_after plan s (ask_at link known lanes beat)).flights (side_of link)
          (wide_of plan link begun.first.source)).turn ≡ Asking (link_number link)
      go true e is =
          absurd (none_or_some begun (sym (ap (λ (b : Bool). if b then None else Some (record {
            first = unwrap_or (first_ask before.asking) beat;
            beats = asked_beats before.asking + 1;
            bytes = asked_bytes before.asking ++ ask_part before.bus beat lanes;
            spoiled = asked_spoiled before.asking ++ spoiled_ask_part before.bus beat;
          })) e) ∙ is))
      go false e is =
          let at : record {
            first = unwrap_or (first_ask before.asking) beat;
            beats = asked_beats before.asking + 1;
            bytes = asked_bytes before.asking ++ ask_part before.bus beat lanes;
            spoiled = asked_spoiled before.asking ++ spoiled_ask_part before.bus beat;
          } ≡ begun = some_same _ begun (sym (ap (λ (b : Bool). if b then None else Some (record {
            first = unwrap_or (first_ask before.asking) beat;
            beats = asked_beats before.asking + 1;
            bytes = asked_bytes before.asking ++ ask_part before.bus beat lanes;
            spoiled = asked_spoiled before.asking ++ spoiled_ask_part before.bus beat;
          })) e) ∙ is) in
          let source : begun.first.source ≡ beat.source =
          sym (ap (λ (b : AskBegun). b.first.source) at) ∙ head_ask before.asking beat allowed.fits.same in
          let own : is_of plan (ask_at link known lanes beat) (side_of link) (wide_of plan link begun.first.source) ≡ true =
          ap (λ n. is_of plan (ask_at link known lanes beat) (side_of link) (wide_of plan link n)) source
          ∙ of_own plan (ask_at link known lanes beat) in
          ap (λ (f : Flight). f.turn) (own_after plan s (ask_at link known lanes beat) (side_of link)
          (wide_of plan link begun.first.source) own)
          ∙ ap (λ (b : Bool). turn_by (link_number link)
          (if b then Some (ask_of before.bus before.asking beat lanes) else None)) e

  ask_asks : (beat : AskHead) → IsAllowedAsk plan.layout link (scene_of plan s link (A beat)) beat known lanes
      → AsksFly plan (state_after plan s (ask_at link known lanes beat))
  ask_asks beat allowed at begun = go (is_link link (side_of at) (link_number at)) refl
    where
      go : (here : Bool) → is_link link (side_of at) (link_number at) ≡ here
          → (if here then under_after (s.links (side_of link) (link_number link)) (A beat) known lanes
          else s.links (side_of at) (link_number at)).asking ≡ Some begun
          → ((state_after plan s (ask_at link known lanes beat)).flights (side_of at) (wide_of plan at begun.first.source)).turn
          ≡ Asking (link_number at)
      go true here is =
          let P : Link → Type 0 =
          λ l. ((state_after plan s (ask_at link known lanes beat)).flights (side_of l) (wide_of plan l begun.first.source)).turn
          ≡ Asking (link_number l) in
          subst P (same_link link at here) (own_asks beat allowed begun is)
      go false here is =
          elsewhere (ask_at link known lanes beat) (side_of at) (wide_of plan at begun.first.source) (Asking (link_number at)) was none
        where
          was : (s.flights (side_of at) (wide_of plan at begun.first.source)).turn ≡ Asking (link_number at)
          was = asks at begun is

          none : is_of plan (ask_at link known lanes beat) (side_of at) (wide_of plan at begun.first.source) ≡ true → ⊥
          none same = either (open_before beat allowed)
            where
              side : side_of link ≡ side_of at
              side = (of_is plan (ask_at link known lanes beat) (side_of at) (wide_of plan at begun.first.source) same).0

              found : (s.flights (side_of link) (wide_of plan link beat.source)).turn ≡ Asking (link_number at)
              found = mine (ask_at link known lanes beat) (side_of at) (wide_of plan at begun.first.source)
                  (Asking (link_number at)) same was

              either : ((s.flights (side_of link) (wide_of plan link beat.source)).turn ≡ Idle)
                  ⊎ ((s.flights (side_of link) (wide_of plan link beat.source)).turn ≡ Asking (link_number link)) → ⊥
              either (inl free) = idle_or_asking (link_number at) (sym free ∙ found)
              either (inr own) = not_here at side (ap number_in (sym own ∙ found)) here

  ask_replies : (beat : AskHead) → IsAllowedAsk plan.layout link (scene_of plan s link (A beat)) beat known lanes
      → RepliesFly plan (state_after plan s (ask_at link known lanes beat))
  ask_replies beat allowed at begun = go (is_link link (side_of at) (link_number at)) refl
    where
      still : (s.links (side_of at) (link_number at)).replying ≡ Some begun → (ask : Sent)
          × (((state_after plan s (ask_at link known lanes beat)).flights (side_of at) (wide_of plan at begun.first.source)).turn
          ≡ Asked (link_number at) ask)
      still is = (
        was.0,
        elsewhere (ask_at link known lanes beat) (side_of at) (wide_of plan at begun.first.source)
            (Asked (link_number at) was.0) was.1 none,
      )
        where
          was : (ask : Sent)
              × ((s.flights (side_of at) (wide_of plan at begun.first.source)).turn ≡ Asked (link_number at) ask)
          was = replies at begun is

          none : is_of plan (ask_at link known lanes beat) (side_of at) (wide_of plan at begun.first.source) ≡ true → ⊥
          none same = either (open_before beat allowed)
            where
              found : (s.flights (side_of link) (wide_of plan link beat.source)).turn ≡ Asked (link_number at) was.0
              found = mine (ask_at link known lanes beat) (side_of at) (wide_of plan at begun.first.source)
                  (Asked (link_number at) was.0) same was.1

              either : ((s.flights (side_of link) (wide_of plan link beat.source)).turn ≡ Idle)
                  ⊎ ((s.flights (side_of link) (wide_of plan link beat.source)).turn ≡ Asking (link_number link)) → ⊥
              either (inl free) = idle_or_asked (link_number at) was.0 (sym free ∙ found)
              either (inr own) = asked_or_asking (link_number at) (link_number link) was.0 (sym found ∙ own)

      go : (here : Bool) → is_link link (side_of at) (link_number at) ≡ here
          → (if here then under_after (s.links (side_of link) (link_number link)) (A beat) known lanes
          else s.links (side_of at) (link_number at)).replying ≡ Some begun
          → (ask : Sent)
          × (((state_after plan s (ask_at link known lanes beat)).flights (side_of at) (wide_of plan at begun.first.source)).turn
          ≡ Asked (link_number at) ask)
      go true here is =
          still (ap (λ (l : Link). (s.links (side_of l) (link_number l)).replying) (sym (same_link link at here)) ∙ is)
      go false here is = still is

  -- ---- a beat of a reply

  -- it answers a request in flight that has ended
  answered : (beat : ReplyHead) → IsAllowedReply plan.layout link
      (scene_of plan s link (D beat)) beat known lanes
      → (ask : Sent)
      × ((s.flights (side_of link) (wide_of plan link beat.source)).turn ≡ Asked (link_number link) ask)
  answered beat allowed =
      asked_at (link_number link) (s.flights (side_of link) (wide_of plan link beat.source)).turn _ allowed.answers

  reply_asks : (beat : ReplyHead) → IsAllowedReply plan.layout link
      (scene_of plan s link (D beat)) beat known lanes
      → AsksFly plan (state_after plan s (reply_at link known lanes beat))
  reply_asks beat allowed at begun = go (is_link link (side_of at) (link_number at)) refl
    where
      still : (s.links (side_of at) (link_number at)).asking ≡ Some begun
          → ((state_after plan s (reply_at link known lanes beat)).flights (side_of at) (wide_of plan at begun.first.source)).turn
          ≡ Asking (link_number at)
      still is =
          let was = asks at begun is in
          let found = answered beat allowed in
          elsewhere (reply_at link known lanes beat) (side_of at) (wide_of plan at begun.first.source) (Asking (link_number at)) was
          (λ same. asked_or_asking (link_number link) (link_number at) found.0 (sym found.1
          ∙ mine (reply_at link known lanes beat) (side_of at) (wide_of plan at begun.first.source)
          (Asking (link_number at)) same was))

      go : (here : Bool) → is_link link (side_of at) (link_number at) ≡ here
          → (if here then under_after (s.links (side_of link) (link_number link)) (D beat) known lanes
          else s.links (side_of at) (link_number at)).asking ≡ Some begun
          → ((state_after plan s (reply_at link known lanes beat)).flights (side_of at) (wide_of plan at begun.first.source)).turn
          ≡ Asking (link_number at)
      go true here is =
          still (ap (λ (l : Link). (s.links (side_of l) (link_number l)).asking) (sym (same_link link at here)) ∙ is)
      go false here is = still is

  own_replies : (beat : ReplyHead) → IsAllowedReply plan.layout link
      (scene_of plan s link (D beat)) beat known lanes
      → (begun : ReplyBegun)
      → (under_after (s.links (side_of link) (link_number link)) (D beat) known lanes).replying ≡ Some begun
      → (ask : Sent)
      × (((state_after plan s (reply_at link known lanes beat)).flights (side_of link)
      (wide_of plan link begun.first.source)).turn ≡ Asked (link_number link) ask)
  own_replies beat allowed begun = go (ends_reply before.bus before.replying beat) refl
    where
      before : Under
      before = s.links (side_of link) (link_number link)

      found : (ask : Sent)
          × ((s.flights (side_of link) (wide_of plan link beat.source)).turn ≡ Asked (link_number link) ask)
      found = answered beat allowed

      go : (ends : Bool) → ends_reply before.bus before.replying beat ≡ ends
          → (reply_after before.bus before.replying beat known lanes) ≡ Some begun
          → (ask : Sent)
          × (((state_after plan s (reply_at link known lanes beat)).flights (side_of link)
          (wide_of plan link begun.first.source)).turn ≡ Asked (link_number link) ask)
      go true e is =
          absurd (none_or_some begun (sym (ap (λ (b : Bool). if b then None else Some (record {
            first = unwrap_or (first_reply before.replying) beat;
            beats = replied_beats before.replying + 1;
            bytes = replied_bytes before.replying ++ seen_bytes beat known lanes 0 before.bus;
            spoiled = replied_spoiled before.replying ++ replicate before.bus (is_spoiled beat);
          })) e) ∙ is))
      go false e is =
          let at : record {
            first = unwrap_or (first_reply before.replying) beat;
            beats = replied_beats before.replying + 1;
            bytes = replied_bytes before.replying ++ seen_bytes beat known lanes 0 before.bus;
            spoiled = replied_spoiled before.replying ++ replicate before.bus (is_spoiled beat);
          } ≡ begun = some_same _ begun (sym (ap (λ (b : Bool). if b then None else Some (record {
            first = unwrap_or (first_reply before.replying) beat;
            beats = replied_beats before.replying + 1;
            bytes = replied_bytes before.replying ++ seen_bytes beat known lanes 0 before.bus;
            spoiled = replied_spoiled before.replying ++ replicate before.bus (is_spoiled beat);
          })) e) ∙ is) in
          let source : begun.first.source ≡ beat.source =
          sym (ap (λ (b : ReplyBegun). b.first.source) at) ∙ head_reply before.replying beat allowed.fits.same in
          let own : is_of plan (reply_at link known lanes beat) (side_of link) (wide_of plan link begun.first.source) ≡ true =
          ap (λ n. is_of plan (reply_at link known lanes beat) (side_of link) (wide_of plan link n)) source
          ∙ of_own plan (reply_at link known lanes beat) in (
            found.0,
            ap (λ (f : Flight). f.turn) (own_after plan s (reply_at link known lanes beat) (side_of link)
                (wide_of plan link begun.first.source) own)
                ∙ ap (λ (b : Bool). (if b then idle else (scene_of plan s link (D beat)).flight).turn) e
                ∙ found.1,
          )

  reply_replies : (beat : ReplyHead) → IsAllowedReply plan.layout link
      (scene_of plan s link (D beat)) beat known lanes
      → RepliesFly plan (state_after plan s (reply_at link known lanes beat))
  reply_replies beat allowed at begun = go (is_link link (side_of at) (link_number at)) refl
    where
      found : (ask : Sent)
          × ((s.flights (side_of link) (wide_of plan link beat.source)).turn ≡ Asked (link_number link) ask)
      found = answered beat allowed

      go : (here : Bool) → is_link link (side_of at) (link_number at) ≡ here
          → (if here then under_after (s.links (side_of link) (link_number link)) (D beat) known lanes
          else s.links (side_of at) (link_number at)).replying ≡ Some begun
          → (ask : Sent)
          × (((state_after plan s (reply_at link known lanes beat)).flights (side_of at) (wide_of plan at begun.first.source)).turn
          ≡ Asked (link_number at) ask)
      go true here is =
          let P : Link → Type 0 =
          λ l. (ask : Sent)
          × (((state_after plan s (reply_at link known lanes beat)).flights (side_of l) (wide_of plan l begun.first.source)).turn
          ≡ Asked (link_number l) ask) in
          subst P (same_link link at here) (own_replies beat allowed begun is)
      go false here is = (
        was.0,
        elsewhere (reply_at link known lanes beat) (side_of at) (wide_of plan at begun.first.source)
            (Asked (link_number at) was.0) was.1 none,
      )
        where
          was : (ask : Sent)
              × ((s.flights (side_of at) (wide_of plan at begun.first.source)).turn ≡ Asked (link_number at) ask)
          was = replies at begun is

          none : is_of plan (reply_at link known lanes beat) (side_of at) (wide_of plan at begun.first.source) ≡ true → ⊥
          none same =
              let side = (of_is plan (reply_at link known lanes beat) (side_of at) (wide_of plan at begun.first.source) same).0 in
              let here_too = mine (reply_at link known lanes beat) (side_of at) (wide_of plan at begun.first.source)
              (Asked (link_number at) was.0) same was.1 in
              not_here at side (ap number_in (sym found.1 ∙ here_too)) here

-- the messages under way are those of requests in flight
pub under_way_flies : (plan : Plan) (past : List Sighting) → IsLawfulGroup plan past
    → AsksFly plan (state plan past) × RepliesFly plan (state plan past)
under_way_flies plan [] lawful = ((λ link begun is. absurd (none_or_some begun is)), λ link begun is. absurd (none_or_some begun is))
under_way_flies plan (x ∷ past) lawful = go (under_way_flies plan past lawful.0) x.beat lawful.1
  where
    go : AsksFly plan (state plan past) × RepliesFly plan (state plan past) → (beat : Beat)
        → IsAllowed plan (scene_of plan (state plan past) x.link beat) (record x { beat = beat })
        → AsksFly plan (state_after plan (state plan past) (record x { beat = beat }))
        × RepliesFly plan (state_after plan (state plan past) (record x { beat = beat }))
    go before (A beat) allowed = (
      ask_asks plan (state plan past) before.0 before.1 x.link x.known x.lanes beat allowed,
      ask_replies plan (state plan past) before.0 before.1 x.link x.known x.lanes beat allowed,
    )
    go before (D beat) allowed = (
      reply_asks plan (state plan past) before.0 before.1 x.link x.known x.lanes beat allowed,
      reply_replies plan (state plan past) before.0 before.1 x.link x.known x.lanes beat allowed,
    )

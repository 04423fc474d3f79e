-- What is in flight as it is counted is what the judge has in flight, as one beat more crosses.
use Rattle.std.proofs.Common.{◌≡◌, ◌∙◌, ⊎_elim, ℕ, Bool, true, false, if◌then◌else◌, List, Option, Some, None, unwrap_or, refl, ap, sym, subst, eqb-true}
use Rattle.std.specs.Prelude.{◌==◌, ◌&&◌, IsSomeAnd}
use Rattle.tl_types.specs.Request.{Request}
use Rattle.check_cells.specs.Pattern.{Pattern}
use Rattle.check_cells.specs.Sent.{Sent}
use Rattle.check_beats.specs.Form.{SameFields}
use Rattle.check_beats.specs.Message.{op_of}
use Rattle.check_beats.specs.State.{AskBegun, Under, ask_of, ends_ask, ends_reply, first_ask}
use Rattle.check_beats.specs.declared.beat.AskHead.{AskHead}
use Rattle.check_beats.specs.declared.beat.ReplyHead.{ReplyHead}
use Rattle.check_flight.specs.Crossing.{Crossing, given}
use Rattle.check_flight.specs.Flight.{Turn, idle}
use Rattle.check_flight.specs.Flight.Turn.{Idle, Asking, Asked}
use Rattle.check_flight.specs.declared.answer.Answer.{Answer}
use Rattle.check_watch.specs.Allowed.{IsAllowedAsk, IsAllowedReply, IsMust}
use Rattle.check_watch.specs.Past.{State, scene_of, state_after}
use Rattle.check_watch.specs.Plan.{Layout, Plan, LinkSide, is_link, is_of, link_number, route_of, same_side, side_of, wide_of, wider_bus}
use Rattle.check_watch.specs.Scene.{Scene, ask_by, captured, ended_by, flight_after, is_given, must_by, seen, seen_ask, seen_reply, turn_by, under_after}
use Rattle.check_watch.specs.declared.beat.Beat.TheVariants.{A, D}
use Rattle.check_watch.specs.declared.beat.Link.{Link}
use Rattle.check_watch.specs.declared.seen.Ended.{Ended}
use Rattle.check_watch.specs.declared.seen.Seen.TheVariants.{Part}
use Rattle.check_watch.proofs.InFlight.{ask_at, idle_or_asking, of_is, reply_at}
use Rattle.check_watch_laws.proofs.Heads.{first_after}
use Rattle.check_watch_laws.proofs.Links.{same_link}
use Rattle.check_watch_laws.proofs.Turns.{AsksFly, asked_at, asking_same, is_link_by, open_before, same_side-refl, true_or_false}
use Rattle.check_coverage.specs.Flights.{InFlight, master_of, begun, flights_after, grown, ends_an_ask, ends_a_reply}
use Rattle.check_text_laws.proofs.Finding.{found, left, other_left, other_stays, own_begins, own_goes_on, own_left}

-- ---- what is the same

-- a request that has ended is kept, whole
pub record IsWholeAs (plan : Plan) (wide : ℕ) (ask : Request) (kept : Option InFlight) : Type 0 where
  pub flight : InFlight
  pub is : kept ≡ Some flight
  pub whole : flight.is_whole ≡ true
  pub port : flight.port ≡ route_of plan (master_of plan.layout.owners wide) ask.address ask.size
  pub op : ask.op ≡ op_of flight.first.opcode flight.first.param
  pub address : ask.address ≡ flight.first.address
  pub size : ask.size ≡ flight.first.size

-- a request that has begun is kept, with its first beat
pub record IsBegunAs (plan : Plan) (wide : ℕ) (first : AskHead) (kept : Option InFlight) : Type 0 where
  pub flight : InFlight
  pub is : kept ≡ Some flight
  pub first_is : flight.first ≡ first
  pub port : flight.port
      ≡ route_of plan (master_of plan.layout.owners wide) flight.first.address flight.first.size

abbrev pub IsKeptAs : Plan → ℕ → Turn → Option InFlight → Type 0
IsKeptAs plan wide Idle kept = kept ≡ None
IsKeptAs plan wide (Asking number) kept = Unit {0}
IsKeptAs plan wide (Asked number sent) kept = IsWholeAs plan wide sent.ask kept

pub record AreKept (plan : Plan) (s : State) (side : LinkSide) (flights : List InFlight) : Type 0 where
  pub turns : (wide : ℕ) → IsKeptAs plan wide (s.flights side wide).turn (found wide flights)
  pub begins : (link : Link) (b : AskBegun) → side_of link ≡ side
      → (s.links (side_of link) (link_number link)).asking ≡ Some b
      → IsBegunAs plan (wide_of plan link b.first.source) b.first (found (wide_of plan link b.first.source) flights)

asked_or_asking : (m n : ℕ) (sent : Sent) → Asked m sent ≡ Asking n → ⊥
asked_or_asking m n sent same = subst IsAsked same tt
  where
    IsAsked : Turn → Type 0
    IsAsked Idle = ⊥
    IsAsked (Asking k) = ⊥
    IsAsked (Asked k r) = Unit {0}

-- ---- what a beat ends

pub ask_whole : (under : Under) (beat : AskHead) (lanes : List ℕ)
    → ends_an_ask (ended_by (seen_ask (ask_by under beat lanes))) ≡ ends_ask under.bus under.asking beat
ask_whole under beat lanes = go (ends_ask under.bus under.asking beat)
  where
    go : (ends : Bool) → ends_an_ask (ended_by (seen_ask (if ends then Some (ask_of under.bus under.asking beat lanes) else None)))
        ≡ ends
    go true = refl
    go false = refl

some_of : (o : Option Answer) (P : Answer → Type 0) → IsSomeAnd o P → (answer : Answer) × (o ≡ Some answer)
some_of None P is = absurd is
some_of (Some answer) P is = (answer, refl)

must_some : (given_there : Bool) (wider : ℕ) (crossing : Crossing) (due : Option Answer) (reply : Pattern)
    → IsMust given_there wider crossing due reply → (answer : Answer) × (must_by given_there crossing due ≡ Some answer)
must_some true wider crossing due reply is = some_of (given crossing) _ is
must_some false wider crossing due reply is = some_of due _ is

-- the last beat of a lawful reply ends it
pub reply_whole : (layout : Layout) (link : Link) (scene : Scene) (beat : ReplyHead) (known : ℕ) (lanes : List ℕ)
    → IsAllowedReply layout link scene beat known lanes
    → ends_a_reply (ended_by (seen layout link scene (D beat) known lanes))
    ≡ ends_reply scene.under.bus scene.under.replying beat
reply_whole layout link scene beat known lanes allowed = go (ends_reply scene.under.bus scene.under.replying beat) refl
  where
    reply : Pattern
    reply = captured scene.under scene.flight.turn beat known lanes

    must : Option Answer
    must = must_by (is_given layout link scene.port) scene.crossing scene.flight.due

    go : (ends : Bool) → ends_reply scene.under.bus scene.under.replying beat ≡ ends
        → ends_a_reply (ended_by (if ends then seen_reply scene.flight.turn reply must else Part)) ≡ ends
    go false is = refl
    go true is =
        let asked = asked_at (link_number link) scene.flight.turn _ allowed.answers in
        let answer = must_some (is_given layout link scene.port) (wider_bus layout link scene.port) scene.crossing
        scene.flight.due reply (allowed.ends is) in
        (λ i. ends_a_reply (ended_by (seen_reply (asked.1 i) reply (answer.1 i))))

-- ---- one beat more

module _ (plan : Plan) (s : State) (busy : AsksFly plan s) (flights : List InFlight) (link : Link) (known : ℕ)
    (lanes : List ℕ) (kept : AreKept plan s (side_of link) flights) (bus : ℕ) where
  abbrev p : Plan
  p = plan

  abbrev under : Under
  under = s.links (side_of link) (link_number link)

  -- a beat of the link's own side is of another source
  other_source : (own wide : ℕ) → (same_side (side_of link) (side_of link) && (own == wide)) ≡ false
      → (own == wide) ≡ false
  other_source own wide is = sym (ap (λ b. b && (own == wide)) (same_side-refl (side_of link))) ∙ is

  module _ (beat : AskHead)
      (allowed : IsAllowedAsk plan.layout link (scene_of plan s link (A beat)) beat known lanes)
      (end : Ended) (end_is : ends_an_ask end ≡ ends_ask under.bus under.asking beat) where
    abbrev own : ℕ
    own = wide_of p link beat.source

    abbrev next : List InFlight
    next = flights_after plan bus own flights (A beat) end

    abbrev then_state : State
    then_state = state_after p s (ask_at link known lanes beat)

    -- the request of the beat
    record IsMine (asking : Option AskBegun) : Type 0 where
      flight : InFlight
      is : found own next ≡ Some flight
      whole : flight.is_whole ≡ ends_an_ask end
      first_is : flight.first ≡ unwrap_or (first_ask asking) beat
      fields : SameFields flight.first beat
      port : flight.port
          ≡ route_of plan (master_of plan.layout.owners own) flight.first.address flight.first.size

    mine : IsMine under.asking
    mine = go under.asking refl
      where
        go : (asking : Option AskBegun) → under.asking ≡ asking → IsMine asking
        go None is =
            let none : found own flights ≡ None =
            subst (λ t. IsKeptAs plan own t (found own flights)) (allowed.free is) (kept.turns own) in
            record {
              flight = grown bus beat (ends_an_ask end) (begun plan own beat);
              is = own_begins plan own beat flights bus end none;
              whole = refl;
              first_is = refl;
              fields = record { opcode = refl; param = refl; size = refl; source = refl; address = refl };
              port = refl;
            }
        go (Some b) is =
            let same = allowed.fits.same b.first (ap first_ask is) in
            let was : IsBegunAs plan own b.first (found own flights) =
            subst (λ n. IsBegunAs plan (wide_of p link n) b.first (found (wide_of p link n) flights)) (sym same.source)
            (kept.begins link b refl is) in
            record {
              flight = grown bus beat (ends_an_ask end) was.flight;
              is = own_goes_on plan own beat flights bus end was.flight was.is;
              whole = refl;
              first_is = was.first_is;
              fields = subst (λ h. SameFields h beat) (sym was.first_is) same;
              port = was.port;
            }

    own_turn : IsKeptAs plan own (turn_by (link_number link) (ask_by under beat lanes)) (found own next)
    own_turn = by_end (ends_ask under.bus under.asking beat) refl
      where
        by_end : (ends : Bool) → ends_ask under.bus under.asking beat ≡ ends
            → IsKeptAs plan own (turn_by (link_number link)
            (if ends then Some (ask_of under.bus under.asking beat lanes) else None)) (found own next)
        by_end false is = tt
        by_end true is = record {
          flight = mine.flight;
          is = mine.is;
          whole = mine.whole ∙ end_is ∙ is;
          port = mine.port ∙ (λ i. route_of plan (master_of plan.layout.owners own) (sym mine.fields.address i)
              (sym mine.fields.size i));
          op = λ i. op_of (mine.fields.opcode i) (mine.fields.param i);
          address = mine.fields.address;
          size = mine.fields.size;
        }

    ask_turns : (wide : ℕ) → IsKeptAs plan wide (then_state.flights (side_of link) wide).turn (found wide next)
    ask_turns wide = go (is_of p (ask_at link known lanes beat) (side_of link) wide) refl
      where
        go : (of : Bool) → is_of p (ask_at link known lanes beat) (side_of link) wide ≡ of
            → IsKeptAs plan wide (if of then flight_after p.layout link (scene_of p s link (A beat)) (A beat) lanes
            else s.flights (side_of link) wide).turn (found wide next)
        go true is =
            subst (λ w. IsKeptAs plan w (turn_by (link_number link) (ask_by under beat lanes)) (found w next))
            (of_is p (ask_at link known lanes beat) (side_of link) wide is).1 own_turn
        go false is =
            subst (λ o. IsKeptAs plan wide (s.flights (side_of link) wide).turn o)
            (sym (other_stays plan own beat flights bus end wide (other_source own wide is))) (kept.turns wide)

    -- a request that is under way at another link is of another source
    elsewhere : (at : Link) (b : AskBegun) → side_of at ≡ side_of link
        → (s.links (side_of at) (link_number at)).asking ≡ Some b
        → is_link link (side_of at) (link_number at) ≡ false → (own == wide_of p at b.first.source) ≡ false
    elsewhere at b side asks other = go (own == wide_of p at b.first.source) refl
      where
        turn : own ≡ wide_of p at b.first.source → (s.flights (side_of link) own).turn ≡ Asking (link_number at)
        turn same =
            subst (λ sd. (s.flights sd own).turn ≡ Asking (link_number at)) side
            (subst (λ w. (s.flights (side_of at) w).turn ≡ Asking (link_number at)) (sym same) (busy at b asks))

        clash : own ≡ wide_of p at b.first.source → ⊥
        clash same =
            ⊎_elim
            (λ (free : (s.flights (side_of link) own).turn ≡ Idle). idle_or_asking (link_number at) (sym free ∙ turn same))
            (λ (asking : (s.flights (side_of link) own).turn ≡ Asking (link_number link)).
            true_or_false (is_link link (side_of at) (link_number at))
            (is_link_by link at (sym side) (asking_same (link_number link) (link_number at) (sym asking ∙ turn same))) other)
            (open_before p s busy link known lanes beat allowed)

        go : (same : Bool) → (own == wide_of p at b.first.source) ≡ same → same ≡ false
        go true is = absurd (clash (eqb-true own (wide_of p at b.first.source) is))
        go false is = refl

    own_begun : (b : AskBegun) → (under_after under (A beat) known lanes).asking ≡ Some b
        → IsBegunAs plan (wide_of p link b.first.source) b.first (found (wide_of p link b.first.source) next)
    own_begun b is =
        let first : mine.flight.first ≡ b.first = mine.first_is ∙ first_after under.bus under.asking beat lanes b is in
        let source : beat.source ≡ b.first.source = mine.fields.source ∙ ap (λ (h : AskHead). h.source) first in
        subst (λ n. IsBegunAs plan (wide_of p link n) b.first (found (wide_of p link n) next)) source
        (record { flight = mine.flight; is = mine.is; first_is = first; port = mine.port })

    ask_begun : (at : Link) (b : AskBegun) → side_of at ≡ side_of link
        → (then_state.links (side_of at) (link_number at)).asking ≡ Some b
        → IsBegunAs plan (wide_of p at b.first.source) b.first (found (wide_of p at b.first.source) next)
    ask_begun at b side = go (is_link link (side_of at) (link_number at)) refl
      where
        go : (here : Bool) → is_link link (side_of at) (link_number at) ≡ here
            → (if here then under_after under (A beat) known lanes else s.links (side_of at) (link_number at)).asking ≡ Some b
            → IsBegunAs plan (wide_of p at b.first.source) b.first (found (wide_of p at b.first.source) next)
        go true here is =
            subst (λ l. IsBegunAs plan (wide_of p l b.first.source) b.first (found (wide_of p l b.first.source) next)) (same_link link at here)
            (own_begun b is)
        go false here is =
            subst (λ o. IsBegunAs plan (wide_of p at b.first.source) b.first o)
            (sym (other_stays plan own beat flights bus end (wide_of p at b.first.source) (elsewhere at b side is here)))
            (kept.begins at b side is)

    pub ask_kept : AreKept plan (state_after plan s (ask_at link known lanes beat)) (side_of link)
        (flights_after plan bus (wide_of plan link beat.source) flights (A beat) end)
    ask_kept = record { turns = ask_turns; begins = ask_begun }

  -- a reply answers what is in flight
  pub reply_answers : (beat : ReplyHead)
      → IsAllowedReply plan.layout link (scene_of plan s link (D beat)) beat known lanes
      → (ask : Sent)
      × ((s.flights (side_of link) (wide_of plan link beat.source)).turn ≡ Asked (link_number link) ask)
  reply_answers beat allowed =
      let is = asked_at (link_number link) (s.flights (side_of link) (wide_of p link beat.source)).turn _ allowed.answers in
      (is.0, is.1)

  module _ (beat : ReplyHead)
      (allowed : IsAllowedReply plan.layout link (scene_of plan s link (D beat)) beat known lanes)
      (end : Ended) (end_is : ends_a_reply end ≡ ends_reply under.bus under.replying beat) where
    abbrev owner : ℕ
    owner = wide_of p link beat.source

    abbrev replied : State
    replied = state_after p s (reply_at link known lanes beat)

    abbrev rest : Bool → List InFlight
    rest ends = if ends then left owner flights else flights

    reply_turns : (ends : Bool) → ends_reply under.bus under.replying beat ≡ ends → (wide : ℕ)
        → IsKeptAs plan wide (replied.flights (side_of link) wide).turn (found wide (rest ends))
    reply_turns ends is_end wide =
        go (is_of p (reply_at link known lanes beat) (side_of link) wide) refl ends is_end
      where
        go : (of : Bool) → is_of p (reply_at link known lanes beat) (side_of link) wide ≡ of
            → (ends : Bool) → ends_reply under.bus under.replying beat ≡ ends
            → IsKeptAs plan wide (if of then flight_after p.layout link (scene_of p s link (D beat)) (D beat) lanes
            else s.flights (side_of link) wide).turn (found wide (rest ends))
        go true is true so =
            let own = (of_is p (reply_at link known lanes beat) (side_of link) wide is).1 in
            subst (λ b. IsKeptAs plan wide (if b then idle else (scene_of p s link (D beat)).flight).turn
            (found wide (left owner flights))) (sym so)
            (subst (λ w. found w (left owner flights) ≡ None) own (own_left owner flights))
        go true is false so =
            let own = (of_is p (reply_at link known lanes beat) (side_of link) wide is).1 in
            subst (λ b. IsKeptAs plan wide (if b then idle else (scene_of p s link (D beat)).flight).turn
            (found wide flights)) (sym so)
            (subst (λ w. IsKeptAs plan w (s.flights (side_of link) owner).turn (found w flights)) own (kept.turns owner))
        go false is true so =
            subst (λ o. IsKeptAs plan wide (s.flights (side_of link) wide).turn o)
            (sym (other_left owner wide (other_source owner wide is) flights)) (kept.turns wide)
        go false is false so = kept.turns wide

    -- a request that is under way is not the one that is answered
    not_answered : (at : Link) (b : AskBegun) → side_of at ≡ side_of link
        → (s.links (side_of at) (link_number at)).asking ≡ Some b → (owner == wide_of p at b.first.source) ≡ false
    not_answered at b side asks = go (owner == wide_of p at b.first.source) refl
      where
        turn : owner ≡ wide_of p at b.first.source → (s.flights (side_of link) owner).turn ≡ Asking (link_number at)
        turn same =
            subst (λ sd. (s.flights sd owner).turn ≡ Asking (link_number at)) side
            (subst (λ w. (s.flights (side_of at) w).turn ≡ Asking (link_number at)) (sym same) (busy at b asks))

        go : (same : Bool) → (owner == wide_of p at b.first.source) ≡ same → same ≡ false
        go true is =
            let asked = reply_answers beat allowed in
            absurd (asked_or_asking (link_number link) (link_number at) asked.0
            (sym asked.1 ∙ turn (eqb-true owner (wide_of p at b.first.source) is)))
        go false is = refl

    reply_begun : (ends : Bool) (at : Link) (b : AskBegun) → side_of at ≡ side_of link
        → (replied.links (side_of at) (link_number at)).asking ≡ Some b
        → IsBegunAs plan (wide_of p at b.first.source) b.first (found (wide_of p at b.first.source) (rest ends))
    reply_begun ends at b side = go (is_link link (side_of at) (link_number at)) refl
      where
        stays : (ends : Bool) → (s.links (side_of at) (link_number at)).asking ≡ Some b
            → IsBegunAs plan (wide_of p at b.first.source) b.first (found (wide_of p at b.first.source) (rest ends))
        stays true is =
            subst (λ o. IsBegunAs plan (wide_of p at b.first.source) b.first o)
            (sym (other_left owner (wide_of p at b.first.source) (not_answered at b side is) flights))
            (kept.begins at b side is)
        stays false is = kept.begins at b side is

        go : (here : Bool) → is_link link (side_of at) (link_number at) ≡ here
            → (if here then under_after under (D beat) known lanes else s.links (side_of at) (link_number at)).asking ≡ Some b
            → IsBegunAs plan (wide_of p at b.first.source) b.first (found (wide_of p at b.first.source) (rest ends))
        go true here is =
            stays ends (ap (λ (l : Link). (s.links (side_of l) (link_number l)).asking) (sym (same_link link at here)) ∙ is)
        go false here is = stays ends is

    pub reply_kept : AreKept plan (state_after plan s (reply_at link known lanes beat)) (side_of link)
        (flights_after plan bus (wide_of plan link beat.source) flights (D beat) end)
    reply_kept =
        subst (λ e. AreKept plan replied (side_of link) (rest e)) (sym end_is)
        (record {
          turns = reply_turns (ends_reply under.bus under.replying beat) refl;
          begins = reply_begun (ends_reply under.bus under.replying beat);
        })

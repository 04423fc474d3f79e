-- From what a judge finds of a beat of a request to what it is after its past: the first reason, or that it is lawful.
use Rattle.std.proofs.Common.{◌≡◌, ◌∙◌, ⊎_elim, ap, Some, None, ℕ, ◌<◌, ◌↔◌, Bool, List, Option, sym, subst, refl, arith}
use Rattle.std.specs.Prelude.{IsTrue}
use Rattle.tl_types.specs.declared.operation.AskOp.{AskOp}
use Rattle.check_cells.specs.Sent.{Sent}
use Rattle.check_beats.specs.Form.{FitsAsk, IsKnown, IsLawfulMaskOnBus, IsRightAskMark, HasAskFormFault}
use Rattle.check_beats.specs.Rules.{IsAlignedBy, IsAskMarkedBy}
use Rattle.check_beats.specs.State.{ask_of, ends_ask, first_ask}
use Rattle.check_beats.specs.declared.beat.AskHead.{AskHead}
use Rattle.check_beats.specs.declared.beat.ReplyHead.{ReplyHead}
use Rattle.check_beats.specs.declared.rules.LinkRules.{LinkRules}
use Rattle.check_beats.specs.declared.fault.FormFault.{FormFault}
use Rattle.check_beats.specs.declared.fault.FormFault.TheVariants.{Changed, Opcode, Param, Size, Unaligned, Mask, CorruptFlag, UnknownData as UnknownLanes}
use Rattle.check_flight.specs.Crossing.{IsSameSent}
use Rattle.check_flight.specs.Flight.{IsAskedAt, asked, Turn}
use Rattle.check_flight.specs.Flight.Turn.{Idle, Asking, Asked}
use Rattle.check_flight.specs.Side.{flight_at}
use Rattle.check_watch.specs.declared.beat.Beat.TheVariants.{A, D}
use Rattle.check_watch.specs.declared.beat.Link.{Link}
use Rattle.check_watch.specs.declared.beat.Link.TheVariants.{Master, Port}
use Rattle.check_watch.specs.declared.fault.Reason.{Reason}
use Rattle.check_watch.specs.declared.fault.Reason.TheVariants.{Form, NoSuchSource, SourceBusy, WrongPort, NoRequest, EarlyReply, OutOfOrder, WrongSize, WrongOpcode, UnknownData, NotSent, NotGiven, WrongReply}
use Rattle.check_watch.specs.Allowed.{IsAskedAs, IsSent, BeginsFree, BeginsPlaced, EndsSent, IsAllowedAsk}
use Rattle.check_watch.specs.Faults.{HasAskReason, IsFirstAskReason, reason_rank}
use Rattle.check_watch.specs.Past.{port_in, port_of}
use Rattle.check_watch.specs.Plan.{DecodesTo, RoutesAt, Layout, Plan, IsPlan, HasSource, IsWideAt, reached, route_of, wide_of, wider_bus}
use Rattle.check_watch.specs.Scene.{Scene}
use Rattle.check_watch.specs.View.{GroupView, SuitsGroup, under_in, flight_in, crossing_at, scene_in}
use Rattle.check_watch.proofs.Codes.{same_op}

-- the wide source that a judge finds is that of the plan
pub wide_is : (plan : Plan) (view : GroupView) (link : Link) (source wide : ℕ) → SuitsGroup plan view
    → IsWideAt view.layout link source wide → wide ≡ wide_of plan link source
wide_is plan view (Master m) source wide suits is = sym (suits.lawful.wide m source wide (rw (← suits.layout) is))
wide_is plan view (Port p) source wide suits is = is.0

-- requests go to the port that a plan says
pub own_route : (plan : Plan) → IsPlan plan → (master address size : ℕ)
    → RoutesAt plan.layout master address size (route_of plan master address size)
own_route plan is master address size = record {
  found = plan.decode address size;
  decodes = (is.decode address size (plan.decode address size)).0 refl;
  reaches = refl;
}

-- and to no other
pub route_is : (plan : Plan) → IsPlan plan → (master address size port : ℕ)
    → RoutesAt plan.layout master address size port → route_of plan master address size ≡ port
route_is plan is master address size port at =
    ap (λ found. reached plan.layout master found) ((is.decode address size at.found).1 at.decodes) ∙ at.reaches

-- decoders find one port, and the master reaches that or the error port
pub routes_found : (layout : Layout) (master address size found : ℕ)
    → ((port : ℕ) → (found ≡ port) ↔ DecodesTo layout address size port) → (reach : ℕ) → reach ≡ reached layout master found
    → (port : ℕ) → (reach ≡ port) ↔ RoutesAt layout master address size port
routes_found layout master address size found finds reach is port = (
  λ same. record { found = found; decodes = (finds found).0 refl; reaches = sym is ∙ same },
  λ at. is ∙ ap (λ other. reached layout master other) ((finds at.found).1 at.decodes) ∙ at.reaches,
)

-- the port that a judge finds is that of the plan
pub port_is : (plan : Plan) (view : GroupView) (master address size port : ℕ) → SuitsGroup plan view
    → ((other : ℕ) → (port ≡ other) ↔ RoutesAt view.layout master address size other)
    → port ≡ route_of plan master address size
port_is plan view master address size port suits routes =
    (routes (route_of plan master address size)).1
    (rw suits.layout (own_route plan suits.lawful master address size))

pub port_found : (plan : Plan) (view : GroupView) (link : Link) (turn : Turn) (beat : AskHead) (port : ℕ) → SuitsGroup plan view
    → ((number other : ℕ) → link ≡ Master number → (port ≡ other)
    ↔ RoutesAt view.layout number beat.address beat.size other)
    → ((number : ℕ) → link ≡ Port number → port ≡ number)
    → port ≡ port_of plan link turn (A beat)
port_found plan view (Master m) turn beat port suits master at_port =
    port_is plan view m beat.address beat.size port suits (λ other. master m other refl)
port_found plan view (Port p) turn beat port suits master at_port = at_port p refl

-- the request in flight that has ended
pub asked_is : (turn : Turn) (sent : Sent) → asked turn ≡ Some sent → (at : ℕ) × (turn ≡ Asked at sent)
asked_is Idle sent is = absurd (cc)
asked_is (Asking at) sent is = absurd (cc)
asked_is (Asked at other) sent is = (at, ap (λ r. Asked at r) (cc))

-- the port that it goes to is that of the plan
pub port_asked : (plan : Plan) (view : GroupView) (link : Link) (turn : Turn) (sent : Sent) (beat : ReplyHead) (port : ℕ)
    → SuitsGroup plan view → asked turn ≡ Some sent
    → ((number other : ℕ) → link ≡ Master number → (port ≡ other)
    ↔ RoutesAt view.layout number sent.ask.address sent.ask.size other)
    → ((number : ℕ) → link ≡ Port number → port ≡ number)
    → port ≡ port_of plan link turn (D beat)
port_asked plan view (Port p) turn sent beat port suits is master at_port = at_port p refl
port_asked plan view (Master m) turn sent beat port suits is master at_port =
    let found = asked_is turn sent is in
    port_is plan view m sent.ask.address sent.ask.size port suits (λ other. master m other refl)
    ∙ ap (λ t. port_in plan m t) (sym found.1)

-- a request that was asked at this link is seen across, if it is the same in cuts
pub asked_across : (layout : Layout) (port master : ℕ) (turn : Turn) (sent seen : Sent) → IsAskedAt master turn
    → asked turn ≡ Some sent
    → IsAskedAs layout port turn seen ↔ IsSameSent (wider_bus layout (Master master) port) sent seen
asked_across layout port master Idle sent seen at is = absurd at
asked_across layout port master (Asking number) sent seen at is = absurd at
asked_across layout port master (Asked number other) sent seen at is =
    let same : other ≡ sent = some_same other sent is in (
      λ across. subst (λ (s : Sent). IsSameSent (wider_bus layout (Master master) port) s seen) same
          (subst (λ n. IsSameSent (wider_bus layout (Master n) port) other seen) at across),
      λ across. subst (λ n. IsSameSent (wider_bus layout (Master n) port) other seen) (sym at)
          (subst (λ (s : Sent). IsSameSent (wider_bus layout (Master master) port) s seen) (sym same) across),
    )
  where
    some_same : (a b : Sent) → Some a ≡ Some b → a ≡ b
    some_same a b is = cc

-- one that was not asked is not
pub none_across : (layout : Layout) (port : ℕ) (turn : Turn) (seen : Sent)
    → ((master : ℕ) → IsAskedAt master turn → ⊥) → IsAskedAs layout port turn seen → ⊥
none_across layout port Idle seen none across = across
none_across layout port (Asking number) seen none across = across
none_across layout port (Asked number sent) seen none across = none number refl

-- ---- requests

module _ (plan : Plan) (view : GroupView) (link : Link) (beat : AskHead) (lanes : List ℕ) (wide : ℕ) (r : Bool)
    (suits : SuitsGroup plan view) (at : IsWideAt view.layout link beat.source wide) where
  pub free_here : (IsTrue r ↔ ((under_in view link).asking ≡ None → (flight_in view link wide).turn ≡ Idle))
      → (IsTrue r ↔ BeginsFree (scene_in plan view link (A beat)))
  free_here free =
      let P : ℕ → Type 0 = λ w. IsTrue r ↔ ((under_in view link).asking ≡ None → (flight_in view link w).turn ≡ Idle) in
      subst P (wide_is plan view link beat.source wide suits at) free

  pub sent_here : (IsTrue r ↔ (IsTrue (ends_ask (under_in view link).bus (under_in view link).asking beat)
      → IsSent view.layout link (flight_at view.masters.flights wide).turn (crossing_at view.crossings wide)
      (ask_of (under_in view link).bus (under_in view link).asking beat lanes)))
      → (IsTrue r ↔ EndsSent view.layout link (scene_in plan view link (A beat)) beat lanes)
  sent_here sent =
      let P : ℕ → Type 0 =
      λ w. IsTrue r ↔ (IsTrue (ends_ask (under_in view link).bus (under_in view link).asking beat)
      → IsSent view.layout link (flight_at view.masters.flights w).turn (crossing_at view.crossings w)
      (ask_of (under_in view link).bus (under_in view link).asking beat lanes)) in
      subst P (wide_is plan view link beat.source wide suits at) sent

mask_same : (bus : ℕ) (op other : AskOp) (size address mask : ℕ) → op ≡ other → IsLawfulMaskOnBus bus op size address mask
    → IsLawfulMaskOnBus bus other size address mask
mask_same bus op other size address mask is lawful =
    subst (λ (o : AskOp). IsLawfulMaskOnBus bus o size address mask) is lawful

mark_same : (op other : AskOp) (corrupt : Bool) → op ≡ other → IsRightAskMark op corrupt → IsRightAskMark other corrupt
mark_same op other corrupt is right = subst (λ (o : AskOp). IsRightAskMark o corrupt) is right

no_form_fault : (bus : ℕ) (links : LinkRules) (begun : Option AskHead) (beat : AskHead) (known : ℕ) → FitsAsk bus begun beat
    → IsAlignedBy links beat → IsAskMarkedBy links beat → IsKnown beat known → (fault : FormFault)
    → HasAskFormFault bus links begun beat known fault → ⊥
no_form_fault bus links begun beat known fits aligned marked lanes Changed has = has fits.same
no_form_fault bus links begun beat known fits aligned marked lanes Opcode has = has fits.formed.op fits.formed.code
no_form_fault bus links begun beat known fits aligned marked lanes Param has = has
no_form_fault bus links begun beat known fits aligned marked lanes Size has = omega (arith, fits.formed.in_limit, has)
no_form_fault bus links begun beat known fits aligned marked lanes Unaligned has = has aligned
no_form_fault bus links begun beat known fits aligned marked lanes Mask has =
    has.2 (mask_same bus fits.formed.op has.0 beat.size beat.address beat.mask
    (same_op fits.formed.op has.0 beat.opcode beat.param fits.formed.code has.1) fits.formed.mask)
no_form_fault bus links begun beat known fits aligned marked lanes CorruptFlag has = ⊎_elim
    (λ wrong. wrong.2 (mark_same fits.formed.op wrong.0 beat.corrupt
    (same_op fits.formed.op wrong.0 beat.opcode beat.param fits.formed.code wrong.1) fits.formed.flag))
    (λ barred. barred marked)
    has
no_form_fault bus links begun beat known fits aligned marked lanes UnknownLanes has = has.2 (lanes has.0 has.1)

-- what is known of a beat once the reasons before this place are ruled out
pub record AskUpTo (layout : Layout) (link : Link) (scene : Scene) (beat : AskHead) (known : ℕ) (lanes : List ℕ)
    (rank : ℕ) : Type 0 where
  pub fits : FitsAsk scene.under.bus (first_ask scene.under.asking) beat
  pub aligned : IsAlignedBy layout.rules beat
  pub marked : IsAskMarkedBy layout.rules beat
  pub known_lanes : IsKnown beat known
  pub source : HasSource layout link beat.source
  pub free : 10 < rank → BeginsFree scene
  pub placed : 11 < rank → BeginsPlaced layout link scene beat
  pub sent : 18 < rank → EndsSent layout link scene beat lanes

module _ (layout : Layout) (link : Link) (scene : Scene) (beat : AskHead) (known : ℕ) (lanes : List ℕ) where
  none_before_ask : (rank : ℕ) → AskUpTo layout link scene beat known lanes rank
      → (other : Reason) → reason_rank other < rank → HasAskReason layout link scene beat known lanes other → ⊥
  none_before_ask rank up (Form f) lower has =
      no_form_fault scene.under.bus layout.rules (first_ask scene.under.asking) beat known up.fits up.aligned up.marked
      up.known_lanes f has
  none_before_ask rank up NoSuchSource lower has = has up.source
  none_before_ask rank up SourceBusy lower has = has (up.free lower)
  none_before_ask rank up WrongPort lower has = has (up.placed lower)
  none_before_ask rank up NoRequest lower has = has
  none_before_ask rank up EarlyReply lower has = has
  none_before_ask rank up OutOfOrder lower has = has
  none_before_ask rank up WrongSize lower has = has
  none_before_ask rank up WrongOpcode lower has = has
  none_before_ask rank up UnknownData lower has = has
  none_before_ask rank up NotSent lower has = has (up.sent lower)
  none_before_ask rank up NotGiven lower has = has
  none_before_ask rank up WrongReply lower has = has

  pub first_ask_reason : (reason : Reason) → HasAskReason layout link scene beat known lanes reason
      → AskUpTo layout link scene beat known lanes (reason_rank reason) → IsFirstAskReason layout link scene beat known lanes reason
  first_ask_reason reason has up =
      record { applies = has; first = none_before_ask (reason_rank reason) up }

  pub allowed_ask : AskUpTo layout link scene beat known lanes 20 → IsAllowedAsk layout link scene beat known lanes
  allowed_ask up = record {
    fits = up.fits;
    aligned = up.aligned;
    marked = up.marked;
    known_lanes = up.known_lanes;
    source = up.source;
    free = up.free (omega arith);
    placed = up.placed (omega arith);
    sent = up.sent (omega arith);
  }

  -- a beat that is lawful has no reason not to be
  pub no_ask_reason : IsAllowedAsk layout link scene beat known lanes
      → (reason : Reason) → HasAskReason layout link scene beat known lanes reason → ⊥
  no_ask_reason allowed (Form f) has =
      no_form_fault scene.under.bus layout.rules (first_ask scene.under.asking) beat known allowed.fits allowed.aligned
      allowed.marked allowed.known_lanes f has
  no_ask_reason allowed NoSuchSource has = has allowed.source
  no_ask_reason allowed SourceBusy has = has allowed.free
  no_ask_reason allowed WrongPort has = has allowed.placed
  no_ask_reason allowed NoRequest has = has
  no_ask_reason allowed EarlyReply has = has
  no_ask_reason allowed OutOfOrder has = has
  no_ask_reason allowed WrongSize has = has
  no_ask_reason allowed WrongOpcode has = has
  no_ask_reason allowed UnknownData has = has
  no_ask_reason allowed NotSent has = has allowed.sent
  no_ask_reason allowed NotGiven has = has
  no_ask_reason allowed WrongReply has = has

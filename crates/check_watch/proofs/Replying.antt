-- From what a judge finds of a beat of a reply to what it is after its past: the first reason, or that it is lawful.
use Rattle.std.proofs.Common.{◌≡◌, ℕ, ◌<◌, ◌≤◌, ◌⊎◌, inl, inr, Bool, false, List, Option, Some, None, sym, subst, arith}
use Rattle.std.specs.Prelude.{IsTrue, IsSome}
use Rattle.tl_types.specs.Fault.{IsFirstOf}
use Rattle.tl_types.specs.declared.operation.ReplyOp.{ReplyOp}
use Rattle.check_beats.specs.Form.{FitsReply, HasReplyFormFault, IsRightMark}
use Rattle.check_beats.specs.Rules.{IsMarkedBy}
use Rattle.check_beats.specs.State.{ends_reply, first_reply}
use Rattle.check_beats.specs.declared.beat.ReplyHead.{ReplyHead}
use Rattle.check_beats.specs.declared.fault.FormFault.{FormFault}
use Rattle.check_beats.specs.declared.fault.FormFault.TheVariants.{Changed, Opcode, Param, Size, Unaligned, Mask, CorruptFlag, UnknownData as UnknownLanes}
use Rattle.check_beats.specs.declared.rules.LinkRules.{LinkRules}
use Rattle.check_flight.specs.declared.answer.Answer.{Answer}
use Rattle.check_flight.specs.Flight.{Turn}
use Rattle.check_flight.specs.Flight.Turn.{Idle, Asking, Asked}
use Rattle.check_flight.specs.PortSlave.{may_be_unknown}
use Rattle.check_flight.specs.Side.{flight_at}
use Rattle.check_flight.proofs.Known.{stays_answering}
use Rattle.check_watch.specs.declared.beat.Beat.TheVariants.{D}
use Rattle.check_watch.specs.declared.beat.Link.{Link}
use Rattle.check_watch.specs.declared.fault.Reason.{Reason}
use Rattle.check_watch.specs.declared.fault.Reason.TheVariants.{Form, NoSuchSource, SourceBusy, WrongPort, NoRequest, EarlyReply, OutOfOrder, WrongSize, WrongOpcode, UnknownData, NotSent, NotGiven, WrongReply}
use Rattle.check_watch.specs.Allowed.{OfAsked, IsAnswer, IsMust, IsAllowedReply}
use Rattle.check_watch.specs.Faults.{HasAnswerReason, HasEndReason, EndsWith, HasReplyReason, IsFirstReplyReason, reason_rank}
use Rattle.check_watch.specs.Past.{port_of, slave_at}
use Rattle.check_watch.specs.Plan.{Layout, Plan, HasSource, IsWideAt, link_number, wider_bus}
use Rattle.check_watch.specs.Scene.{Scene, once_answered, is_given}
use Rattle.check_watch.specs.View.{GroupView, SuitsGroup, under_in, flight_in, crossing_at, scene_in, answered_in, due_in, captured_in}
use Rattle.check_watch.proofs.Codes.{same_reply_op}
use Rattle.check_watch.proofs.Judging.{wide_is}

-- ---- no reason before

no_form_fault : (rules : LinkRules) (begun : Option ReplyHead) (beat : ReplyHead) → FitsReply begun beat
    → IsMarkedBy rules beat → (fault : FormFault) → HasReplyFormFault rules begun beat fault → ⊥
no_form_fault rules begun beat fits marked Changed has = has fits.same
no_form_fault rules begun beat fits marked Opcode has = has fits.formed.op fits.formed.code
no_form_fault rules begun beat fits marked Param has = has fits.formed.param
no_form_fault rules begun beat fits marked Size has = omega (arith, fits.formed.in_limit, has)
no_form_fault rules begun beat fits marked Unaligned has = has
no_form_fault rules begun beat fits marked Mask has = has
no_form_fault rules begun beat fits marked CorruptFlag (inl has) =
    let is = same_reply_op fits.formed.op has.0 beat.opcode fits.formed.code has.1 in
    has.2 (subst (λ (o : ReplyOp). IsRightMark o beat.denied beat.corrupt) is fits.formed.flag)
no_form_fault rules begun beat fits marked CorruptFlag (inr has) = has marked
no_form_fault rules begun beat fits marked UnknownLanes has = has

module _ (number : ℕ) (turn : Turn) (bus : ℕ) (unknown : Bool) (beat : ReplyHead) (known : ℕ) where
  answer_rank : (reason : Reason) → HasAnswerReason number turn bus unknown beat known reason → reason_rank reason ≤ 17
  answer_rank (Form f) has = absurd has
  answer_rank NoSuchSource has = absurd has
  answer_rank SourceBusy has = absurd has
  answer_rank WrongPort has = absurd has
  answer_rank NoRequest has = omega arith
  answer_rank EarlyReply has = omega arith
  answer_rank OutOfOrder has = absurd has
  answer_rank WrongSize has = omega arith
  answer_rank WrongOpcode has = omega arith
  answer_rank UnknownData has = omega arith
  answer_rank NotSent has = absurd has
  answer_rank NotGiven has = absurd has
  answer_rank WrongReply has = absurd has

-- a beat that answers has no reason not to
no_answer_reason : (number : ℕ) (turn : Turn) (bus : ℕ) (unknown : Bool) (beat : ReplyHead) (known : ℕ)
    → OfAsked number turn (IsAnswer bus unknown beat known) → (reason : Reason)
    → HasAnswerReason number turn bus unknown beat known reason → ⊥
no_answer_reason number Idle bus unknown beat known answers reason has = answers
no_answer_reason number (Asking at) bus unknown beat known answers reason has = answers
no_answer_reason number (Asked at ask) bus unknown beat known answers (Form f) has = has
no_answer_reason number (Asked at ask) bus unknown beat known answers NoSuchSource has = has
no_answer_reason number (Asked at ask) bus unknown beat known answers SourceBusy has = has
no_answer_reason number (Asked at ask) bus unknown beat known answers WrongPort has = has
no_answer_reason number (Asked at ask) bus unknown beat known answers NoRequest has = has answers.0
no_answer_reason number (Asked at ask) bus unknown beat known answers EarlyReply has = absurd (cc)
no_answer_reason number (Asked at ask) bus unknown beat known answers OutOfOrder has = has
no_answer_reason number (Asked at ask) bus unknown beat known answers WrongSize has = has.1 answers.1.size
no_answer_reason number (Asked at ask) bus unknown beat known answers WrongOpcode has = has.1 answers.1.opcode
no_answer_reason number (Asked at ask) bus unknown beat known answers UnknownData has = has.1 answers.1.lanes
no_answer_reason number (Asked at ask) bus unknown beat known answers NotSent has = has
no_answer_reason number (Asked at ask) bus unknown beat known answers NotGiven has = has
no_answer_reason number (Asked at ask) bus unknown beat known answers WrongReply has = has

-- `NotGiven` is tried before `WrongReply`, and the two exclude each other
not_both : (given : Bool) (due : Option Answer) → given ≡ false → IsSome due → (IsTrue given ⊎ (due ≡ None)) → ⊥
not_both given None is some either = absurd (cc)
not_both given (Some answer) is some (inl so) = absurd (cc)
not_both given (Some answer) is some (inr not) = absurd (cc)

module _ (layout : Layout) (link : Link) (scene : Scene) (beat : ReplyHead) (known : ℕ) (lanes : List ℕ)
    (fits : FitsReply (first_reply scene.under.replying) beat) (marked : IsMarkedBy layout.rules beat)
    (source : HasSource layout link beat.source) where
  abbrev AnswersHere : Type 0
  AnswersHere =
      OfAsked (link_number link) scene.flight.turn (IsAnswer scene.under.bus (may_be_unknown scene.slave) beat known)

  abbrev HasHere : Reason → Type 0
  HasHere reason =
      HasAnswerReason (link_number link) scene.flight.turn scene.under.bus (may_be_unknown scene.slave) beat known reason

  answer_applies : (reason : Reason) → HasHere reason → HasReplyReason layout link scene beat known lanes reason
  answer_applies (Form f) has = absurd has
  answer_applies NoSuchSource has = absurd has
  answer_applies SourceBusy has = absurd has
  answer_applies WrongPort has = absurd has
  answer_applies NoRequest has = has
  answer_applies EarlyReply has = has
  answer_applies OutOfOrder has = absurd has
  answer_applies WrongSize has = has
  answer_applies WrongOpcode has = has
  answer_applies UnknownData has = has
  answer_applies NotSent has = absurd has
  answer_applies NotGiven has = absurd has
  answer_applies WrongReply has = absurd has

  none_before_answer : (rank : ℕ) → rank ≤ 17
      → ((other : Reason) → reason_rank other < rank → HasHere other → ⊥)
      → (other : Reason) → reason_rank other < rank → HasReplyReason layout link scene beat known lanes other → ⊥
  none_before_answer rank small none (Form f) lower has = no_form_fault layout.rules (first_reply scene.under.replying) beat fits marked f has
  none_before_answer rank small none NoSuchSource lower has = has source
  none_before_answer rank small none SourceBusy lower has = has
  none_before_answer rank small none WrongPort lower has = has
  none_before_answer rank small none NoRequest lower has = none NoRequest lower has
  none_before_answer rank small none EarlyReply lower has = none EarlyReply lower has
  none_before_answer rank small none OutOfOrder lower has = has
  none_before_answer rank small none WrongSize lower has = none WrongSize lower has
  none_before_answer rank small none WrongOpcode lower has = none WrongOpcode lower has
  none_before_answer rank small none UnknownData lower has = none UnknownData lower has
  none_before_answer rank small none NotSent lower has = has
  none_before_answer rank small none NotGiven lower has = omega (arith, lower, small)
  none_before_answer rank small none WrongReply lower has = omega (arith, lower, small)

  -- the first reason as an answer is the first of all
  pub first_answer : (reason : Reason) → IsFirstOf HasHere reason_rank reason
      → IsFirstReplyReason layout link scene beat known lanes reason
  first_answer reason is = record {
    applies = answer_applies reason is.applies;
    first = none_before_answer (reason_rank reason)
        (answer_rank (link_number link) scene.flight.turn scene.under.bus
        (may_be_unknown scene.slave) beat known reason is.applies) is.first;
  }

  -- the reason why a beat that answers ends badly applies
  end_applies : (reason : Reason) → EndsWith layout link scene beat known lanes reason
      → HasReplyReason layout link scene beat known lanes reason
  end_applies (Form f) has = absurd has.1
  end_applies NoSuchSource has = absurd has.1
  end_applies SourceBusy has = absurd has.1
  end_applies WrongPort has = absurd has.1
  end_applies NoRequest has = absurd has.1
  end_applies EarlyReply has = absurd has.1
  end_applies OutOfOrder has = absurd has.1
  end_applies WrongSize has = absurd has.1
  end_applies WrongOpcode has = absurd has.1
  end_applies UnknownData has = absurd has.1
  end_applies NotSent has = absurd has.1
  end_applies NotGiven has = has
  end_applies WrongReply has = has

  none_before_end : AnswersHere → (reason : Reason) → EndsWith layout link scene beat known lanes reason
      → (other : Reason) → reason_rank other < reason_rank reason
      → HasReplyReason layout link scene beat known lanes other → ⊥
  none_before_end answers reason ends (Form f) lower has =
      no_form_fault layout.rules (first_reply scene.under.replying) beat fits marked f has
  none_before_end answers reason ends NoSuchSource lower has = has source
  none_before_end answers reason ends SourceBusy lower has = has
  none_before_end answers reason ends WrongPort lower has = has
  none_before_end answers reason ends NoRequest lower has = no_answer_reason _ _ _ _ _ _ answers NoRequest has
  none_before_end answers reason ends EarlyReply lower has = no_answer_reason _ _ _ _ _ _ answers EarlyReply has
  none_before_end answers reason ends OutOfOrder lower has = has
  none_before_end answers reason ends WrongSize lower has = no_answer_reason _ _ _ _ _ _ answers WrongSize has
  none_before_end answers reason ends WrongOpcode lower has = no_answer_reason _ _ _ _ _ _ answers WrongOpcode has
  none_before_end answers reason ends UnknownData lower has = no_answer_reason _ _ _ _ _ _ answers UnknownData has
  none_before_end answers reason ends NotSent lower has = has
  none_before_end answers WrongReply ends NotGiven lower has =
      not_both (is_given layout link scene.port) scene.flight.due ends.1.0 ends.1.1 has.1.0
  none_before_end answers NotGiven ends NotGiven lower has = omega (arith, lower)
  none_before_end answers (Form f) ends NotGiven lower has = ends.1
  none_before_end answers NoSuchSource ends NotGiven lower has = ends.1
  none_before_end answers SourceBusy ends NotGiven lower has = ends.1
  none_before_end answers WrongPort ends NotGiven lower has = ends.1
  none_before_end answers NoRequest ends NotGiven lower has = ends.1
  none_before_end answers EarlyReply ends NotGiven lower has = ends.1
  none_before_end answers OutOfOrder ends NotGiven lower has = ends.1
  none_before_end answers WrongSize ends NotGiven lower has = ends.1
  none_before_end answers WrongOpcode ends NotGiven lower has = ends.1
  none_before_end answers UnknownData ends NotGiven lower has = ends.1
  none_before_end answers NotSent ends NotGiven lower has = ends.1
  none_before_end answers reason ends WrongReply lower has =
      let rank = at_most reason in omega (arith, lower, rank)
    where
      at_most : (r : Reason) → reason_rank r ≤ 20
      at_most (Form Changed) = omega arith
      at_most (Form Opcode) = omega arith
      at_most (Form Param) = omega arith
      at_most (Form Size) = omega arith
      at_most (Form Unaligned) = omega arith
      at_most (Form Mask) = omega arith
      at_most (Form CorruptFlag) = omega arith
      at_most (Form UnknownLanes) = omega arith
      at_most NoSuchSource = omega arith
      at_most SourceBusy = omega arith
      at_most WrongPort = omega arith
      at_most NoRequest = omega arith
      at_most EarlyReply = omega arith
      at_most OutOfOrder = omega arith
      at_most WrongSize = omega arith
      at_most WrongOpcode = omega arith
      at_most UnknownData = omega arith
      at_most NotSent = omega arith
      at_most NotGiven = omega arith
      at_most WrongReply = omega arith

  -- the reason why a beat that answers ends badly is the first of all
  pub first_end : AnswersHere → (reason : Reason) → EndsWith layout link scene beat known lanes reason
      → IsFirstReplyReason layout link scene beat known lanes reason
  first_end answers reason ends = record {
    applies = end_applies reason ends;
    first = none_before_end answers reason ends;
  }

-- ---- what is lawful has no reason not to be

module _ (layout : Layout) (link : Link) (scene : Scene) (beat : ReplyHead) (known : ℕ) (lanes : List ℕ)
    (allowed : IsAllowedReply layout link scene beat known lanes) where
  pub no_reply_reason : (reason : Reason) → HasReplyReason layout link scene beat known lanes reason → ⊥
  no_reply_reason (Form f) has = no_form_fault layout.rules (first_reply scene.under.replying) beat allowed.fits allowed.marked f has
  no_reply_reason NoSuchSource has = has allowed.source
  no_reply_reason SourceBusy has = has
  no_reply_reason WrongPort has = has
  no_reply_reason NoRequest has = no_answer_reason _ _ _ _ _ _ allowed.answers NoRequest has
  no_reply_reason EarlyReply has = no_answer_reason _ _ _ _ _ _ allowed.answers EarlyReply has
  no_reply_reason OutOfOrder has = has
  no_reply_reason WrongSize has = no_answer_reason _ _ _ _ _ _ allowed.answers WrongSize has
  no_reply_reason WrongOpcode has = no_answer_reason _ _ _ _ _ _ allowed.answers WrongOpcode has
  no_reply_reason UnknownData has = no_answer_reason _ _ _ _ _ _ allowed.answers UnknownData has
  no_reply_reason NotSent has = has
  no_reply_reason NotGiven has = has.1.1 (allowed.ends has.0)
  no_reply_reason WrongReply has = has.1.2 (allowed.ends has.0)

-- ---- a wrong reply

-- a beat that ends a wrong reply has the form of one
pub no_form_before : (layout : Layout) (link : Link) (scene : Scene) (beat : ReplyHead) (known : ℕ) (lanes : List ℕ)
    (fault : FormFault) → IsFirstReplyReason layout link scene beat known lanes WrongReply
    → HasReplyFormFault layout.rules (first_reply scene.under.replying) beat fault → ⊥
no_form_before layout link scene beat known lanes fault first has = first.first (Form fault) (small fault) has
  where
    small : (f : FormFault) → reason_rank (Form f) < 20
    small Changed = omega arith
    small Opcode = omega arith
    small Param = omega arith
    small Size = omega arith
    small Unaligned = omega arith
    small Mask = omega arith
    small CorruptFlag = omega arith
    small UnknownLanes = omega arith

pub none_or_due : (due : Option Answer) → None ≡ due → IsSome due → ⊥
none_or_due None is some = absurd (cc)
none_or_due (Some answer) is some = absurd (cc)

-- ---- at the wide source and the port that a judge finds

module _ (plan : Plan) (view : GroupView) (link : Link) (beat : ReplyHead) (known : ℕ) (lanes : List ℕ) (wide port : ℕ)
    (suits : SuitsGroup plan view) (found : IsWideAt view.layout link beat.source wide)
    (port_here : port ≡ port_of plan link (flight_in view link wide).turn (D beat))
    (fits : FitsReply (first_reply (under_in view link).replying) beat) (marked : IsMarkedBy view.layout.rules beat) where
  abbrev pub scene_at : Layout → ℕ → ℕ → Scene
  scene_at layout w p = once_answered layout link (record {
    under = under_in view link;
    wide = w;
    flight = flight_in view link w;
    sent = (flight_at view.masters.flights w).turn;
    crossing = crossing_at view.crossings w;
    port = p;
    slave = slave_at view.slaves p;
  }) (D beat)

  -- what is said of the scene at this wide source and port is said of what the beat finds
  pub carried_here : (Q : Scene → Type 0) → Q (scene_at view.layout wide port) → Q (scene_in plan view link (D beat))
  carried_here Q here =
      subst (λ (w : ℕ). Q (scene_at plan.layout w (port_of plan link (flight_in view link w).turn (D beat))))
      (wide_is plan view link beat.source wide suits found)
      (subst (λ (p : ℕ). Q (scene_at plan.layout wide p)) port_here
      (subst (λ (l : Layout). Q (scene_at l wide port)) suits.layout here))

  -- the same the other way
  pub found_here : (Q : Scene → Type 0) → Q (scene_in plan view link (D beat)) → Q (scene_at view.layout wide port)
  found_here Q there = carried_here (λ s. Q s → Q (scene_at view.layout wide port)) (λ q. q) there

  unknown_here : may_be_unknown (scene_at view.layout wide port).slave ≡ may_be_unknown (slave_at view.slaves port)
  unknown_here = (stays_answering (slave_at view.slaves port) wide (answered_in view link wide port)).lanes

  abbrev AnswersFound : Type 0
  AnswersFound =
      OfAsked (link_number link) (flight_in view link wide).turn
      (IsAnswer (under_in view link).bus (may_be_unknown (slave_at view.slaves port)) beat known)

  answers_here : AnswersFound
      → OfAsked (link_number link) (flight_in view link wide).turn
      (IsAnswer (under_in view link).bus (may_be_unknown (scene_at view.layout wide port).slave) beat known)
  answers_here answers =
      subst (λ (u : Bool). OfAsked (link_number link) (flight_in view link wide).turn
      (IsAnswer (under_in view link).bus u beat known)) (sym unknown_here) answers

  pub answer_first : (reason : Reason) → IsFirstOf
      (HasAnswerReason (link_number link) (flight_in view link wide).turn (under_in view link).bus
      (may_be_unknown (slave_at view.slaves port)) beat known) reason_rank reason
      → IsFirstReplyReason view.layout link (scene_in plan view link (D beat)) beat known lanes reason
  answer_first reason first =
      carried_here (λ s. IsFirstReplyReason view.layout link s beat known lanes reason)
      (first_answer view.layout link (scene_at view.layout wide port) beat known lanes fits marked (wide, found) reason
      (subst (λ (u : Bool). IsFirstOf (HasAnswerReason (link_number link) (flight_in view link wide).turn
      (under_in view link).bus u beat known) reason_rank reason) (sym unknown_here) first))

  pub end_first : (reason : Reason) → AnswersFound
      → IsTrue (ends_reply (under_in view link).bus (under_in view link).replying beat)
      → HasEndReason (is_given view.layout link port) (wider_bus view.layout link port) (crossing_at view.crossings wide) (due_in view link wide port)
      (captured_in view link wide beat known lanes) reason
      → IsFirstReplyReason view.layout link (scene_in plan view link (D beat)) beat known lanes reason
  end_first reason answers ends has =
      carried_here (λ s. IsFirstReplyReason view.layout link s beat known lanes reason)
      (first_end view.layout link (scene_at view.layout wide port) beat known lanes fits marked (wide, found)
      (answers_here answers) reason (ends, has))

  pub reply_allowed : AnswersFound
      → (IsTrue (ends_reply (under_in view link).bus (under_in view link).replying beat)
      → IsMust (is_given view.layout link port) (wider_bus view.layout link port) (crossing_at view.crossings wide) (due_in view link wide port)
      (captured_in view link wide beat known lanes))
      → IsAllowedReply view.layout link (scene_in plan view link (D beat)) beat known lanes
  reply_allowed answers well =
      carried_here (λ s. IsAllowedReply view.layout link s beat known lanes)
      (record { fits = fits; marked = marked; source = (wide, found); answers = answers_here answers; ends = well })

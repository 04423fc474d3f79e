-- A beat at a port's link that is judged by itself: the first reason why it is not lawful, or that it is.
use Rattle.std.proofs.Common.{◌≡◌, ◌∙◌, ℕ, ◌<◌, Bool, false, if◌then◌else◌, List, ap, length, refl, sym, subst}
use Rattle.std.specs.Prelude.{IsTrue}
use Rattle.tl_types.specs.Fault.{IsFirstOf}
use Rattle.tl_map.specs.Map.{RoutesBytes}
use Rattle.tl_map.specs.declared.range.Range.{Range}
use Rattle.check_beats.specs.Form.{FitsAsk, FitsReply, IsKnown}
use Rattle.check_beats.specs.Rules.{IsAlignedBy, IsAskMarkedBy, IsMarkedBy, decoded_size}
use Rattle.check_beats.specs.State.{ends_reply, first_ask, first_reply}
use Rattle.check_beats.specs.declared.beat.AskHead.{AskHead}
use Rattle.check_beats.specs.declared.beat.ReplyHead.{ReplyHead}
use Rattle.check_beats.specs.declared.rules.LinkRules.{LinkRules}
use Rattle.check_flight.specs.Flight.{Turn}
use Rattle.check_flight.specs.PortSlave.{may_be_unknown}
use Rattle.check_flight.proofs.Known.{stays_answering}
use Rattle.check_watch.specs.declared.beat.Beat.TheVariants.{D}
use Rattle.check_watch.specs.declared.beat.Link.TheVariants.{Port}
use Rattle.check_watch.specs.declared.fault.Reason.{Reason}
use Rattle.check_watch.specs.declared.links.Links.TheVariants.{Both, Ports}
use Rattle.check_watch.specs.Allowed.{BeginsFree, BeginsPlaced, IsAnswer, IsAllowedReply, IsMust, OfAsked}
use Rattle.check_watch.specs.Faults.{HasAnswerReason, HasEndReason, IsFirstReplyReason, reason_rank}
use Rattle.check_watch.specs.Paths.{has_path}
use Rattle.check_watch.specs.Plan.{DecodesTo, Layout, HasSource, RoutesWide, reached, wider_bus}
use Rattle.check_watch.specs.Scene.{Scene}
use Rattle.check_watch.proofs.Judging.{AskUpTo}
use Rattle.check_watch.proofs.Replying.{first_answer, first_end}
use Rattle.check_sides.specs.View.{Beyond, IsOwnPort, PortView, captured_in, due_in, answered_in, flight_in, port_scene}

apart : Ports ≡ Both → ⊥
apart is = cc

module _ (layout : Layout) (links : LinkRules) (map : List (List Range)) (port : ℕ) (own : IsOwnPort layout links map) where
  -- every source is the link's
  pub own_source : (source : ℕ) → source < 65536 → HasSource layout (Port port) source
  own_source source small = (source, (refl, own.anybody source small))

  -- requests reach the port that decoders find
  reaches_all : (master found : ℕ) → reached layout master found ≡ found
  reaches_all master found =
      ap (λ paths. if has_path paths master found then found else length layout.ports) own.paths

  -- a request is in place exactly if decoders find the port for it
  pub found_if_placed : (beat : AskHead) → RoutesWide layout beat.source beat.address beat.size port
      → RoutesBytes map beat.address (decoded_size links beat.size) port
  found_if_placed beat placed =
      let at : DecodesTo layout beat.address beat.size port =
      subst (λ p. DecodesTo layout beat.address beat.size p)
      (sym (reaches_all placed.master placed.routes.found) ∙ placed.routes.reaches) placed.routes.decodes in
      subst (λ (r : LinkRules). RoutesBytes map beat.address (decoded_size r beat.size) port) own.rules
      (subst (λ (m : List (List Range)). RoutesBytes m beat.address (decoded_size layout.rules beat.size) port) own.ranges at)

  pub placed_if_found : (beat : AskHead) → beat.source < 65536
      → RoutesBytes map beat.address (decoded_size links beat.size) port
      → RoutesWide layout beat.source beat.address beat.size port
  placed_if_found beat small found =
      let owner = own.anybody beat.source small in
      let at : DecodesTo layout beat.address beat.size port =
      subst (λ (r : LinkRules). RoutesBytes layout.ports beat.address (decoded_size r beat.size) port) (sym own.rules)
      (subst (λ (m : List (List Range)). RoutesBytes m beat.address (decoded_size links beat.size) port) (sym own.ranges)
      found) in
      record {
        master = owner.0;
        owns = owner.1;
        routes = record { found = port; decodes = at; reaches = reaches_all owner.0 port };
      }

  pub up_to : (scene : Scene) (beat : AskHead) (known : ℕ) (lanes : List ℕ) (rank : ℕ)
      → FitsAsk scene.under.bus (first_ask scene.under.asking) beat → IsAlignedBy links beat → IsAskMarkedBy links beat
      → IsKnown beat known → beat.source < 65536 → (10 < rank → BeginsFree scene)
      → (11 < rank → BeginsPlaced layout (Port port) scene beat)
      → AskUpTo layout (Port port) scene beat known lanes rank
  up_to scene beat known lanes rank fits aligned marked seen small free placed = record {
    fits = fits;
    aligned = subst (λ (r : LinkRules). IsAlignedBy r beat) (sym own.rules) aligned;
    marked = subst (λ (r : LinkRules). IsAskMarkedBy r beat) (sym own.rules) marked;
    known_lanes = seen;
    source = own_source beat.source small;
    free = free;
    placed = placed;
    sent = λ lower ends both. absurd (apart (sym own.watched ∙ both));
  }

  module _ (beyond : Beyond) (view : PortView) (beat : ReplyHead) (known : ℕ) (lanes : List ℕ)
      (fits : FitsReply (first_reply view.under.replying) beat) (marked : IsMarkedBy links beat)
      (small : beat.source < 65536) where
    own_marked : IsMarkedBy layout.rules beat
    own_marked = subst (λ (r : LinkRules). IsMarkedBy r beat) (sym own.rules) marked

    abbrev here : Scene
    here = port_scene layout port beyond view (D beat)

    abbrev turn_here : Turn
    turn_here = (flight_in view beat.source).turn

    unknown_here : may_be_unknown here.slave ≡ may_be_unknown view.slave
    unknown_here = (stays_answering view.slave beat.source (answered_in view beat.source)).lanes

    abbrev AnswersFound : Type 0
    AnswersFound = OfAsked port turn_here (IsAnswer view.under.bus (may_be_unknown view.slave) beat known)

    answers_here : AnswersFound → OfAsked port turn_here (IsAnswer view.under.bus (may_be_unknown here.slave) beat known)
    answers_here answers =
        subst (λ (u : Bool). OfAsked port turn_here (IsAnswer view.under.bus u beat known)) (sym unknown_here) answers

    pub answer_first : (reason : Reason)
        → IsFirstOf (HasAnswerReason port turn_here view.under.bus (may_be_unknown view.slave) beat known) reason_rank reason
        → IsFirstReplyReason layout (Port port) here beat known lanes reason
    answer_first reason first =
        first_answer layout (Port port) here beat known lanes fits own_marked (own_source beat.source small) reason
        (subst (λ (u : Bool). IsFirstOf (HasAnswerReason port turn_here view.under.bus u beat known) reason_rank reason)
        (sym unknown_here) first)

    pub end_first : AnswersFound → IsTrue (ends_reply view.under.bus view.under.replying beat) → (reason : Reason)
        → HasEndReason false (wider_bus layout (Port port) port) beyond.crossing (due_in view port beat.source) (captured_in view beat known lanes) reason
        → IsFirstReplyReason layout (Port port) here beat known lanes reason
    end_first answers ends reason has =
        first_end layout (Port port) here beat known lanes fits own_marked (own_source beat.source small) (answers_here answers)
        reason (ends, has)

    pub reply_allowed : AnswersFound → (IsTrue (ends_reply view.under.bus view.under.replying beat)
        → IsMust false (wider_bus layout (Port port) port) beyond.crossing (due_in view port beat.source) (captured_in view beat known lanes))
        → IsAllowedReply layout (Port port) here beat known lanes
    reply_allowed answers well = record {
      fits = fits;
      marked = own_marked;
      source = own_source beat.source small;
      answers = answers_here answers;
      ends = well;
    }

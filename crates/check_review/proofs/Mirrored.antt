-- A memory is seen from where it was: beats change its bytes alone, and so does a reset.
use Rattle.std.proofs.Common.{◌≡◌, ◌∙◌, ℕ, Bool, true, false, if◌then◌else◌, ◌==◌, List, [], ◌∷◌, Option, Some, None, arith, refl, sym, ap}
use Rattle.std.proofs.lemmas.Bool.Decides.{nat_tests}
use Rattle.tl_types.specs.Request.{Request}
use Rattle.check_cells.specs.Sent.{Sent, is_corrupt}
use Rattle.check_memory.specs.Partial.{Partial, after_partial}
use Rattle.check_memory.specs.declared.slave.Slave.{Slave}
use Rattle.check_memory.specs.declared.slave.Slave.TheVariants.{Memory, Device}
use Rattle.check_contests.specs.Contests.{slave_accepting}
use Rattle.check_contests.specs.Sent.{slave_after_sent}
use Rattle.check_contests.specs.Cut.{IsLeftSlave, memory_cut}
use Rattle.check_contests.specs.declared.accepted.Accepted.{Accepted}
use Rattle.check_flight.specs.PortSlave.{PortSlave, accepted_by, accepting, answered_by, answering, once_reset}
use Rattle.check_flight.specs.declared.order.Order.{Order}
use Rattle.check_flight.specs.declared.order.Order.TheVariants.{Accept, Reply, Any}
use Rattle.check_watch.specs.declared.beat.Beat.{Beat}
use Rattle.check_watch.specs.declared.beat.Beat.TheVariants.{A, D}
use Rattle.check_watch.specs.declared.beat.Link.{Link}
use Rattle.check_watch.specs.Past.{State, scene_found, scene_of, slave_at, state}
use Rattle.check_watch.specs.Plan.{Layout, Plan, Sighting}
use Rattle.check_watch.specs.Reset.{AreReset, IsCut, loaded_at}
use Rattle.check_watch.specs.Scene.{Scene, accepted, answered, once_answered}
use Rattle.check_coverage.specs.Mirrors.{MirrorsView, mirrors_at, mirrors_of}

-- ---- requests

after_memory : (corrupt : Bool) (memory : Partial) (ask : Request)
    → mirrors_of (Memory (if corrupt then memory_cut memory ask else after_partial memory ask)) ≡ mirrors_of (Memory memory)
after_memory true memory ask = refl
after_memory false memory ask = refl

after_request : (kept : Slave) (sent : Sent) → mirrors_of (slave_after_sent kept sent) ≡ mirrors_of kept
after_request (Memory memory) sent = after_memory (is_corrupt sent) memory sent.ask
after_request Device sent = refl

after_contest : (kept : Slave) (contests : List Accepted) (sent : Sent)
    → mirrors_of (slave_accepting kept contests sent) ≡ mirrors_of kept
after_contest (Memory memory) contests sent = after_memory (is_corrupt sent) memory sent.ask
after_contest Device contests sent = refl

accepted_still : (order : Order) (slave : PortSlave) (wide : ℕ) (ask : Sent)
    → mirrors_of (accepted_by order slave wide ask).kept ≡ mirrors_of slave.kept
accepted_still Accept slave wide ask = after_request slave.kept ask
accepted_still Reply slave wide ask = refl
accepted_still Any slave wide ask = after_contest slave.kept slave.contests ask

accepting_still : (slave : PortSlave) (wide : ℕ) (ask : Option Sent)
    → mirrors_of (accepting slave wide ask).kept ≡ mirrors_of slave.kept
accepting_still slave wide None = refl
accepting_still slave wide (Some ask) = accepted_still slave.order slave wide ask

answered_still : (order : Order) (slave : PortSlave) (wide : ℕ) (ask : Sent)
    → mirrors_of (answered_by order slave wide ask).kept ≡ mirrors_of slave.kept
answered_still Accept slave wide ask = refl
answered_still Reply slave wide ask = after_request slave.kept ask
answered_still Any slave wide ask = refl

answering_still : (slave : PortSlave) (wide : ℕ) (ask : Option Sent)
    → mirrors_of (answering slave wide ask).kept ≡ mirrors_of slave.kept
answering_still slave wide None = refl
answering_still slave wide (Some ask) = answered_still slave.order slave wide ask

-- ---- beats

scene_still : (layout : Layout) (link : Link) (scene : Scene) (beat : Beat)
    → mirrors_of (once_answered layout link scene beat).slave.kept ≡ mirrors_of scene.slave.kept
scene_still layout link scene (A beat) = refl
scene_still layout link scene (D beat) =
    answering_still scene.slave scene.wide (answered layout link scene.port scene.under.replying scene.flight.turn)

port_still : (layout : Layout) (link : Link) (scene : Scene) (beat : Beat)
    → (once_answered layout link scene beat).port ≡ scene.port
port_still layout link scene (A beat) = refl
port_still layout link scene (D beat) = refl

-- the slave of the port to which a beat goes, or that of another
chosen : (here port : ℕ) (found : PortSlave) (slaves : ℕ → PortSlave) (same : Bool) → (here == port) ≡ same → mirrors_of found.kept ≡ mirrors_of (slaves here).kept
    → mirrors_of (if same then found else slaves port).kept ≡ mirrors_of (slaves port).kept
chosen here port found slaves false other still = refl
chosen here port found slaves true here_too still =
    let equal : here ≡ port = grind (arith, nat_tests) in
    still ∙ ap (λ n. mirrors_of (slaves n).kept) equal

pub after_beats : (plan : Plan) (past : List Sighting) (port : ℕ)
    → mirrors_of ((state plan past).slaves port).kept ≡ mirrors_at plan port
after_beats plan [] port = refl
after_beats plan (x ∷ past) port =
    let before : State = state plan past in
    let found : Scene = scene_found plan before x.link x.beat in
    let here : Scene = scene_of plan before x.link x.beat in
    let now : PortSlave = accepting here.slave here.wide (accepted plan.layout x.link here x.beat x.lanes) in
    let still : mirrors_of now.kept ≡ mirrors_of (before.slaves found.port).kept =
    accepting_still here.slave here.wide (accepted plan.layout x.link here x.beat x.lanes)
    ∙ scene_still plan.layout x.link found x.beat in
    let there : found.port ≡ here.port = sym (port_still plan.layout x.link found x.beat) in
    chosen here.port port now before.slaves (here.port == port) refl
    (still ∙ ap (λ n. mirrors_of (before.slaves n).kept) there)
    ∙ after_beats plan past port

-- ---- a reset

left_still : (Cut : Request → Type 0) (kept left : Slave) → IsLeftSlave Cut kept left → mirrors_of left ≡ mirrors_of kept
left_still Cut (Memory memory) left is =
    ap mirrors_of is.1 ∙ ap (λ m. mirrors_of (Memory m)) is.2.same
left_still Cut Device left is = ap mirrors_of is

-- what is loaded is seen from where the slave was at the beginning, and so is what is left
loaded_still : (slave : PortSlave) (load : Option Slave) (seen : MirrorsView) → mirrors_of slave.kept ≡ seen
    → ((kept : Slave) → load ≡ Some kept → mirrors_of kept ≡ seen) → mirrors_of (once_reset slave load).kept ≡ seen
loaded_still slave None seen is loads = is
loaded_still slave (Some kept) seen is loads = loads kept refl

pub after_reset : (plan : Plan) (past : List Sighting) (loaded : List (Option Slave)) (resets : List PortSlave) (port : ℕ)
    → AreReset plan (state plan past) loaded resets
    → ((kept : Slave) → loaded_at loaded port ≡ Some kept → mirrors_of kept ≡ mirrors_at plan port)
    → mirrors_of (slave_at resets port).kept ≡ mirrors_at plan port
after_reset plan past loaded resets port are loads =
    let each = are.each port in
    let before : PortSlave = (state plan past).slaves port in
    let left : PortSlave = each.0 in
    ap (λ (s : PortSlave). mirrors_of s.kept) each.2
    ∙ loaded_still left (loaded_at loaded port) (mirrors_at plan port)
    (left_still (IsCut plan (state plan past) port) before.kept left.kept each.1.kept ∙ after_beats plan past port) loads

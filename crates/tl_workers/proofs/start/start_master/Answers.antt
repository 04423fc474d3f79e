use mir.Syntax.{named}
use denote.Exit.{no}
use denote.Struct.Declared.{shape}
use denote.Struct.Tuple.{type_at}
use denote.Param.{param}
use denote.Param.Send.{IsSync, AllSend, plain_send, shr_send, param_send, arg_send}
use Rattle.std.proofs.alloc.Global.TheSendSync as global
use Rattle.std.proofs.vec.Vec.TheSendSync as vec
use Rattle.std.specs.contracts.alloc.Global as Global
use Rattle.std.specs.contracts.impls.GlobalAllocator.TheImpl.{ghosts}
use Rattle.std.specs.contracts.vec.Vec as Vec
use Rattle.tl_arena.specs.contracts.arena.Arena as Arena
use Rattle.tl_arena.proofs.arena.Arena.TheSendSync as arena
use Rattle.tl_port.specs.contracts.port.Port as Port
use Rattle.tl_port.proofs.port.Port.TheSendSync as port
use Rattle.tl_master.proofs.Crossing.{master_send, tuple_send}
use Rattle.tl_script.specs.contracts.operations.Operations as Operations
use Rattle.tl_script.proofs.operations.Operations.TheSendSync as operations
use Rattle.tl_script.specs.contracts.system.System as System
use Rattle.tl_script.proofs.system.System.TheSendSync as system
use Rattle.tl_workers.proofs.bell.Bells.TheSendSync as bells
use Rattle.tl_workers.proofs.start.start_master.Lts as types
use Rattle.tl_workers.proofs.start.start_master.Goals as goal

-- Each value that the thread takes along may cross to it. Rattle finds this by itself but for a master, whose tickets
-- hold a ghost; so the list of them all is proved here, under the names that Rattle gives it in `Lts`.
pub spawn_with-requires-send-F : goal.spawn_with-requires-send-F
spawn_with-requires-send-F g c κs within =
    let bounds = c.type_bounds in
    let name = types.name-44 g.row.N g.row.R g.row.G g.N.laws g.R.laws g.G.laws g.N.ArenaName g.N.ArenaName-dict g.R.Wait g.R.Wait-dict g.G.Gate g.G.Gate-dict in
    let captured = types.of-4 g.row.N g.row.R g.row.G g.N.laws g.R.laws g.G.laws g.N.ArenaName g.N.ArenaName-dict g.R.Wait g.R.Wait-dict g.G.Gate g.G.Gate-dict
    (record { mir = named 6; lft = κs.1.1.1.1.1.1.0 }) (record { mir = named 7; lft = κs.1.1.1.1.1.1.1.0 })
    (record { mir = named 8; lft = κs.1.1.1.1.1.1.1.1.0 })
    (record { mir = named 9; lft = κs.1.1.1.1.1.1.1.1.1.0 }) (record { mir = named 10; lft = κs.1.1.1.1.1.1.1.1.1.1.0 })
    (record { mir = named 11; lft = κs.1.1.1.1.1.1.1.1.1.1.1.0 }) in
    let ports : IsSync (Vec.the_row (Port.the_row (param 0 g.row.N) g.N.ArenaName) Global.the_row ghosts) =
    vec.the_sync (Port.the_row (param 0 g.row.N) g.N.ArenaName) Global.the_row ghosts
    (port.the_sync (param 0 g.row.N) g.N.ArenaName) global.the_sync in
    let all : AllSend (shape (type_at name captured)).fields = (
      shr_send _ _ System.the_row system.the_sync,
      (
        shr_send _ _ Arena.the_row arena.the_sync,
        (
          shr_send _ _ (Vec.the_row (Port.the_row (param 0 g.row.N) g.N.ArenaName) Global.the_row ghosts) ports,
          (
            shr_send _ _ (param 2 g.row.G) bounds.sync-G,
            (
              shr_send _ _ (param 1 g.row.R) bounds.sync-R,
              (
                plain_send _ _ _ _ _,
                (
                  master_send,
                  (
                    shr_send _ _ Operations.the_row operations.the_sync,
                    (bells.the_send, tt),
                  ),
                ),
              ),
            ),
          ),
        ),
      ),
    ) in
    param_send 2 _ (arg_send _ no _ (tuple_send name captured all))

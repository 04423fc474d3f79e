use mir.Syntax.{named}
use denote.Array.{Array}
use denote.Exit.{no}
use denote.Struct.Declared.{shape}
use denote.Struct.Tuple.{type_at}
use denote.Param.Send.{IsSend, AllSend, array_sync, shr_send, param_send, arg_send, sendable}
use Rattle.std.proofs.Crossing.{crosses}
use Rattle.tl_types.specs.contracts.request.Ask as Ask
use Rattle.tl_types.proofs.request.Ask.TheSendSync as ask
use Rattle.tl_map.specs.contracts.address_map.AddressMap as AddressMap
use Rattle.tl_map.proofs.address_map.AddressMap.TheSendSync as map
use Rattle.tl_arena.specs.contracts.arena.Arena as Arena
use Rattle.tl_arena.proofs.arena.Arena.TheSendSync as arena
use Rattle.tl_master.proofs.Crossing.{master_send, tuple_send}
use Rattle.tl_arena_tests.proofs.tests.together.threads.issue_at_once.Lts as types
use Rattle.tl_arena_tests.proofs.tests.together.threads.issue_at_once.Goals as goal

-- what the thread takes along, and what it gives back: Rattle finds by itself that they may cross, but for a master
pub join-first-requires-send-F : goal.join-first-requires-send-F
join-first-requires-send-F g c κs within =
    let name = types.name-19 g.row.R g.R.laws g.R.Threads-dict g.R.Wait-dict in
    let captured = types.of-16 g.row.R g.R.laws g.R.Threads-dict g.R.Wait-dict
    (record { mir = named 6; lft = κs.1.1.1.1.1.1.0 }) (record { mir = named 7; lft = κs.1.1.1.1.1.1.1.0 })
    (record { mir = named 8; lft = κs.1.1.1.1.1.1.1.1.0 }) in
    let all : AllSend (shape (type_at name captured)).fields = (
      shr_send _ _ Arena.the_row arena.the_sync,
      (
        shr_send _ _ AddressMap.the_row map.the_sync,
        (
          master_send,
          (shr_send _ _ (Array Ask.the_row 2) (array_sync Ask.the_row 2 ask.the_sync), tt),
        ),
      ),
    ) in
    param_send 1 _ (arg_send _ no _ (tuple_send name captured all))

pub join-first-requires-send-A : goal.join-first-requires-send-A
join-first-requires-send-A g c κs within =
    let name = types.name-1 g.row.R g.R.laws g.R.Threads-dict g.R.Wait-dict in
    let given = types.of-8 g.row.R g.R.laws g.R.Threads-dict g.R.Wait-dict in
    let slots : IsSend (types.of-4 g.row.R g.R.laws g.R.Threads-dict g.R.Wait-dict) =
    search (sendable, crosses) depth 20 in
    let all : AllSend (shape (type_at name given)).fields = (master_send, (slots, tt)) in
    param_send 3 _ (arg_send _ no _ (tuple_send name given all))

-- A slave after some moments; and what does not depend on the source of a request.
use Rattle.std.proofs.Common.{◌≡◌, ◌∙◌, ℕ, ◌+◌, ◌%◌, ◌^◌, Bool, true, false, if◌then◌else◌, List, [], ◌∷◌, ◌++◌, Option, Some, None, refl, ap}
use Rattle.std.specs.Prelude.{◌&&◌}
use Rattle.tl_types.specs.Request.{Request}
use Rattle.tl_types.specs.declared.operation.AskOp.{AskOp}
use Rattle.tl_types.specs.declared.operation.AskOp.TheVariants.{PutFull, PutPartial, Arithmetic, Logical, Get, Intent}
use Rattle.check_cells.specs.Pattern.{unsure}
use Rattle.check_cells.specs.Sent.{Sent, is_corrupt}
use Rattle.check_memory.specs.declared.slave.Slave.{Slave}
use Rattle.check_memory.specs.declared.slave.Slave.TheVariants.{Memory, Device}
use Rattle.check_memory.specs.Partial.{after_partial, permits, placed}
use Rattle.check_memory.specs.Slave.{expected_of}
use Rattle.check_contests.specs.Cut.{memory_cut}
use Rattle.check_contests.specs.Sent.{slave_after_sent, expected_of_sent}
use Rattle.check_contests.specs.Writes.{unknown_where, writes}
use Rattle.check_flight.specs.PortSlave.{PortSlave, served_by}
use Rattle.check_flight.specs.Laws.{StaysAsItIs}
use Rattle.check_flight.proofs.Known.{stays_accepting, stays_answering}
use Rattle.check_watch_laws.specs.Memories.{with_source}
use Rattle.check_watch_laws.specs.Moments.{Act, RequestMoment, acting, slave_then, slave_after_all}
use Rattle.check_watch_laws.specs.Moments.Act.{Accepts, Answers}

-- a slave that accepts or answers no request stays as it is
pub acting_none : (act : Act) (slave : PortSlave) (wide : ℕ) → acting act slave wide None ≡ slave
acting_none Accepts slave wide = refl
acting_none Answers slave wide = refl

-- one moment more
pub after_more : (slave : PortSlave) (before : List RequestMoment) (moment : RequestMoment)
    → slave_after_all slave (before ++ moment ∷ []) ≡ slave_then (slave_after_all slave before) moment
after_more slave [] moment = refl
after_more slave (first ∷ before) moment = after_more (slave_then slave first) before moment

-- when requests take effect, and whether lanes may be unknown, stays as it is
pub act_stays : (act : Act) (slave : PortSlave) (wide : ℕ) (ask : Option Sent)
    → StaysAsItIs slave (acting act slave wide ask)
act_stays Accepts slave wide ask = stays_accepting slave wide ask
act_stays Answers slave wide ask = stays_answering slave wide ask

pub after_order : (slave : PortSlave) (moments : List RequestMoment) → (slave_after_all slave moments).order ≡ slave.order
after_order slave [] = refl
after_order slave (moment ∷ moments) =
    after_order (slave_then slave moment) moments ∙ (act_stays moment.act slave moment.wide (Some moment.sent)).order

-- what a request may write does not depend on its source
writes_same : (op : AskOp) (ask : Request) (wide address : ℕ)
    → writes op (record ask { source = wide }) address ≡ writes op ask address
writes_same PutFull ask wide address = refl
writes_same PutPartial ask wide address = refl
writes_same (Arithmetic arith) ask wide address = refl
writes_same (Logical logic) ask wide address = refl
writes_same Get ask wide address = refl
writes_same (Intent hint) ask wide address = refl

-- nor does what it leaves, be it corrupt or not
kept_after : (kept : Slave) (ask : Sent) (wide : ℕ)
    → slave_after_sent kept (with_source wide ask) ≡ slave_after_sent kept ask
kept_after Device ask wide = refl
kept_after (Memory memory) ask wide = go (is_corrupt ask)
  where
    other : Request
    other = record ask.ask { source = wide }

    go : (corrupt : Bool) → Memory (if corrupt then memory_cut memory other else after_partial memory other)
        ≡ Memory (if corrupt then memory_cut memory ask.ask else after_partial memory ask.ask)
    go true = λ i. Memory (record memory {
      cells = unknown_where (λ address. permits memory ask.ask
          && writes_same ask.ask.op (placed memory ask.ask) wide address i) memory.cells;
    })
    go false = refl

pub same_after : (slave : PortSlave) (ask : Sent) (wide : ℕ)
    → served_by slave (with_source wide ask) ≡ served_by slave ask
same_after slave ask wide =
    ap (λ k. record slave { kept = k; served = (slave.served + 1) % 2 ^ 64 }) (kept_after slave.kept ask wide)

-- and what is expected has the request's source, whether it may be denied for corrupt data or not
pub reply_with : (kept : Slave) (ask : Sent) (wide : ℕ)
    → expected_of_sent kept (with_source wide ask) ≡ record (expected_of_sent kept ask) { source = wide }
reply_with kept ask wide = go kept (is_corrupt ask)
  where
    other : Request
    other = record ask.ask { source = wide }

    go : (kept : Slave) (corrupt : Bool) → (if corrupt then unsure (expected_of kept other) else expected_of kept other)
        ≡ record (if corrupt then unsure (expected_of kept ask.ask) else expected_of kept ask.ask) { source = wide }
    go (Memory memory) true = refl
    go (Memory memory) false = refl
    go Device true = refl
    go Device false = refl

pub reply_source : (kept : Slave) (ask : Sent) → (expected_of_sent kept ask).source ≡ ask.ask.source
reply_source kept ask = go kept (is_corrupt ask)
  where
    go : (kept : Slave) (corrupt : Bool)
        → (if corrupt then unsure (expected_of kept ask.ask) else expected_of kept ask.ask).source ≡ ask.ask.source
    go (Memory memory) true = refl
    go (Memory memory) false = refl
    go Device true = refl
    go Device false = refl

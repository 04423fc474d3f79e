-- Slaves whose bytes are all known.
use Rattle.std.proofs.Common.{◌≡◌, ◌∙◌, ℕ, Bool, true, false, if◌then◌else◌, List, [], ◌∷◌, Option, Some, None, refl, sym, ap, subst}
use Rattle.check_cells.specs.Sent.{Sent, is_corrupt}
use Rattle.tl_types.specs.Response.{Response}
use Rattle.check_cells.specs.Known.{known, all_known}
use Rattle.check_cells.specs.Pattern.{seen_as, unsure}
use Rattle.check_memory.specs.Laws.{IsLawfulAsk, unspoiled}
use Rattle.check_memory.specs.Partial.{Partial, after_partial, AreWithin}
use Rattle.check_memory.specs.Slave.{slave_after, expected_of}
use Rattle.check_contests.specs.Sent.{slave_after_sent, expected_of_sent}
use Rattle.check_memory.specs.Whole.{true_after, true_reply}
use Rattle.check_memory.specs.declared.slave.Slave.{Slave}
use Rattle.check_memory.specs.declared.slave.Slave.TheVariants.{Memory, Device}
use Rattle.check_memory.proofs.Wholeness.{whole_stays_whole}
use Rattle.check_contests.specs.declared.accepted.Accepted.{Accepted}
use Rattle.check_contests.specs.Contests.{slave_accepting}
use Rattle.check_contests.specs.Cut.{memory_cut}
use Rattle.check_flight.specs.declared.order.Order.{Order}
use Rattle.check_flight.specs.declared.order.Order.TheVariants.{Accept, Reply, Any}
use Rattle.check_flight.specs.PortSlave.{PortSlave, accepted_by, accepting, answered_by, answering, contested_by, is_device, served_by}
use Rattle.check_flight.specs.Laws.{IsWholeMemory, IsWholePattern, StaysAsItIs, StaysWhole}

device_stays : (slave : Slave) (sent : Sent) → is_device (slave_after_sent slave sent) ≡ is_device slave
device_stays (Memory memory) sent = refl
device_stays Device sent = refl

serving_stays : (slave : PortSlave) (ask : Sent) → StaysAsItIs slave (served_by slave ask)
serving_stays slave ask = record { order = refl; lanes = rw (device_stays slave.kept ask) refl }

device_contested : (slave : Slave) (kept : List Accepted) (ask : Sent)
    → is_device (slave_accepting slave kept ask) ≡ is_device slave
device_contested (Memory memory) kept ask = refl
device_contested Device kept ask = refl

contesting_stays : (slave : PortSlave) (wide : ℕ) (ask : Sent) → StaysAsItIs slave (contested_by slave wide ask)
contesting_stays slave wide ask = record {
  order = refl;
  lanes = rw (device_contested slave.kept slave.contests ask) refl;
}

idling_stays : (slave : PortSlave) → StaysAsItIs slave slave
idling_stays slave = record { order = refl; lanes = refl }

pub stays_accepting : (slave : PortSlave) (wide : ℕ) (ask : Option Sent)
    → StaysAsItIs slave (accepting slave wide ask)
stays_accepting slave wide None = idling_stays slave
stays_accepting slave wide (Some ask) = go slave.order
  where
    go : (order : Order) → StaysAsItIs slave (accepted_by order slave wide ask)
    go Accept = serving_stays slave ask
    go Reply = idling_stays slave
    go Any = contesting_stays slave wide ask

pub stays_answering : (slave : PortSlave) (wide : ℕ) (ask : Option Sent)
    → StaysAsItIs slave (answering slave wide ask)
stays_answering slave wide None = idling_stays slave
stays_answering slave wide (Some ask) = go slave.order
  where
    go : (order : Order) → StaysAsItIs slave (answered_by order slave wide ask)
    go Accept = idling_stays slave
    go Reply = serving_stays slave ask
    go Any = record { order = refl; lanes = refl }

all_known-known : (bytes : List ℕ) → all_known (known bytes) ≡ true
all_known-known [] = refl
all_known-known (byte ∷ bytes) = all_known-known bytes

whole_pattern : (response : Response) → IsWholePattern (seen_as response)
whole_pattern response = record {
  flag = response.denied;
  denied = refl;
  bytes = all_known-known response.bytes;
}

-- a request that is not corrupt is served as any other
after_clean : (slave : Slave) (sent : Sent) → is_corrupt sent ≡ false → slave_after_sent slave sent ≡ slave_after slave sent.ask
after_clean (Memory memory) sent clean =
    ap (λ (b : Bool). Memory (if b then memory_cut memory sent.ask else after_partial memory sent.ask)) clean
after_clean Device sent clean = refl

expected_clean : (slave : Slave) (sent : Sent) → is_corrupt sent ≡ false
    → expected_of_sent slave sent ≡ expected_of slave sent.ask
expected_clean slave sent clean =
    ap (λ (b : Bool). if b then unsure (expected_of slave sent.ask) else expected_of slave sent.ask) clean

pub stays_whole : (slave : PortSlave) (sent : Sent) → IsLawfulAsk sent.ask → is_corrupt sent ≡ false
    → IsWholeMemory slave.kept → StaysWhole slave sent
stays_whole slave sent lawful clean whole =
    let ask = sent.ask in
    let law = whole_stays_whole whole.memory whole.bytes ask whole.still whole.within lawful in
    let seen : IsWholePattern (unspoiled (expected_of slave.kept ask)) =
    subst IsWholePattern (sym (ap (λ (s : Slave). unspoiled (expected_of s ask)) whole.is ∙ law.answers))
    (whole_pattern (true_reply whole.memory whole.bytes ask)) in
    record {
      expects = subst IsWholePattern (sym (expected_clean slave.kept sent clean))
          (record { flag = seen.flag; denied = seen.denied; bytes = seen.bytes });
      leaves = record {
        memory = whole.memory;
        bytes = true_after whole.memory whole.bytes ask;
        is = after_clean slave.kept sent clean ∙ ap (λ (s : Slave). slave_after s ask) whole.is
            ∙ ap (λ (m : Partial). Memory m) law.leaves;
        within = subst (λ (n : ℕ). AreWithin whole.memory.ranges n) (sym law.counted) whole.within;
        still = whole.still;
      };
    }

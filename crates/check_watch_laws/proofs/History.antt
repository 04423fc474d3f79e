-- The history of a slave that does requests one by one: each request with what is expected of the slave there.
use Rattle.std.proofs.Common.{◌≡◌, ◌∙◌, zero, suc, List, [], ◌∷◌, ◌++◌, refl, ap, sym}
use Rattle.check_cells.specs.Sent.{Sent}
use Rattle.check_cells.specs.Pattern.{Pattern}
use Rattle.check_contests.specs.Sent.{expected_of_sent}
use Rattle.check_flight.specs.PortSlave.{PortSlave, served_by}
use Rattle.check_watch_laws.specs.Memories.{asks_in, IsSlaveHistory, replay_slave}

pub told : PortSlave → List Sent → List (Sent × Pattern)
told slave [] = []
told slave (ask ∷ asks) = (ask, expected_of_sent slave.kept ask) ∷ told (served_by slave ask) asks

pub asks_told : (slave : PortSlave) (asks : List Sent) → asks_in (told slave asks) ≡ asks
unfolding told
asks_told slave [] = refl
asks_told slave (ask ∷ asks) = ap (λ l. ask ∷ l) (asks_told (served_by slave ask) asks)

pub told_lawful : (slave : PortSlave) (asks : List Sent) → IsSlaveHistory slave (told slave asks)
unfolding told
told_lawful slave [] k ask response at = cc
told_lawful slave (first ∷ asks) zero ask response at =
    let same : ◌≡◌ {A = Sent × Pattern} (first, expected_of_sent slave.kept first) (ask, response) = cc in
    sym (ap (λ (e : Sent × Pattern). e.1) same) ∙ ap (λ (e : Sent × Pattern). expected_of_sent slave.kept e.0) same
told_lawful slave (first ∷ asks) (suc k) ask response at = told_lawful (served_by slave first) asks k ask response at

pub told_none : (slave : PortSlave) → told slave [] ≡ []
unfolding told
told_none slave = refl

pub told_cons : (slave : PortSlave) (ask : Sent) (asks : List Sent)
    → told slave (ask ∷ asks) ≡ (ask, expected_of_sent slave.kept ask) ∷ told (served_by slave ask) asks
unfolding told
told_cons slave ask asks = refl

pub told_one : (slave : PortSlave) (ask : Sent) → told slave (ask ∷ []) ≡ (ask, expected_of_sent slave.kept ask) ∷ []
unfolding told
told_one slave ask = refl

pub told_append : (slave : PortSlave) (before later : List Sent)
    → told slave (before ++ later) ≡ told slave before ++ told (replay_slave slave before) later
unfolding told
told_append slave [] later = refl
told_append slave (ask ∷ before) later =
    ap (λ l. (ask, expected_of_sent slave.kept ask) ∷ l) (told_append (served_by slave ask) before later)

-- a lawful history is the one that the slave tells
pub lawful_is_told : (slave : PortSlave) (history : List (Sent × Pattern)) → IsSlaveHistory slave history
    → history ≡ told slave (asks_in history)
lawful_is_told slave [] lawful = sym (told_none slave)
lawful_is_told slave (entry ∷ history) lawful =
    let first : entry.1 ≡ expected_of_sent slave.kept entry.0 = lawful 0 entry.0 entry.1 refl in
    ap (λ r. (entry.0, r) ∷ history) first
    ∙ ap (λ l. (entry.0, expected_of_sent slave.kept entry.0) ∷ l)
    (lawful_is_told (served_by slave entry.0) history (λ k ask response at. lawful (suc k) ask response at))
    ∙ sym (told_cons slave entry.0 (asks_in history))

-- What a reset loads is what the slaves held at the beginning.
use Rattle.std.proofs.Common.{◌≡◌, ◌∙◌, ℕ, zero, suc, ◌+◌, ◌<◌, ◌≤◌, Bool, true, false, nat_lt, List, [], ◌∷◌, ◌++◌, get_or, length, map, Option, Some, None, Ok, slice_get, refl, sym, subst, ap, arith}
use Rattle.std.specs.Prelude.{if◌then◌else◌, ◌||◌, option_map}
use Rattle.std.proofs.lemmas.Bool.{ltb-false}
use Rattle.std.proofs.lemmas.List.{length_push}
use Rattle.std.proofs.lemmas.Option.{slice_get-get_or, slice_get-map}
use Rattle.check_memory.specs.declared.slave.Slave.{Slave}
use Rattle.check_flight.specs.PortSlave.{PortSlave, fresh_slave}
use Rattle.check_flight.specs.declared.order.Order.{Order}
use Rattle.check_flight.specs.declared.order.SideOrders.{SideOrders}
use Rattle.tl_text.specs.Reading.{unless}
use Rattle.check_keys.specs.declared.fault.SystemFault.{SystemFault}
use Rattle.check_keys.specs.declared.fault.SystemFault.TheVariants.{ImageTooLong}
use Rattle.check_description.specs.Port.{Port, may_answer_unknown, port_view}
use Rattle.check_description.specs.Ranges.{first_length}
use Rattle.check_description.specs.Slave.{error_slave, kept_at_reset, slave_at_reset}
use Rattle.check_description.specs.declared.port.Port as code
use Rattle.check_start.specs.Loads.{AreLoads, ImagesFit, is_loaded, loads_at_reset, loads_from, loads_of}
use Rattle.check_start.specs.Slaves.{image_at, order_of, slaves_at_reset, slaves_from}
use Rattle.check_start.specs.declared.slaves.SlaveSide.{SlaveSide}
use Rattle.check_start.proofs.Counted.{rest_of, same_slaves, step}

-- ---- a slave that was made

-- its image was short enough
not_too_long : (long : Bool) (fault : SystemFault) (made slave : PortSlave) → unless long fault made ≡ Ok slave → long ≡ false
not_too_long true fault made slave is = absurd cc
not_too_long false fault made slave is = refl

-- it keeps what the port keeps at the beginning
kept_by : (long : Bool) (fault : SystemFault) (made slave : PortSlave) → unless long fault made ≡ Ok slave
    → made.kept ≡ slave.kept
kept_by true fault made slave is = absurd cc
kept_by false fault made slave is = let same : made ≡ slave = cc in ap (λ (s : PortSlave). s.kept) same

fits : (corrupt : Bool) (number : ℕ) (port : Port) (image : List ℕ) (order : Order) (slave : PortSlave)
    → slave_at_reset corrupt number port image order ≡ Ok slave → length image ≤ first_length port.ranges
fits corrupt number port image order slave is =
    ltb-false (first_length port.ranges) (length image)
    (not_too_long (nat_lt (first_length port.ranges) (length image)) (ImageTooLong number)
    (fresh_slave (kept_at_reset port image) order (corrupt || may_answer_unknown port)) slave is)

holds : (corrupt : Bool) (number : ℕ) (port : Port) (image : List ℕ) (order : Order) (slave : PortSlave)
    → slave_at_reset corrupt number port image order ≡ Ok slave → kept_at_reset port image ≡ slave.kept
holds corrupt number port image order slave is =
    kept_by (nat_lt (first_length port.ranges) (length image)) (ImageTooLong number)
    (fresh_slave (kept_at_reset port image) order (corrupt || may_answer_unknown port)) slave is

-- ---- slaves that were made

-- all images fit
fit_from : (corrupt : Bool) (side : SlaveSide) (orders : SideOrders) (images : List (List ℕ)) (number : ℕ) (ports : List Port)
    (slaves : List PortSlave) → slaves_from corrupt side orders images number ports ≡ Ok slaves → (place : ℕ) (port : Port)
    → slice_get ports place ≡ Some port → length (image_at images (number + place)) ≤ first_length port.ranges
fit_from corrupt side orders images number [] slaves is place port at = absurd cc
fit_from corrupt side orders images number (first ∷ ports) slaves is zero port at =
    let one = step (slave_at_reset corrupt number first (image_at images number) (order_of side orders first))
    (rest_of corrupt side orders images (number + 1) ports) slaves is in
    let same : first ≡ port = cc in
    let here : number ≡ number + 0 = omega arith in
    subst (λ n. length (image_at images n) ≤ first_length port.ranges) here
    (subst (λ (p : Port). length (image_at images number) ≤ first_length p.ranges) same
    (fits corrupt number first (image_at images number) (order_of side orders first) one.0 one.1))
fit_from corrupt side orders images number (first ∷ ports) slaves is (suc place) port at =
    let one = step (slave_at_reset corrupt number first (image_at images number) (order_of side orders first))
    (rest_of corrupt side orders images (number + 1) ports) slaves is in
    let rest = step (slaves_from corrupt side orders images (number + 1) ports) (λ rest. Ok (one.0 ∷ rest)) slaves one.2 in
    let next : number + 1 + place ≡ number + suc place = omega arith in
    subst (λ n. length (image_at images n) ≤ first_length port.ranges) next
    (fit_from corrupt side orders images (number + 1) ports rest.0 rest.1 place port at)

pub images_fit : (corrupt : Bool) (side : SlaveSide) (orders : SideOrders) (images : List (List ℕ)) (ports : List Port)
    (slaves : List PortSlave) → slaves_at_reset corrupt side orders images ports ≡ Ok slaves → ImagesFit images ports
images_fit corrupt side orders images ports slaves is number port at =
    let made = step (slaves_from corrupt side orders images 0 ports) (λ made. Ok (made ++ error_slave corrupt orders.masters ∷ [])) slaves is in
    let here : 0 + number ≡ number = omega arith in
    subst (λ n. length (image_at images n) ≤ first_length port.ranges) here
    (fit_from corrupt side orders images 0 ports made.0 made.1 number port at)

-- what they hold is loaded into those that are loaded
loads_hold_from : (corrupt : Bool) (side : SlaveSide) (orders : SideOrders) (images : List (List ℕ)) (number : ℕ) (ports : List Port)
    (slaves : List PortSlave) (error : PortSlave) → slaves_from corrupt side orders images number ports ≡ Ok slaves
    → AreLoads (loads_of ports) (slaves ++ error ∷ []) (loads_from images number ports ++ None ∷ [])
loads_hold_from corrupt side orders images number [] slaves error is zero = refl
loads_hold_from corrupt side orders images number [] slaves error is (suc place) = refl
loads_hold_from corrupt side orders images number (port ∷ ports) slaves error is place =
    let one = step (slave_at_reset corrupt number port (image_at images number) (order_of side orders port))
    (rest_of corrupt side orders images (number + 1) ports) slaves is in
    let rest = step (slaves_from corrupt side orders images (number + 1) ports) (λ rest. Ok (one.0 ∷ rest)) slaves one.2 in
    subst (λ (made : List PortSlave). AreLoads (loads_of (port ∷ ports)) (made ++ error ∷ [])
    (loads_from images number (port ∷ ports) ++ None ∷ [])) (same_slaves (one.0 ∷ rest.0) slaves rest.2)
    (go one.0 rest.0 (holds corrupt number port (image_at images number) (order_of side orders port) one.0 one.1)
    (loads_hold_from corrupt side orders images (number + 1) ports rest.0 error rest.1)) place
  where
    go : (slave : PortSlave) (rest : List PortSlave) → kept_at_reset port (image_at images number) ≡ slave.kept
        → AreLoads (loads_of ports) (rest ++ error ∷ []) (loads_from images (number + 1) ports ++ None ∷ [])
        → AreLoads (loads_of (port ∷ ports)) ((slave ∷ rest) ++ error ∷ [])
        (loads_from images number (port ∷ ports) ++ None ∷ [])
    go slave rest same others zero = ap (λ (kept : Slave). if is_loaded port.on_reset then Some kept else None) same
    go slave rest same others (suc place) = others place

pub loads_hold : (corrupt : Bool) (side : SlaveSide) (orders : SideOrders) (images : List (List ℕ)) (ports : List Port)
    (slaves : List PortSlave) → slaves_at_reset corrupt side orders images ports ≡ Ok slaves
    → AreLoads (loads_of ports) slaves (loads_at_reset images ports)
loads_hold corrupt side orders images ports slaves is =
    let error = error_slave corrupt orders.masters in
    let made = step (slaves_from corrupt side orders images 0 ports) (λ made. Ok (made ++ error ∷ [])) slaves is in
    subst (λ (all : List PortSlave). AreLoads (loads_of ports) all (loads_at_reset images ports))
    (same_slaves (made.0 ++ error ∷ []) slaves made.2) (loads_hold_from corrupt side orders images 0 ports made.0 error made.1)

-- ---- how many are loaded

from_counted : (images : List (List ℕ)) (number : ℕ) (ports : List Port) → length (loads_from images number ports) ≡ length ports
from_counted images number [] = refl
from_counted images number (port ∷ ports) = ap suc (from_counted images (number + 1) ports)

pub loads_counted : (images : List (List ℕ)) (ports : List Port) → length (loads_at_reset images ports) ≡ length ports + 1
loads_counted images ports =
    length_push (loads_from images 0 ports) None ∙ ap (λ n. n + 1) (from_counted images 0 ports)

-- ---- a port that is there

-- what contracts see of the port at a place
pub port_at : (ports : List code.Port) (number : ℕ) (port : code.Port) → number < length ports
    → port ≡ get_or ports number port → slice_get (map port_view ports) number ≡ Some (port_view port)
port_at ports number port within is =
    let at : slice_get ports number ≡ Some port =
    slice_get-get_or ports number port within ∙ ap (λ (p : code.Port). Some p) (sym is) in
    slice_get-map port_view ports number ∙ ap (λ (o : Option code.Port). option_map port_view o) at

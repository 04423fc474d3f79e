-- The buses of links.
use Rattle.std.proofs.Common.{◌≡◌, ℕ, zero, suc, ◌<◌, List, [], ◌∷◌, length, slice_get, Option, Some, arith, refl, ap}
use Rattle.std.specs.Option.{option_map, unwrap_or}
use Rattle.check_beats.specs.Bus.{bus_bytes}
use Rattle.check_beats.specs.declared.bus.Bus.{Bus}
use Rattle.check_beats.specs.declared.bus.Bus.TheVariants.{One, Two, Four, Eight, Sixteen, ThirtyTwo, SixtyFour}
use Rattle.check_watch.specs.declared.beat.Link.{Link}
use Rattle.check_watch.specs.declared.beat.Link.TheVariants.{Master, Port}
use Rattle.check_rows.specs.Buses.{HasBus, IsLinkOf, bus_of_link}

pub some-bytes : (bus : Bus) → 0 < bus_bytes bus
some-bytes One = omega arith
some-bytes Two = omega arith
some-bytes Four = omega arith
some-bytes Eight = omega arith
some-bytes Sixteen = omega arith
some-bytes ThirtyTwo = omega arith
some-bytes SixtyFour = omega arith

-- so many bytes are those of a bus
pub record IsBus (bytes : ℕ) : Type 0 where
  pub width : Bus
  pub is : bytes ≡ bus_bytes width
  pub some : 0 < bytes

bus-at : (buses : List Bus) (n : ℕ) → n < length buses → (bus : Bus) × (slice_get buses n ≡ Some bus)
bus-at [] n inside = absurd (omega (arith, inside))
bus-at (bus ∷ buses) zero inside = (bus, refl)
bus-at (bus ∷ buses) (suc n) inside = bus-at buses n (omega (arith, inside))

has-inside : (buses : List Bus) (n : ℕ) (bus : Bus) → slice_get buses n ≡ Some bus → n < length buses
has-inside [] n bus is = absurd (cc)
has-inside (other ∷ buses) zero bus is = omega arith
has-inside (other ∷ buses) (suc n) bus is = omega (arith, has-inside buses n bus is)

bytes-of : (found : Option Bus) (bus : Bus) → found ≡ Some bus → unwrap_or (option_map bus_bytes found) 1 ≡ bus_bytes bus
bytes-of found bus is = ap (λ (found : Option Bus). unwrap_or (option_map bus_bytes found) 1) is

is-bus : (bytes : ℕ) (bus : Bus) → bytes ≡ bus_bytes bus → IsBus bytes
is-bus bytes bus is = record { width = bus; is = is; some = omega (arith, is, some-bytes bus) }

-- the bus of a link that a system has is one
pub bus-of : (masters ports : List Bus) (link : Link) → IsLinkOf masters ports link → IsBus (bus_of_link masters ports link)
bus-of masters ports (Master number) inside =
    let has = bus-at masters number inside in
    is-bus (bus_of_link masters ports (Master number)) has.0 (bytes-of (slice_get masters number) has.0 has.1)
bus-of masters ports (Port number) inside =
    let has = bus-at ports number inside in
    is-bus (bus_of_link masters ports (Port number)) has.0 (bytes-of (slice_get ports number) has.0 has.1)

-- a link that has a bus
pub record IsThere (masters ports : List Bus) (link : Link) (bus : Bus) : Type 0 where
  pub inside : IsLinkOf masters ports link
  pub bytes : bus_of_link masters ports link ≡ bus_bytes bus
  pub some : 0 < bus_of_link masters ports link

pub link-there : (masters ports : List Bus) (link : Link) (bus : Bus) → HasBus masters ports link bus
    → IsThere masters ports link bus
link-there masters ports (Master number) bus has =
    let bytes = bytes-of (slice_get masters number) bus has in record {
      inside = has-inside masters number bus has;
      bytes = bytes;
      some = omega (arith, bytes, some-bytes bus);
    }
link-there masters ports (Port number) bus has =
    let bytes = bytes-of (slice_get ports number) bus has in record {
      inside = has-inside ports number bus has;
      bytes = bytes;
      some = omega (arith, bytes, some-bytes bus);
    }

-- The numbers of a byte that is not shown or put.
use Rattle.std.proofs.Common.{◌≡◌, ◌≢◌, ◌↔◌, ◌≤◌, ◌∙◌, Result, Ok, Err, refl, sym, ap, arith}
use Rattle.check_model.specs.declared.fault.ByteFault.{ByteFault}
use Rattle.check_model.specs.declared.fault.ByteFault.TheVariants.{Device, Memory, Nowhere}
use Rattle.tl_c.specs.Numbers.{byte_number}
use Rattle.tl_c.specs.declared.fault.TheConstants.{BAD_ARGUMENT, DEVICE, MEMORY, NO_BYTE}

-- each is at least that of want of memory
pub number_floor : (fault : ByteFault) → MEMORY ≤ byte_number fault
number_floor Nowhere = omega arith
number_floor Device = omega arith
number_floor Memory = omega arith

-- and none is that of a bad argument
pub number_other : (fault : ByteFault) → byte_number fault ≢ BAD_ARGUMENT
number_other Nowhere is = omega (arith, is)
number_other Device is = omega (arith, is)
number_other Memory is = omega (arith, is)

nowhere_by : (fault : ByteFault) → byte_number fault ≡ NO_BYTE → fault ≡ Nowhere
nowhere_by Nowhere is = refl
nowhere_by Device is = absurd (omega (arith, is))
nowhere_by Memory is = absurd (omega (arith, is))

device_by : (fault : ByteFault) → byte_number fault ≡ DEVICE → fault ≡ Device
device_by Nowhere is = absurd (omega (arith, is))
device_by Device is = refl
device_by Memory is = absurd (omega (arith, is))

-- a fault is told by its number: that nothing is there, or a device
pub nowhere_told : {A N : Type 0} (result : Result A ByteFault) (fault : ByteFault) → result ≡ Err fault
    → (result ≡ Err Nowhere ↔ N) → (byte_number fault ≡ NO_BYTE ↔ N)
nowhere_told result fault is none = (
  λ told. none.0 (is ∙ ap (λ f. Err f) (nowhere_by fault told)),
  λ so. let same : fault ≡ Nowhere = cc (is, none.1 so) in ap byte_number same,
)

pub device_told : {A D : Type 0} (result : Result A ByteFault) (fault : ByteFault) → result ≡ Err fault
    → (result ≡ Err Device ↔ D) → (byte_number fault ≡ DEVICE ↔ D)
device_told result fault is device = (
  λ told. device.0 (is ∙ ap (λ f. Err f) (device_by fault told)),
  λ so. let same : fault ≡ Device = cc (is, device.1 so) in ap byte_number same,
)

-- and without a fault neither
pub not_nowhere : {A N : Type 0} (result : Result A ByteFault) (value : A) → result ≡ Ok value
    → (result ≡ Err Nowhere ↔ N) → (0 ≡ NO_BYTE ↔ N)
not_nowhere result value is none =
    (λ told. absurd (omega (arith, told)), λ so. absurd (let both : Ok value ≡ Err Nowhere = sym is ∙ none.1 so in cc))

pub not_device : {A D : Type 0} (result : Result A ByteFault) (value : A) → result ≡ Ok value
    → (result ≡ Err Device ↔ D) → (0 ≡ DEVICE ↔ D)
not_device result value is device =
    (λ told. absurd (omega (arith, told)), λ so. absurd (let both : Ok value ≡ Err Device = sym is ∙ device.1 so in cc))

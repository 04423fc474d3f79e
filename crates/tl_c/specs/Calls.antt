-- What each call makes of what a handle holds. This project's own.
use Rattle.std.specs.Prelude.{◌≡◌, ◌↔◌, ◌≢◌, ◌<◌, ◌⊎◌, ⊤, ℕ, if◌then◌else◌, is_some, List, Option, Some, None, Result, Ok, Err, ◌==◌}
use Rattle.tl_types.specs.Request.{Request}
use Rattle.check_flight.specs.declared.answer.Answer.{Answer}
use Rattle.check_description.specs.Description.{Description, Makes}
use Rattle.check_description.specs.Name.{IsFirstPartFault}
use Rattle.check_keys.specs.declared.fault.SystemFault.{SystemFault}
use Rattle.check_memory.specs.declared.slave.Slave.TheVariants as stands
use Rattle.check_model.specs.Bytes.{IsPortOf, shown_at}
use Rattle.check_model.specs.declared.port.ModelPort.{ModelPort}
use Rattle.check_model.specs.Model.{Accepts, IsFirstServeFault, IsServed, ModelState, TakesBytes, at_reset}
use Rattle.check_model.specs.declared.fault.ByteFault.{ByteFault}
use Rattle.check_model.specs.declared.fault.ServeFault.{ServeFault}
use Rattle.check_model.specs.declared.fault.ServeFault.TheVariants.{Memory}
use Rattle.tl_c.specs.Draft.{DraftView, IsDraftFault, IsFirstFileFault, LacksNone, image_bytes}
use Rattle.tl_c.specs.Numbers.{byte_number, file_number, image_number, serve_number}
use Rattle.tl_c.specs.Wire.{IsWireAnswer, IsWireAsk, known_number, told_byte}
use Rattle.tl_c.specs.declared.draft.ImageFault.{ImageFault}
use Rattle.tl_c.specs.declared.fault.TheConstants.{DEVICE, MEMORY, OK, OTHER_VERSION}
use Rattle.tl_c.specs.declared.held.HandleContent.{HandleContent}
use Rattle.tl_c.specs.declared.held.HandleContent.TheVariants as held
use Rattle.tl_c.specs.declared.held.HeldJudge.{HeldJudge}
use Rattle.tl_c.specs.declared.wire.WireAnswer.{WireAnswer}
use Rattle.tl_c.specs.declared.wire.WireAsk.{WireAsk}

-- ---- what a handle holds, of each kind

-- the handle holds a draft, and this is so of it.
abbrev pub HoldsDraft : (DraftView → Type 0) → Option HandleContent → Type 0
HoldsDraft Is (Some (held.Draft d)) = Is d
HoldsDraft Is (Some (held.Model c)) = ⊥
HoldsDraft Is (Some (held.Judge j)) = ⊥
HoldsDraft Is None = ⊥

-- the handle holds a model, and this is so of it.
abbrev pub HoldsModel : (ModelState → Type 0) → Option HandleContent → Type 0
HoldsModel Is (Some (held.Draft d)) = ⊥
HoldsModel Is (Some (held.Model c)) = Is c
HoldsModel Is (Some (held.Judge j)) = ⊥
HoldsModel Is None = ⊥

-- the handle holds a judge, and this is so of it.
abbrev pub HoldsJudge : (HeldJudge → Type 0) → Option HandleContent → Type 0
HoldsJudge Is (Some (held.Draft d)) = ⊥
HoldsJudge Is (Some (held.Model c)) = ⊥
HoldsJudge Is (Some (held.Judge j)) = Is j
HoldsJudge Is None = ⊥

-- the handle holds a draft.
abbrev pub HasDraft : Option HandleContent → Type 0
HasDraft = HoldsDraft (λ _. ⊤)

-- the handle holds a model.
abbrev pub IsModel : Option HandleContent → Type 0
IsModel = HoldsModel (λ _. ⊤)

-- the handle holds a judge.
abbrev pub IsJudge : Option HandleContent → Type 0
IsJudge = HoldsJudge (λ _. ⊤)

-- ---- models

-- a model of the system that the parts of a draft make, before any request, with the images that were handed in, of which none
-- lacks
pub record IsModelOf (draft : DraftView) (model : ModelState) : Type 0 where
  pub whole : LacksNone draft
  pub system : Description
  pub made : Makes draft.parts system
  pub is : model ≡ at_reset system (image_bytes draft.images)

-- the number of an answer: that of a device, if whether it is denied is left open
abbrev pub answer_number : Answer → ℕ
answer_number answer = if is_some answer.reply.denied then OK else DEVICE

-- a request of a master is served, the struct has its answer, and this is the number of it
pub record IsServedBy (old : ModelState) (master : ℕ) (wire : WireAsk) (number : ℕ) (answer : WireAnswer) (new : ModelState)
    : Type 0 where
  pub ask : Request
  pub spelled : IsWireAsk wire ask
  pub accepted : Accepts old master ask
  pub given : Answer
  pub served : IsServed old master ask given new
  pub number_is : number ≡ answer_number given
  pub told : IsWireAnswer answer given

-- the number is that of the request's first fault, or of want of memory for its bytes
pub record IsRefusedBy (old : ModelState) (master : ℕ) (wire : WireAsk) (number : ℕ) : Type 0 where
  pub ask : Request
  pub spelled : IsWireAsk wire ask
  pub fault : ServeFault
  pub number_is : number ≡ serve_number fault
  pub first : fault ≢ Memory → IsFirstServeFault old master ask fault
  pub memory : fault ≡ Memory → Accepts old master ask × TakesBytes old master ask

-- what is seen of a byte is told so: the byte, zero if it is unknown, and whether it is known; or the number of the fault
abbrev pub IsShownAs : Result (Option ℕ) ByteFault → ℕ → ℕ → ℕ → Type 0
IsShownAs (Ok cell) number byte known = (number ≡ OK) × (byte ≡ told_byte cell) × (known ≡ known_number cell)
IsShownAs (Err fault) number byte known = number ≡ byte_number fault

-- so it is told what is seen at the port that has an address, if one has it
pub record TellsByte (model : ModelState) (address number byte known : ℕ) : Type 0 where
  pub of : (place : ℕ) (port : ModelPort) → IsPortOf model address place port
      → IsShownAs (shown_at port.slave address) number byte known

-- a number tells whether the port that has an address is a device, if one has it
pub record TellsDevice (model : ModelState) (address number : ℕ) : Type 0 where
  pub of : (place : ℕ) (port : ModelPort) → IsPortOf model address place port
      → number ≡ DEVICE ↔ (port.slave ≡ stands.Device)

-- a byte that is known, by whether a number is zero
abbrev pub byte_by : ℕ → ℕ → Option ℕ
byte_by byte known = if known == 0 then None else Some byte

-- ---- system files

-- the number is that of the first fault of a file on the way to its parts, or of want of memory, a full handle or another
-- version
abbrev pub IsPartsAnswer : List ℕ → ℕ → Type 0
IsPartsAnswer file number =
    MEMORY < number → number ≢ OTHER_VERSION
    → (fault : SystemFault) × (number ≡ file_number fault) × IsFirstPartFault file fault

-- the number is that of the fault of an image, if it has one; else there may be want of memory
abbrev pub IsImageAnswer : Option ImageFault → ℕ → Type 0
IsImageAnswer (Some fault) number = number ≡ image_number fault
IsImageAnswer None number = (number ≡ OK) ⊎ (number ≡ MEMORY)

-- the number is that of the first fault of a draft
pub record IsFaultOfDraft (draft : DraftView) (number : ℕ) : Type 0 where
  pub fault : SystemFault
  pub number_is : number ≡ file_number fault
  pub first : IsDraftFault draft fault

-- the number is that of the first fault of a file of which no image is handed in, or of want of memory, a full handle, a bad
-- argument or another version
abbrev pub IsFileAnswer : List ℕ → ℕ → Type 0
IsFileAnswer file number =
    OTHER_VERSION < number → (fault : SystemFault) × (number ≡ file_number fault) × IsFirstFileFault file fault

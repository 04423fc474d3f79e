-- What a system file names, of which models and judges are made, and the images of its ports. This project's own.
use Rattle.std.specs.Prelude.{◌≡◌, ◌<◌, ◌≤◌, ◌⊎◌, ◌&&◌, ℕ, nat_lt, not, Bool, List, [], length, map, replicate, slice_get, slice_set, Option, None, Some, is_some, option_map, unwrap_or, IsTrue, Vec, if◌then◌else◌}
use Rattle.std.specs.declared.alloc.Global.{Global}
use Rattle.check_keys.specs.declared.fault.SystemFault.{SystemFault}
use Rattle.check_keys.specs.declared.fault.SystemFault.TheVariants.{ImageTooLong, ImageUnreadable}
use Rattle.check_description.specs.Port.{Port}
use Rattle.check_description.specs.Ranges.{first_length}
use Rattle.check_description.specs.Description.{IsFirstFaultOf}
use Rattle.check_description.specs.File.{Parts}
use Rattle.check_description.specs.Name.{IsFirstPartFault, NamesParts}
use Rattle.check_start.specs.Slaves.{image_at}
use Rattle.tl_c.specs.declared.draft.ImageFault.{ImageFault}
use Rattle.tl_c.specs.declared.draft.ImageFault.TheVariants.{NoPort, NoImage, System}

-- a file, the ports and the masters that it names, and for each port the bytes of its image, if these were handed in
pub record DraftView : Type 0 where
  pub file : List ℕ
  pub parts : Parts
  pub images : List (Option (List ℕ))

-- the bytes of an image as contracts see them
abbrev pub slot_of : Option (Vec ℕ Global) → Option (List ℕ)
slot_of image = option_map (λ bytes. bytes.items) image

-- those of each image
abbrev pub slots_of : List (Option (Vec ℕ Global)) → List (Option (List ℕ))
slots_of images = map slot_of images

-- the bytes of an image, none of one that was not handed in
abbrev pub bytes_of : Option (List ℕ) → List ℕ
bytes_of image = unwrap_or image []

-- those of each port's image
abbrev pub image_bytes : List (Option (List ℕ)) → List (List ℕ)
image_bytes images = map bytes_of images

-- the parts are those of the file, there is a place for each port's image, and none is longer than the port's first range
pub record IsDraft (draft : DraftView) : Type 0 where
  pub named : NamesParts draft.file draft.parts
  pub sized : length draft.images ≡ length draft.parts.ports
  pub fits : (port : ℕ) (said : Port) → slice_get draft.parts.ports port ≡ Some said
      → length (image_at (image_bytes draft.images) port) ≤ first_length said.ranges

-- what a file names, before any image is handed in
pub record IsDraftOf (file : List ℕ) (draft : DraftView) : Type 0 where
  pub of : draft.file ≡ file
  pub named : NamesParts file draft.parts
  pub bare : draft.images ≡ replicate (length draft.parts.ports) None

-- ---- images

-- the file of a port's image, as the port names it
abbrev pub image_of : Option Port → Option (List ℕ)
image_of None = None
image_of (Some port) = port.contents.image

-- the file of the image of the port of this number; none if there is no such port, or if it names none.
abbrev pub image_file : DraftView → ℕ → Option (List ℕ)
image_file draft port = image_of (slice_get draft.parts.ports port)

-- the bytes of the port's image were handed in
abbrev pub is_given : DraftView → ℕ → Bool
is_given draft port = is_some (unwrap_or (slice_get draft.images port) None)

-- the port names an image that was not handed in
abbrev pub lacks : DraftView → ℕ → Bool
lacks draft port = is_some (image_file draft port) && not (is_given draft port)

-- no port does
abbrev pub LacksNone : DraftView → Type 0
LacksNone draft = (port : ℕ) → IsTrue (lacks draft port) → ⊥

-- some port does
abbrev pub LacksSome : DraftView → Type 0
LacksSome draft = (port : ℕ) × IsTrue (lacks draft port)

-- the port is the first that does
pub record IsFirstLacking (draft : DraftView) (port : ℕ) : Type 0 where
  pub here : IsTrue (lacks draft port)
  pub first : (other : ℕ) → other < port → IsTrue (lacks draft other) → ⊥

-- the same with these bytes of a port's image
abbrev pub with_image : DraftView → ℕ → List ℕ → DraftView
with_image draft port bytes = record draft { images = slice_set draft.images port (Some bytes) }

-- why so many bytes are not taken as the image of this port, beside want of memory
abbrev pub fault_at : ℕ → ℕ → Option Port → Option ImageFault
fault_at port count None = Some (NoPort port)
fault_at port count (Some said) =
    if is_some said.contents.image
    then (if nat_lt (first_length said.ranges) count then Some (System (ImageTooLong port)) else None)
    else Some (NoImage port)

-- why these bytes are not taken as the image of the port of this number, beside want of memory; none if they are.
abbrev pub image_fault : DraftView → ℕ → List ℕ → Option ImageFault
image_fault draft port bytes = fault_at port (length bytes) (slice_get draft.parts.ports port)

-- ---- faults

-- the fault is the first of a draft: an image that was not handed in, or if none lacks, that of its parts
abbrev pub IsDraftFault : DraftView → SystemFault → Type 0
IsDraftFault draft (ImageUnreadable port) = IsFirstLacking draft port
IsDraftFault draft fault = LacksNone draft × IsFirstFaultOf draft.parts fault

-- the fault is the first of a file of which no image is handed in
abbrev pub IsFirstFileFault : List ℕ → SystemFault → Type 0
IsFirstFileFault file fault =
    IsFirstPartFault file fault ⊎ (draft : DraftView) × IsDraftOf file draft × IsDraftFault draft fault

-- The images of a system's ports. This project's own.
use Rattle.std.specs.Prelude.{◌≡◌, ◌≢◌, ◌⊎◌, ℕ, List, [], length, slice_get, Option, None, Some, MatchOption}
use Rattle.std.specs.Path.{path_with_file_name}
use Rattle.check_keys.specs.declared.fault.SystemFault.TheVariants.{ImageTooLong, ImageUnreadable}
use Rattle.check_description.specs.Port.{Port}
use Rattle.check_program.specs.System.{GivesImage}
use Rattle.check_program.specs.declared.fault.CheckFault.{CheckFault}
use Rattle.check_program.specs.declared.fault.CheckFault.TheVariants.{System, Memory}

-- the bytes are the port's image as the file of this name has it: all that the reader had which was opened by the name
pub record IsReadFrom {File : Type 0} (Opens : List ℕ → File → Type 0) (bytes_in : File → Option (List ℕ))
    (name : List ℕ) (port : Port) (bytes : List ℕ) : Type 0 where
  pub file : File
  pub opened : Opens name file
  pub rest : Option (List ℕ)
  pub gave : GivesImage port (bytes_in file) rest bytes

-- the bytes of the port's image, which it names from the folder of SYSTEM; none if it names no image
abbrev pub IsImageOf : {File : Type 0} → (List ℕ → File → Type 0) → (File → Option (List ℕ)) → List ℕ → Port → List ℕ
    → Type 0
IsImageOf Opens bytes_in system port bytes =
    MatchOption port.contents.image (bytes ≡ [])
    (λ image. IsReadFrom Opens bytes_in (path_with_file_name system image) port bytes)

-- the bytes at each place are an image of the port there
abbrev pub FitPorts : (Port → List ℕ → Type 0) → List Port → List (List ℕ) → Type 0
FitPorts Is ports images =
    (number : ℕ) (port : Port) (bytes : List ℕ) → slice_get ports number ≡ Some port
    → slice_get images number ≡ Some bytes → Is port bytes

-- an image for each port, by its number
pub record AreImagesOf (Is : Port → List ℕ → Type 0) (ports : List Port) (images : List (List ℕ)) : Type 0 where
  pub counted : length images ≡ length ports
  pub each : FitPorts Is ports images

-- the image of the port of this number can't be read or is too long, and the port names one; or memory was refused
abbrev pub IsFaultOfPort : ℕ → Port → CheckFault → Type 0
IsFaultOfPort number port fault =
    (fault ≡ Memory)
    ⊎ ((port.contents.image ≢ None)
    × ((fault ≡ System (ImageUnreadable number)) ⊎ (fault ≡ System (ImageTooLong number))))

-- it is so of one of these ports; or memory was refused
abbrev pub IsFaultOfImages : List Port → CheckFault → Type 0
IsFaultOfImages ports fault =
    (fault ≡ Memory)
    ⊎ (number : ℕ) × ((port : Port) × ((slice_get ports number ≡ Some port) × IsFaultOfPort number port fault))

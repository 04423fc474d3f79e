-- What is read of a system: its file, and the images of its ports. This project's own.
use Rattle.std.specs.Prelude.{◌≡◌, ℕ, ◌+◌, ◌<◌, ◌≤◌, List, length, Option}
use Rattle.std.specs.Io.KnownBytes.{Consumes}
use Rattle.tl_streams.specs.Streams.{ReadsAll, ReadsUpTo}
use Rattle.check_keys.specs.declared.fault.SystemFault.{SystemFault}
use Rattle.check_keys.specs.declared.fault.SystemFault.TheVariants.{ImageTooLong, ImageUnreadable}
use Rattle.check_description.specs.Port.{Port}
use Rattle.check_description.specs.Ranges.{first_length}
use Rattle.check_description.specs.File.{Parts}
use Rattle.check_description.specs.Name.{IsFirstPartFault, NamesParts}
use Rattle.check_description.specs.declared.read.TheConstants.{MAX_SYSTEM}
use Rattle.check_program.specs.declared.fault.CheckFault.{CheckFault}
use Rattle.check_program.specs.declared.fault.CheckFault.TheVariants.{System, Capture, Keys, Unnamed, Dump, Read, Write, Memory}

-- the reader gave a file that names these parts, and had no other bytes
pub record GivesParts (old new : Option (List ℕ)) (file : List ℕ) (parts : Parts) : Type 0 where
  pub read : ReadsAll old new file
  pub named : NamesParts file parts

-- the fault is the first of what was read: of all that the reader had, or of a byte more than a file may have
pub record HasPartFault (old new : Option (List ℕ)) (fault : SystemFault) : Type 0 where
  pub file : List ℕ
  pub read : ReadsUpTo (MAX_SYSTEM + 1) old new file
  pub first : IsFirstPartFault file fault

-- why no parts were read: a fault of the file, a read that failed, or want of memory
abbrev pub IsPartsFault : Option (List ℕ) → Option (List ℕ) → CheckFault → Type 0
IsPartsFault old new (System fault) = HasPartFault old new fault
IsPartsFault old new (Capture fault) = ⊥
IsPartsFault old new (Keys fault) = ⊥
IsPartsFault old new (Unnamed link) = ⊥
IsPartsFault old new (Dump fault) = ⊥
IsPartsFault old new Read = Unit {0}
IsPartsFault old new Write = ⊥
IsPartsFault old new Memory = Unit {0}

-- the reader gave the bytes of this port's image, no more than its first range has, and had no others
pub record GivesImage (port : Port) (old new : Option (List ℕ)) (bytes : List ℕ) : Type 0 where
  pub read : ReadsAll old new bytes
  pub fits : length bytes ≤ first_length port.ranges

-- the reader gave more bytes than the first range has
pub record GivesTooMuch (port : Port) (old new : Option (List ℕ)) : Type 0 where
  pub bytes : List ℕ
  pub taken : Consumes old new bytes
  pub beyond : first_length port.ranges < length bytes

-- the fault of the image of the port of this number, and not of another
abbrev pub IsImageFaultOf : ℕ → Port → Option (List ℕ) → Option (List ℕ) → SystemFault → Type 0
IsImageFaultOf number port old new (ImageTooLong named) = (named ≡ number) × GivesTooMuch port old new
IsImageFaultOf number port old new (ImageUnreadable named) = named ≡ number
IsImageFaultOf number port old new fault = ⊥

-- why no image was read: it is longer than the range, a read failed, or want of memory
abbrev pub IsImageFault : ℕ → Port → Option (List ℕ) → Option (List ℕ) → CheckFault → Type 0
IsImageFault number port old new (System fault) = IsImageFaultOf number port old new fault
IsImageFault number port old new (Capture fault) = ⊥
IsImageFault number port old new (Keys fault) = ⊥
IsImageFault number port old new (Unnamed link) = ⊥
IsImageFault number port old new (Dump fault) = ⊥
IsImageFault number port old new Read = ⊥
IsImageFault number port old new Write = ⊥
IsImageFault number port old new Memory = Unit {0}

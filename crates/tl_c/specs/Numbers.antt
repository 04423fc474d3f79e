-- The numbers of faults: those of `enum tlx_fault` in include/tlx.h. This project's own.
use Rattle.std.specs.Prelude.{ℕ}
use Rattle.check_beats.specs.declared.fault.FormFault.{FormFault}
use Rattle.check_beats.specs.declared.fault.FormFault.TheVariants as form
use Rattle.check_model.specs.declared.fault.ByteFault.{ByteFault}
use Rattle.check_model.specs.declared.fault.ByteFault.TheVariants as byte
use Rattle.check_model.specs.declared.fault.ServeFault.{ServeFault}
use Rattle.check_model.specs.declared.fault.ServeFault.TheVariants as serve
use Rattle.check_keys.specs.declared.fault.SystemFault.{SystemFault}
use Rattle.check_keys.specs.declared.fault.SystemFault.TheVariants as file
use Rattle.check_watch.specs.declared.fault.Fault.{Fault}
use Rattle.check_watch.specs.declared.fault.Fault.TheVariants as beat
use Rattle.tl_c.specs.declared.draft.ImageFault.{ImageFault}
use Rattle.tl_c.specs.declared.draft.ImageFault.TheVariants as image

-- the number of a fault of a system file.
abbrev pub file_number : SystemFault → ℕ
file_number file.Memory = 4
file_number file.NotToml = 10
file_number (file.Missing key) = 11
file_number (file.WrongType key) = 12
file_number (file.OutOfRange key) = 13
file_number (file.Map fault) = 15
file_number (file.Sources fault) = 16
file_number (file.PortSources port fault) = 16
file_number file.TooLong = 17
file_number (file.TwoCalled name) = 18
file_number (file.UnknownKey unknown) = 19
file_number (file.ImageTooLong port) = 62
file_number (file.ImageUnreadable port) = 63

-- the number of a fault of an image.
abbrev pub image_number : ImageFault → ℕ
image_number (image.NoPort port) = 60
image_number (image.NoImage port) = 61
image_number (image.System fault) = file_number fault

-- the number of a fault of a request at a model.
abbrev pub serve_number : ServeFault → ℕ
serve_number serve.NoSuchMaster = 22
serve_number serve.NoSuchSource = 23
serve_number serve.Memory = 4

-- the number of a fault of a byte that is not shown or put.
abbrev pub byte_number : ByteFault → ℕ
byte_number byte.Nowhere = 25
byte_number byte.Device = 26
byte_number byte.Memory = 4

-- the number of a fault of a beat alone.
abbrev pub form_number : FormFault → ℕ
form_number form.Changed = 31
form_number form.Opcode = 32
form_number form.Param = 33
form_number form.Size = 34
form_number form.Unaligned = 35
form_number form.Mask = 36
form_number form.CorruptFlag = 37
form_number form.UnknownData = 38

-- the number of a fault of a beat that a judge is shown.
abbrev pub beat_number : Fault → ℕ
beat_number (beat.Form fault) = form_number fault
beat_number beat.NoSuchSource = 39
beat_number beat.SourceBusy = 40
beat_number beat.WrongPort = 41
beat_number beat.NoRequest = 42
beat_number beat.EarlyReply = 43
beat_number beat.WrongSize = 44
beat_number beat.WrongOpcode = 45
beat_number beat.UnknownData = 46
beat_number beat.NotSent = 47
beat_number beat.NotGiven = 48
beat_number (beat.WrongReply expected captured) = 49
beat_number beat.OutOfOrder = 51

-- What becomes of the fault of a record. This project's own.
use Rattle.check_records.specs.declared.fault.RecordFault.{RecordFault}
use Rattle.check_records.specs.declared.fault.RecordFault.TheVariants as own
use Rattle.check_text.specs.declared.fault.CaptureFault.{CaptureFault}
use Rattle.check_text.specs.declared.fault.CaptureFault.TheVariants.{TooLong, Read, Memory}

-- a fault of a record is that of the capture.
abbrev pub of_record : RecordFault → CaptureFault
of_record (own.TooLong line) = TooLong line
of_record own.Read = Read
of_record own.Memory = Memory

-- Faults as those of rows. This project's own.
use Rattle.check_vcd.specs.declared.fault.DumpFault.{DumpFault}
use Rattle.check_vcd.specs.declared.fault.DumpFault.TheVariants as dump
use Rattle.check_vcd.specs.declared.fault.Mistake.TheVariants.{Gap}
use Rattle.check_samples.specs.declared.rows.RowsFault.{RowsFault}
use Rattle.check_samples.specs.declared.rows.RowsFault.TheVariants as rows
use Rattle.check_samples.specs.declared.sampler.SampleFault.{SampleFault}
use Rattle.check_samples.specs.declared.sampler.SampleFault.TheVariants as sample

-- the fault of a sample is that of the rows; a gap is a mistake of its line.
abbrev pub of_sample : SampleFault → RowsFault
of_sample (sample.Unknown unknown) = rows.Unknown unknown
of_sample (sample.Gap line) = rows.Dump line Gap
of_sample sample.Memory = rows.Memory

-- the fault of a dump is that of the rows.
abbrev pub of_dump : DumpFault → RowsFault
of_dump (dump.At line mistake) = rows.Dump line mistake
of_dump dump.Read = rows.Read
of_dump dump.Memory = rows.Memory

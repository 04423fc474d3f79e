-- The statuses of programs whose command line gives no options. This project's own.
use Rattle.std.specs.Prelude.{ℕ}
use Rattle.clap.specs.declared.error.ErrorKind.{ErrorKind}
use Rattle.clap.specs.declared.error.ErrorKind.TheVariants.{DisplayHelp, DisplayVersion, OutOfMemory}

-- the status of help and of the version, that of want of memory, and that of all else, which are mistakes
abbrev pub status_of_kind : ErrorKind → ℕ
status_of_kind DisplayHelp = 0
status_of_kind DisplayVersion = 0
status_of_kind OutOfMemory = 4
status_of_kind _ = 2

-- What the program asks of a capture, and how it ends. This project's own.
use Rattle.std.specs.Prelude.{ℕ, Bool, true, false, is_some}
use Rattle.check_options.specs.declared.options.CheckOptions.{CheckOptions}
use Rattle.check_program.specs.declared.asked.Asked.{Asked}

-- what the command line asks for
abbrev pub asked_by_options : CheckOptions → Asked
asked_by_options options = record {
  terms = record { links = options.links; orders = options.orders; within = options.within };
  trace = options.trace;
  complete = options.complete;
  coverage = is_some options.coverage;
}

-- the status of a verdict: whether the capture is lawful
abbrev pub status_of_verdict : Bool → ℕ
status_of_verdict true = 0
status_of_verdict false = 3

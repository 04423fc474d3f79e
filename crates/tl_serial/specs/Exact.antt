-- A system has one serial run. This project's own.
use Rattle.std.specs.Prelude.{◌≡◌, List}
use Rattle.tl_types.specs.Request.{Request}
use Rattle.tl_types.specs.Response.{Response}
use Rattle.tl_types.specs.declared.trace.Entry.{Entry}
use Rattle.tl_script.specs.System.{System}
use Rattle.tl_serial.specs.Serial.{IsSerialRun}

-- the traces and the histories of a run of the system by one thread
pub record SerialRunOf (s : System) : Type 0 where
  pub traces : List (List Entry)
  pub histories : List (List (Request × Response))
  pub is : IsSerialRun s traces histories

-- two runs of the system by one thread have the same traces and the same histories
pub record HasOneSerialRun (s : System) : Type 0 where
  pub traces : (one other : SerialRunOf s) → one.traces ≡ other.traces
  pub histories : (one other : SerialRunOf s) → one.histories ≡ other.histories

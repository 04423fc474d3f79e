-- The text of the run of a system by one thread. This project's own.
use Rattle.std.specs.Prelude.{◌≡◌, ℕ, ◌+◌, Bool, List, [], ◌∷◌, ◌++◌, if◌then◌else◌}
use Rattle.tl_types.specs.Request.{Request}
use Rattle.tl_types.specs.Response.{Response}
use Rattle.tl_types.specs.declared.trace.Entry.{Entry}
use Rattle.tl_script.specs.History.{history_text}
use Rattle.tl_script.specs.System.{System}
use Rattle.tl_script.specs.Trace.{trace_text}
use Rattle.tl_serial.specs.Serial.{IsSerialRun}

-- the lines of the histories of the ports, where the first has this number
abbrev pub histories_from : ℕ → List (List (Request × Response)) → List ℕ
histories_from port [] = []
histories_from port (history ∷ histories) = history_text port history ++ histories_from (port + 1) histories

-- the lines of the histories of all ports, from port 0 on
abbrev pub histories_text : List (List (Request × Response)) → List ℕ
histories_text histories = histories_from 0 histories

-- the text of a run: the traces and, if they are asked for, the histories
abbrev pub run_text : Bool → List (List Entry) → List (List (Request × Response)) → List ℕ
run_text history traces histories = trace_text traces ++ (if history then histories_text histories else [])

-- the text is that of the serial run of the system
pub record IsSerialText (history : Bool) (system : System) (text : List ℕ) : Type 0 where
  pub traces : List (List Entry)
  pub histories : List (List (Request × Response))
  pub run : IsSerialRun system traces histories
  pub is : text ≡ run_text history traces histories

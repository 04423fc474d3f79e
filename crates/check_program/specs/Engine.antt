-- What a check judges, and what it writes for that. This project's own.
use Rattle.std.specs.Prelude.{◌≡◌, ◌⊎◌, ℕ, Bool, false, not, ◌&&◌, ◌==◌, if◌then◌else◌, List, [], Option, Result, Ok, Err, IfOk, IfErr, IfSome, ⊤}
use Rattle.std.specs.Io.KnownBytes.{Appends, Keeps}
use Rattle.tl_streams.specs.Streams.{AppendsPart}
use Rattle.check_keys.specs.declared.fault.SystemFault.{SystemFault}
use Rattle.check_description.specs.File.{Parts}
use Rattle.check_description.specs.Description.{Description, IsFirstFaultOf, Makes}
use Rattle.check_beats.specs.declared.bus.Bus.{Bus}
use Rattle.check_text.specs.Review.{Judges, is_asked, is_covered, is_traced}
use Rattle.check_start.specs.Loads.{SystemPlan}
use Rattle.check_lines.specs.Names.{NamesView}
use Rattle.check_lines.specs.Verdict.{breach_line, empty_line, incomplete_line, lawful_line}
use Rattle.check_lines.specs.declared.verdict.VerdictCounts.{VerdictCounts}
use Rattle.check_records.specs.Text.{text_start}
use Rattle.check_start.specs.Slaves.{shared_slaves}
use Rattle.check_rows.specs.PortNumbers.{PortNumbers, numbers_in}
use Rattle.check_start.specs.Numbers.{numbers_of}
use Rattle.check_start.specs.declared.start.Terms.{Terms}
use Rattle.check_watch.specs.declared.links.Links.{Links}
use Rattle.check_description.specs.Buses.{master_buses, port_buses}
use Rattle.check_start.specs.Start.{ByThePlan, system_names}
use Rattle.check_text.specs.Buses.{LinkBuses}
use Rattle.check_text.specs.Capture.{IsFault, IsVerdict, IsWritten, TellsCovered}
use Rattle.check_text.specs.declared.fault.CaptureFault.{CaptureFault}
use Rattle.check_text.specs.declared.fault.CaptureFault.TheVariants as stop
use Rattle.check_text.specs.declared.fault.Verdict.{Verdict}
use Rattle.check_text.specs.declared.fault.Verdict.TheVariants.{Incomplete, Lawful, Unlawful}
use Rattle.check_program.specs.declared.fault.CheckFault.{CheckFault}
use Rattle.check_program.specs.declared.fault.CheckFault.TheVariants as check
use Rattle.check_program.specs.declared.asked.Asked.{Asked}
use Rattle.check_program.specs.declared.engine.Prepared.{Prepared}

-- ---- what is judged

-- a system file and the parts that it names, with the bytes of the image of each port, and what the reader of a capture has
pub record GivenParts : Type 0 where
  pub file : List ℕ
  pub parts : Parts
  pub images : List (List ℕ)
  pub capture : Option (List ℕ)

-- the buses of the system's links, and the numbers of sources at ports' links, if these links are watched
abbrev pub buses_of : Links → Description → LinkBuses
buses_of links system = record {
  masters = master_buses system.masters;
  ports = port_buses system.ports;
  resets = system.resets;
  numbers = numbers_of links system;
}

-- by each plan of the system, and there is one: this holds of the text of the capture
abbrev pub OfTheText : Asked → GivenParts → Description → (SystemPlan → List ℕ → Type 0) → Type 0
OfTheText asked given system Holds =
    ByThePlan asked.terms system given.images (λ plan. IfSome given.capture (Holds plan))

-- the verdict is the one over the capture, at a crossbar that is this system
abbrev pub IsVerdictOf : Asked → GivenParts → Description → Verdict → Type 0
IsVerdictOf asked given system verdict =
    OfTheText asked given system
    (λ plan text. IsVerdict asked.complete plan (buses_of asked.terms.links system) (text_start text) verdict)

-- the fault is one of the capture
abbrev pub IsFaultOf : Asked → GivenParts → Description → CaptureFault → Type 0
IsFaultOf asked given system fault =
    OfTheText asked given system (λ plan text. IsFault plan (buses_of asked.terms.links system) (text_start text) fault)

-- what is written while the capture is judged, before this answer
abbrev pub IsWrittenByJudge : Asked → GivenParts → Description → Option (List ℕ) → Option (List ℕ) → Result Verdict CaptureFault
    → Type 0
IsWrittenByJudge asked given system old new answer =
    OfTheText asked given system
    (λ plan text. IsWritten asked.complete asked.trace plan (buses_of asked.terms.links system) (text_start text) old new answer)

-- the fault is the first of the parts that make no system, or the first image of the system that is too long
abbrev pub IsSystemFault : Asked → GivenParts → SystemFault → Type 0
IsSystemFault asked given fault =
    IsFirstFaultOf given.parts fault
    ⊎ (system : Description) × Makes given.parts system
    × (shared_slaves system.rules.corrupt asked.terms given.images system.ports ≡ Err fault)

-- ---- a verdict as it is told

-- whether a lawful capture is told as empty: if it is asked whether requests are left, and there was none
abbrev pub is_empty : Bool → VerdictCounts → Bool
is_empty complete counts = complete && (counts.requests == 0)

-- with these names of links, and if this is asked
abbrev pub line_of : Bool → NamesView → Verdict → List ℕ
line_of complete names (Lawful counts) = if is_empty complete counts then empty_line else lawful_line counts
line_of complete names (Unlawful found) = breach_line names found.row found.breach
line_of complete names (Incomplete left) = incomplete_line left

-- whether the line says that the capture is lawful
abbrev pub is_lawful : Bool → Verdict → Bool
is_lawful complete (Lawful counts) = not (is_empty complete counts)
is_lawful complete (Unlawful found) = false
is_lawful complete (Incomplete left) = false

-- ---- what is promised

-- the system is the one that the parts make, and the verdict is the one over the capture; by `told` what is told with it
-- was written
pub record HasVerdict (asked : Asked) (given : GivenParts) (old told : Option (List ℕ)) (system : Description)
    (verdict : Verdict) : Type 0 where
  pub made : Makes given.parts system
  pub is : IsVerdictOf asked given system verdict
  pub tells : IsWrittenByJudge asked given system old told (Ok verdict)

-- there is such a verdict, it is lawful or not as is answered, and what is told with it and then its line was written
pub record IsJudged (asked : Asked) (given : GivenParts) (old new : Option (List ℕ)) (lawful : Bool) : Type 0 where
  pub system : Description
  pub verdict : Verdict
  pub told : Option (List ℕ)
  pub has : HasVerdict asked given old told system verdict
  pub answered : lawful ≡ is_lawful asked.complete verdict
  pub written : Appends told new (line_of asked.complete (system_names system) verdict)

-- there is a system, and this is answered of the capture; what is told before that was written
pub record IsStopped (asked : Asked) (given : GivenParts) (old new : Option (List ℕ)) (fault : CaptureFault) : Type 0 where
  pub system : Description
  pub made : Makes given.parts system
  pub is : IsFaultOf asked given system fault
  pub tells : IsWrittenByJudge asked given system old new (Err fault)

-- there is a verdict, and what is told with it was written; of its line this
pub record IsUntold (asked : Asked) (given : GivenParts) (old new : Option (List ℕ))
    (OfLine : Option (List ℕ) → List ℕ → Type 0) : Type 0 where
  pub system : Description
  pub verdict : Verdict
  pub told : Option (List ℕ)
  pub has : HasVerdict asked given old told system verdict
  pub line : OfLine told (line_of asked.complete (system_names system) verdict)

-- why there is no verdict, and what was written. A fault of the system is its first; one of the capture is one of its
-- text. Before a verdict nothing is written but what is told; if a write failed, a front of that or of the verdict's line,
-- and not all of it
abbrev pub IsFaulty : Asked → GivenParts → Option (List ℕ) → Option (List ℕ) → CheckFault → Type 0
IsFaulty asked given old new (check.System fault) = IsSystemFault asked given fault × Keeps old new
IsFaulty asked given old new (check.Capture fault) = IsStopped asked given old new fault
IsFaulty asked given old new (check.Keys fault) = ⊥
IsFaulty asked given old new (check.Unnamed link) = ⊥
IsFaulty asked given old new (check.Dump fault) = ⊥
IsFaulty asked given old new check.Read = IsStopped asked given old new stop.Read
IsFaulty asked given old new check.Memory =
    Keeps old new
    ⊎ (IsStopped asked given old new stop.Memory
    ⊎ IsUntold asked given old new (λ told line. Keeps told new))
IsFaulty asked given old new check.Write =
    IsStopped asked given old new stop.Write
    ⊎ IsUntold asked given old new (λ told line. AppendsPart told new line)

-- what was given, what the writer held before and holds after, and the answer: whether the capture is lawful, or why
-- there is no verdict
pub record IsChecked (asked : Asked) (given : GivenParts) (old new : Option (List ℕ)) (result : Result Bool CheckFault)
    : Type 0 where
  pub ok : IfOk result (IsJudged asked given old new)
  pub fault : IfErr result (IsFaulty asked given old new)

-- ---- what is covered

-- a text grew by what the rows of the capture cover that the verdict is of, if that is asked for; the verdict is the one
-- that is answered, whether lawful or not
pub record IsCounted (asked : Asked) (given : GivenParts) (old new : List ℕ) (lawful : Bool) : Type 0 where
  pub system : Description
  pub verdict : Verdict
  pub made : Makes given.parts system
  pub is : IsVerdictOf asked given system verdict
  pub answered : lawful ≡ is_lawful asked.complete verdict
  pub covered : OfTheText asked given system
      (λ plan text. TellsCovered asked.coverage plan (buses_of asked.terms.links system) (text_start text) old new verdict)

-- ---- for the proofs

-- the buses of the masters' and of the ports' links, whether there are rows of resets, and the numbers of ports' links,
-- as one.
abbrev pub with_buses : List Bus → List Bus → Bool → List (Option PortNumbers) → LinkBuses
with_buses masters ports resets numbers =
    record { masters = masters; ports = ports; resets = resets; numbers = numbers }

-- of the system that the parts make: a judge that has seen no beat and tells what is asked for, and the names, the buses and the
-- numbers of the links
pub record IsPrepared (asked : Asked) (parts : Parts) (images : List (List ℕ)) (prepared : Prepared) : Type 0 where
  pub system : Description
  pub made : Makes parts system
  pub judges : ByThePlan asked.terms system images (λ plan. Judges plan [] prepared.judge)
  pub trace : is_traced prepared.judge ≡ asked.trace
  pub complete : is_asked prepared.judge ≡ asked.complete
  pub coverage : is_covered prepared.judge ≡ asked.coverage
  pub told : prepared.complete ≡ asked.complete
  pub names : prepared.names ≡ system_names system
  pub masters : prepared.master_buses.items ≡ master_buses system.masters
  pub ports : prepared.port_buses.items ≡ port_buses system.ports
  pub resets : prepared.resets ≡ system.resets
  pub numbers : numbers_in prepared.numbers.items ≡ numbers_of asked.terms.links system

-- why there is none: the first fault of the parts or of the images, or want of memory
abbrev pub IsUnprepared : Terms → Parts → List (List ℕ) → CheckFault → Type 0
IsUnprepared terms parts images (check.System fault) =
    IsFirstFaultOf parts fault
    ⊎ (system : Description) × Makes parts system × (shared_slaves system.rules.corrupt terms images system.ports ≡ Err fault)
IsUnprepared terms parts images (check.Capture fault) = ⊥
IsUnprepared terms parts images (check.Keys fault) = ⊥
IsUnprepared terms parts images (check.Unnamed link) = ⊥
IsUnprepared terms parts images (check.Dump fault) = ⊥
IsUnprepared terms parts images check.Read = ⊥
IsUnprepared terms parts images check.Write = ⊥
IsUnprepared terms parts images check.Memory = ⊤

-- why a line was not written: there was no memory for it, or a write failed
abbrev pub IsLineFault : Option (List ℕ) → Option (List ℕ) → List ℕ → CheckFault → Type 0
IsLineFault old new line (check.System fault) = ⊥
IsLineFault old new line (check.Capture fault) = ⊥
IsLineFault old new line (check.Keys fault) = ⊥
IsLineFault old new line (check.Unnamed link) = ⊥
IsLineFault old new line (check.Dump fault) = ⊥
IsLineFault old new line check.Read = ⊥
IsLineFault old new line check.Write = AppendsPart old new line
IsLineFault old new line check.Memory = Keeps old new

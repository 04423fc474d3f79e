-- What a check promises of a dump in the place of a capture. This project's own.
use Rattle.std.specs.Prelude.{◌≡◌, ◌⊎◌, ℕ, ◌+◌, Bool, true, false, if◌then◌else◌, List, [], ◌∷◌, Option, None, Some, option_map, Result, Ok, Err, IfOk, IfErr, IfSome}
use Rattle.std.specs.Io.KnownBytes.{Appends, Keeps}
use Rattle.tl_streams.specs.Streams.{AppendsPart}
use Rattle.check_description.specs.Description.{Description, Makes}
use Rattle.check_text.specs.Review.{AppendsCoverage, are_masters_watched, are_ports_watched}
use Rattle.check_samples.specs.Left.{RowsLeft}
use Rattle.check_start.specs.Loads.{SystemPlan}
use Rattle.check_signals.specs.Names.{LinkNames, SignalNames, names_of_file}
use Rattle.check_signals.specs.declared.fault.KeyFault.{KeyFault}
use Rattle.check_start.specs.Start.{ByThePlan, system_names}
use Rattle.check_text.specs.declared.fault.Verdict.{Verdict}
use Rattle.check_watch.specs.declared.beat.Link.{Link}
use Rattle.check_watch.specs.declared.beat.Link.TheVariants.{Master, Port}
use Rattle.check_watch.specs.declared.links.Links.{Links}
use Rattle.check_waves.specs.Capture.{IsUnopened, rows_in}
use Rattle.check_waves.specs.Links.{WaveLinks, wave_links_of}
use Rattle.check_waves.specs.declared.fault.WaveFault.{WaveFault}
use Rattle.check_dump.specs.Replay.{IsReplayed, OfReplayed}
use Rattle.check_dump.specs.declared.fault.ReplayFault.{ReplayFault}
use Rattle.check_program.specs.Engine.{GivenParts, IsChecked, IsCounted, IsSystemFault, buses_of, is_lawful, line_of}
use Rattle.check_program.specs.Fault.{of_replay}
use Rattle.check_program.specs.Front.{is_dump}
use Rattle.check_program.specs.declared.asked.Asked.{Asked}
use Rattle.check_program.specs.declared.fault.CheckFault.{CheckFault}
use Rattle.check_program.specs.declared.fault.CheckFault.TheVariants as check

-- ---- the signals of links

-- the number of the first link without signals, if the first of these has this number
abbrev pub first_unnamed : List (Option LinkNames) → ℕ → Option ℕ
first_unnamed [] number = None
first_unnamed (None ∷ links) number = Some number
first_unnamed (Some names ∷ links) number = first_unnamed links (number + 1)

-- of ports' links the first without signals, if ports' links are watched.
abbrev pub port_unnamed : Links → SignalNames → Option Link
port_unnamed links names = if are_ports_watched links then option_map Port (first_unnamed names.ports 0) else None

-- the link of the master of this number; if there is no number, of the ports' links that are watched the first without
-- signals.
abbrev pub master_or_port : Links → SignalNames → Option ℕ → Option Link
master_or_port links names None = port_unnamed links names
master_or_port links names (Some number) = Some (Master number)

-- of the links that are watched the first without signals, masters before ports.
abbrev pub link_unnamed : Links → SignalNames → Option Link
link_unnamed links names =
    if are_masters_watched links then master_or_port links names (first_unnamed names.masters 0)
    else port_unnamed links names

-- ---- what is judged

-- these are the links of the system, by the names that a file gives, which all links that are watched have
pub record HasLinks (asked : Asked) (file : List ℕ) (system : Description) (links : WaveLinks) : Type 0 where
  pub names : SignalNames
  pub named : names_of_file file ≡ Ok names
  pub all : link_unnamed asked.terms.links names ≡ None
  pub are : links ≡ wave_links_of system names

-- why there are no names: want of memory, the first fault on the way to them, or a link that is watched and has none
abbrev pub IsNamesFault : List ℕ → Links → CheckFault → Type 0
IsNamesFault file links fault =
    (fault ≡ check.Memory)
    ⊎ (((why : KeyFault) × (names_of_file file ≡ Err why) × (fault ≡ check.Keys why))
    ⊎ ((names : SignalNames) × (link : Link) × (names_of_file file ≡ Ok names) × (link_unnamed links names ≡ Some link)
    × (fault ≡ check.Unnamed (record { link = link }))))

-- of the rows of the dump, by these names and by each plan of the system, and there is one, this holds
pub record OfTheRows (asked : Asked) (file : List ℕ) (images : List (List ℕ)) (system : Description)
    (Holds : SystemPlan → RowsLeft → Type 0) (text : List ℕ) : Type 0 where
  pub links : WaveLinks
  pub has : HasLinks asked file system links
  pub left : RowsLeft
  pub rows : rows_in links text ≡ Ok left
  pub holds : ByThePlan asked.terms system images (λ plan. Holds plan left)

-- this is answered of the dump, and this was written
abbrev pub IsAnswered : Asked → GivenParts → Description → Option (List ℕ) → Option (List ℕ) → Result Verdict ReplayFault
    → Type 0
IsAnswered asked given system old new answer =
    IfSome given.capture (OfTheRows asked given.file given.images system
    (λ plan left. IsReplayed asked.complete asked.trace plan (buses_of asked.terms.links system) left old new answer))

-- ---- what is promised

-- there is a verdict over the dump, it is lawful or not as is answered, and what is told with it and then its line was
-- written
pub record IsDumpJudged (asked : Asked) (given : GivenParts) (old new : Option (List ℕ)) (lawful : Bool) : Type 0 where
  pub system : Description
  pub made : Makes given.parts system
  pub verdict : Verdict
  pub told : Option (List ℕ)
  pub is : IsAnswered asked given system old told (Ok verdict)
  pub answered : lawful ≡ is_lawful asked.complete verdict
  pub written : Appends told new (line_of asked.complete (system_names system) verdict)

-- this fault is answered of the rows of the dump; what is told before that was written
pub record IsDumpStopped (asked : Asked) (given : GivenParts) (old new : Option (List ℕ)) (fault : ReplayFault) : Type 0 where
  pub system : Description
  pub made : Makes given.parts system
  pub is : IsAnswered asked given system old new (Err fault)

-- there is a verdict, and what was told with it was written; of its line this
pub record IsDumpUntold (asked : Asked) (given : GivenParts) (old new : Option (List ℕ))
    (OfLine : Option (List ℕ) → List ℕ → Type 0) : Type 0 where
  pub system : Description
  pub made : Makes given.parts system
  pub verdict : Verdict
  pub told : Option (List ℕ)
  pub is : IsAnswered asked given system old told (Ok verdict)
  pub line : OfLine told (line_of asked.complete (system_names system) verdict)

-- a fault of the rows that is told so
pub record IsDumpEnded (asked : Asked) (given : GivenParts) (old new : Option (List ℕ)) (told : CheckFault) : Type 0 where
  pub fault : ReplayFault
  pub is_told : of_replay fault ≡ told
  pub stopped : IsDumpStopped asked given old new fault

-- the dump has no rows: its header is wrong, or a signal is not in it
pub record HasNoRows (asked : Asked) (given : GivenParts) (old new : Option (List ℕ)) (fault : WaveFault) : Type 0 where
  pub system : Description
  pub made : Makes given.parts system
  pub links : WaveLinks
  pub has : HasLinks asked given.file system links
  pub why : IfSome given.capture (IsUnopened links fault)
  pub written : Keeps old new

-- a link that is watched has no signals
pub record HasNoNames (asked : Asked) (given : GivenParts) (old new : Option (List ℕ)) (link : Link) : Type 0 where
  pub names : SignalNames
  pub named : names_of_file given.file ≡ Ok names
  pub missing : link_unnamed asked.terms.links names ≡ Some link
  pub written : Keeps old new

-- why there is no verdict over a dump, and what was written
abbrev pub IsDumpFaulty : Asked → GivenParts → Option (List ℕ) → Option (List ℕ) → CheckFault → Type 0
IsDumpFaulty asked given old new (check.System fault) = ⊥
IsDumpFaulty asked given old new (check.Capture fault) = IsDumpEnded asked given old new (check.Capture fault)
IsDumpFaulty asked given old new (check.Keys fault) = (names_of_file given.file ≡ Err fault) × Keeps old new
IsDumpFaulty asked given old new (check.Unnamed unnamed) = HasNoNames asked given old new unnamed.link
IsDumpFaulty asked given old new (check.Dump fault) =
    HasNoRows asked given old new fault.wave ⊎ IsDumpEnded asked given old new (check.Dump fault)
IsDumpFaulty asked given old new check.Read = Keeps old new ⊎ IsDumpEnded asked given old new check.Read
IsDumpFaulty asked given old new check.Memory =
    Keeps old new
    ⊎ (IsDumpEnded asked given old new check.Memory
    ⊎ IsDumpUntold asked given old new (λ told line. Keeps told new))
IsDumpFaulty asked given old new check.Write =
    IsDumpEnded asked given old new check.Write
    ⊎ IsDumpUntold asked given old new (λ told line. AppendsPart told new line)

-- what was given, what the writer held before and holds after, and the answer
pub record IsDumpChecked (asked : Asked) (given : GivenParts) (old new : Option (List ℕ)) (result : Result Bool CheckFault)
    : Type 0 where
  pub ok : IfOk result (IsDumpJudged asked given old new)
  pub fault : IfErr result (IsDumpFaulty asked given old new)

-- ---- a capture or a dump

-- what is known of a reader is the text that it has
abbrev pub IsText : Option (List ℕ) → Option (List ℕ) → Type 0
IsText known text = IfSome known (λ bytes. text ≡ Some bytes)

-- it is not known yet which it is: the fault is one of the system, or of a read if there is a system, or want of memory;
-- nothing was written
abbrev pub IsUnknownFault : Asked → GivenParts → CheckFault → Type 0
IsUnknownFault asked given (check.System fault) = IsSystemFault asked given fault
IsUnknownFault asked given (check.Capture fault) = ⊥
IsUnknownFault asked given (check.Keys fault) = ⊥
IsUnknownFault asked given (check.Unnamed link) = ⊥
IsUnknownFault asked given (check.Dump fault) = ⊥
IsUnknownFault asked given check.Read = (system : Description) × Makes given.parts system
IsUnknownFault asked given check.Memory = Unit {0}
IsUnknownFault asked given check.Write = ⊥

-- nothing was written before this fault
pub record IsUnread (asked : Asked) (given : GivenParts) (old new : Option (List ℕ)) (result : Result Bool CheckFault)
    : Type 0 where
  pub fault : CheckFault
  pub is : result ≡ Err fault
  pub why : IsUnknownFault asked given fault
  pub written : Keeps old new

-- what is answered of a capture, which is no dump, or of a dump, or before either is read
abbrev pub IsOutcome : Asked → GivenParts → Option (List ℕ) → Option (List ℕ) → Result Bool CheckFault → Type 0
IsOutcome asked given old new result =
    (IfSome given.capture (λ text. is_dump text ≡ false) × IsChecked asked given old new result)
    ⊎ ((IfSome given.capture (λ text. is_dump text ≡ true) × IsDumpChecked asked given old new result)
    ⊎ IsUnread asked given old new result)

-- a text grew by what the rows of the dump cover that the verdict is of, if that is asked for
pub record IsDumpCounted (asked : Asked) (given : GivenParts) (old new : List ℕ) (lawful : Bool) : Type 0 where
  pub system : Description
  pub made : Makes given.parts system
  pub verdict : Verdict
  pub answered : lawful ≡ is_lawful asked.complete verdict
  pub covered : IfSome given.capture (OfTheRows asked given.file given.images system (λ plan left.
      OfReplayed plan (buses_of asked.terms.links system) left verdict (λ crossed course. AppendsCoverage asked.coverage plan crossed course old new)))

-- what was counted of a capture, which is no dump, or of a dump.
abbrev pub IsOutcomeCounted : Asked → GivenParts → List ℕ → List ℕ → Bool → Type 0
IsOutcomeCounted asked given old new lawful =
    (IfSome given.capture (λ text. is_dump text ≡ false) × IsCounted asked given old new lawful)
    ⊎ (IfSome given.capture (λ text. is_dump text ≡ true) × IsDumpCounted asked given old new lawful)

-- What is written of a dump. This project's own.
use Rattle.std.specs.Prelude.{◌≡◌, ◌⊎◌, ℕ, ◌+◌, List, [], Option, None, Some, Result, Ok, Err, ⊤}
use Rattle.std.specs.Io.KnownBytes.{Appends}
use Rattle.check_vcd.specs.Body.{happenings, start}
use Rattle.check_vcd.specs.Header.{Cut, Opened, Opening, Refused, Var, blank, opening}
use Rattle.check_vcd.specs.Words.{Word, dump_words}
use Rattle.check_vcd.specs.declared.fault.Mistake.{Mistake}
use Rattle.check_vcd.specs.declared.fault.Mistake.TheVariants.{CutInHeader}
use Rattle.check_keys.specs.declared.fault.SystemFault.{SystemFault}
use Rattle.check_description.specs.Description.{Description, IsFirstFaultOf, Makes}
use Rattle.check_description.specs.File.{Parts}
use Rattle.check_description.specs.Name.{IsFirstPartFault, NamesParts}
use Rattle.check_description.specs.declared.read.TheConstants.{MAX_SYSTEM}
use Rattle.check_samples.specs.Left.{RowsLeft, left_of}
use Rattle.check_signals.specs.Found.{Found, find_of, found_in, sampling_of}
use Rattle.check_signals.specs.Names.{SignalNames, names_of_file}
use Rattle.check_signals.specs.Source.{SearchFault, fault_view}
use Rattle.check_signals.specs.declared.fault.KeyFault.{KeyFault}
use Rattle.tl_streams.specs.Streams.{ReadsUpTo}
use Rattle.check_waves.specs.Links.{WaveLinks, wave_links_of}
use Rattle.check_waves.specs.Out.{EndsCapture, IsOut, capture_of}
use Rattle.check_waves.specs.declared.fault.WaveFault.{WaveFault}
use Rattle.check_waves.specs.declared.fault.WaveFault.TheVariants as wave

-- why a text has no rows: its header is wrong on this line, or it is cut; or a signal of the system is not found in it
pub data NoRows : Type 0 where
  WrongHeader : ℕ → Mistake → NoRows
  CutHeader : NoRows
  NotFound : SearchFault → NoRows

-- the rows of what happens after a header, if this is looked at
abbrev pub rows_of : List Var → List Word → Found → RowsLeft
rows_of vars words found = left_of (happenings (find_of vars found) words start) (sampling_of found)

-- the rows of what happens after a header that declares these signals, if this was found; or the first signal that was
-- not found.
abbrev pub rows_found : List Var → List Word → Result Found SearchFault → Result RowsLeft NoRows
rows_found vars words (Ok found) = Ok (rows_of vars words found)
rows_found vars words (Err fault) = Err (NotFound fault)

-- what the names of all signals find
abbrev pub found_among : List Var → WaveLinks → Result Found SearchFault
found_among vars links = found_in vars links.masters links.ports links.names

-- the rows that come after this opening of a dump, or why there are none.
abbrev pub rows_after : WaveLinks → Opening → Result RowsLeft NoRows
rows_after links (Opened vars words) = rows_found vars words (found_among vars links)
rows_after links (Refused line mistake) = Err (WrongHeader line mistake)
rows_after links Cut = Err CutHeader

-- the rows of a text and what they end with, if a system has these links; or why there are none
unfoldable pub rows_in : WaveLinks → List ℕ → Result RowsLeft NoRows
rows_in links text = rows_after links (opening (dump_words text) blank)

-- ---- the system

-- the file describes this system
pub record Describes (file : List ℕ) (system : Description) : Type 0 where
  pub parts : Parts
  pub named : NamesParts file parts
  pub made : Makes parts system

-- the first fault of a file that describes no system: that on the way to its parts, or else that of its parts
abbrev pub IsFirstSystemFault : List ℕ → SystemFault → Type 0
IsFirstSystemFault file fault =
    IsFirstPartFault file fault ⊎ ((parts : Parts) × NamesParts file parts × IsFirstFaultOf parts fault)

-- the reader gave a file that describes a system and says where its signals are: all that it had, or a byte more than a
-- file may have. These are its links
pub record GivesLinks (old new : Option (List ℕ)) (links : WaveLinks) : Type 0 where
  pub file : List ℕ
  pub read : ReadsUpTo (MAX_SYSTEM + 1) old new file
  pub system : Description
  pub described : Describes file system
  pub names : SignalNames
  pub named : names_of_file file ≡ Ok names
  pub are : links ≡ wave_links_of system names

-- the fault is the first of what was read
pub record HasSystemFault (old new : Option (List ℕ)) (fault : SystemFault) : Type 0 where
  pub file : List ℕ
  pub read : ReadsUpTo (MAX_SYSTEM + 1) old new file
  pub first : IsFirstSystemFault file fault

-- what was read describes a system, and the fault is the first on the way to where its signals are
pub record HasKeyFault (old new : Option (List ℕ)) (fault : KeyFault) : Type 0 where
  pub file : List ℕ
  pub read : ReadsUpTo (MAX_SYSTEM + 1) old new file
  pub system : Description
  pub described : Describes file system
  pub first : names_of_file file ≡ Err fault

-- ---- the dump

-- the header is wrong so, or it is cut
abbrev pub IsNoHeader : WaveLinks → List ℕ → ℕ → Mistake → Type 0
IsNoHeader links text line mistake =
    (rows_in links text ≡ Err (WrongHeader line mistake))
    ⊎ ((rows_in links text ≡ Err CutHeader) × (mistake ≡ CutInHeader))

-- why there are no rows: the header is wrong; the first signal that is not found; or it is nothing of the dump's text
abbrev pub IsUnopened : WaveLinks → WaveFault → List ℕ → Type 0
IsUnopened links (wave.System fault) text = ⊥
IsUnopened links (wave.Keys fault) text = ⊥
IsUnopened links (wave.Signal fault) text = rows_in links text ≡ Err (NotFound (fault_view fault))
IsUnopened links (wave.Dump line mistake) text = IsNoHeader links text line mistake
IsUnopened links (wave.Unknown unknown) text = ⊥
IsUnopened links (wave.Edges why) text = ⊥
IsUnopened links wave.Read text = ⊤
IsUnopened links wave.Write text = ⊥
IsUnopened links wave.Memory text = ⊤

-- why no links are known: the first fault of the system, or nothing of its text
abbrev pub IsOfSystem : Option (List ℕ) → Option (List ℕ) → WaveFault → Type 0
IsOfSystem old new (wave.System fault) = HasSystemFault old new fault
IsOfSystem old new (wave.Keys fault) = HasKeyFault old new fault
IsOfSystem old new (wave.Signal fault) = ⊥
IsOfSystem old new (wave.Dump line mistake) = ⊥
IsOfSystem old new (wave.Unknown unknown) = ⊥
IsOfSystem old new (wave.Edges why) = ⊥
IsOfSystem old new wave.Read = ⊤
IsOfSystem old new wave.Write = ⊥
IsOfSystem old new wave.Memory = ⊤

-- the system has these links, and there are no rows of the dump by them
pub record IsOfDump (old new : Option (List ℕ)) (fault : WaveFault) (text : List ℕ) : Type 0 where
  pub links : WaveLinks
  pub given : GivesLinks old new links
  pub why : IsUnopened links fault text

-- ---- what is promised, of a system as it is read and of the text of a dump

-- nothing was written: the system is wrong, or else the dump is
pub record IsWaveRefused (read_old read_new : Option (List ℕ)) (fault : WaveFault) (text : List ℕ)
    (old new : Option (List ℕ)) : Type 0 where
  pub why : IsOfSystem read_old read_new fault ⊎ IsOfDump read_old read_new fault text
  pub written : Appends old new []

-- the system has these links, and the capture of the text was written, as far as was answered, and ended so
pub record IsCaptureWritten (read_old read_new : Option (List ℕ)) (result : Result Unit WaveFault) (text : List ℕ)
    (old new : Option (List ℕ)) : Type 0 where
  pub links : WaveLinks
  pub given : GivesLinks read_old read_new links
  pub left : RowsLeft
  pub has : rows_in links text ≡ Ok left
  pub mid : Option (List ℕ)
  pub answer : Result Unit WaveFault
  pub out : IsOut answer (capture_of left) old mid
  pub ends : EndsCapture mid new answer result

-- what was written of a dump by this answer: the whole capture, or what comes before the fault, if there is anything.
abbrev pub IsCapture : Option (List ℕ) → Option (List ℕ) → Result Unit WaveFault → List ℕ → Option (List ℕ)
    → Option (List ℕ) → Type 0
IsCapture read_old read_new (Ok done) text old new = IsCaptureWritten read_old read_new (Ok done) text old new
IsCapture read_old read_new (Err fault) text old new =
    IsWaveRefused read_old read_new fault text old new ⊎ IsCaptureWritten read_old read_new (Err fault) text old new

-- ---- for the proofs

-- a dump was opened, and these rows are to come
abbrev pub IsOpened : WaveLinks → Option RowsLeft → List ℕ → Type 0
IsOpened links None text = ⊥
IsOpened links (Some left) text = rows_in links text ≡ Ok left

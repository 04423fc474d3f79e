-- The names of ports and masters, which are all different, and the first fault of a file that names none. This project's own.
use Rattle.std.specs.Prelude.{◌≡◌, ◌<◌, ℕ, List, ◌++◌, take, slice_get, Option, None, Some, Ok, IsTrue, IsSomeAnd, string_bytes, MatchResult}
use Rattle.std.specs.List.{filter_map}
use Rattle.toml.specs.Data.{Members}
use Rattle.check_keys.specs.Known.{is_among}
use Rattle.check_keys.specs.declared.fault.SystemFault.{SystemFault}
use Rattle.check_keys.specs.declared.fault.SystemFault.TheVariants.{TwoCalled}
use Rattle.check_description.specs.Port.{Port}
use Rattle.check_description.specs.File.{Parts, document_of, parts_in, parts_of}
use Rattle.check_description.specs.Unknown.{IsUnknownKey, Stray, stray_in_file}
use Rattle.check_description.specs.Master.{Master}

-- the name at this place is one of those before it
abbrev pub StoodBefore : List (List ℕ) → ℕ → Type 0
StoodBefore names place = IsSomeAnd (slice_get names place) (λ name. IsTrue (is_among (take place names) name))

-- the place is the first whose name stood before
pub record IsFirstTwice (names : List (List ℕ)) (place : ℕ) : Type 0 where
  pub here : StoodBefore names place
  pub first : (other : ℕ) → other < place → StoodBefore names other → ⊥

-- no name stands twice
abbrev pub AreDistinct : List (List ℕ) → Type 0
AreDistinct names = (place : ℕ) → StoodBefore names place → ⊥

-- ---- the names of parts

-- the names of the ports, in order, and then those of the masters
abbrev pub names_of : Parts → List (List ℕ)
names_of parts =
    filter_map (λ (port : Port). port.name) parts.ports ++ filter_map (λ (master : Master). master.name) parts.masters

-- the name is the first that stood before
abbrev pub IsFirstNameTwice : List (List ℕ) → List ℕ → Type 0
IsFirstNameTwice names name = (place : ℕ) × (IsFirstTwice names place × (slice_get names place ≡ Some name))

-- two ports or masters have the name that the fault names, which is the first that stood before
abbrev pub IsNameFault : Parts → SystemFault → Type 0
IsNameFault parts (TwoCalled name) = IsFirstNameTwice (names_of parts) (string_bytes name)
IsNameFault parts fault = ⊥

-- ---- files that name parts, and those that name none

-- each key of the file's table is one that may stand there
abbrev pub HasKnownKeys : List ℕ → Type 0
HasKnownKeys file = (members : Members) → document_of file ≡ Ok members → stray_in_file members ≡ None

-- the file names these parts, no two of which have the same name, and has no unknown key
pub record NamesParts (file : List ℕ) (parts : Parts) : Type 0 where
  pub known : HasKnownKeys file
  pub are : parts_of file ≡ Ok parts
  pub distinct : AreDistinct (names_of parts)

-- the first fault of a table that names no parts: an unknown key, or else one on the way to the parts, or else a name that
-- stands twice
abbrev pub IsFaultAfter : Option Stray → Members → SystemFault → Type 0
IsFaultAfter (Some stray) _ fault = IsUnknownKey stray fault
IsFaultAfter None members fault =
    MatchResult (parts_in members) (λ parts. IsNameFault parts fault) (λ first. fault ≡ first)

-- the first fault of a file that names no parts: that it is no document, or else the first of its table
abbrev pub IsFirstPartFault : List ℕ → SystemFault → Type 0
IsFirstPartFault bytes fault =
    MatchResult (document_of bytes) (λ members. IsFaultAfter (stray_in_file members) members fault) (λ first. fault ≡ first)

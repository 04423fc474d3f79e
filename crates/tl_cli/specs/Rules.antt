-- What clap reads a command line by, and what its words give. This project's own; the types are clap's.
use Rattle.std.specs.Prelude.{◌≡◌, List, [], ◌∷◌, Bool, true, Option, Some, None, codes, if◌then◌else◌, unwrap_or}
use Rattle.std.specs.Str.{bytes_eq}
use Rattle.clap.specs.Words.{App, Row, Rule, Text, fault_of, first_of, new_app, new_rule}
use Rattle.clap.specs.declared.builder.action.ArgAction.TheVariants.{Set, SetTrue}
use Rattle.clap.specs.declared.builder.value_parser.ValueParser.TheVariants as values
use Rattle.clap.specs.declared.error.ErrorKind.{ErrorKind}

-- the program of this name, which has a version
abbrev pub program_of : Text → App
program_of name = let plain = new_app name in record plain { top = record plain.top { has_version = true } }

-- a flag, by two dashes and its name
abbrev pub flag_rule : Text → Rule
flag_rule name = record (new_rule name) { long = Some name; action = Some SetTrue; parser = Some values.Bool }

-- an option or a word that has one value
abbrev pub valued_rule : Text → Rule
valued_rule id = record (new_rule id) { action = Some Set; value_names = 1 }

-- SYSTEM, a word that there must be
abbrev pub system_rule : Rule
system_rule = record (new_rule (codes "system")) { action = Some Set; value_names = 1; required = true }

-- whether a flag with this value is set
abbrev pub flag_of : Text → Bool
flag_of word = bytes_eq word (codes "true")

-- the file that a word names, if it names one: `-` is standard input
abbrev pub file_of : Option Text → Option Text
file_of None = None
file_of (Some word) = if bytes_eq word (codes "-") then None else Some word

-- the value that an option has among the matches, by clap's reading of words: the words give it, or it is its own
abbrev pub value_of : List Row → Text → Text
value_of rows id = unwrap_or (first_of id rows) []

-- the words are refused as this by a command line
abbrev pub Refuses : ErrorKind → List Text → App → Type 0
Refuses kind words app = fault_of app words ≡ kind ∷ []

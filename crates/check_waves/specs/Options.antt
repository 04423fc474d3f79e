-- The command line of tlvcd: the words that there are, and which files they name. This project's own.
use Rattle.std.specs.Prelude.{◌≡◌, List, [], Option, codes, option_map}
use Rattle.clap.specs.Words.{App, Row, Rule, Text, fault_of, first_of, matches_of, with_rule}
use Rattle.clap.specs.declared.error.ErrorKind.{ErrorKind}
use Rattle.tl_cli.specs.Rules.{Refuses, file_of, program_of, system_rule, value_of, valued_rule}
use Rattle.check_waves.specs.declared.options.WaveOptions.{WaveOptions}

-- DUMP, a word that there may be
abbrev pub dump_rule : Rule
dump_rule = valued_rule (codes "dump")

-- the command line: SYSTEM and DUMP, and `--help` and `--version`, which clap adds
abbrev pub wave_line : App
wave_line = with_rule (with_rule (program_of (codes "tlvcd")) system_rule) dump_rule

-- the files, without where their names lie; without a name the dump comes on standard input
pub record NamedFiles : Type 0 where
  pub system : Text
  pub dump : Option Text

-- the files that were read off a command line, without where their names lie.
abbrev pub files_asked : WaveOptions → NamedFiles
files_asked options = record {
  system = options.system.now;
  dump = option_map (λ name. name.now) options.dump;
}

-- the files that clap's matches name.
abbrev pub files_from : List Row → NamedFiles
files_from rows = record {
  system = value_of rows (codes "system");
  dump = file_of (first_of (codes "dump") rows);
}

-- the files that words name, by clap's reading of words.
abbrev pub files_in : List Text → NamedFiles
files_in words = files_from (matches_of wave_line words)

-- the words are taken, and name these files
abbrev pub AskFor : NamedFiles → List Text → Type 0
AskFor files words = (fault_of wave_line words ≡ []) × (files_in words ≡ files)

-- the words are refused as this
abbrev pub AreRefusedAs : ErrorKind → List Text → Type 0
AreRefusedAs kind words = Refuses kind words wave_line

-- The command line: the options that there are, which of them the words ask for, and the status that the program ends
-- with if they ask for none. This project's own.
use Rattle.std.specs.Prelude.{◌≡◌, List, [], ◌∷◌, Some, codes, unwrap_or}
use Rattle.std.specs.Str.Parse.{digits_value, without_leading_plus}
use Rattle.tl_types.specs.declared.limits.TheConstants.{MAX_WORKERS}
use Rattle.clap.specs.Words.{App, Row, Rule, Text, fault_of, matches_of, new_rule, one_of, with_rule}
use Rattle.clap.specs.declared.builder.action.ArgAction.TheVariants.{Set}
use Rattle.clap.specs.declared.builder.value_parser.ValueParser.TheVariants as values
use Rattle.clap.specs.declared.error.ErrorKind.{ErrorKind}
use Rattle.tl_cli.specs.Rules.{Refuses, flag_of, flag_rule, program_of, value_of}
use Rattle.tl_options.specs.declared.options.Options.{Options}

-- `--workers N`, a number from 1 to the most that there may be, and 1 if it is not given
abbrev pub workers_rule : Rule
workers_rule = record (new_rule (codes "workers")) {
  long = Some (codes "workers");
  action = Some Set;
  value_names = 1;
  parser = Some (values.Unsigned 1 MAX_WORKERS);
  defaults = codes "1" ∷ [];
}

-- the command line: these three, and `--help` and `--version`, which clap adds
abbrev pub command_line : App
command_line =
    let flags = with_rule (with_rule (program_of (codes "tlx")) (flag_rule (codes "serial"))) (flag_rule (codes "history")) in
    with_rule flags workers_rule

-- the options that clap's matches of the command line ask for
abbrev pub asked_from : List Row → Options
asked_from rows = record {
  serial = flag_of (value_of rows (codes "serial"));
  history = flag_of (value_of rows (codes "history"));
  workers = digits_value 10 (without_leading_plus (unwrap_or (one_of (codes "workers") rows) []));
}

-- the options that the words ask for
abbrev pub options_in : List Text → Options
options_in words = asked_from (matches_of command_line words)

-- the words are taken, and ask for these options
abbrev pub AskFor : Options → List Text → Type 0
AskFor options words = (fault_of command_line words ≡ []) × (options_in words ≡ options)

-- the words are refused as this
abbrev pub AreRefusedAs : ErrorKind → List Text → Type 0
AreRefusedAs kind words = Refuses kind words command_line

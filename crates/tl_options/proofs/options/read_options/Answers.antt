use Rattle.std.proofs.Common.{ap, map, refl, sym, ◌∙◌}
use Rattle.std.specs.Prelude.{unwrap_or}
use Rattle.std.specs.Str.Parse.{ExplainsUnsignedError, HasUnsignedDigitsIfOk, ParsesUnsigned}
use Rattle.clap.specs.Words.{App, fault_of, is_simple_and_free}
use Rattle.tl_cli.specs.Rules.{flag_of}
use Rattle.tl_options.proofs.CommandLine.{asked_for, reads_number}
use Rattle.tl_options.proofs.options.read_options.Goals as goal

pub unwrap-requires : goal.unwrap-requires
unwrap-requires g c =
    let read = reads_number _ (λ t r. ParsesUnsigned 64 10 t r × ExplainsUnsignedError 10 t r
    × HasUnsignedDigitsIfOk t r)
    c.in_ok-command.field-0 c.in_ok-matches.matches c.get_one.result c.in_ok-command.ensures c.in_ok-matches.ensures.parsed
    c.get_one.ensures.value (λ t x gives. gives.0) in
    rw read.is refl

pub returns : goal.returns
returns g c =
    let command = c.in_ok-command.field-0 in
    let matches = c.in_ok-matches.matches in
    let is = c.in_ok-command.ensures in
    let words = map g.S.AsStr.text c.args.words.now in
    let read = reads_number _ (λ t r. ParsesUnsigned 64 10 t r × ExplainsUnsignedError 10 t r
    × HasUnsignedDigitsIfOk t r)
    command matches c.get_one.result is c.in_ok-matches.ensures.parsed c.get_one.ensures.value (λ t x gives. gives.0) in
    let number = ap (λ o. unwrap_or o 0) (sym c.unwrap.ensures ∙ read.is) in
    record {
      some = rw number read.some;
      few = rw number read.few;
      asked = asked_for command matches words c.read_flag.result c.read_flag-2.result c.get_one.result c.unwrap.result is
          c.in_ok-matches.ensures.matches (c.read_flag.ensures ∙ ap flag_of c.value.ensures)
          (c.read_flag-2.ensures ∙ ap flag_of c.value-2.ensures) read c.unwrap.ensures;
      faults = ap (λ (app : App). fault_of app (map g.S.AsStr.text c.args.words.now)) (sym is)
          ∙ c.in_ok-matches.ensures.kinds (ap is_simple_and_free is);
    }

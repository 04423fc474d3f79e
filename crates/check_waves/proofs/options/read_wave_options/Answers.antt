use Rattle.std.proofs.Common.{◌≡◌, ◌∙◌, [], Option, ap, map, refl, sym, codes}
use Rattle.std.specs.Prelude.{option_map, unwrap_or}
use Rattle.clap.specs.Words.{App, Text, app_of, fault_of, first_of, first_value, found_of, is_simple, is_simple_and_free, matches_of}
use Rattle.tl_cli.specs.Rules.{file_of, value_of}
use Rattle.tl_cli.proofs.Rules.{first_read}
use Rattle.check_waves.specs.Options.{wave_line}
use Rattle.check_waves.proofs.options.read_wave_options.Goals as goal

pub returns : goal.returns
returns g c =
    let is = c.in_ok-command.ensures in
    let matches = c.in_ok-matches.matches in
    let words = map g.S.AsStr.text c.args.words.now in
    let rows = matches_of wave_line words in
    let read : (id : Text) → first_value (found_of matches) id ≡ first_of id rows =
    λ id. first_read (app_of c.in_ok-command.field-0) matches words (ap is_simple is) c.in_ok-matches.ensures.matches id
    ∙ ap (λ (app : App). first_of id (matches_of app words)) is in
    let or_none : Option Text → Text = λ o. unwrap_or o [] in
    let system : c.value.result.now ≡ value_of rows (codes "system") =
    c.value.ensures ∙ ap or_none (read (codes "system")) in
    let dump : option_map (λ name. name.now) c.read_file.result ≡ file_of (first_of (codes "dump") rows) =
    c.read_file.ensures ∙ ap file_of (c.get_str.ensures ∙ read (codes "dump")) in
    record {
      asked = rw (system, dump) refl;
      faults = ap (λ (app : App). fault_of app words) (sym is) ∙ c.in_ok-matches.ensures.kinds (ap is_simple_and_free is);
    }

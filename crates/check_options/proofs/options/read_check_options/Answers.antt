use Rattle.std.proofs.Common.{◌≡◌, ◌∙◌, rules, ap, map, refl, codes, [], Option}
use Rattle.std.specs.Prelude.{option_map, unwrap_or}
use Rattle.clap.specs.Words.{Text, app_of, first_of, matches_of}
use Rattle.tl_cli.specs.Rules.{file_of, flag_of, value_of}
use Rattle.tl_cli.proofs.Rules.{first_read}
use Rattle.check_options.specs.Options.{limit_of, links_of, orders_of}
use Rattle.check_options.proofs.CommandLine.{is_free_line, is_simple_line, some_line}
use Rattle.check_options.proofs.options.read_check_options.Goals as goal

pub returns-in_err-command : goal.returns-in_err-command
returns-in_err-command g c =
    record { answer = record { app = _; is = some_line; faults = search rules; asked = search rules } }

pub returns-in_err-matches : goal.returns-in_err-matches
returns-in_err-matches g c =
    let line = c.in_ok-command.ensures in
    let faults = c.in_err-matches.ensures.kinds (is_free_line _ line) in
    record { answer = record { app = _; is = line; faults = search (rules, faults); asked = search rules } }

pub returns : goal.returns
returns g c =
    let command = c.in_ok-command.field-0 in
    let line = c.in_ok-command.ensures in
    let words = map g.S.AsStr.text c.args.words.now in
    let read = first_read (app_of command) c.in_ok-matches.matches words (is_simple_line _ line) c.in_ok-matches.ensures.matches in
    let rows = matches_of (app_of command) words in
    let or_none : Option Text → Text = λ o. unwrap_or o [] in
    let links : c.read_links.result ≡ links_of (value_of rows (codes "links")) =
    c.read_links.ensures ∙ ap links_of (c.value.ensures ∙ ap or_none (read (codes "links"))) in
    let orders : c.read_orders.result ≡ orders_of (value_of rows (codes "order")) =
    c.read_orders.ensures ∙ ap orders_of (c.value-2.ensures ∙ ap or_none (read (codes "order"))) in
    let within : c.read_limit.result ≡ limit_of (first_of (codes "within") rows) =
    c.read_limit.ensures ∙ ap limit_of (c.get_str.ensures ∙ read (codes "within")) in
    let trace : c.read_flag.result ≡ flag_of (value_of rows (codes "trace")) =
    c.read_flag.ensures ∙ ap flag_of (c.value-3.ensures ∙ ap or_none (read (codes "trace"))) in
    let complete : c.read_flag-2.result ≡ flag_of (value_of rows (codes "complete")) =
    c.read_flag-2.ensures ∙ ap flag_of (c.value-4.ensures ∙ ap or_none (read (codes "complete"))) in
    let quiet : c.read_flag-3.result ≡ flag_of (value_of rows (codes "quiet")) =
    c.read_flag-3.ensures ∙ ap flag_of (c.value-5.ensures ∙ ap or_none (read (codes "quiet"))) in
    let coverage : option_map (λ name. name.now) c.get_str-2.result ≡ first_of (codes "coverage") rows =
    c.get_str-2.ensures ∙ read (codes "coverage") in
    let system : c.value-6.result.now ≡ value_of rows (codes "system") =
    c.value-6.ensures ∙ ap or_none (read (codes "system")) in
    let capture : option_map (λ name. name.now) c.read_file.result
    ≡ file_of (first_of (codes "capture") rows) =
    c.read_file.ensures ∙ ap file_of (c.get_str-3.ensures ∙ read (codes "capture")) in
    record {
      answer = record {
        app = app_of command;
        is = line;
        faults = c.in_ok-matches.ensures.kinds (is_free_line _ line);
        asked = rw (links, orders, within, trace, complete, quiet, coverage, system, capture) refl;
      };
    }

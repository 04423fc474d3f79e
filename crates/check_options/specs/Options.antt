-- The command line of tlcheck: the options and words that there are, what the words ask for, and the status that the
-- program ends with if they ask for nothing. This project's own.
use Rattle.std.specs.Prelude.{◌≡◌, ℕ, ◌==◌, List, [], ◌∷◌, Bool, false, Option, Some, None, Result, IfOk, codes, map, option_and_then, option_map, if◌then◌else◌}
use Rattle.std.specs.Borrow.{Bor}
use Rattle.std.specs.Str.{bytes_eq}
use Rattle.clap.specs.Words.{App, FailsBy, Row, Rule, Text, fault_of, first_of, matches_of, new_rule, with_rule}
use Rattle.clap.specs.declared.builder.action.ArgAction.TheVariants.{Set}
use Rattle.clap.specs.declared.builder.value_parser.ValueParser.TheVariants as values
use Rattle.clap.specs.declared.error.Error.{Error}
use Rattle.clap.specs.declared.error.ErrorKind.{ErrorKind}
use Rattle.tl_text.specs.Number.{digits_of}
use Rattle.tl_cli.specs.Rules.{Refuses, file_of, flag_of, flag_rule, program_of, system_rule, value_of, valued_rule}
use Rattle.check_watch.specs.declared.links.Links.{Links}
use Rattle.check_watch.specs.declared.links.Links.TheVariants.{Both, Masters, Ports, Each}
use Rattle.check_flight.specs.declared.order.SideOrders.{SideOrders}
use Rattle.check_flight.specs.Order.{on_both}
use Rattle.check_flight.specs.declared.order.Order.TheVariants.{Accept, Reply, Any}
use Rattle.check_options.specs.declared.options.CheckOptions.{CheckOptions}
use Rattle.check_options.specs.declared.options.TheConstants.{MAX_LIMIT}

-- ---- the command line

-- a list of words, which lies somewhere in memory
abbrev pub WordSlice : Type 0
WordSlice = Bor (List (Bor Text))

-- the texts of such a list.
abbrev pub texts_of : WordSlice → List Text
texts_of names = map (λ name. name.now) names.now

-- the words of `--links`
abbrev pub links_words : List Text
links_words = codes "both" ∷ codes "masters" ∷ codes "ports" ∷ codes "each" ∷ []

-- the words of `--order`, with the orders that they name: one that stands on both sides; or that of the masters' links, and
-- behind a slash that of the ports'
abbrev pub order_table : List (Text × SideOrders)
order_table =
    (codes "accept", on_both Accept) ∷ (codes "reply", on_both Reply) ∷ (codes "any", on_both Any)
    ∷ (codes "accept/accept", on_both Accept)
    ∷ (codes "accept/reply", record { masters = Accept; ports = Reply })
    ∷ (codes "accept/any", record { masters = Accept; ports = Any })
    ∷ (codes "reply/accept", record { masters = Reply; ports = Accept })
    ∷ (codes "reply/reply", on_both Reply)
    ∷ (codes "reply/any", record { masters = Reply; ports = Any })
    ∷ (codes "any/accept", record { masters = Any; ports = Accept })
    ∷ (codes "any/reply", record { masters = Any; ports = Reply })
    ∷ (codes "any/any", on_both Any) ∷ []

-- the words of `--order`, which stand in the first column of that table.
abbrev pub order_words : List Text
order_words = map (λ (row : Text × SideOrders). row.0) order_table

-- `--links`, one of its words, and `both` if it is not given
abbrev pub links_rule : WordSlice → Rule
links_rule names = record (new_rule (codes "links")) {
  long = Some (codes "links");
  action = Some Set;
  value_names = 1;
  parser = Some (values.Names names);
  defaults = codes "both" ∷ [];
}

-- `--order`, one of its words, and `accept` if it is not given
abbrev pub order_rule : WordSlice → Rule
order_rule names = record (new_rule (codes "order")) {
  long = Some (codes "order");
  action = Some Set;
  value_names = 1;
  parser = Some (values.Names names);
  defaults = codes "accept" ∷ [];
}

-- `--within`, with a number from 1 to 2^63 - 1
abbrev pub within_rule : Rule
within_rule = record (new_rule (codes "within")) {
  long = Some (codes "within");
  action = Some Set;
  value_names = 1;
  parser = Some (values.Unsigned 1 MAX_LIMIT);
}

-- `--coverage`, with the name of a file
abbrev pub coverage_rule : Rule
coverage_rule = record (new_rule (codes "coverage")) {
  long = Some (codes "coverage");
  action = Some Set;
  value_names = 1;
}

-- CAPTURE, a word that there may be
abbrev pub capture_rule : Rule
capture_rule = valued_rule (codes "capture")

-- one flag more
abbrev pub with_flag : App → Text → App
with_flag app name = with_rule app (flag_rule name)

-- the two options that have one of a list of words, and the one that has a number, added to a command line.
abbrev pub with_choices : App → WordSlice → WordSlice → App
with_choices app links orders = with_rule (with_rule (with_rule app (links_rule links)) (order_rule orders)) within_rule

-- the three flags, added to a command line.
abbrev pub with_flags : App → App
with_flags app = with_flag (with_flag (with_flag app (codes "trace")) (codes "complete")) (codes "quiet")

-- the option and the two words that name a file, added to a command line.
abbrev pub with_files : App → App
with_files app = with_rule (with_rule (with_rule app coverage_rule) system_rule) capture_rule

-- these nine, and `--help` and `--version`, which clap adds
abbrev pub with_rules : WordSlice → WordSlice → App
with_rules links orders = with_files (with_flags (with_choices (program_of (codes "tlcheck")) links orders))

-- the rule is that of `--links`, wherever its list of words lies.
pub record IsLinksRule (rule : Rule) : Type 0 where
  pub names : WordSlice
  pub listed : texts_of names ≡ links_words
  pub is : rule ≡ links_rule names

-- the rule is that of `--order`, wherever its list of words lies.
pub record IsOrderRule (rule : Rule) : Type 0 where
  pub names : WordSlice
  pub listed : texts_of names ≡ order_words
  pub is : rule ≡ order_rule names

-- the command line, wherever its two lists of words lie
pub record IsCommandLine (app : App) : Type 0 where
  pub links : WordSlice
  pub orders : WordSlice
  pub links_listed : texts_of links ≡ links_words
  pub orders_listed : texts_of orders ≡ order_words
  pub is : app ≡ with_rules links orders

-- ---- what the words ask for

-- the options, without where their texts lie
pub record AskedOptions : Type 0 where
  pub links : Links
  pub orders : SideOrders
  pub within : Option ℕ
  pub trace : Bool
  pub complete : Bool
  pub quiet : Bool
  pub coverage : Option Text
  pub system : Text
  pub capture : Option Text

-- the options that were read, without where their texts lie.
abbrev pub options_asked : CheckOptions → AskedOptions
options_asked options = record {
  links = options.links;
  orders = options.orders;
  within = options.within;
  trace = options.trace;
  complete = options.complete;
  quiet = options.quiet;
  coverage = option_map (λ name. name.now) options.coverage;
  system = options.system.now;
  capture = option_map (λ name. name.now) options.capture;
}

-- the links that a word of `--links` names; both sides if it is another word.
abbrev pub links_of : Text → Links
links_of word =
    if bytes_eq word (codes "masters") then Masters
    else (if bytes_eq word (codes "ports") then Ports else (if bytes_eq word (codes "each") then Each else Both))

-- the orders that a word names in the rows of such a table; `accept` on both sides if no row has the word.
abbrev pub orders_among : List (Text × SideOrders) → Text → SideOrders
orders_among [] word = on_both Accept
orders_among (row ∷ rows) word = if bytes_eq word row.0 then row.1 else orders_among rows word

-- the orders that a word of `--order` names.
abbrev pub orders_of : Text → SideOrders
orders_of word = orders_among order_table word

-- a number without a plus before it
abbrev pub without_plus : Text → Text
without_plus [] = []
without_plus (byte ∷ word) = if byte == 43 then word else byte ∷ word

-- the limit of time that a word gives, if there is one: the decimal number that it spells
abbrev pub limit_of : Option Text → Option ℕ
limit_of None = None
limit_of (Some word) = option_and_then (λ number. number) (digits_of 10 (without_plus word))

-- the options that matches of clap ask for.
abbrev pub asked_from : List Row → AskedOptions
asked_from rows = record {
  links = links_of (value_of rows (codes "links"));
  orders = orders_of (value_of rows (codes "order"));
  within = limit_of (first_of (codes "within") rows);
  trace = flag_of (value_of rows (codes "trace"));
  complete = flag_of (value_of rows (codes "complete"));
  quiet = flag_of (value_of rows (codes "quiet"));
  coverage = first_of (codes "coverage") rows;
  system = value_of rows (codes "system");
  capture = file_of (first_of (codes "capture") rows);
}

-- the options that words ask for, by clap's reading of words.
abbrev pub asked_in : App → List Text → AskedOptions
asked_in app words = asked_from (matches_of app words)

-- the words are taken or refused as the command line says, and if they are taken the options are those that they
-- ask for
pub record AnswersCommandLine (words : List Text) (result : Result CheckOptions Error) : Type 0 where
  pub app : App
  pub is : IsCommandLine app
  pub faults : FailsBy (fault_of app words) result
  pub asked : IfOk result (λ options. options_asked options ≡ asked_in app words)

-- the words are taken, and ask for these options
abbrev pub Asks : AskedOptions → List Text → App → Type 0
Asks asked words app = (fault_of app words ≡ []) × (asked_in app words ≡ asked)

-- what a line asks for that names SYSTEM alone
abbrev pub plain : AskedOptions
plain = record {
  links = Both;
  orders = on_both Accept;
  within = None;
  trace = false;
  complete = false;
  quiet = false;
  coverage = None;
  system = codes "s.toml";
  capture = None;
}

-- the words are taken and ask for these options, wherever the lists of words lie.
abbrev pub AskFor : AskedOptions → List Text → Type 0
AskFor asked words = (app : App) → IsCommandLine app → Asks asked words app

-- the words are refused as this
abbrev pub AreRefusedAs : ErrorKind → List Text → Type 0
AreRefusedAs kind words = (app : App) → IsCommandLine app → Refuses kind words app

-- The header of a dump: the signals that it declares. IEEE 1364, "Value change dump files"; how names are joined is this
-- project's own.
use Rattle.std.specs.Prelude.{◌≡◌, ℕ, ◌-◌, ◌==◌, nat_lt, Bool, true, false, List, [], ◌∷◌, ◌++◌, length, map, take, codes, Option, None, Some, Result, Ok, Err, if◌then◌else◌}
use Rattle.std.specs.Str.{bytes_eq}
use Rattle.tl_text.specs.Number.{number_of}
use Rattle.check_vcd.specs.Range.{has_bits, split_range}
use Rattle.check_vcd.specs.Token.{is_end}
use Rattle.check_vcd.specs.Words.{Word}
use Rattle.check_vcd.specs.declared.fault.Mistake.{Mistake}
use Rattle.check_vcd.specs.declared.fault.Mistake.TheVariants.{NotADump}
use Rattle.check_vcd.specs.declared.fault.WordFault.{WordFault}
use Rattle.check_vcd.specs.declared.fault.WordFault.TheVariants as word
use Rattle.check_vcd.specs.declared.header.Command.{Command}
use Rattle.check_vcd.specs.declared.header.Command.TheVariants as command
use Rattle.check_vcd.specs.declared.header.Header as code_header
use Rattle.check_vcd.specs.declared.header.TheConstants.{MAX_ARGS, WIDTH_DIGITS}
use Rattle.check_vcd.specs.declared.header.Var as code_var
use Rattle.check_vcd.specs.declared.range.Span.{Span}

-- a signal: its hierarchical name, its identifier, how many bits it has, and their indices if they are given
pub record Var : Type 0 where
  pub name : List ℕ
  pub code : List ℕ
  pub width : ℕ
  pub span : Option Span

-- ---- names

-- a name within scopes, the outermost first
abbrev pub path : List (List ℕ) → List ℕ → List ℕ
path [] name = name
path (scope ∷ scopes) name = scope ++ (46 ∷ path scopes name)

-- words as one
abbrev pub joined : List (List ℕ) → List ℕ
joined [] = []
joined (word ∷ words) = word ++ joined words

-- a name, without the range of its bits where it ends in one that has so many
abbrev pub named_by : ℕ → List ℕ → Option (List ℕ × Span) → List ℕ × Option Span
named_by width name None = (name, None)
named_by width name (Some parts) = if has_bits parts.1 width then (parts.0, Some parts.1) else (name, None)

-- the name of a signal of so many bits, without the range at its end if that has as many bits, and that range.
abbrev pub named : ℕ → List ℕ → List ℕ × Option Span
named width name = named_by width name (split_range name)

-- ---- one word

-- a header so far: the scopes that are open, the command at hand with its first words, the signals
pub record Header : Type 0 where
  pub scopes : List (List ℕ)
  pub command : Option Command
  pub args : List (List ℕ)
  pub vars : List Var

-- a header before its first word.
abbrev pub blank : Header
blank = record { scopes = []; command = None; args = []; vars = [] }

-- what a word does: it leads on, it ends the header, or it is wrong
pub data Step : Type 0 where
  Goes : Header → Step
  Ends : Header → Step
  Fails : Mistake → Step

-- the command that a word names
abbrev pub command_of : List ℕ → Command
command_of word =
    if bytes_eq word (codes "$scope") then command.Scope
    else if bytes_eq word (codes "$upscope") then command.Upscope
    else if bytes_eq word (codes "$var") then command.Var
    else if bytes_eq word (codes "$enddefinitions") then command.EndDefinitions
    else command.Other

-- `$scope KIND NAME`: a scope is opened within the others
abbrev pub scope_by : Header → List (List ℕ) → Step
scope_by header (kind ∷ name ∷ more) = Goes (record header { scopes = header.scopes ++ (name ∷ []) })
scope_by header args = Fails NotADump

-- what the end of a `$scope` command does.
abbrev pub scoped : Header → Step
scoped header = scope_by header header.args

-- `$upscope`: the scope that was opened last is closed
abbrev pub unscoped : Header → Step
unscoped header =
    if length header.scopes == 0 then Fails NotADump
    else Goes (record header { scopes = take (length header.scopes - 1) header.scopes })

-- the signal of this name, identifier and width, in these scopes
abbrev pub var_of : List (List ℕ) → List ℕ × Option Span → List ℕ → ℕ → Var
var_of scopes name code width = record {
  name = path scopes name.0;
  code = code;
  width = width;
  span = name.1;
}

-- a signal with this identifier, these words as its name and this width is declared; a word that is no width is a
-- mistake.
abbrev pub declare_as : Header → List ℕ → List (List ℕ) → Option ℕ → Step
declare_as header code words None = Fails NotADump
declare_as header code words (Some width) =
    Goes (record header {
      vars = header.vars ++ (var_of header.scopes (named width (joined words)) code width ∷ []);
    })

-- `$var KIND WIDTH IDENTIFIER NAME [RANGE]`: a signal is declared by these words.
abbrev pub declare_by : Header → List (List ℕ) → Step
declare_by header (kind ∷ width ∷ code ∷ words) = declare_as header code words (number_of 10 WIDTH_DIGITS width)
declare_by header args = Fails NotADump

-- what the end of a `$var` command does.
abbrev pub declared : Header → Step
declared header = declare_by header header.args

-- a command is done after its end
abbrev pub obeyed : Command → Header → Step
obeyed command.Scope header = scoped header
obeyed command.Upscope header = unscoped header
obeyed command.Var header = declared header
obeyed command.EndDefinitions header = Ends header
obeyed command.Other header = Goes header

-- a word that begins a command: its first byte is a dollar
abbrev pub began : Header → List ℕ → Step
began header [] = Fails NotADump
began header (first ∷ rest) =
    if first == 36 then Goes (record header { command = Some (command_of (first ∷ rest)); args = [] })
    else Fails NotADump

-- a word of the command at hand
abbrev pub went_on : Command → Header → List ℕ → Step
went_on command header word =
    if is_end word then obeyed command (record header { command = None })
    else if nat_lt (length header.args) MAX_ARGS then Goes (record header { args = header.args ++ (word ∷ []) })
    else Goes header

-- what a word does: it begins a command, or it is one of the command at hand.
abbrev pub step_by : Option Command → Header → List ℕ → Step
step_by None header word = began header word
step_by (Some command) header word = went_on command header word

-- what a word does, after what was read of the header.
abbrev pub step_of : Header → List ℕ → Step
step_of header word = step_by header.command header word

-- ---- all words

-- a header was read, with the words after it; a word on this line is wrong; or the words end before it does
pub data Opening : Type 0 where
  Opened : List Var → List Word → Opening
  Refused : ℕ → Mistake → Opening
  Cut : Opening

-- what the words of a dump open, by what the first of them does.
abbrev pub words_behind : Step → Word → List Word → (Header → Opening) → Opening
words_behind (Goes header) word words others = others header
words_behind (Ends header) word words others = Opened header.vars words
words_behind (Fails mistake) word words others = Refused word.line mistake

-- what the words of a dump open, after what was read of the header: the signals and the words after them, the first wrong
-- word with its line, or that the header is cut.
unfoldable pub opening : List Word → Header → Opening
opening [] header = Cut
opening (word ∷ words) header = words_behind (step_of header word.bytes) word words (opening words)

-- ---- what calls answer

-- what contracts see of a signal.
abbrev pub var_view : code_var.Var → Var
var_view var = record { name = var.name.items; code = var.code.items; width = var.width; span = var.span }

-- what contracts see of a header so far.
abbrev pub header_of : code_header.Header → Header
header_of header = record {
  scopes = map (λ scope. scope.items) header.scopes.items;
  command = header.command;
  args = map (λ arg. arg.items) header.args.items;
  vars = map var_view header.vars.items;
}

-- a word ends the header, or leads on.
abbrev pub led : Bool → Header → Step
led true header = Ends header
led false header = Goes header

-- the word did this, unless memory ran out
abbrev pub Leads : Result Bool WordFault → Step → code_header.Header → Type 0
Leads (Ok ends) step header = step ≡ led ends (header_of header)
Leads (Err (word.Wrong mistake)) step header = step ≡ Fails mistake
Leads (Err word.Memory) step header = Unit {0}

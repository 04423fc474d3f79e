-- The columns of a row that are no numbers. This project's own.
use Rattle.std.specs.Prelude.{ℕ, Bool, true, false, ◌&&◌, ◌==◌, nat_lt, List, [], ◌∷◌, codes, length, Option, Some, None, Result, Ok, Err, if◌then◌else◌}
use Rattle.std.specs.List.{list_all}
use Rattle.std.specs.Str.{bytes_eq}
use Rattle.std.specs.Str.Parse.{digits_value}
use Rattle.tl_text.specs.Number.{are_digits}
use Rattle.check_beats.specs.declared.bus.Bus.{Bus}
use Rattle.check_watch.specs.declared.beat.Link.{Link}
use Rattle.check_watch.specs.declared.beat.Link.TheVariants.{Master, Port}
use Rattle.tl_text.specs.Reading.{◌>>=◌}
use Rattle.check_rows.specs.declared.columns.RowChannel.{RowChannel}
use Rattle.check_rows.specs.declared.columns.RowChannel.TheVariants as channel
use Rattle.check_rows.specs.declared.fault.RowFault.{RowFault}
use Rattle.check_rows.specs.declared.fault.RowFault.TheVariants as fault

-- the number of a link among `count`
unfoldable pub index_of : ℕ → List ℕ → Result ℕ RowFault
index_of count digits =
    if are_digits 10 digits && nat_lt (digits_value 10 digits) count then Ok
    (digits_value 10 digits) else Err fault.Link

-- the link that a word names: `m` or `p` and a number that has a bus in the list of the masters or of the ports
unfoldable pub link_of : List Bus → List Bus → List ℕ → Result Link RowFault
link_of masters ports [] = Err fault.Link
link_of masters ports (side ∷ digits) =
    if side == 109 then index_of (length masters) digits >>= (λ n. Ok (Master n))
    else if side == 112 then index_of (length ports) digits >>= (λ n. Ok (Port n))
    else Err fault.Link

-- what a row is of: the link that its word names; or no link but the whole system, which is reset, if the word is `reset`
-- and the capture may have such rows
abbrev pub or_reset : Bool → List ℕ → Result Link RowFault → Result (Option Link) RowFault
or_reset resets word (Ok link) = Ok (Some link)
or_reset resets word (Err why) = if resets && bytes_eq word (codes "reset") then Ok None else Err why

-- the channel that a word names
unfoldable pub channel_of : List ℕ → Result RowChannel RowFault
channel_of word =
    if bytes_eq word (codes "A") then Ok channel.A
    else if bytes_eq word (codes "D") then Ok channel.D
    else Err fault.Channel

-- a flag: `0` or `1`
unfoldable pub flag_of : List ℕ → Result Bool RowFault
flag_of word =
    if bytes_eq word (codes "0") then Ok false
    else if bytes_eq word (codes "1") then Ok true
    else Err fault.Number

-- a flag, or this one if the column is empty
unfoldable pub flag_or : Bool → List ℕ → Result Bool RowFault
flag_or absent word = if length word == 0 then Ok absent else flag_of word

-- a column that the channel does not have is empty
unfoldable pub nothing_of : List ℕ → Result Unit RowFault
nothing_of word = if length word == 0 then Ok tt else Err fault.Number

-- nothing stands in any of these columns
abbrev pub are_empty : List (List ℕ) → Bool
are_empty words = list_all (λ word. length word == 0) words

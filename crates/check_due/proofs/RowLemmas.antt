-- A line spells its row, if each of its words spells what stands in the row.
use Rattle.std.proofs.Common.{◌≡◌, ◌∙◌, ℕ, ◌-◌, ◌^◌, ◌<◌, Bool, false, true, List, [], ◌∷◌, length, Ok, arith, ap}
use Rattle.std.specs.Fmt.{decimal, digits}
use Rattle.check_beats.specs.declared.bus.Bus.{Bus}
use Rattle.check_watch.specs.declared.beat.Link.{Link}
use Rattle.check_rows.specs.Buses.{IsLinkOf, bus_of_link}
use Rattle.check_rows.specs.Column.{column_parts}
use Rattle.check_rows.specs.Number.{decimal_of}
use Rattle.check_rows.specs.Row.{SeenBeat, ask_of_words, reply_of_words, row_of}
use Rattle.check_rows.specs.declared.columns.RowChannel.TheVariants as channel
use Rattle.check_samples.specs.Resets.{reset_line}
use Rattle.check_samples.specs.Row.{ask_line, hex_text, link_text, mark_text, reply_line}
use Rattle.check_samples.specs.declared.row.AskCells.{AskCells}
use Rattle.check_samples.specs.declared.row.ReplyCells.{ReplyCells}
use Rattle.check_samples.proofs.Plain.{word-bits, word-decimal, word-digits, word-link, word-mark}
use Rattle.check_due.specs.Rows.{ask_words, reply_words, reset_on_line, reset_words, row_on_line}
use Rattle.check_due.proofs.ColumnLemmas.{ask-words, channel-a, channel-d, link-read, reply-words, reset-spelled, reset-words, row-spelled}
use Rattle.check_due.proofs.Numbers.{decimal-read}
use Rattle.check_due.proofs.Words.{AreWords, parts-joined}

-- a link of such a system, and a time that there is
pub record Stands (masters ports : List Bus) (time : ℕ) (link : Link) : Type 0 where
  pub few_masters : length masters < 2 ^ 64
  pub few_ports : length ports < 2 ^ 64
  pub in_time : time < 2 ^ 64
  pub has_link : IsLinkOf masters ports link

-- ---- the words of a line

pub are-ask-words : (time : ℕ) (link : Link) (cells : AskCells) (mask lanes : List ℕ)
    → AreWords (decimal time ∷ ask_words link cells mask lanes)
are-ask-words time link cells mask lanes = (
  word-decimal time,
  (
    word-link link,
    (
      (omega arith, tt),
      (
        word-decimal cells.opcode,
        (
          word-decimal cells.param,
          (
            word-decimal cells.size,
            (
              word-decimal cells.source,
              (
                word-digits 16 cells.address,
                (word-bits mask, (word-bits lanes, (tt, (word-mark cells.corrupt, tt)))),
              ),
            ),
          ),
        ),
      ),
    ),
  ),
)

pub are-reply-words : (time : ℕ) (link : Link) (cells : ReplyCells) (lanes : List ℕ)
    → AreWords (decimal time ∷ reply_words link cells lanes)
are-reply-words time link cells lanes = (
  word-decimal time,
  (
    word-link link,
    (
      (omega arith, tt),
      (
        word-decimal cells.opcode,
        (
          word-mark cells.param,
          (
            word-decimal cells.size,
            (
              word-decimal cells.source,
              (tt, (tt, (word-bits lanes, (word-decimal cells.denied, (word-mark cells.corrupt, tt))))),
            ),
          ),
        ),
      ),
    ),
  ),
)

pub are-reset-words : (time : ℕ) → AreWords (decimal time ∷ reset_words)
are-reset-words time = (
  word-decimal time,
  (
    (omega arith, (omega arith, (omega arith, (omega arith, (omega arith, tt))))),
    (tt, (tt, (tt, (tt, (tt, (tt, (tt, (tt, (tt, (tt, tt)))))))))),
  ),
)

-- ---- the row of a line

time-read : (time : ℕ) → time < 2 ^ 64 → decimal_of (2 ^ 64 - 1) (decimal time) ≡ Ok time
time-read time small = decimal-read (2 ^ 64 - 1) time small (omega (arith, small))

pub ask-row : (resets : Bool) (masters ports : List Bus) (line time : ℕ) (link : Link) (cells : AskCells)
    (mask lanes : List ℕ) (seen : SeenBeat) → Stands masters ports time link
    → ask_of_words (bus_of_link masters ports link) (decimal time ∷ ask_words link cells mask lanes) ≡ Ok seen
    → row_of resets masters ports line (column_parts (ask_line time link cells mask lanes)) ≡ Ok (row_on_line line time link seen)
ask-row resets masters ports line time link cells mask lanes seen at is =
    let words = ask_words link cells mask lanes in
    ap (λ (text : List ℕ). row_of resets masters ports line (column_parts text)) (ask-words time link cells mask lanes)
    ∙ ap (row_of resets masters ports line)
    (parts-joined (decimal time) words (are-ask-words time link cells mask lanes))
    ∙ row-spelled resets masters ports line time link channel.A seen (decimal time) (link_text link) (65 ∷ [])
    (decimal cells.opcode) (decimal cells.param) (decimal cells.size) (decimal cells.source)
    (digits 16 false cells.address) (hex_text mask) (hex_text lanes) [] (mark_text cells.corrupt)
    (time-read time at.in_time) (link-read masters ports link at.few_masters at.few_ports at.has_link) channel-a is

pub reply-row : (resets : Bool) (masters ports : List Bus) (line time : ℕ) (link : Link) (cells : ReplyCells)
    (lanes : List ℕ) (seen : SeenBeat) → Stands masters ports time link
    → reply_of_words (bus_of_link masters ports link) (decimal time ∷ reply_words link cells lanes) ≡ Ok seen
    → row_of resets masters ports line (column_parts (reply_line time link cells lanes)) ≡ Ok (row_on_line line time link seen)
reply-row resets masters ports line time link cells lanes seen at is =
    let words = reply_words link cells lanes in
    ap (λ (text : List ℕ). row_of resets masters ports line (column_parts text)) (reply-words time link cells lanes)
    ∙ ap (row_of resets masters ports line) (parts-joined (decimal time) words (are-reply-words time link cells lanes))
    ∙ row-spelled resets masters ports line time link channel.D seen (decimal time) (link_text link) (68 ∷ [])
    (decimal cells.opcode) (mark_text cells.param) (decimal cells.size) (decimal cells.source) [] [] (hex_text lanes)
    (decimal cells.denied) (mark_text cells.corrupt) (time-read time at.in_time)
    (link-read masters ports link at.few_masters at.few_ports at.has_link) channel-d is

pub reset-row : (masters ports : List Bus) (line time : ℕ) → time < 2 ^ 64
    → row_of true masters ports line (column_parts (reset_line time)) ≡ Ok (reset_on_line line time)
reset-row masters ports line time small =
    ap (λ (text : List ℕ). row_of true masters ports line (column_parts text)) (reset-words time)
    ∙ ap (row_of true masters ports line) (parts-joined (decimal time) reset_words (are-reset-words time))
    ∙ reset-spelled masters ports line time (decimal time) (time-read time small)

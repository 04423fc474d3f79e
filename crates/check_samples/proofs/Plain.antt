-- The words of a row have no comma, and its line has no line end.
use Rattle.std.proofs.Common.{ℕ, zero, suc, ◌/◌, ◌%◌, ◌<◌, ◌≤◌, ◌==◌, Bool, true, false, cond, List, [], ◌∷◌, ◌++◌, codes, length, map, take, drop, Option, Some, None, arith}
use Rattle.std.specs.Prelude.{⊤, All}
use Rattle.std.proofs.lemmas.Bool.Decides.{nat_tests}
use Rattle.std.proofs.lemmas.List.Elements.{All-cons, All-nil}
use Rattle.std.specs.Fmt.{decimal, digit_glyph, digits, digits_onto}
use Rattle.tl_text.specs.Number.{number_of}
use Rattle.check_watch.specs.declared.beat.Link.{Link}
use Rattle.check_watch.specs.declared.beat.Link.TheVariants.{Master, Port}
use Rattle.check_samples.specs.Due.{IsPlain, bits_at, kept_line}
use Rattle.check_samples.specs.Resets.{reset_line}
use Rattle.check_samples.specs.Row.{ask_flags, ask_lanes, ask_line, ask_numbers, digit_by, digit_of, head_text, hex_text, hexes, link_text, mark_text, reply_lanes, reply_line, reply_numbers}
use Rattle.check_samples.specs.declared.due.KeptRow.{KeptRow}
use Rattle.check_samples.specs.declared.due.KeptRow.TheVariants as kept
use Rattle.check_samples.specs.declared.row.AskCells.{AskCells}
use Rattle.check_samples.specs.declared.row.ReplyCells.{ReplyCells}

-- a word without commas, each of whose bytes is after that of a comma
abbrev pub IsWord : List ℕ → Type 0
IsWord [] = ⊤
IsWord (byte ∷ word) = (44 < byte) × IsWord word

-- ---- words of digits

glyph-above : (d : ℕ) → 44 < digit_glyph false d
glyph-above d = grind (arith, nat_tests)

word-onto : (k base n : ℕ) (word : List ℕ) → IsWord word → IsWord (digits_onto k base false n word)
word-onto zero base n word is = is
word-onto (suc k) base n word is =
    go (n / base == 0) (word-onto k base (n / base) (digit_glyph false (n % base) ∷ word) (glyph-above (n % base), is))
  where
    go : (last : Bool) → IsWord (digits_onto k base false (n / base) (digit_glyph false (n % base) ∷ word))
        → IsWord (cond last (digit_glyph false (n % base) ∷ word)
        (digits_onto k base false (n / base) (digit_glyph false (n % base) ∷ word)))
    go true more = (glyph-above (n % base), is)
    go false more = more

pub word-digits : (base n : ℕ) → IsWord (digits base false n)
unfolding digits
word-digits base n = word-onto 64 base n [] tt

pub word-decimal : (n : ℕ) → IsWord (decimal n)
word-decimal n = word-digits 10 n

pub word-mark : (mark : Option ℕ) → IsWord (mark_text mark)
word-mark None = tt
word-mark (Some n) = word-decimal n

pub word-link : (link : Link) → IsWord (link_text link)
word-link (Master number) = (omega arith, word-decimal number)
word-link (Port number) = (omega arith, word-decimal number)

-- ---- words of bits

digit-above : (number : Option ℕ) → 44 < digit_by number
digit-above None = omega arith
digit-above (Some n) = glyph-above (n % 16)

word-hexes : (bits : List ℕ) → IsWord (hexes bits)
word-hexes [] = tt
word-hexes (a ∷ []) = tt
word-hexes (a ∷ b ∷ []) = tt
word-hexes (a ∷ b ∷ c ∷ []) = tt
word-hexes (a ∷ b ∷ c ∷ d ∷ bits) = (digit-above (number_of 2 4 (a ∷ b ∷ c ∷ d ∷ [])), word-hexes bits)

pub word-bits : (bits : List ℕ) → IsWord (hex_text bits)
word-bits bits =
    go (length bits % 4 == 0) (hexes bits) (digit_of (take (length bits % 4) bits))
    (hexes (drop (length bits % 4) bits)) (word-hexes bits)
    (digit-above (number_of 2 4 (take (length bits % 4) bits))) (word-hexes (drop (length bits % 4) bits))
  where
    go : (whole : Bool) (all : List ℕ) (first : ℕ) (rest : List ℕ) → IsWord all → 44 < first → IsWord rest
        → IsWord (cond whole all (first ∷ rest))
    go true all first rest is above more = is
    go false all first rest is above more = (above, more)

-- ---- lines

pub plain-word : (word : List ℕ) → IsWord word → IsPlain word
plain-word [] is = tt
plain-word (byte ∷ word) is = (omega (arith, is.0), plain-word word is.1)

plain-append : (text more : List ℕ) → IsPlain text → IsPlain more → IsPlain (text ++ more)
plain-append [] more is plain = plain
plain-append (byte ∷ text) more is plain = (is.0, plain-append text more is.1 plain)

plain-cell : (word : List ℕ) → IsWord word → IsPlain (44 ∷ word)
plain-cell word is = (omega arith, plain-word word is)

plain-three : (a b c : List ℕ) → IsPlain a → IsPlain b → IsPlain c → IsPlain (a ++ b ++ c)
plain-three a b c one two three = plain-append (a ++ b) c (plain-append a b one two) three

plain-four : (a b c d : List ℕ) → IsPlain a → IsPlain b → IsPlain c → IsPlain d → IsPlain (a ++ b ++ c ++ d)
plain-four a b c d one two three four = plain-append (a ++ b ++ c) d (plain-three a b c one two three) four

plain-head : (time : ℕ) (link : Link) (channel : ℕ) → 44 ≤ channel → IsPlain (head_text time link channel)
plain-head time link channel above =
    plain-three (decimal time) (44 ∷ link_text link) (44 ∷ channel ∷ []) (plain-word (decimal time) (word-decimal time))
    (plain-cell (link_text link) (word-link link)) (omega arith, (above, tt))

plain-number : (n : ℕ) → IsPlain (44 ∷ decimal n)
plain-number n = plain-cell (decimal n) (word-decimal n)

pub plain-ask : (time : ℕ) (link : Link) (cells : AskCells) (mask lanes : List ℕ) → IsPlain (ask_line time link cells mask lanes)
unfolding ask_line
plain-ask time link cells mask lanes =
    plain-four (head_text time link 65) (ask_numbers cells) (ask_lanes cells.address mask lanes) (ask_flags cells)
    (plain-head time link 65 (omega arith))
    (plain-four (44 ∷ decimal cells.opcode) (44 ∷ decimal cells.param) (44 ∷ decimal cells.size) (44 ∷ decimal cells.source)
    (plain-number cells.opcode) (plain-number cells.param) (plain-number cells.size) (plain-number cells.source))
    (plain-three (44 ∷ digits 16 false cells.address) (44 ∷ hex_text mask) (44 ∷ hex_text lanes)
    (plain-cell (digits 16 false cells.address) (word-digits 16 cells.address)) (plain-cell (hex_text mask) (word-bits mask))
    (plain-cell (hex_text lanes) (word-bits lanes)))
    (omega arith, plain-cell (mark_text cells.corrupt) (word-mark cells.corrupt))

pub plain-reply : (time : ℕ) (link : Link) (cells : ReplyCells) (lanes : List ℕ) → IsPlain (reply_line time link cells lanes)
unfolding reply_line
plain-reply time link cells lanes =
    plain-three (head_text time link 68) (reply_numbers cells) (reply_lanes lanes cells)
    (plain-head time link 68 (omega arith))
    (plain-four (44 ∷ decimal cells.opcode) (44 ∷ mark_text cells.param) (44 ∷ decimal cells.size) (44 ∷ decimal cells.source)
    (plain-number cells.opcode) (plain-cell (mark_text cells.param) (word-mark cells.param)) (plain-number cells.size)
    (plain-number cells.source))
    (plain-three (44 ∷ 44 ∷ 44 ∷ hex_text lanes) (44 ∷ decimal cells.denied) (44 ∷ mark_text cells.corrupt)
    (omega arith, (omega arith, plain-cell (hex_text lanes) (word-bits lanes))) (plain-number cells.denied)
    (plain-cell (mark_text cells.corrupt) (word-mark cells.corrupt)))

pub plain-reset : (time : ℕ) → IsPlain (reset_line time)
plain-reset time =
    plain-append (decimal time) (codes ",reset,,,,,,,,,,") (plain-word (decimal time) (word-decimal time)) commas
  where
    commas : IsPlain (codes ",reset,,,,,,,,,,")
    commas = (
      omega arith,
      (
        omega arith,
        (
          omega arith,
          (
            omega arith,
            (
              omega arith,
              (
                omega arith,
                (
                  omega arith,
                  (
                    omega arith,
                    (
                      omega arith,
                      (
                        omega arith,
                        (omega arith, (omega arith, (omega arith, (omega arith, (omega arith, (omega arith, tt)))))),
                      ),
                    ),
                  ),
                ),
              ),
            ),
          ),
        ),
      ),
    )

plain-kept : (bits : List ℕ) (row : KeptRow) → IsPlain (kept_line bits row)
plain-kept bits (kept.Reset time) = plain-reset time
plain-kept bits (kept.Ask ask) = plain-ask ask.time ask.link ask.cells (bits_at bits ask.mask) (bits_at bits ask.lanes)
plain-kept bits (kept.Reply reply) = plain-reply reply.time reply.link reply.cells (bits_at bits reply.lanes)

pub all-plain : (bits : List ℕ) (rows : List KeptRow) → All IsPlain (map (kept_line bits) rows)
all-plain bits [] = All-nil IsPlain
all-plain bits (row ∷ rows) =
    All-cons IsPlain (kept_line bits row) (map (kept_line bits) rows) (plain-kept bits row) (all-plain bits rows)

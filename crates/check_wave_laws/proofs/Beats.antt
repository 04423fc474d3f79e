-- The text of a beat is a row.
use Rattle.std.proofs.Common.{◌≡◌, ◌∙◌, ℕ, ◌+◌, ◌^◌, ◌<◌, ◌≤◌, ◌==◌, Bool, true, false, List, [], ◌∷◌, length, Option, None, Some, Result, Ok, Err, arith, refl, ap, subst, if◌then◌else◌, ok_or}
use Rattle.std.specs.Prelude.{⊤}
use Rattle.std.proofs.lemmas.Bool.Decides.{nat_tests}
use Rattle.std.specs.Fmt.{decimal, digits}
use Rattle.std.specs.Str.Parse.{digits_value}
use Rattle.tl_text.specs.Number.{number_of}
use Rattle.check_beats.specs.declared.bus.Bus.{Bus}
use Rattle.check_watch.specs.declared.beat.Link.{Link}
use Rattle.check_rows.proofs.FrontLemmas.{flag-given, no-flag}
use Rattle.check_rows.specs.Buses.{IsLinkOf, bus_of_link}
use Rattle.check_rows.specs.Columns.{flag_of, flag_or}
use Rattle.check_rows.specs.Number.{decimal_of, decimal_or_zero}
use Rattle.check_rows.specs.Row.{ask_of_words, asks_for_mark, reply_of_words, row_of}
use Rattle.check_samples.specs.Digits.{bits_of}
use Rattle.check_samples.specs.Row.{ask_line, ask_text, cells_of_ask, cells_of_reply, hex_text, known_number, link_text, mark_text, number_if_any, reply_line, reply_text}
use Rattle.tl_text.specs.Reading.{◌>>=◌}
use Rattle.check_samples.specs.Rows.{row_at, row_by}
use Rattle.check_samples.specs.declared.channel.AskTaps.{AskTaps}
use Rattle.check_samples.specs.declared.channel.BeatTaps.{BeatTaps}
use Rattle.check_samples.specs.declared.channel.BeatTaps.TheVariants.{A, D}
use Rattle.check_samples.specs.declared.channel.Channel.{Channel}
use Rattle.check_samples.specs.declared.channel.ReplyTaps.{ReplyTaps}
use Rattle.check_samples.specs.declared.row.AskCells.{AskCells}
use Rattle.check_samples.specs.declared.row.ReplyCells.{ReplyCells}
use Rattle.check_samples.specs.declared.row.TheConstants.{MAX_BITS}
use Rattle.check_samples.specs.declared.signal.Signal.{Signal}
use Rattle.check_samples.specs.declared.signal.Signal.TheVariants as signal
use Rattle.check_wave_laws.specs.Rows.{IsRow}
use Rattle.check_samples.proofs.Plain.{plain-ask, plain-reply, plain-reset}
use Rattle.check_due.specs.Rows.{ask_words, reply_words, reset_on_line, row_on_line as row_shown}
use Rattle.check_due.proofs.Buses.{IsBus, bus-of}
use Rattle.check_due.proofs.ColumnLemmas.{ask-spelled, reply-spelled}
use Rattle.check_due.proofs.Lanes.{lanes-read, mask-read}
use Rattle.check_due.proofs.Numbers.{HasNumber, address-read, decimal-read, flag-read, given-read, has-number, number-below, zero-read}
use Rattle.check_due.proofs.RowLemmas.{Stands, ask-row, reply-row, reset-row}
use Rattle.check_wave_laws.specs.Rows.{IsRow}
use Rattle.check_wave_laws.specs.Seen.{AskFits, BeatFits, ReplyFits, ask_in, beat_in, flag_by, lanes_in, number_in, reply_in, row_of_channel}
use Rattle.check_rows.specs.Column.{column_parts}
use Rattle.check_samples.specs.Resets.{reset_line, reset_row}

-- ---- the numbers of a beat

known-number : (which : Signal) (bits : List ℕ) (n : ℕ) → known_number which bits ≡ Ok n → HasNumber bits n
known-number which bits n is = has-number MAX_BITS bits n (go (number_of 2 MAX_BITS bits) is)
  where
    go : (number : Option ℕ) → ok_or number which ≡ Ok n → number ≡ Some n
    go None e = absurd (cc)
    go (Some m) e = cc

-- the bits spell the number, if there is one, or there are none
abbrev HasMark : List ℕ → Option ℕ → Type 0
HasMark [] None = ⊤
HasMark [] (Some n) = ⊥
HasMark (bit ∷ bits) None = ⊥
HasMark (bit ∷ bits) (Some n) = HasNumber (bit ∷ bits) n

known-mark : (which : Signal) (bits : List ℕ) (mark : Option ℕ) → number_if_any which bits ≡ Ok mark → HasMark bits mark
known-mark which [] None is = tt
known-mark which [] (Some n) is = absurd (cc)
known-mark which (bit ∷ bits) mark is = some (length (bit ∷ bits) == 0) refl mark is
  where
    go : (r : Result ℕ Signal) → known_number which (bit ∷ bits) ≡ r → (mark : Option ℕ)
        → (r >>= (λ n. Ok (Some n))) ≡ Ok mark → HasMark (bit ∷ bits) mark
    go (Err e) x mark y = absurd (cc)
    go (Ok n) x None y = absurd (cc)
    go (Ok n) x (Some m) y = let same : n ≡ m = cc in
        subst (λ (k : ℕ). HasNumber (bit ∷ bits) k) same (known-number which (bit ∷ bits) n x)

    some : (none : Bool) → (length (bit ∷ bits) == 0) ≡ none → (mark : Option ℕ)
        → (if none then Ok None else known_number which (bit ∷ bits) >>= (λ n. Ok (Some n))) ≡ Ok mark
        → HasMark (bit ∷ bits) mark
    some true x mark y = absurd (grind (arith, nat_tests))
    some false x mark y = go (known_number which (bit ∷ bits)) refl mark y

record AskNumbers (values : List (List ℕ)) (taps : AskTaps) (cells : AskCells) : Type 0 where
  opcode : HasNumber (bits_of values taps.opcode) cells.opcode
  param : HasNumber (bits_of values taps.param) cells.param
  size : HasNumber (bits_of values taps.size) cells.size
  source : HasNumber (bits_of values taps.source) cells.source
  address : HasNumber (bits_of values taps.address) cells.address
  mask : HasNumber (bits_of values taps.mask) (number_in values taps.mask)
  corrupt : HasMark (bits_of values taps.corrupt) cells.corrupt

record ReplyNumbers (values : List (List ℕ)) (taps : ReplyTaps) (cells : ReplyCells) : Type 0 where
  opcode : HasNumber (bits_of values taps.opcode) cells.opcode
  param : HasMark (bits_of values taps.param) cells.param
  size : HasNumber (bits_of values taps.size) cells.size
  source : HasNumber (bits_of values taps.source) cells.source
  denied : HasNumber (bits_of values taps.denied) cells.denied
  corrupt : HasMark (bits_of values taps.corrupt) cells.corrupt

abbrev ask-made : ℕ → ℕ → ℕ → ℕ → ℕ → Option ℕ → AskCells
ask-made o p z s a c = record { opcode = o; param = p; size = z; source = s; address = a; corrupt = c }

abbrev reply-made : ℕ → Option ℕ → ℕ → ℕ → ℕ → Option ℕ → ReplyCells
reply-made o p z s n c = record { opcode = o; param = p; size = z; source = s; denied = n; corrupt = c }

ask-parts : (o p z s a m : Result ℕ Signal) (c : Result (Option ℕ) Signal) (cells : AskCells)
    → (o >>= (λ o. p >>= (λ p. z >>= (λ z. s >>= (λ s. a >>= (λ a. m >>= (λ _. c >>= (λ c. Ok (ask-made o p z s a c)))))))))
    ≡ Ok cells
    → (o ≡ Ok cells.opcode) × (p ≡ Ok cells.param) × (z ≡ Ok cells.size) × (s ≡ Ok cells.source)
    × (a ≡ Ok cells.address) × (c ≡ Ok cells.corrupt) × ((n : ℕ) × (m ≡ Ok n))
ask-parts (Ok o) (Ok p) (Ok z) (Ok s) (Ok a) (Ok m) (Ok c) cells is =
    let same : ask-made o p z s a c ≡ cells = cc in (
      ap (λ (c : AskCells). Ok c.opcode) same,
      ap (λ (c : AskCells). Ok c.param) same,
      ap (λ (c : AskCells). Ok c.size) same,
      ap (λ (c : AskCells). Ok c.source) same,
      ap (λ (c : AskCells). Ok c.address) same,
      ap (λ (c : AskCells). Ok c.corrupt) same,
      (m, refl),
    )
ask-parts (Err e) p z s a m c cells is = absurd (cc)
ask-parts (Ok o) (Err e) z s a m c cells is = absurd (cc)
ask-parts (Ok o) (Ok p) (Err e) s a m c cells is = absurd (cc)
ask-parts (Ok o) (Ok p) (Ok z) (Err e) a m c cells is = absurd (cc)
ask-parts (Ok o) (Ok p) (Ok z) (Ok s) (Err e) m c cells is = absurd (cc)
ask-parts (Ok o) (Ok p) (Ok z) (Ok s) (Ok a) (Err e) c cells is = absurd (cc)
ask-parts (Ok o) (Ok p) (Ok z) (Ok s) (Ok a) (Ok m) (Err e) cells is = absurd (cc)

reply-parts : (o : Result ℕ Signal) (p : Result (Option ℕ) Signal) (z s n : Result ℕ Signal) (c : Result (Option ℕ) Signal)
    (cells : ReplyCells)
    → (o >>= (λ o. p >>= (λ p. z >>= (λ z. s >>= (λ s. n >>= (λ n. c >>= (λ c. Ok (reply-made o p z s n c)))))))) ≡ Ok cells
    → (o ≡ Ok cells.opcode) × (p ≡ Ok cells.param) × (z ≡ Ok cells.size) × (s ≡ Ok cells.source) × (n ≡ Ok cells.denied)
    × (c ≡ Ok cells.corrupt)
reply-parts (Ok o) (Ok p) (Ok z) (Ok s) (Ok n) (Ok c) cells is =
    let same : reply-made o p z s n c ≡ cells = cc in (
      ap (λ (c : ReplyCells). Ok c.opcode) same,
      ap (λ (c : ReplyCells). Ok c.param) same,
      ap (λ (c : ReplyCells). Ok c.size) same,
      ap (λ (c : ReplyCells). Ok c.source) same,
      ap (λ (c : ReplyCells). Ok c.denied) same,
      ap (λ (c : ReplyCells). Ok c.corrupt) same,
    )
reply-parts (Err e) p z s n c cells is = absurd (cc)
reply-parts (Ok o) (Err e) z s n c cells is = absurd (cc)
reply-parts (Ok o) (Ok p) (Err e) s n c cells is = absurd (cc)
reply-parts (Ok o) (Ok p) (Ok z) (Err e) n c cells is = absurd (cc)
reply-parts (Ok o) (Ok p) (Ok z) (Ok s) (Err e) c cells is = absurd (cc)
reply-parts (Ok o) (Ok p) (Ok z) (Ok s) (Ok n) (Err e) cells is = absurd (cc)

ask-numbers : (values : List (List ℕ)) (taps : AskTaps) (cells : AskCells) → cells_of_ask values taps ≡ Ok cells
    → AskNumbers values taps cells
ask-numbers values taps cells is =
    let parts = ask-parts (known_number signal.AOpcode (bits_of values taps.opcode))
    (known_number signal.AParam (bits_of values taps.param)) (known_number signal.ASize (bits_of values taps.size))
    (known_number signal.ASource (bits_of values taps.source)) (known_number signal.AAddress (bits_of values taps.address))
    (known_number signal.AMask (bits_of values taps.mask)) (number_if_any signal.ACorrupt (bits_of values taps.corrupt))
    cells is in
    let mask = known-number signal.AMask (bits_of values taps.mask) parts.6.0 parts.6.1 in
    record {
      opcode = known-number signal.AOpcode (bits_of values taps.opcode) cells.opcode parts.0;
      param = known-number signal.AParam (bits_of values taps.param) cells.param parts.1;
      size = known-number signal.ASize (bits_of values taps.size) cells.size parts.2;
      source = known-number signal.ASource (bits_of values taps.source) cells.source parts.3;
      address = known-number signal.AAddress (bits_of values taps.address) cells.address parts.4;
      mask = subst (λ (n : ℕ). HasNumber (bits_of values taps.mask) n) mask.value mask;
      corrupt = known-mark signal.ACorrupt (bits_of values taps.corrupt) cells.corrupt parts.5;
    }

reply-numbers : (values : List (List ℕ)) (taps : ReplyTaps) (cells : ReplyCells) → cells_of_reply values taps ≡ Ok cells
    → ReplyNumbers values taps cells
reply-numbers values taps cells is =
    let parts = reply-parts (known_number signal.DOpcode (bits_of values taps.opcode))
    (number_if_any signal.DParam (bits_of values taps.param)) (known_number signal.DSize (bits_of values taps.size))
    (known_number signal.DSource (bits_of values taps.source)) (known_number signal.DDenied (bits_of values taps.denied))
    (number_if_any signal.DCorrupt (bits_of values taps.corrupt)) cells is in
    record {
      opcode = known-number signal.DOpcode (bits_of values taps.opcode) cells.opcode parts.0;
      param = known-mark signal.DParam (bits_of values taps.param) cells.param parts.1;
      size = known-number signal.DSize (bits_of values taps.size) cells.size parts.2;
      source = known-number signal.DSource (bits_of values taps.source) cells.source parts.3;
      denied = known-number signal.DDenied (bits_of values taps.denied) cells.denied parts.4;
      corrupt = known-mark signal.DCorrupt (bits_of values taps.corrupt) cells.corrupt parts.5;
    }

-- ---- the columns of a beat

-- a number of so many bits is no more than its column takes
small-read : (bits : List ℕ) (n k most : ℕ) → HasNumber bits n → length bits ≤ k → 2 ^ k ≡ most + 1
    → decimal_of most (decimal n) ≡ Ok (digits_value 2 bits)
small-read bits n k most has fits is =
    let below : n < 2 ^ k = number-below bits n k has fits in
    decimal-read most n has.small (omega (arith, below, is)) ∙ ap (λ (m : ℕ). Ok m) has.value

-- a number that may be absent is 0 then, as that of no bits
optional-read : (bits : List ℕ) (mark : Option ℕ) (k most : ℕ) → HasMark bits mark → length bits ≤ k → 2 ^ k ≡ most + 1
    → decimal_or_zero most (mark_text mark) ≡ Ok (digits_value 2 bits)
optional-read [] None k most has fits is = zero-read most
optional-read [] (Some n) k most has fits is = elim has [ ]
optional-read (bit ∷ bits) None k most has fits is = elim has [ ]
optional-read (bit ∷ bits) (Some n) k most has fits is =
    given-read most (decimal n) (digits_value 2 (bit ∷ bits)) (small-read (bit ∷ bits) n k most has fits is)

flag-of : (bits : List ℕ) (n : ℕ) → HasNumber bits n → length bits ≤ 1
    → flag_of (decimal n) ≡ Ok (digits_value 2 bits == 1)
flag-of bits n has fits =
    flag-read n (number-below bits n 1 has fits) ∙ ap (λ (m : ℕ). Ok (m == 1)) has.value

mark-of : (absent : Bool) (bits : List ℕ) (mark : Option ℕ) → HasMark bits mark → length bits ≤ 1
    → flag_or absent (mark_text mark) ≡ Ok (flag_by absent bits)
mark-of absent [] None has fits = no-flag absent
mark-of absent [] (Some n) has fits = elim has [ ]
mark-of absent (bit ∷ bits) None has fits = elim has [ ]
mark-of absent (bit ∷ bits) (Some n) has fits =
    flag-given absent (decimal n) (digits_value 2 (bit ∷ bits) == 1) (flag-of (bit ∷ bits) n has fits)

ask-columns : (bus time : ℕ) (link : Link) (values : List (List ℕ)) (taps : AskTaps) (cells : AskCells)
    → IsBus bus → AskNumbers values taps cells → AskFits bus values taps
    → ask_of_words bus (decimal time ∷ ask_words link cells (bits_of values taps.mask) (bits_of values taps.data))
    ≡ Ok (ask_in bus values taps)
ask-columns bus time link values taps cells of has fits =
    ask-spelled bus (decimal time) (link_text link) (65 ∷ []) (decimal cells.opcode) (decimal cells.param)
    (decimal cells.size) (decimal cells.source) (digits 16 false cells.address) (hex_text (bits_of values taps.mask))
    (hex_text (bits_of values taps.data)) (mark_text cells.corrupt) (number_in values taps.opcode) (number_in values taps.param)
    (number_in values taps.size) (number_in values taps.source) (number_in values taps.address)
    (number_in values taps.mask) (number_in values taps.corrupt) (lanes_in bus values taps.data)
    (small-read (bits_of values taps.opcode) cells.opcode 8 255 has.opcode fits.opcode refl)
    (small-read (bits_of values taps.param) cells.param 8 255 has.param fits.param refl)
    (small-read (bits_of values taps.size) cells.size 8 255 has.size fits.size refl)
    (small-read (bits_of values taps.source) cells.source 16 65535 has.source fits.source refl)
    (address-read cells.address has.address.small ∙ ap (λ (n : ℕ). Ok n) has.address.value)
    (mask-read of.width bus (number_in values taps.mask) (bits_of values taps.mask) of.is fits.mask has.mask)
    (lanes-read bus (bits_of values taps.data) of.some fits.data_bits)
    (optional-read (bits_of values taps.corrupt) cells.corrupt 1 1 has.corrupt fits.corrupt refl)

reply-columns : (bus time : ℕ) (link : Link) (values : List (List ℕ)) (taps : ReplyTaps) (cells : ReplyCells)
    → IsBus bus → ReplyNumbers values taps cells → ReplyFits bus values taps
    → reply_of_words bus (decimal time ∷ reply_words link cells (bits_of values taps.data)) ≡ Ok (reply_in bus values taps)
reply-columns bus time link values taps cells of has fits =
    reply-spelled bus (decimal time) (link_text link) (68 ∷ []) (decimal cells.opcode) (mark_text cells.param)
    (decimal cells.size) (decimal cells.source) (hex_text (bits_of values taps.data)) (decimal cells.denied) (mark_text cells.corrupt)
    (number_in values taps.opcode) (number_in values taps.param) (number_in values taps.size)
    (number_in values taps.source) (number_in values taps.denied == 1)
    (flag_by (asks_for_mark (number_in values taps.opcode) (number_in values taps.denied == 1)) (bits_of values taps.corrupt))
    (lanes_in bus values taps.data)
    (small-read (bits_of values taps.opcode) cells.opcode 8 255 has.opcode fits.opcode refl)
    (optional-read (bits_of values taps.param) cells.param 8 255 has.param fits.param refl)
    (small-read (bits_of values taps.size) cells.size 8 255 has.size fits.size refl)
    (small-read (bits_of values taps.source) cells.source 16 65535 has.source fits.source refl)
    (lanes-read bus (bits_of values taps.data) of.some fits.data_bits)
    (flag-of (bits_of values taps.denied) cells.denied has.denied fits.denied)
    (mark-of (asks_for_mark (number_in values taps.opcode) (number_in values taps.denied == 1)) (bits_of values taps.corrupt)
    cells.corrupt has.corrupt fits.corrupt)

-- ---- the row of a beat

ask-is-row : (masters ports : List Bus) (line time : ℕ) (link : Link) (values : List (List ℕ)) (taps : AskTaps)
    (cells : AskCells) → Stands masters ports time link → AskNumbers values taps cells
    → AskFits (bus_of_link masters ports link) values taps
    → IsRow masters ports (row_shown line time link (ask_in (bus_of_link masters ports link) values taps))
    (ask_text time link cells (bits_of values taps.mask) (bits_of values taps.data))
ask-is-row masters ports line time link values taps cells at has fits =
    let bus = bus_of_link masters ports link in
    let mask = bits_of values taps.mask in
    let lanes = bits_of values taps.data in
    record {
      line = ask_line time link cells mask lanes;
      ends = refl;
      plain = plain-ask time link cells mask lanes;
      reads = λ resets told.
          ask-row resets masters ports line time link cells mask lanes (ask_in bus values taps) at
          (ask-columns bus time link values taps cells (bus-of masters ports link at.has_link) has fits);
    }

reply-is-row : (masters ports : List Bus) (line time : ℕ) (link : Link) (values : List (List ℕ)) (taps : ReplyTaps)
    (cells : ReplyCells) → Stands masters ports time link → ReplyNumbers values taps cells
    → ReplyFits (bus_of_link masters ports link) values taps
    → IsRow masters ports (row_shown line time link (reply_in (bus_of_link masters ports link) values taps))
    (reply_text time link cells (bits_of values taps.data))
reply-is-row masters ports line time link values taps cells at has fits =
    let bus = bus_of_link masters ports link in
    let lanes = bits_of values taps.data in
    record {
      line = reply_line time link cells lanes;
      ends = refl;
      plain = plain-reply time link cells lanes;
      reads = λ resets told.
          reply-row resets masters ports line time link cells lanes (reply_in bus values taps) at
          (reply-columns bus time link values taps cells (bus-of masters ports link at.has_link) has fits);
    }

-- ---- the row of a channel

row-by : (masters ports : List Bus) (line time : ℕ) (values : List (List ℕ)) (which : Channel) (text : List ℕ)
    (beat : BeatTaps) → Stands masters ports time which.link → BeatFits (bus_of_link masters ports which.link) beat values
    → row_by beat time values which ≡ Ok text
    → IsRow masters ports (row_shown line time which.link (beat_in (bus_of_link masters ports which.link) beat values)) text
row-by masters ports line time values which text (A taps) at fits is = go (cells_of_ask values taps) refl is
  where
    bus : ℕ
    bus = bus_of_link masters ports which.link

    go : (r : Result AskCells Signal) → cells_of_ask values taps ≡ r
        → (r >>= (λ cells. Ok (ask_text time which.link cells (bits_of values taps.mask) (bits_of values taps.data))))
        ≡ Ok text
        → IsRow masters ports (row_shown line time which.link (ask_in bus values taps)) text
    go (Ok cells) e made =
        let same : ask_text time which.link cells (bits_of values taps.mask) (bits_of values taps.data) ≡ text = cc in
        subst (IsRow masters ports (row_shown line time which.link (ask_in bus values taps))) same
        (ask-is-row masters ports line time which.link values taps cells at (ask-numbers values taps cells e) fits)
    go (Err signal) e made = absurd (cc)
row-by masters ports line time values which text (D taps) at fits is = go (cells_of_reply values taps) refl is
  where
    bus : ℕ
    bus = bus_of_link masters ports which.link

    go : (r : Result ReplyCells Signal) → cells_of_reply values taps ≡ r
        → (r >>= (λ cells. Ok (reply_text time which.link cells (bits_of values taps.data)))) ≡ Ok text
        → IsRow masters ports (row_shown line time which.link (reply_in bus values taps)) text
    go (Ok cells) e made =
        let same : reply_text time which.link cells (bits_of values taps.data) ≡ text = cc in
        subst (IsRow masters ports (row_shown line time which.link (reply_in bus values taps))) same
        (reply-is-row masters ports line time which.link values taps cells at (reply-numbers values taps cells e) fits)
    go (Err signal) e made = absurd (cc)

pub beat-row : (masters ports : List Bus) (line time : ℕ) (values : List (List ℕ)) (which : Channel) (text : List ℕ)
    → length masters < 2 ^ 64 → length ports < 2 ^ 64 → time < 2 ^ 64 → IsLinkOf masters ports which.link
    → BeatFits (bus_of_link masters ports which.link) which.beat values → row_at time values which ≡ Ok text
    → IsRow masters ports (row_of_channel masters ports line time values which) text
beat-row masters ports line time values which text m p t inside fits is =
    row-by masters ports line time values which text which.beat
    (record { few_masters = m; few_ports = p; in_time = t; has_link = inside }) fits is

-- ---- the row of a reset

pub reset-is-row : (masters ports : List Bus) (line time : ℕ) → time < 2 ^ 64
    → IsRow masters ports (reset_on_line line time) (reset_row time)
reset-is-row masters ports line time small = record {
  line = reset_line time;
  ends = refl;
  plain = plain-reset time;
  reads = λ resets told.
      ap (λ (r : Bool). row_of r masters ports line (column_parts (reset_line time))) (told refl)
      ∙ reset-row masters ports line time small;
}

-- The columns of a row, and the row that they spell.
use Rattle.std.proofs.Common.{◌≡◌, ℕ, ◌-◌, ◌^◌, ◌<◌, ◌==◌, Bool, false, true, List, [], ◌∷◌, ◌++◌, length, Result, Ok, arith, refl, ap, append_assoc}
use Rattle.std.specs.Fmt.{decimal, digits}
use Rattle.csv.specs.Records.{field_at}
use Rattle.check_beats.specs.declared.bus.Bus.{Bus}
use Rattle.check_watch.specs.declared.beat.Beat.TheVariants as beat
use Rattle.check_watch.specs.declared.beat.Link.{Link}
use Rattle.check_watch.specs.declared.beat.Link.TheVariants.{Master, Port}
use Rattle.check_rows.specs.Buses.{IsLinkOf, bus_of_link}
use Rattle.check_rows.specs.Columns.{channel_of, flag_of, flag_or, link_of, nothing_of}
use Rattle.check_rows.specs.Lanes.{SeenLanes, lanes_of}
use Rattle.check_rows.specs.Number.{address_of, decimal_of, decimal_or_zero, mask_of}
use Rattle.tl_text.specs.Reading.{◌>>=◌}
use Rattle.check_rows.specs.Row.{SeenBeat, ask_of_words, asks_for_mark, beat_of, reply_of_words, row_of, row_or_reset}
use Rattle.check_rows.specs.declared.columns.RowChannel.{RowChannel}
use Rattle.check_rows.specs.declared.columns.RowChannel.TheVariants as channel
use Rattle.check_rows.specs.declared.fault.RowFault.{RowFault}
use Rattle.check_samples.specs.Row.{ask_line, hex_text, link_text, mark_text, reply_line}
use Rattle.check_samples.specs.declared.row.AskCells.{AskCells}
use Rattle.check_samples.specs.declared.row.ReplyCells.{ReplyCells}
use Rattle.check_samples.specs.Resets.{reset_line}
use Rattle.check_due.specs.Rows.{ask_words, reply_words, reset_on_line, reset_words, row_on_line}
use Rattle.check_due.proofs.Numbers.{index-read}
use Rattle.check_due.proofs.Words.{joined}

-- ---- the words of a row

-- texts one after the other, and some of them together
regrouped : (t h i n o p q x y z e f : List ℕ)
    → (t ++ h ++ i) ++ (n ++ o ++ p ++ q) ++ (x ++ y ++ z) ++ (e ++ f)
    ≡ t ++ (h ++ (i ++ (n ++ (o ++ (p ++ (q ++ (x ++ (y ++ (z ++ (e ++ f))))))))))
regrouped t h i n o p q x y z e f = simp append_assoc

regrouped-three : (t h i n o p q x y z : List ℕ)
    → (t ++ h ++ i) ++ (n ++ o ++ p ++ q) ++ (x ++ y ++ z)
    ≡ t ++ (h ++ (i ++ (n ++ (o ++ (p ++ (q ++ (x ++ (y ++ z))))))))
regrouped-three t h i n o p q x y z = simp append_assoc

ask-joined : (t l o p z s a m d c : List ℕ)
    → (t ++ (44 ∷ l) ++ (44 ∷ 65 ∷ [])) ++ ((44 ∷ o) ++ (44 ∷ p) ++ (44 ∷ z) ++ (44 ∷ s))
    ++ ((44 ∷ a) ++ (44 ∷ m) ++ (44 ∷ d)) ++ ((44 ∷ []) ++ (44 ∷ c))
    ≡ joined t (l ∷ (65 ∷ []) ∷ o ∷ p ∷ z ∷ s ∷ a ∷ m ∷ d ∷ [] ∷ c ∷ [])
ask-joined t l o p z s a m d c =
    regrouped t (44 ∷ l) (44 ∷ 65 ∷ []) (44 ∷ o) (44 ∷ p) (44 ∷ z) (44 ∷ s) (44 ∷ a) (44 ∷ m) (44 ∷ d) (44 ∷ []) (44 ∷ c)

pub ask-words : (time : ℕ) (link : Link) (cells : AskCells) (mask lanes : List ℕ)
    → ask_line time link cells mask lanes ≡ joined (decimal time) (ask_words link cells mask lanes)
unfolding ask_line
ask-words time link cells mask lanes =
    ask-joined (decimal time) (link_text link) (decimal cells.opcode) (decimal cells.param) (decimal cells.size)
    (decimal cells.source) (digits 16 false cells.address) (hex_text mask) (hex_text lanes) (mark_text cells.corrupt)

reply-joined : (t l o p z s d n c : List ℕ)
    → (t ++ (44 ∷ l) ++ (44 ∷ 68 ∷ [])) ++ ((44 ∷ o) ++ (44 ∷ p) ++ (44 ∷ z) ++ (44 ∷ s))
    ++ ((44 ∷ 44 ∷ 44 ∷ d) ++ (44 ∷ n) ++ (44 ∷ c))
    ≡ joined t (l ∷ (68 ∷ []) ∷ o ∷ p ∷ z ∷ s ∷ [] ∷ [] ∷ d ∷ n ∷ c ∷ [])
reply-joined t l o p z s d n c =
    regrouped-three t (44 ∷ l) (44 ∷ 68 ∷ []) (44 ∷ o) (44 ∷ p) (44 ∷ z) (44 ∷ s) (44 ∷ 44 ∷ 44 ∷ d) (44 ∷ n) (44 ∷ c)

pub reply-words : (time : ℕ) (link : Link) (cells : ReplyCells) (lanes : List ℕ)
    → reply_line time link cells lanes ≡ joined (decimal time) (reply_words link cells lanes)
unfolding reply_line
reply-words time link cells lanes =
    reply-joined (decimal time) (link_text link) (decimal cells.opcode) (mark_text cells.param) (decimal cells.size)
    (decimal cells.source) (hex_text lanes) (decimal cells.denied) (mark_text cells.corrupt)

pub reset-words : (time : ℕ) → reset_line time ≡ joined (decimal time) reset_words
reset-words time = refl

-- ---- links and channels

pub link-read : (masters ports : List Bus) (link : Link) → length masters < 2 ^ 64 → length ports < 2 ^ 64
    → IsLinkOf masters ports link → link_of masters ports (link_text link) ≡ Ok link
unfolding link_of
link-read masters ports (Master number) m p inside =
    ap (λ (r : Result ℕ RowFault). r >>= (λ n. Ok (Master n)))
    (index-read (length masters) number inside (omega (arith, inside, m)))
link-read masters ports (Port number) m p inside =
    ap (λ (r : Result ℕ RowFault). r >>= (λ n. Ok (Port n)))
    (index-read (length ports) number inside (omega (arith, inside, p)))

pub channel-a : channel_of (65 ∷ []) ≡ Ok channel.A
unfolding channel_of
channel-a = refl

pub channel-d : channel_of (68 ∷ []) ≡ Ok channel.D
unfolding channel_of
channel-d = refl

-- ---- the row that words spell

pub ask-spelled : (bus : ℕ) (t l c wo wp wz ws wa wm wd wk : List ℕ) (o p z s a m k : ℕ) (lanes : SeenLanes)
    → decimal_of 255 wo ≡ Ok o → decimal_of 255 wp ≡ Ok p → decimal_of 255 wz ≡ Ok z → decimal_of 65535 ws ≡ Ok s
    → address_of wa ≡ Ok a → mask_of bus wm ≡ Ok m → lanes_of bus wd ≡ Ok lanes
    → decimal_or_zero 1 wk ≡ Ok k
    → ask_of_words bus (t ∷ l ∷ c ∷ wo ∷ wp ∷ wz ∷ ws ∷ wa ∷ wm ∷ wd ∷ [] ∷ wk ∷ [])
    ≡ Ok (record {
      beat = beat.A (record { opcode = o; param = p; size = z; source = s; address = a; mask = m; corrupt = k == 1 });
      lanes = lanes;
    })
unfolding ask_of_words field_at nothing_of
ask-spelled bus t l c wo wp wz ws wa wm wd wk o p z s a m k lanes eo ep ez es ea em ed ek =
    rw (eo, ep, ez, es, ea, em, ed, ek) refl

pub reply-spelled : (bus : ℕ) (t l c wo wp wz ws wd wn wc : List ℕ) (o p z s : ℕ) (n k : Bool) (lanes : SeenLanes)
    → decimal_of 255 wo ≡ Ok o → decimal_or_zero 255 wp ≡ Ok p → decimal_of 255 wz ≡ Ok z → decimal_of 65535 ws ≡ Ok s
    → lanes_of bus wd ≡ Ok lanes
    → flag_of wn ≡ Ok n → flag_or (asks_for_mark o n) wc ≡ Ok k
    → reply_of_words bus (t ∷ l ∷ c ∷ wo ∷ wp ∷ wz ∷ ws ∷ [] ∷ [] ∷ wd ∷ wn ∷ wc ∷ [])
    ≡ Ok (record {
      beat = beat.D (record { opcode = o; param = p; size = z; source = s; denied = n; corrupt = k });
      lanes = lanes;
    })
unfolding reply_of_words field_at nothing_of
reply-spelled bus t l c wo wp wz ws wd wn wc o p z s n k lanes eo ep ez es ed en ec =
    rw (eo, ep, ez, es, ed, en, ec) refl

pub row-spelled : (resets : Bool) (masters ports : List Bus) (line time : ℕ) (link : Link) (which : RowChannel) (seen : SeenBeat)
    (t l c w3 w4 w5 w6 w7 w8 w9 w10 w11 : List ℕ)
    → decimal_of (2 ^ 64 - 1) t ≡ Ok time → link_of masters ports l ≡ Ok link → channel_of c ≡ Ok which
    → beat_of (bus_of_link masters ports link) which (t ∷ l ∷ c ∷ w3 ∷ w4 ∷ w5 ∷ w6 ∷ w7 ∷ w8 ∷ w9 ∷ w10 ∷ w11 ∷ [])
    ≡ Ok seen
    → row_of resets masters ports line (t ∷ l ∷ c ∷ w3 ∷ w4 ∷ w5 ∷ w6 ∷ w7 ∷ w8 ∷ w9 ∷ w10 ∷ w11 ∷ [])
    ≡ Ok (row_on_line line time link seen)
unfolding row_of row_or_reset field_at
row-spelled resets masters ports line time link which seen t l c w3 w4 w5 w6 w7 w8 w9 w10 w11 et el ec eb =
    rw (et, el, ec, eb) refl

-- a reset is read where there are resets
pub reset-spelled : (masters ports : List Bus) (line time : ℕ) (t : List ℕ) → decimal_of (2 ^ 64 - 1) t ≡ Ok time
    → row_of true masters ports line (t ∷ reset_words) ≡ Ok (reset_on_line line time)
unfolding row_of row_or_reset field_at link_of
reset-spelled masters ports line time t is = rw is refl

-- Rows that are due, and one more.
use Rattle.std.proofs.Common.{◌≡◌, ◌∙◌, ℕ, ◌+◌, ◌-◌, ◌≤◌, Bool, true, false, ◌&&◌, nat_le, cond, List, [], ◌∷◌, ◌++◌, drop, length, map, take, append_assoc, ap, arith, length-append, refl, sym}
use Rattle.std.specs.Prelude.{All, slice_range}
use Rattle.std.proofs.lemmas.Bool.{le-leb, leb-true}
use Rattle.std.proofs.lemmas.List.{drop-append-le, drop_at, length-drop, map-append, take-append-le, take_all}
use Rattle.std.proofs.lemmas.List.Elements.{All-head, All-tail, All-weaker}
use Rattle.check_samples.specs.Due.{StandAmong, bits_at, due_text, kept_line}
use Rattle.check_samples.specs.declared.due.BitsPlace.{BitsPlace}
use Rattle.check_samples.specs.Row.{ask_line, ask_text, reply_line, reply_text}
use Rattle.check_samples.specs.declared.due.KeptAsk.{KeptAsk}
use Rattle.check_samples.specs.declared.due.KeptReply.{KeptReply}
use Rattle.check_samples.specs.declared.due.KeptRow.{KeptRow}
use Rattle.check_samples.specs.declared.due.KeptRow.TheVariants as kept

-- ---- texts

pub due-append : (lines more : List (List ℕ)) → due_text (lines ++ more) ≡ due_text lines ++ due_text more
due-append [] more = refl
due-append (line ∷ lines) more =
    ap (λ (text : List ℕ). line ++ (10 ∷ text)) (due-append lines more)
    ∙ sym (append_assoc line (10 ∷ due_text lines) (due_text more))

-- ---- bits

-- bits that stand there stay if others come behind them
kept-bits : (bits more : List ℕ) (place : BitsPlace) → place.to ≤ length bits → bits_at (bits ++ more) place ≡ bits_at bits place
kept-bits bits more place inside = go (nat_le place.from place.to) refl
  where
    there : nat_le place.to (length (bits ++ more)) ≡ true
    there = le-leb place.to (length (bits ++ more)) (omega (arith, length-append bits more, inside))

    here : nat_le place.to (length bits) ≡ true
    here = le-leb place.to (length bits) inside

    same : place.from ≤ place.to → slice_range (bits ++ more) place.from place.to ≡ slice_range bits place.from place.to
    same order =
        let from : place.from ≤ length bits = omega (arith, order, inside) in
        ap (take (place.to - place.from)) (drop-append-le place.from bits more from)
        ∙ take-append-le (place.to - place.from) (drop place.from bits) more (omega (arith, length-drop place.from bits, inside))

    go : (order : Bool) → nat_le place.from place.to ≡ order
        → cond (order && nat_le place.to (length (bits ++ more))) (slice_range (bits ++ more) place.from place.to) []
        ≡ cond (order && nat_le place.to (length bits)) (slice_range bits place.from place.to) []
    go true is = rw (there, here) (same (leb-true place.from place.to is))
    go false is = refl

-- bits that come behind others stand there
pub new-bits : (bits more : List ℕ) (place : BitsPlace)
    → place ≡ record { from = length bits; to = length bits + length more } → bits_at (bits ++ more) place ≡ more
new-bits bits more place is = ap (bits_at (bits ++ more)) is ∙ at
  where
    from : ℕ
    from = length bits

    to : ℕ
    to = length bits + length more

    size : to - from ≡ length more
    size = omega arith

    whole : slice_range (bits ++ more) from to ≡ more
    whole =
        ap (take (to - from)) (drop_at bits more from refl) ∙ ap (λ (n : ℕ). take n more) size
        ∙ take_all (length more) more (omega arith)

    at : bits_at (bits ++ more) (record { from = from; to = to }) ≡ more
    at = rw (le-leb from to (omega arith), le-leb to (length (bits ++ more)) (omega (arith, length-append bits more))) whole

-- ---- lines

kept-same : (bits more : List ℕ) (row : KeptRow) → StandAmong (length bits) row → kept_line (bits ++ more) row ≡ kept_line bits row
kept-same bits more (kept.Reset time) stand = refl
kept-same bits more (kept.Ask ask) stand =
    rw (kept-bits bits more ask.mask stand.0, kept-bits bits more ask.lanes stand.1) refl
kept-same bits more (kept.Reply reply) stand = rw (kept-bits bits more reply.lanes stand) refl

-- the lines of rows stay if other bits come behind theirs
pub all-kept : (bits more : List ℕ) (rows : List KeptRow) → All (StandAmong (length bits)) rows
    → map (kept_line (bits ++ more)) rows ≡ map (kept_line bits) rows
all-kept bits more [] stand = refl
all-kept bits more (row ∷ rows) stand =
    rw (
      kept-same bits more row (All-head (StandAmong (length bits)) row rows stand),
      all-kept bits more rows (All-tail (StandAmong (length bits)) row rows stand),
    ) refl

more-stand : (few many : ℕ) → few ≤ many → (row : KeptRow) → StandAmong few row → StandAmong many row
more-stand few many fits (kept.Reset time) stand = tt
more-stand few many fits (kept.Ask ask) stand = (omega (arith, fits, stand.0), omega (arith, fits, stand.1))
more-stand few many fits (kept.Reply reply) stand = omega (arith, fits, stand)

pub all-stand : (few many : ℕ) (rows : List KeptRow) → few ≤ many → All (StandAmong few) rows → All (StandAmong many) rows
all-stand few many rows fits stand = All-weaker (StandAmong few) (StandAmong many) (more-stand few many fits) rows stand

-- a row more
pub one-line : (bits : List ℕ) (rows : List KeptRow) (row : KeptRow) (line : List ℕ) → kept_line bits row ≡ line
    → due_text (map (kept_line bits) (rows ++ row ∷ [])) ≡ due_text (map (kept_line bits) rows) ++ (line ++ (10 ∷ []))
one-line bits rows row line is =
    ap due_text (map-append (kept_line bits) rows (row ∷ []))
    ∙ due-append (map (kept_line bits) rows) (kept_line bits row ∷ [])
    ∙ ap (λ (l : List ℕ). due_text (map (kept_line bits) rows) ++ (l ++ (10 ∷ []))) is

pub one-reply : (bits lanes : List ℕ) (rows : List KeptRow) (reply : KeptReply) → All (StandAmong (length bits)) rows
    → reply.lanes ≡ record { from = length bits; to = length bits + length lanes }
    → due_text (map (kept_line (bits ++ lanes)) (rows ++ kept.Reply reply ∷ []))
    ≡ due_text (map (kept_line bits) rows) ++ reply_text reply.time reply.link reply.cells lanes
one-reply bits lanes rows reply stand is =
    one-line (bits ++ lanes) rows (kept.Reply reply) (reply_line reply.time reply.link reply.cells lanes)
    (ap (reply_line reply.time reply.link reply.cells) (new-bits bits lanes reply.lanes is))
    ∙ ap (λ (lines : List (List ℕ)). due_text lines ++ reply_text reply.time reply.link reply.cells lanes)
    (all-kept bits lanes rows stand)

pub one-ask : (bits mask lanes : List ℕ) (rows : List KeptRow) (ask : KeptAsk) → All (StandAmong (length bits)) rows
    → ask.mask ≡ record { from = length bits; to = length bits + length mask }
    → ask.lanes ≡ record { from = length (bits ++ mask); to = length (bits ++ mask) + length lanes }
    → due_text (map (kept_line ((bits ++ mask) ++ lanes)) (rows ++ kept.Ask ask ∷ []))
    ≡ due_text (map (kept_line bits) rows) ++ ask_text ask.time ask.link ask.cells mask lanes
one-ask bits mask lanes rows ask stand is-mask is-lanes =
    let most : length bits + length mask ≤ length (bits ++ mask) = omega (arith, length-append bits mask) in
    let end : ask.mask.to ≡ length bits + length mask = ap (λ (place : BitsPlace). place.to) is-mask in
    let line : kept_line ((bits ++ mask) ++ lanes) (kept.Ask ask) ≡ ask_line ask.time ask.link ask.cells mask lanes =
    rw (
      kept-bits (bits ++ mask) lanes ask.mask (omega (arith, end, most)),
      new-bits bits mask ask.mask is-mask,
      new-bits (bits ++ mask) lanes ask.lanes is-lanes,
    ) refl in
    one-line ((bits ++ mask) ++ lanes) rows (kept.Ask ask) (ask_line ask.time ask.link ask.cells mask lanes) line
    ∙ ap (λ (lines : List (List ℕ)). due_text lines ++ ask_text ask.time ask.link ask.cells mask lanes)
    (all-kept (bits ++ mask) lanes rows
    (all-stand (length bits) (length (bits ++ mask)) rows (omega (arith, most)) stand) ∙ all-kept bits mask rows stand)

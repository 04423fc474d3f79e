-- What room shows after its words and masks are written.
use Rattle.std.proofs.Common.{◌≡◌, ◌∙◌, ◌⊎◌, inl, inr, ℕ, ◌+◌, ◌/◌, ◌%◌, ◌<◌, ◌≤◌, List, [], ◌∷◌, ◌++◌, length, take, drop, set, get_or, Option, Some, None, unwrap_or, is_some, sym, ap, arith}
use Rattle.std.specs.Int.{bit_at}
use Rattle.std.proofs.lemmas.List.{take_at, length-take-le, length-append}
use Rattle.tl_types.specs.Bytes.{bit_in, given_byte, given_in}
use Rattle.tl_types.proofs.Given.{given_in-same, given_in-append, length-given_in}
use Rattle.tl_ops.specs.Store.{with_window}
use Rattle.tl_ops.specs.Number.{low_bytes}
use Rattle.tl_ops.proofs.Bytes.{length-low_bytes}
use Rattle.tl_ops.specs.Cell.{lanes_of, with_cell}
use Rattle.tl_ops.proofs.LaneLists.{length-lanes_of, cell_written}
use Rattle.check_cells.specs.Known.{replaced}
use Rattle.check_cells.specs.Bit.{known_bit}
use Rattle.check_cells.proofs.Lanes.{take-given_in, drop-given_in, window-given_in}

-- ---- read

pub cell_shown : (masks lanes : List ℕ) (start width mask cell : ℕ)
    → low_bytes width cell ≡ take width (drop start lanes)
    → ((k : ℕ) → k < width → bit_at mask k ≡ bit_in masks (start + k))
    → given_in (bit_at mask) (low_bytes width cell) ≡ take width (drop start (given_in (bit_in masks) lanes))
cell_shown masks lanes start width mask cell bytes bits =
    given_in-same (bit_at mask) (λ k. bit_in masks (start + k)) (low_bytes width cell)
    (λ k below. bits k (omega (arith, below, length-low_bytes width cell)))
    ∙ ap (given_in (λ k. bit_in masks (start + k))) bytes
    ∙ sym (window-given_in (bit_in masks) start width lanes)

-- ---- written

pub written : (masks masks' lanes : List ℕ) (start : ℕ) (new : List ℕ) (cells : List (Option ℕ))
    → start + length new ≤ length lanes
    → given_in (λ k. bit_in masks' (start + k)) new ≡ cells
    → ((place : ℕ) → (place < start) ⊎ (start + length new ≤ place) → bit_in masks' place ≡ bit_in masks place)
    → given_in (bit_in masks') (with_window lanes start new) ≡ replaced (given_in (bit_in masks) lanes) start cells
written masks masks' lanes start new cells inside is outside =
    let old = bit_in masks in
    let bits = bit_in masks' in
    let n = length new in
    let head = take start lanes in
    let tail = drop (start + n) lanes in
    let head_long : length head ≡ start = length-take-le start lanes (omega (arith, inside)) in
    let front_long : length (head ++ new) ≡ start + n = length-append head new ∙ omega (arith, head_long) in
    let counted : length cells ≡ n = ap length (sym is) ∙ length-given_in (λ k. bits (start + k)) new in
    let first : given_in bits head ≡ take start (given_in old lanes) =
    given_in-same bits old head (λ k below. outside k (inl (omega (arith, below, head_long))))
    ∙ sym (take-given_in old start lanes) in
    let second : given_in (λ k. bits (length head + k)) new ≡ cells =
    given_in-same (λ k. bits (length head + k)) (λ k. bits (start + k)) new
    (λ k below. ap (λ m. bits (m + k)) head_long) ∙ is in
    let third : given_in (λ k. bits (length (head ++ new) + k)) tail
    ≡ drop (start + length cells) (given_in old lanes) =
    given_in-same (λ k. bits (length (head ++ new) + k)) (λ k. old (start + n + k)) tail
    (λ k below. ap (λ m. bits (m + k)) front_long ∙ outside (start + n + k) (inr (omega arith)))
    ∙ sym (drop-given_in old (start + n) lanes) ∙ ap (λ m. drop (start + m) (given_in old lanes)) (sym counted) in
    given_in-append bits (head ++ new) tail
    ∙ ap (λ front. front ++ given_in (λ k. bits (length (head ++ new) + k)) tail) (given_in-append bits head new
    ∙ ap (λ a. a ++ given_in (λ k. bits (length head + k)) new) first
    ∙ ap (λ b. take start (given_in old lanes) ++ b) second)
    ∙ ap (λ back. (take start (given_in old lanes) ++ cells) ++ back) third

-- a byte more at the end of room
given_as : (bit : ℕ) (byte : Option ℕ) → bit ≡ known_bit (is_some byte) → given_byte bit (unwrap_or byte 0) ≡ byte
given_as bit None is = ap (λ b. given_byte b 0) is
given_as bit (Some byte) is = ap (λ b. given_byte b byte) is

pub pushed : (words masks masks' : List ℕ) (len : ℕ) (byte : Option ℕ) → len / 8 < length words
    → unwrap_or byte 0 < 256 → bit_in masks' (len + 0) ≡ known_bit (is_some byte)
    → ((other : ℕ) → (other < len) ⊎ (len + 1 ≤ other) → bit_in masks' other ≡ bit_in masks other)
    → take (len + 1) (given_in (bit_in masks') (lanes_of (set words (len / 8)
    (with_cell (get_or words (len / 8) 0) (len % 8) 1 (unwrap_or byte 0)))))
    ≡ take len (given_in (bit_in masks) (lanes_of words)) ++ byte ∷ []
pushed words masks masks' len byte within small is outside =
    let cell = unwrap_or byte 0 in
    let lanes = lanes_of words in
    let cells = given_in (bit_in masks) lanes in
    let alone : cell % 256 ≡ cell = omega (arith, small) in
    let low : low_bytes 1 cell ≡ cell ∷ [] = ap (λ b. b ∷ []) alone in
    let room : len < length lanes = omega (arith, within, length-lanes_of words) in
    let wide : length (take len cells) ≡ len =
    length-take-le len cells (omega (arith, room, length-given_in (bit_in masks) lanes)) in
    let front : length (take len cells ++ byte ∷ []) ≡ len + 1 =
    length-append (take len cells) (byte ∷ []) ∙ omega (arith, wide) in
    ap (λ bytes. take (len + 1) (given_in (bit_in masks') bytes))
    (cell_written words len 1 cell within (omega arith) small ∙ ap (with_window lanes len) low)
    ∙ ap (take (len + 1)) (written masks masks' lanes len (cell ∷ []) (byte ∷ []) (omega (arith, room))
    (ap (λ b. b ∷ []) (given_as (bit_in masks' (len + 0)) byte is)) outside)
    ∙ take_at (take len cells ++ byte ∷ []) (drop (len + 1) cells) (len + 1) front

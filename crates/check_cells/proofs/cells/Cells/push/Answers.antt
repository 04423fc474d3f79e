use Rattle.std.proofs.Common.{◌≡◌, ◌∙◌, ℕ, ◌<◌, ◌/◌, ◌%◌, ◌+◌, List, ◌∷◌, [], ◌++◌, length, take, set, get_or, Option, unwrap_or, ap, arith}
use Rattle.std.proofs.lemmas.List.{length-set}
use Rattle.tl_types.specs.Bytes.{bit_in, given_in}
use Rattle.tl_ops.specs.Cell.{lanes_of, with_cell}
use Rattle.check_cells.specs.Room.{IsRoom}
use Rattle.check_cells.specs.Bit.{known_bit}
use Rattle.check_cells.proofs.Lanes.{length-room}
use Rattle.check_cells.proofs.Written.{pushed}
use Rattle.check_cells.proofs.cells.Cells.push.Goals as goal

-- there is room for a byte more
small : (words masks : List ℕ) (len : ℕ) (now : List (Option ℕ)) → IsRoom words masks len
    → take len (given_in (bit_in masks) (lanes_of words)) ≡ now → length now < 256 → len < 256
small words masks len now room is below =
    omega (arith, below, ap length is, length-room words masks len room.words_counted room.in_limit)

pub bounds-self-inside-place : goal.bounds-self-inside-place
bounds-self-inside-place c =
    let inside = c.self.inside in
    let below = small inside.words inside.masks inside.len c.args.self.now c.self.invariant c.self.view_is c.requires in
    omega (arith, below)

pub bounds-self-inside-place-2 : goal.bounds-self-inside-place-2
bounds-self-inside-place-2 c =
    let inside = c.self.inside in
    let below = small inside.words inside.masks inside.len c.args.self.now c.self.invariant c.self.view_is c.requires in
    omega (arith, below)

pub mark_cell-requires-clause-inside : goal.mark_cell-requires-clause-inside
mark_cell-requires-clause-inside c =
    let inside = c.self.inside in
    let below = small inside.words inside.masks inside.len c.args.self.now c.self.invariant c.self.view_is c.requires in
    omega (arith, below, c.self.invariant.masks_counted)

pub invariant_of-self : goal.invariant_of-self
invariant_of-self c =
    let inside = c.self.inside in
    let below = small inside.words inside.masks inside.len c.args.self.now c.self.invariant c.self.view_is c.requires in
    record {
      words_counted = length-set inside.words (inside.len / 8) c.with_cell.result ∙ c.self.invariant.words_counted;
      masks_counted = c.mark_cell.auto.masks ∙ c.self.invariant.masks_counted;
      in_limit = omega (arith, below);
    }

pub returns : goal.returns
returns c =
    let inside = c.self.inside in
    let byte = c.args.byte in
    let place = inside.len / 8 in
    let below = small inside.words inside.masks inside.len c.args.self.now c.self.invariant c.self.view_is c.requires in
    let within : place < length inside.words = omega (arith, below, c.self.invariant.words_counted) in
    let cell : c.from-cell.result ≡ unwrap_or byte 0 = c.from-cell.ensures ∙ c.unwrap_or.ensures in
    let fits : unwrap_or byte 0 < 256 = omega (arith, cell, c.from-cell.ensures, c.unwrap_or.type_inv) in
    let made = c.with_cell.ensures
    ∙ ap (λ b. with_cell (get_or inside.words place 0) (inside.len % 8) 1 b) cell in
    ap (λ w. take (inside.len + 1) (given_in (bit_in c.mark_cell.new.masks) (lanes_of (set inside.words place w)))) made
    ∙ pushed inside.words inside.masks c.mark_cell.new.masks inside.len byte within fits
    (c.mark_cell.ensures.inside 0 (omega arith) ∙ ap known_bit c.is_some.ensures) c.mark_cell.ensures.outside
    ∙ ap (λ cells. cells ++ byte ∷ []) c.self.view_is

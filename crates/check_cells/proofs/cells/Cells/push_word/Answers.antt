use Rattle.std.proofs.Common.{◌≡◌, ◌∙◌, ℕ, ◌/◌, ◌%◌, List, ◌++◌, length, take, Option, sym, ap, arith}
use Rattle.std.specs.Int.{bit_at}
use Rattle.std.proofs.lemmas.List.{length-set}
use Rattle.tl_types.specs.Bytes.{bit_in, given_in}
use Rattle.tl_ops.specs.Number.{low_bytes}
use Rattle.tl_ops.specs.Cell.{lanes_of}
use Rattle.check_cells.specs.Room.{IsRoom}
use Rattle.check_cells.proofs.Lanes.{length-room}
use Rattle.check_cells.proofs.Seen.{word_pushed}
use Rattle.check_cells.proofs.cells.Cells.push_word.Goals as goal

-- how many there are
counted : (words masks : List ℕ) (len : ℕ) (now : List (Option ℕ)) → IsRoom words masks len
    → take len (given_in (bit_in masks) (lanes_of words)) ≡ now → len ≡ length now
counted words masks len now room is = sym (length-room words masks len room.words_counted room.in_limit) ∙ ap length is

pub bounds-self-inside-place : goal.bounds-self-inside-place
bounds-self-inside-place c =
    let inside = c.self.inside in
    let long = counted inside.words inside.masks inside.len c.args.self.now c.self.invariant c.self.view_is in
    omega (arith, long, c.requires.room, c.self.invariant.words_counted)

pub bounds-self-inside-place-2 : goal.bounds-self-inside-place-2
bounds-self-inside-place-2 c =
    let inside = c.self.inside in
    let long = counted inside.words inside.masks inside.len c.args.self.now c.self.invariant c.self.view_is in
    omega (arith, long, c.requires.room, c.self.invariant.masks_counted)

pub overflow_add-self : goal.overflow_add-self
overflow_add-self c =
    let inside = c.self.inside in
    let long = counted inside.words inside.masks inside.len c.args.self.now c.self.invariant c.self.view_is in
    omega (arith, long, c.requires.room)

pub invariant_of-self : goal.invariant_of-self
invariant_of-self c =
    let inside = c.self.inside in
    let long = counted inside.words inside.masks inside.len c.args.self.now c.self.invariant c.self.view_is in
    record {
      words_counted = length-set inside.words (inside.len / 8) c.args.word ∙ c.self.invariant.words_counted;
      masks_counted = length-set inside.masks (inside.len / 8) c.args.known ∙ c.self.invariant.masks_counted;
      in_limit = omega (arith, long, c.requires.room);
    }

pub returns : goal.returns
returns c =
    let inside = c.self.inside in
    let long = counted inside.words inside.masks inside.len c.args.self.now c.self.invariant c.self.view_is in
    let whole : inside.len % 8 ≡ 0 = ap (λ n. n % 8) long ∙ c.requires.aligned in
    word_pushed inside.words inside.masks inside.len c.args.word c.args.known whole
    (omega (arith, long, c.requires.room, c.self.invariant.words_counted))
    (c.self.invariant.masks_counted ∙ sym c.self.invariant.words_counted)
    ∙ ap (λ cells. cells ++ given_in (bit_at c.args.known) (low_bytes 8 c.args.word)) c.self.view_is

use Rattle.std.proofs.Common.{◌≡◌, ◌∙◌, ℕ, ◌+◌, ◌/◌, ◌%◌, ◌^◌, ◌<◌, ◌≤◌, length, take, drop, subst, ap, arith}
use Rattle.tl_types.specs.Operation.{reply_op_of}
use Rattle.check_memory.specs.Known.{replaced}
use Rattle.check_memory.specs.Pattern.{shown_cells}
use Rattle.check_memory.specs.Paged.{Paged, paged_cells, content, HasPage, IsAt}
use Rattle.check_memory.proofs.ByteByByte.{left_apart}
use Rattle.check_memory.proofs.Legal.{fits_words, in_page}
use Rattle.check_memory.proofs.SeenWindows.{window_then}
use Rattle.check_memory.proofs.Space.{length-tabulate}
use Rattle.check_memory.proofs.place.serve_apart.Goals as goal

-- a window of a page ends in the address space
room : (address size : ℕ) (pages : Paged) → size ≤ 8 → address % 2 ^ size ≡ 0 → address < 2 ^ 64
    → address + 2 ^ size ≤ length (paged_cells pages)
room address size pages small aligned below =
    omega (arith, in_page address size small aligned, below, length-tabulate (content pages.slots pages.known) (2 ^ 64))

pub write_bytes-requires-clause-in_space : goal.write_bytes-requires-clause-in_space
write_bytes-requires-clause-in_space c =
    let ask = c.args.ask.now in
    omega (
      arith,
      in_page ask.address ask.size c.requires.small c.requires.aligned,
      c.requires.window,
      c.address-2.ensures,
      c.address-2.type_inv,
    )

pub write_bytes-requires-clause-held : goal.write_bytes-requires-clause-held
write_bytes-requires-clause-held c =
    λ k below.
    let ask = c.args.ask.now in
    let same : c.address.result / 256 ≡ (c.address-2.result + k) / 256 =
    omega (
      arith,
      in_page ask.address ask.size c.requires.small c.requires.aligned,
      c.requires.window,
      below,
      c.address.ensures,
      c.address-2.ensures,
    ) in
    let P : ℕ → Type 0 = λ n. HasPage c.page_for.new.self.slots n in
    subst P same (c.in_ok-at.at, c.in_ok-at.ensures.at)

pub serve-requires-clause-at : goal.serve-requires-clause-at
serve-requires-clause-at c =
    let P : ℕ → Type 0 = λ a. IsAt c.write_bytes.new.pages.slots (a / 256) c.in_ok-at.at in
    subst P c.address.ensures
    (c.write_bytes.ensures.kept (c.address.result / 256) c.in_ok-at.at c.in_ok-at.ensures.at)

pub serve-requires-clause-fits : goal.serve-requires-clause-fits
serve-requires-clause-fits c =
    fits_words c.args.ask.now.address c.args.ask.now.size c.requires.small c.requires.aligned

pub serve-requires-clause-inside : goal.serve-requires-clause-inside
serve-requires-clause-inside c =
    in_page c.args.ask.now.address c.args.ask.now.size c.requires.small c.requires.aligned

pub read-requires-clause-fits : goal.read-requires-clause-fits
read-requires-clause-fits c =
    rw (c.address-3.ensures, c.width.ensures.value)
    (fits_words c.args.ask.now.address c.args.ask.now.size c.requires.small c.requires.aligned)

pub read-requires-clause-inside : goal.read-requires-clause-inside
read-requires-clause-inside c =
    rw (c.address-3.ensures, c.width.ensures.value)
    (in_page c.args.ask.now.address c.args.ask.now.size c.requires.small c.requires.aligned)

pub returns-clause-left : goal.returns-clause-left
returns-clause-left c =
    let ask = c.args.ask.now in
    let before = paged_cells c.page_for.new.self in
    let served = paged_cells c.serve.new.self in
    let below : ask.address < 2 ^ 64 = omega (arith, c.address.ensures, c.address.type_inv) in
    left_apart c.args.kind ask.op before (paged_cells c.write_bytes.new.pages) served c.read.new.cells c.args.cells.now
    ask.bytes ask.address (2 ^ ask.size)
    (room ask.address ask.size c.page_for.new.self c.requires.small c.requires.aligned below) c.requires.window
    c.requires.counted
    (c.write_bytes.ensures.after ∙ ap (λ a. replaced before a c.args.cells.now) c.address-2.ensures)
    c.serve.ensures.after
    (c.read.ensures ∙ ap (λ a. take c.width.result (drop a served)) c.address-3.ensures
    ∙ ap (λ n. take n (drop ask.address served)) c.width.ensures.value)

pub returns-clause-shown : goal.returns-clause-shown
returns-clause-shown c =
    let ask = c.args.ask.now in
    let before = paged_cells c.page_for.new.self in
    let below : ask.address < 2 ^ 64 = omega (arith, c.address.ensures, c.address.type_inv) in
    c.serve.ensures.shown
    ∙ ap (shown_cells (reply_op_of ask.op))
    (window_then before (paged_cells c.write_bytes.new.pages) c.args.cells.now ask.address (2 ^ ask.size)
    (room ask.address ask.size c.page_for.new.self c.requires.small c.requires.aligned below) c.requires.window
    (c.write_bytes.ensures.after ∙ ap (λ a. replaced before a c.args.cells.now) c.address-2.ensures))

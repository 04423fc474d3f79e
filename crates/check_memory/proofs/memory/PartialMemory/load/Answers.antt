use Rattle.std.proofs.Common.{◌≡◌, ◌∙◌, ℕ, ◌+◌, ◌-◌, ◌^◌, ◌≤◌, List, ◌++◌, length, take, drop, Option, Some, sym, ap, arith}
use Rattle.std.proofs.Math.Seq.{take-add}
use Rattle.std.proofs.lemmas.List.{length-append, length-take, length-drop, length-map, length-take-le, map-append}
use Rattle.check_memory.specs.Known.{known, replaced}
use Rattle.check_memory.specs.Partial.{Partial, loaded}
use Rattle.check_memory.proofs.Space.{replaced-more}
use Rattle.check_memory.proofs.memory.PartialMemory.load.Goals as goal

-- bytes written after others
loaded-more : (memory : Partial) (address done count : ℕ) (bytes : List ℕ) → address ≤ length memory.cells
    → done + count ≤ length bytes
    → loaded (loaded memory address (take done bytes)) (address + done) (take count (drop done bytes))
    ≡ loaded memory address (take (done + count) bytes)
loaded-more memory address done count bytes inside within =
    let front = take done bytes in
    let more = take count (drop done bytes) in
    let long : length (known front) ≡ done =
    length-map front (λ byte. Some byte) ∙ length-take-le done bytes (omega (arith, within)) in
    let at : address + done ≡ address + length (known front) = omega (arith, long) in
    let left : List (Option ℕ) → Partial = λ cells. record memory { cells = cells } in
    ap left (replaced-more memory.cells (known front) (known more) address (address + done) inside at
    ∙ ap (replaced memory.cells address)
    (sym (map-append (λ byte. Some byte) front more) ∙ ap known (sym (take-add done count bytes))))

-- what is as long with a window written, and holds that, begins before it
inside_if : (cells new : List (Option ℕ)) (start n : ℕ) → length (replaced cells start new) ≡ n
    → start + length new ≤ n → start ≤ length cells
inside_if cells new start n is fits =
    omega (
      arith,
      is,
      fits,
      length-append (take start cells ++ new) (drop (start + length new) cells),
      length-append (take start cells) new,
      length-take start cells,
      length-drop (start + length new) cells,
    )

pub loop-done-preserved : goal.loop-done-preserved
loop-done-preserved c =
    let memory = c.args.self.now in
    let bytes = c.args.bytes.now in
    let address = c.args.address in
    let done = c.loop-done.done in
    let count = c.min-count.result in
    let within : done + count ≤ length bytes = omega (arith, c.min-count.ensures, c.loop-done.invariant.0) in
    let long : length (known (take done bytes)) ≡ done =
    length-map (take done bytes) (λ byte. Some byte) ∙ length-take-le done bytes c.loop-done.invariant.0 in
    let space : length (replaced memory.cells address (known (take done bytes))) ≡ 2 ^ 64 =
    sym (ap (λ (m : Partial). length m.cells) c.loop-done.invariant.1) ∙ c.load_part.ensures.space in
    let inside : address ≤ length memory.cells =
    inside_if memory.cells (known (take done bytes)) address (2 ^ 64) space
    (omega (arith, long, c.loop-done.invariant.0, c.requires)) in
    let part : done + count - done ≡ count = omega arith in (
      within,
      c.in_ok-load_part.ensures.after
          ∙ ap (λ n. loaded c.loop-done.self (address + done) (take n (drop done bytes))) part
          ∙ ap (λ m. loaded m (address + done) (take count (drop done bytes))) c.loop-done.invariant.1
          ∙ loaded-more memory address done count bytes inside within,
    )

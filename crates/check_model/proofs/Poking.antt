-- A byte that is put is seen.
use Rattle.std.proofs.Common.{◌≡◌, ◌∙◌, sym, ℕ, ◌+◌, ◌<◌, false, true, List, [], ◌∷◌, length, get_or, Option, None, Some, ap, arith, if◌then◌else◌}
use Rattle.check_memory.specs.Partial.{Partial, byte_seen, is_volatile, place_of_byte}
use Rattle.check_memory.proofs.Forgotten.{get_or-forgotten_in}
use Rattle.check_memory.proofs.Replaced.{get_or-replaced_in}
use Rattle.check_memory.proofs.Unknown.{get_or-unknown}
use Rattle.check_model.specs.Bytes.{cells_with, with_byte}

put_there : (cells : List (Option ℕ)) (place : ℕ) (byte : Option ℕ) → place < length cells
    → get_or (cells_with cells place byte) place None ≡ byte
put_there cells place None below =
    let here : place + 0 ≡ place = omega arith in
    ap (λ p. get_or (cells_with cells place None) p None) (sym here)
    ∙ get_or-forgotten_in (true ∷ []) place cells 0 (omega (arith, below)) (omega arith)
put_there cells place (Some byte) below =
    let here : place + 0 ≡ place = omega arith in
    ap (λ p. get_or (cells_with cells place (Some byte)) p None) (sym here)
    ∙ get_or-replaced_in cells (Some byte ∷ []) place 0 (omega (arith, below)) (omega arith)

pub poked_is_seen : (memory : Partial) (address : ℕ) (byte : Option ℕ) → place_of_byte memory address < length memory.cells
    → is_volatile memory (place_of_byte memory address) ≡ false → byte_seen (with_byte memory address byte) address ≡ byte
poked_is_seen memory address byte below still =
    let place = place_of_byte memory address in
    let cells = cells_with memory.cells place byte in
    get_or-unknown (is_volatile memory) cells place
    ∙ ap (λ b. if b then None else get_or cells place None) still ∙ put_there memory.cells place byte below

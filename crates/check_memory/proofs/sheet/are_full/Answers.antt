use Rattle.std.proofs.Common.{◌<◌, ℕ, get_or, rules}
use Rattle.std.specs.Prelude.{All, IsTrue, ◌↔◌}
use Rattle.check_memory.proofs.MaskWords.{IsFull, full_bits, full_from_bits}
use Rattle.check_memory.proofs.sheet.are_full.Goals as goal

pub returns : goal.returns
returns c =
    let masks = c.args.masks.now in
    let told : IsTrue c.all.result ↔ All IsFull masks = search rules in
    let small : (i : ℕ) → get_or masks i 0 < 256 = λ i. search rules in
    (λ set. full_bits masks (told.0 set), λ bits. told.1 (full_from_bits masks small bits))

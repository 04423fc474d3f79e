use Rattle.std.proofs.Common.{◌≡◌, map, take}
use Rattle.tl_arena.proofs.key.remember.Given as goal

abbrev pub invariant-loop-bank : goal.invariant-loop-bank
invariant-loop-bank l = map (λ bank. bank.value) l.seen.items ≡ take l.bank-index l.banks

-- The identifiers so far are kept, and the others are to come.
use Rattle.std.proofs.Common.{◌≡◌, ℕ, List, drop, map, option_map}
use Rattle.check_vcd.specs.Codes.{find_in}
use Rattle.check_signals.specs.Found.{slots_from}
use Rattle.check_waves.proofs.engine.keep_all.Given as goal

abbrev pub invariant-loop-slot : goal.invariant-loop-slot
invariant-loop-slot g l = record {
  kept : (other : List ℕ)
      → slots_from (map (λ code. option_map (λ code. code.items) code) (drop l.slot l.codes)) l.slot
      (find_in l.dump.codes) other
      ≡ slots_from (map (λ code. option_map (λ code. code.items) code) l.codes) 0 (find_in l.fn.dump.codes) other;
  words : l.dump.words ≡ l.fn.dump.words;
  body : l.dump.body ≡ l.fn.dump.body;
}

-- What resets leave of memories: of one request that is cut short after another.
use Rattle.std.proofs.Common.{◌≡◌, ◌∙◌, ◌⊎◌, inl, inr, ⊎_elim, ℕ, Bool, true, false, if◌then◌else◌, Option, None, refl, sym, ap, subst}
use Rattle.tl_types.specs.Request.{Request}
use Rattle.check_memory.specs.Partial.{Partial}
use Rattle.check_memory.specs.declared.slave.Slave.{Slave}
use Rattle.check_memory.specs.declared.slave.Slave.TheVariants.{Memory, Device}
use Rattle.check_memory.proofs.Unknown.{get_or-unknown, length-unknown_where}
use Rattle.check_contests.specs.Writes.{may_write}
use Rattle.check_contests.specs.Cut.{IsLeftMemory, IsLeftSlave, byte_at, memory_cut, slave_cut}

-- ---- memories

none_left : (C : Request → Type 0) (memory : Partial) → ((ask : Request) → C ask → ⊥) → IsLeftMemory C memory memory
none_left C memory none = record {
  same = refl;
  counted = refl;
  lost = λ ask address is. absurd (none ask is);
  fades = λ address is. is;
  stays = λ address is. refl;
}

hidden : (b : Bool) (cell : Option ℕ) → b ≡ true → (if b then None else cell) ≡ None
hidden true cell is = refl
hidden false cell is = cc

shown : (b : Bool) (cell : Option ℕ) → b ≡ false → (if b then None else cell) ≡ cell
shown true cell is = cc
shown false cell is = refl

faded : (b : Bool) (cell : Option ℕ) → cell ≡ None → (if b then None else cell) ≡ None
faded true cell is = refl
faded false cell is = is

cut_left : (memory : Partial) (ask : Request) → IsLeftMemory (λ other. other ≡ ask) memory (memory_cut memory ask)
cut_left memory ask = record {
  same = refl;
  counted = length-unknown_where (may_write memory ask) memory.cells;
  lost = λ other address is may.
      at address ∙ hidden (may_write memory ask address) (byte_at memory address)
      (ap (λ (a : Request). may_write memory a address) (sym is) ∙ may);
  fades = λ address is. at address ∙ faded (may_write memory ask address) (byte_at memory address) is;
  stays = λ address is. at address ∙ shown (may_write memory ask address) (byte_at memory address) (is ask refl);
}
  where
    at : (address : ℕ) → byte_at (memory_cut memory ask) address
        ≡ (if may_write memory ask address then None else byte_at memory address)
    at address = get_or-unknown (may_write memory ask) memory.cells address

both_left : (C D : Request → Type 0) (memory mid left : Partial) → IsLeftMemory C memory mid → IsLeftMemory D mid left
    → IsLeftMemory (λ ask. C ask ⊎ D ask) memory left
both_left C D memory mid left first second = record {
  same = second.same ∙ ap (λ (m : Partial). record m { cells = left.cells }) first.same;
  counted = second.counted ∙ first.counted;
  lost = λ ask address is may. ⊎_elim
      (λ here. second.fades address (first.lost ask address here may))
      (λ here. second.lost ask address here (writes_then ask address ∙ may)) is;
  fades = λ address is. second.fades address (first.fades address is);
  stays = λ address none.
      second.stays address (λ ask is. writes_then ask address ∙ none ask (inr is))
      ∙ first.stays address (λ ask is. none ask (inl is));
}
  where
    writes_then : (ask : Request) (address : ℕ) → may_write mid ask address ≡ may_write memory ask address
    writes_then ask address = ap (λ (m : Partial). may_write m ask address) first.same

alike_left : (C D : Request → Type 0) (memory left : Partial) → ((ask : Request) → C ask → D ask)
    → ((ask : Request) → D ask → C ask) → IsLeftMemory C memory left → IsLeftMemory D memory left
alike_left C D memory left to from is = record {
  same = is.same;
  counted = is.counted;
  lost = λ ask address here. is.lost ask address (from ask here);
  fades = is.fades;
  stays = λ address none. is.stays address (λ ask here. none ask (to ask here));
}

-- ---- slaves

pub none_left_slave : (C : Request → Type 0) (slave : Slave) → ((ask : Request) → C ask → ⊥) → IsLeftSlave C slave slave
none_left_slave C (Memory memory) none = (memory, refl, none_left C memory none)
none_left_slave C Device none = refl

pub cut_left_slave : (slave : Slave) (ask : Request) → IsLeftSlave (λ other. other ≡ ask) slave (slave_cut slave ask)
cut_left_slave (Memory memory) ask = (memory_cut memory ask, refl, cut_left memory ask)
cut_left_slave Device ask = refl

pub both_left_slave : (C D : Request → Type 0) (slave mid left : Slave) → IsLeftSlave C slave mid
    → IsLeftSlave D mid left → IsLeftSlave (λ ask. C ask ⊎ D ask) slave left
both_left_slave C D (Memory memory) mid left first second =
    let next = subst (λ (s : Slave). IsLeftSlave D s left) first.1 second in
    (next.0, next.1, both_left C D memory first.0 next.0 first.2 next.2)
both_left_slave C D Device mid left first second = subst (λ (s : Slave). IsLeftSlave D s left) first second

pub alike_left_slave : (C D : Request → Type 0) (slave left : Slave) → ((ask : Request) → C ask → D ask)
    → ((ask : Request) → D ask → C ask) → IsLeftSlave C slave left → IsLeftSlave D slave left
alike_left_slave C D (Memory memory) left to from is = (is.0, is.1, alike_left C D memory is.0 to from is.2)
alike_left_slave C D Device left to from is = is

-- What a reset leaves is one thing alone.
use Rattle.std.proofs.Common.{◌≡◌, ◌∙◌, ℕ, suc, ◌<◌, Bool, true, false, List, [], ◌∷◌, length, Option, Some, None, slice_index_or, refl, sym, ap, arith}
use Rattle.tl_types.specs.Request.{Request}
use Rattle.check_memory.specs.Partial.{Partial}
use Rattle.check_memory.specs.declared.slave.Slave.{Slave}
use Rattle.check_memory.specs.declared.slave.Slave.TheVariants.{Memory, Device}
use Rattle.check_contests.specs.Cut.{IsLeftMemory, IsLeftSlave, byte_at}
use Rattle.check_contests.specs.Writes.{may_write}
use Rattle.check_flight.specs.PortSlave.{PortSlave, once_reset}
use Rattle.check_watch.specs.Past.{State, slave_at}
use Rattle.check_watch.specs.Plan.{Plan}
use Rattle.check_watch.specs.Reset.{AreReset, IsCut, IsLeftPort, loaded_at}

-- ---- a memory

not_true : (b : Bool) → (b ≡ true → ⊥) → b ≡ false
not_true true never = absurd (never refl)
not_true false never = refl

not_both : (byte : Option ℕ) (value : ℕ) → byte ≡ Some value → byte ≡ None → ⊥
not_both byte value some none = cc

module _ (Cut : Request → Type 0) (memory : Partial) where
  -- a byte that is known after the reset is one that no request may write which the reset cut short
  same_known : (left other : Partial) → IsLeftMemory Cut memory left → IsLeftMemory Cut memory other → (address value : ℕ)
      → byte_at left address ≡ Some value → byte_at left address ≡ byte_at other address
  same_known left other is also address value known =
      let unwritten : (ask : Request) → Cut ask → may_write memory ask address ≡ false =
      λ ask cut. not_true (may_write memory ask address)
      (λ may. not_both (byte_at left address) value known (is.lost ask address cut may)) in
      is.stays address unwritten ∙ sym (also.stays address unwritten)

  same_byte_by : (left other : Partial) → IsLeftMemory Cut memory left → IsLeftMemory Cut memory other → (address : ℕ)
      → (one two : Option ℕ) → byte_at left address ≡ one → byte_at other address ≡ two
      → byte_at left address ≡ byte_at other address
  same_byte_by left other is also address (Some value) two here there = same_known left other is also address value here
  same_byte_by left other is also address None (Some value) here there =
      sym (same_known other left also is address value there)
  same_byte_by left other is also address None None here there = here ∙ sym there

  same_byte : (left other : Partial) → IsLeftMemory Cut memory left → IsLeftMemory Cut memory other → (address : ℕ)
      → byte_at left address ≡ byte_at other address
  same_byte left other is also address =
      same_byte_by left other is also address (byte_at left address) (byte_at other address) refl refl

same_cells : (a b : List (Option ℕ)) → length a ≡ length b
    → ((address : ℕ) → slice_index_or a address None ≡ slice_index_or b address None) → a ≡ b
same_cells [] [] counted each = refl
same_cells [] (y ∷ b) counted each = absurd (omega (arith, counted))
same_cells (x ∷ a) [] counted each = absurd (omega (arith, counted))
same_cells (x ∷ a) (y ∷ b) counted each =
    let first : x ≡ y = each 0 in
    let rest : a ≡ b = same_cells a b (omega (arith, counted)) (λ address. each (suc address)) in
    λ i. first i ∷ rest i

one_memory : (Cut : Request → Type 0) (memory left other : Partial) → IsLeftMemory Cut memory left
    → IsLeftMemory Cut memory other → left ≡ other
one_memory Cut memory left other is also =
    let cells : left.cells ≡ other.cells =
    same_cells left.cells other.cells (is.counted ∙ sym also.counted) (same_byte Cut memory left other is also) in
    is.same ∙ ap (λ (c : List (Option ℕ)). record memory { cells = c }) cells ∙ sym also.same

-- ---- a slave

one_slave : (Cut : Request → Type 0) (slave left other : Slave) → IsLeftSlave Cut slave left → IsLeftSlave Cut slave other
    → left ≡ other
one_slave Cut (Memory memory) left other is also =
    is.1 ∙ ap (λ (m : Partial). Memory m) (one_memory Cut memory is.0 also.0 is.2 also.2) ∙ sym also.1
one_slave Cut Device left other is also = is ∙ sym also

pub one_port : (Cut : Request → Type 0) (slave left other : PortSlave) → IsLeftPort Cut slave left
    → IsLeftPort Cut slave other → left ≡ other
one_port Cut slave left other is also =
    is.same ∙ ap (λ (k : Slave). record slave { kept = k }) (one_slave Cut slave.kept left.kept other.kept is.kept also.kept)
    ∙ sym also.same

-- ---- all slaves

pub same_slaves : (a b : List PortSlave) → length a ≡ length b
    → ((port : ℕ) → port < length a → slave_at a port ≡ slave_at b port) → a ≡ b
same_slaves [] [] counted each = refl
same_slaves [] (y ∷ b) counted each = absurd (omega (arith, counted))
same_slaves (x ∷ a) [] counted each = absurd (omega (arith, counted))
same_slaves (x ∷ a) (y ∷ b) counted each =
    let first : x ≡ y = each 0 (omega arith) in
    let rest : a ≡ b =
    same_slaves a b (omega (arith, counted)) (λ port inside. each (suc port) (omega (arith, inside))) in
    λ i. first i ∷ rest i

-- of the same loads a reset leaves the same
pub one_reset : (plan : Plan) (state : State) (loaded also_loaded : List (Option Slave)) (after other : List PortSlave)
    → ((port : ℕ) → loaded_at loaded port ≡ loaded_at also_loaded port) → AreReset plan state loaded after
    → AreReset plan state also_loaded other → after ≡ other
one_reset plan state loaded also_loaded after other loads is also =
    same_slaves after other (is.counted ∙ sym also.counted)
    (λ port inside.
    let here = is.each port in
    let there = also.each port in
    here.2 ∙ ap (λ (s : PortSlave). once_reset s (loaded_at loaded port))
    (one_port (IsCut plan state port) (state.slaves port) here.0 there.0 here.1 there.1)
    ∙ ap (once_reset there.0) (loads port) ∙ sym there.2)

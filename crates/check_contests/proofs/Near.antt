-- When addresses and a window have one in common.
use Rattle.std.proofs.Common.{◌≡◌, ℕ, ◌+◌, ◌-◌, ◌^◌, ◌<◌, ◌≤◌, true, false, nat_lt, IsTrue, ◌↔◌, subst, arith}
use Rattle.std.proofs.lemmas.Bool.{ltb-true, lt-ltb, false_from_ne_true}
use Rattle.std.proofs.lemmas.Nat.{pow_pos}
use Rattle.tl_types.specs.Request.{Request}
use Rattle.tl_types.specs.declared.operation.AskOp.{AskOp}
use Rattle.check_contests.specs.Writes.{in_window, writes}
use Rattle.check_contests.proofs.Clash.{not_both}
use Rattle.check_contests.proofs.Effect.{place_in, in_here, written_in}

abbrev pub IsNear : Request → ℕ → ℕ → Type 0
IsNear ask address count = (place : ℕ) × (place < count) × (in_window ask (address + place) ≡ true)

some : (size : ℕ) → 0 < 2 ^ size
some size = pow_pos size

pub near_before : (ask : Request) (address count at : ℕ) → at ≡ ask.address → address ≤ at
    → IsTrue (nat_lt (at - address) count) ↔ IsNear ask address count
near_before ask address count at same below = (
  λ is. let less : at - address < count = ltb-true (at - address) count is in
      let here : ask.address + 0 ≡ address + (at - address) = omega (arith, same, below) in
      (at - address, less, subst (λ (n : ℕ). in_window ask n ≡ true) here (in_here ask 0 (some ask.size))),
  λ near. let place = place_in ask (address + near.0) near.2 in
      lt-ltb (at - address) count (omega (arith, same, near.1, place.2)),
)

-- ---- where an address is in a window

pub out_below : (ask : Request) (a : ℕ) → a < ask.address → in_window ask a ≡ false
out_below ask a below = false_from_ne_true (in_window ask a) (λ is. omega (arith, (place_in ask a is).2, below))

pub out_above : (ask : Request) (a : ℕ) → ask.address + 2 ^ ask.size ≤ a → in_window ask a ≡ false
out_above ask a above =
    false_from_ne_true (in_window ask a) (λ is.
    let place = place_in ask a is in omega (arith, place.1, place.2, above))

-- what is outside of its window a request does not write
pub not_written : (op : AskOp) (ask : Request) (a : ℕ) → in_window ask a ≡ false → writes op ask a ≡ false
not_written op ask a out = false_from_ne_true (writes op ask a) (λ is. not_both (written_in op ask a is) out)

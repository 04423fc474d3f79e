use Rattle.std.proofs.Common.{rules, ◌≡◌, ◌+◌, ◌-◌, ◌^◌, true, arith}
use Rattle.std.proofs.lemmas.Bool.{le-leb}
use Rattle.std.proofs.lemmas.Nat.{pow_pos}
use Rattle.std.specs.Cmp.Derive.{both_true}
use Rattle.tl_map.specs.Range.{HoldsAsk}
use Rattle.tl_ops.specs.Store.{contains_window}
use Rattle.tl_script.specs.System.{range_of}
use Rattle.tl_script.proofs.laws.containment_is_one.Goals as goal

pub returns : goal.returns
returns c store ask = (to_window, to_range) where
  to_window : HoldsAsk (range_of store) ask → contains_window store ask ≡ true
  to_window holds =
      let some = pow_pos ask.size in
      let first = holds ask.address (omega arith) (omega arith) in
      let last = holds (ask.address + 2 ^ ask.size - 1) (omega arith) (omega arith) in
      let from = first.from in
      let below = last.below in
      both_true (le-leb _ _ from) (le-leb _ _ (omega arith))

  to_range : contains_window store ask ≡ true → HoldsAsk (range_of store) ask
  to_range holds address from below = search (rules, arith)

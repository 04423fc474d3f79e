use Rattle.std.proofs.Common.{◌≡◌, ◌∙◌, ℕ, ◌+◌, ◌-◌, ◌^◌, ◌<◌, ◌≤◌, true, false, List, length, take, drop, Option, ⊎_elim, sym, ap, arith, rules, nat_eq}
use Rattle.std.specs.Int.{bit_at}
use Rattle.tl_types.specs.Bytes.{bit_in, given_in}
use Rattle.tl_types.proofs.Given.{length-given_in}
use Rattle.check_memory.specs.Known.{replaced}
use Rattle.check_memory.specs.Cells.{new_cells}
use Rattle.std.proofs.lemmas.Nat.Bits.{bit_at_ones, bit_at_ones_above, bit_at_above, same_from_bits}
use Rattle.std.proofs.lemmas.Bool.{cases_lt}
use Rattle.tl_ops.specs.declared.kind.Kind.TheVariants.{Ram}
use Rattle.check_memory.specs.Cells.{is_swap}
use Rattle.tl_ops.specs.Number.{low_bytes}
use Rattle.check_memory.proofs.PageCells.{atomic_shown, either, neither}
use Rattle.check_cells.proofs.Written.{cell_shown}
use Rattle.check_memory.proofs.sheet.Sheet.combine.Goals as goal

pub known_cell-mask-requires-clause-inside : goal.known_cell-mask-requires-clause-inside
known_cell-mask-requires-clause-inside c =
    omega (
      arith,
      c.requires.inside,
      c.len-width.ensures.value,
      ap length c.self.view_is,
      length-given_in (bit_in c.self.inside.masks) c.self.inside.lanes,
      c.self.invariant.lanes_counted,
      c.self.invariant.masks_counted,
    )

pub update-old-requires-clause-inside : goal.update-old-requires-clause-inside
update-old-requires-clause-inside c =
    omega (
      arith,
      c.requires.inside,
      ap length c.self.view_is,
      length-given_in (bit_in c.self.inside.masks) c.self.inside.lanes,
    )

pub mark_cell-requires-clause-inside : goal.mark_cell-requires-clause-inside
mark_cell-requires-clause-inside c =
    omega (
      arith,
      c.requires.inside,
      c.len-width.ensures.value,
      ap length c.self.view_is,
      length-given_in (bit_in c.self.inside.masks) c.self.inside.lanes,
      c.self.invariant.lanes_counted,
      c.self.invariant.masks_counted,
    )

pub invariant_of-self : goal.invariant_of-self
invariant_of-self c = record {
  lanes_counted = c.update-old.ensures.len ∙ c.self.invariant.lanes_counted;
  masks_counted = c.mark_cell.auto.masks ∙ c.self.invariant.masks_counted;
}

-- a mask of all ones has all bits, and one of all bits is all ones
all_ones : (bits : ℕ → ℕ) (mask width : ℕ) → mask ≡ 2 ^ width - 1 → ((k : ℕ) → k < width → bit_at mask k ≡ bits k)
    → (k : ℕ) → k < width → bits k ≡ 1
all_ones bits mask width is are k below = sym (are k below) ∙ ap (λ m. bit_at m k) is ∙ bit_at_ones width k below

ones_from_all : (bits : ℕ → ℕ) (mask width : ℕ) → mask < 2 ^ width → ((k : ℕ) → k < width → bit_at mask k ≡ bits k)
    → ((k : ℕ) → k < width → bits k ≡ 1) → mask ≡ 2 ^ width - 1
ones_from_all bits mask width small are ones = same_from_bits mask (2 ^ width - 1) (λ i. ⊎_elim
    (λ below. are i below ∙ ones i below ∙ sym (bit_at_ones width i below))
    (λ above. bit_at_above mask width i small above ∙ sym (bit_at_ones_above width i above))
    (cases_lt i width))

same_if : (x y : ℕ) → nat_eq x y ≡ true → x ≡ y
same_if x y is = search rules

apart_if : (x y : ℕ) → nat_eq x y ≡ false → x ≡ y → ⊥
apart_if x y is same = let t : nat_eq x y ≡ true = rw same (search rules) in cc

pub returns-clause-after : goal.returns-clause-after
returns-clause-after c =
    let n = length c.args.given.now in
    let start = c.args.start in
    let masks = c.self.inside.masks in
    let inside : start + n ≤ length c.self.inside.lanes =
    omega (
      arith,
      c.requires.inside,
      ap length c.self.view_is,
      length-given_in (bit_in masks) c.self.inside.lanes,
    ) in
    let marked = rw c.len-width.ensures.value at c.mark_cell.ensures.inside in
    let others = rw c.len-width.ensures.value at c.mark_cell.ensures.outside in
    let bits = rw c.len-width.ensures.value at c.known_cell-mask.ensures.bits in
    let small = rw c.len-width.ensures.value at c.known_cell-mask.ensures.fits in
    let ones : c.ones.result ≡ 2 ^ n - 1 = c.ones.ensures.value ∙ ap (λ m. 2 ^ m - 1) c.len-width.ensures.value in
    let whole = nat_eq c.known_cell-mask.result c.ones.result in
    let left : List (Option ℕ) → List (Option ℕ) =
    λ cells. replaced cells start (new_cells Ram c.args.op (take n (drop start cells)) c.args.given.now) in
    ap (given_in (bit_in c.mark_cell.new.masks)) c.update-old.ensures.after
    ∙ atomic_shown c.args.op masks c.mark_cell.new.masks c.self.inside.lanes start c.args.given.now
    c.is_known_after-known.result whole inside c.requires.atomic marked others
    (λ is. all_ones (λ k. bit_in masks (start + k)) c.known_cell-mask.result n
    (same_if c.known_cell-mask.result c.ones.result is
    ∙ ones) bits)
    (λ is all. apart_if c.known_cell-mask.result c.ones.result is
    (ones_from_all (λ k. bit_in masks (start + k)) c.known_cell-mask.result n small bits all ∙ sym ones))
    (λ is. either whole (is_swap c.args.op) (sym c.is_known_after-known.ensures ∙ is))
    (λ is. neither whole (is_swap c.args.op) (sym c.is_known_after-known.ensures ∙ is))
    ∙ ap left c.self.view_is

pub returns-clause-len : goal.returns-clause-len
returns-clause-len c =
    length-given_in (bit_in c.mark_cell.new.masks) c.update-old.new.self
    ∙ c.update-old.ensures.len ∙ sym (length-given_in (bit_in c.self.inside.masks) c.self.inside.lanes)
    ∙ ap length c.self.view_is

pub returns-clause-shown : goal.returns-clause-shown
returns-clause-shown c =
    let n = length c.args.given.now in
    let inside = c.self.inside in
    let bits = rw c.len-width.ensures.value at c.known_cell-mask.ensures.bits in
    c.set_cell.ensures
    ∙ ap (λ width. given_in (bit_at c.known_cell-mask.result) (low_bytes width c.update-old.result))
    c.len-width.ensures.value
    ∙ cell_shown inside.masks inside.lanes c.args.start n c.known_cell-mask.result c.update-old.result
    c.update-old.ensures.bytes bits
    ∙ ap (λ cells. take n (drop c.args.start cells)) c.self.view_is

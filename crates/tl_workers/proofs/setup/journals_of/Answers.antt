use Rattle.std.proofs.lemmas.Option.{slice_get-get_or}
use Rattle.std.proofs.Math.Nat.{mul-le-mul_right}
use Rattle.std.proofs.Common.{get_or, ◌≡◌, ◌≤◌, ◌+◌, ◌∙◌, ℕ, List, length, replicate, take, slice_get, Some, ap, sym, subst, arith}
use Rattle.tl_types.specs.declared.limits.TheConstants.{MAX_MASTERS}
use Rattle.tl_map.specs.declared.range.Range.{Range}
use Rattle.tl_script.specs.declared.system.TheConstants.{MAX_JOBS}
use Rattle.tl_script.specs.System.{sends}
use Rattle.tl_workers.specs.Start.{AddsArrivals, all_sends}
use Rattle.tl_workers.proofs.Arrivals.{from_zero, few_more, list_adds, all_written, listed_at, listed_many, short_list, fits_number, journals_are}
use Rattle.tl_workers.proofs.setup.journals_of.Goals as goal

pub count_sends-requires-clause-room : goal.count_sends-requires-clause-room
count_sends-requires-clause-room c p n at =
    let s = c.args.system.now in
    let k = c.loop-jobs.jobs-index in
    let was = c.loop-jobs.invariant in
    let asks = all_sends (take k s.jobs) in
    let few = from_zero s.ranges asks (length s.ranges + 1) c.loop-jobs.counts.items p n was.counted
    (subst (λ (l : List ℕ). slice_get l p ≡ Some n) c.deref_mut.ensures.value at) in
    let here = listed_at s c.jobs-jobs-items.result.now k c.jobs-item.result c.jobs-jobs-items.ensures.value c.loop-jobs-test.true c.jobs-item.is in
    let short : length c.jobs-item.result ≤ MAX_JOBS =
    short_list s c.jobs-jobs-items.ensures.lawful k c.jobs-item.result here in
    let many = listed_many s c.jobs-jobs-items.result.now c.jobs-jobs-items.ensures.value in
    let masters : k ≤ MAX_MASTERS =
    omega (
      arith,
      c.loop-jobs-test.true,
      many,
      c.jobs-jobs-items.ensures.lawful.lists,
      c.jobs-jobs-items.ensures.lawful.few_masters,
    ) in
    fits_number n (length asks) k (length c.jobs-item.result) few was.few masters short

pub loop-jobs-preserved : goal.loop-jobs-preserved
loop-jobs-preserved c =
    let s = c.args.system.now in
    let k = c.loop-jobs.jobs-index in
    let own = c.jobs-item.result in
    let was = c.loop-jobs.invariant in
    let new = c.count_sends.new.counts in
    let zeros = replicate (length s.ranges + 1) 0 in
    let here = listed_at s c.jobs-jobs-items.result.now k c.jobs-item.result c.jobs-jobs-items.ensures.value c.loop-jobs-test.true c.jobs-item.is in
    let from : AddsArrivals s.ranges (sends own) c.loop-jobs.counts.items new =
    subst (λ (l : List ℕ). AddsArrivals s.ranges (sends own) l new) c.deref_mut.ensures.value
    (subst (λ (rs : List (List Range)). AddsArrivals rs
    (sends own) c.deref_mut.result.now new) c.map-map.ensures c.count_sends.ensures) in
    let written = all_written c.loop-jobs.counts.len new _ (c.count_sends.ensures.many ∙ c.deref_mut.ensures.len) in
    record {
      counted = subst (λ (l : List ℕ). AddsArrivals s.ranges (all_sends (take (k + 1) s.jobs)) zeros l) (sym written)
          (list_adds s.ranges s.jobs k own zeros c.loop-jobs.counts.items new here was.counted from);
      few = few_more s.jobs k MAX_JOBS own here (short_list s c.jobs-jobs-items.ensures.lawful k own here) was.few;
    }

pub returns-clause-counted : goal.returns-clause-counted
returns-clause-counted c =
    let s = c.args.system.now in
    let many : length s.jobs ≤ c.loop-jobs.jobs-index =
    omega (
      arith,
      listed_many s c.jobs-jobs-items.result.now c.jobs-jobs-items.ensures.value,
      c.loop-jobs-test.false,
    ) in
    journals_are s c.loop-jobs.counts.items c.loop-jobs.jobs-index many c.loop-jobs.invariant.counted

pub returns-clause-few : goal.returns-clause-few
returns-clause-few c =
    let s = c.args.system.now in
    let k = c.loop-jobs.jobs-index in
    let was = c.loop-jobs.invariant in
    let asks = all_sends (take k s.jobs) in
    let many = listed_many s c.jobs-jobs-items.result.now c.jobs-jobs-items.ensures.value in
    let masters : k ≤ MAX_MASTERS =
    omega (
      arith,
      many,
      c.jobs-jobs-items.ensures.lawful.lists,
      c.jobs-jobs-items.ensures.lawful.few_masters,
      c.loop-jobs.auto.jobs-index-end,
    ) in
    λ i d within.
    let at = slice_get-get_or c.loop-jobs.counts.items i d within in
    let few = from_zero s.ranges asks (length s.ranges + 1) c.loop-jobs.counts.items i
    (get_or c.loop-jobs.counts.items i d) was.counted at in
    let less = mul-le-mul_right MAX_JOBS masters in
    omega (arith, few, was.few, less)

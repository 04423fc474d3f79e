-- A lawful system has a slave for each port, and its devices make lawful banks.
use Rattle.std.proofs.Common.{◌≡◌, ◌+◌, ◌^◌, ◌<◌, ◌≤◌, List, [], ◌∷◌, length, map, All, Some, slice_get, slice_index_or, sym, ◌∙◌, ap, subst, arith}
use Rattle.std.specs.Prelude.{option_map}
use Rattle.std.proofs.lemmas.List.{get_or-map, length-map}
use Rattle.std.proofs.lemmas.Option.{slice_get-get_or, slice_get-map}
use Rattle.tl_map.specs.Map.{IsLawfulAddressMap, one_each, range_at}
use Rattle.tl_map.specs.declared.range.Range.{Range}
use Rattle.tl_map.proofs.OneEach.{of_only}
use Rattle.tl_ops.specs.Store.{Store}
use Rattle.tl_ops.specs.declared.bank.TheConstants.{MAX_LENGTH}
use Rattle.tl_script.specs.System.{IsLawfulDevice, IsLawfulSystem, System, range_of, store_of}
use Rattle.tl_script.specs.declared.system.Device.{Device}

pub ports_counted : (s : System) → IsLawfulSystem s → length s.stores ≡ length s.ranges
ports_counted s lawful =
    sym (length-map s.stores range_of) ∙ sym (length-map (map range_of s.stores) (λ (range : Range). range ∷ []))
    ∙ ap (λ (ranges : List (List Range)). length ranges) lawful.ranges

pub devices_are_lawful : (devices : List Device) (ports : List (List Range))
    → one_each (map range_of (map store_of devices)) ≡ ports
    → All (λ store. length store.bytes ≤ MAX_LENGTH) (map store_of devices) → IsLawfulAddressMap ports
    → All IsLawfulDevice devices
devices_are_lawful devices ports is short lawful = λ k d within.
    let device = slice_index_or devices k d in
    let stores = map store_of devices in
    let range = range_of (store_of device) in
    let store : slice_index_or stores k (store_of d) ≡ store_of device =
    get_or-map store_of devices k d (store_of d) within in
    let many : k < length stores = omega (arith, within, length-map devices store_of) in
    let here : slice_get (map range_of stores) k ≡ Some range =
    slice_get-map range_of stores k
    ∙ ap (option_map range_of) (slice_get-get_or stores k (store_of d) many ∙ ap (λ (s : Store). Some s) store) in
    let at : range_at ports k 0 ≡ Some range =
    subst (λ (ps : List (List Range)). range_at ps k 0 ≡ Some range) is (of_only (map range_of stores) k range here) in
    let Short : Store → Type 0 = λ s. length s.bytes ≤ MAX_LENGTH in
    let in_limit : length device.reset.items ≤ MAX_LENGTH = subst Short store (short k (store_of d) many) in
    let own = lawful.ranges.each k 0 range at in
    let ends : device.base + length device.reset.items ≤ 2 ^ 64 = own.in_space in
    record { in_limit = in_limit; ends = omega (arith, ends) }

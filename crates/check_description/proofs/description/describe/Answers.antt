-- The ports have ranges that a map takes, and there are as many owners as masters.
use Rattle.std.proofs.Common.{map, refl, subst}
use Rattle.check_description.specs.Master.{HasOwners, master_view}
use Rattle.check_description.proofs.OwnerCounts.{owners_counted}
use Rattle.check_description.proofs.PortRanges.{ports_have_ranges}
use Rattle.check_description.proofs.description.describe.Goals as goal

pub map_of-requires : goal.map_of-requires
map_of-requires c =
    rw c.deref.ensures.value (ports_have_ranges c.args.parts.ports.items c.args.parts.few_ports)

pub new-requires-clause-counted : goal.new-requires-clause-counted
new-requires-clause-counted c =
    owners_counted c.args.parts.masters.items c.in_ok-sources.sources
    (subst (λ masters. HasOwners (map master_view masters) c.in_ok-sources.sources) c.deref-2.ensures.value
    c.in_ok-sources.ensures.owners)

pub returns-clause-made : goal.returns-clause-made
returns-clause-made c =
    let apart = rw (c.deref-4.ensures.value, c.in_ok-counts.ensures, c.deref-3.ensures.value, c.deref-5.ensures.value)
    at c.in_ok-nobody.ensures.apart in
    let free = rw c.deref-5.ensures.value at c.in_ok-nobody.ensures.free in
    rw c.new.ensures (record {
      map = rw c.deref.ensures.value at c.in_ok-addresses.ensures.lawful;
      owners = rw c.deref-2.ensures.value at c.in_ok-sources.ensures.owners;
      sources = c.in_ok-sources.ensures.lawful;
      rules = refl;
      resets = refl;
      ports = refl;
      masters = refl;
      lists = refl;
      paths = refl;
      apart = apart;
      free = free;
    })

use Rattle.std.proofs.Common.{rules, ◌≡◌, length, Some, slice_get, refl}
use Rattle.tl_map.specs.Owner.{IsWideSource}
use Rattle.tl_map.proofs.Marking.{there, to_owner, of_owner}
use Rattle.tl_map.proofs.Kept.{lawful_at, one_owner, owner_there, marked_is, some_parts}
use Rattle.tl_map.proofs.owners.SourceOwners.owner.Goals as goal

pub returns-in_err-master : goal.returns-in_err-master
returns-in_err-master c m s = (
  λ is. absurd (cc),
  λ is. let own : IsWideSource c.self.inside.owners.items m s c.args.wide = rw (← c.self.view_is) at is in
      let marked : slice_get c.self.inside.marks.items c.args.wide ≡ Some (Some m) =
      (c.self.invariant.marked c.args.wide m).1 (s, own) in
      let found : c.master_at.result ≡ Some m = (c.master_at.ensures m).1 (rw (c.deref.ensures.value) marked) in
      let none = c.in_err-master.was in
      absurd (cc),
)

pub index-requires : goal.index-requires
index-requires c =
    let marked : slice_get c.deref.result.now c.args.wide ≡ Some (Some c.in_ok-master.master) =
    (c.master_at.ensures c.in_ok-master.master).0 c.in_ok-master.was in
    let of = marked_is c.self.inside.owners.items c.self.inside.marks.items c.self.invariant c.args.wide c.in_ok-master.master
    (rw (c.deref.ensures.value) at marked) in
    let below = there c.self.inside.owners.items c.in_ok-master.master of.0 c.args.wide of.1 in
    let counted : c.self.inside.owners.len ≡ length c.self.inside.owners.items = search rules in
    rw counted below

pub source_of-source-requires-clause-lawful : goal.source_of-source-requires-clause-lawful
source_of-source-requires-clause-lawful c =
    let marked : slice_get c.deref.result.now c.args.wide ≡ Some (Some c.in_ok-master.master) =
    (c.master_at.ensures c.in_ok-master.master).0 c.in_ok-master.was in
    let of = marked_is c.self.inside.owners.items c.self.inside.marks.items c.self.invariant c.args.wide c.in_ok-master.master
    (rw (c.deref.ensures.value) at marked) in
    let at = owner_there c.self.inside.owners.items c.in_ok-master.master of.0 c.args.wide c.index.result.now of.1 c.index.ensures in
    lawful_at c.self.inside.owners.items c.in_ok-master.master c.index.result.now c.self.invariant.lawful.each at

pub source_of-source-requires-clause-of : goal.source_of-source-requires-clause-of
source_of-source-requires-clause-of c =
    let marked : slice_get c.deref.result.now c.args.wide ≡ Some (Some c.in_ok-master.master) =
    (c.master_at.ensures c.in_ok-master.master).0 c.in_ok-master.was in
    let of = marked_is c.self.inside.owners.items c.self.inside.marks.items c.self.invariant c.args.wide c.in_ok-master.master
    (rw (c.deref.ensures.value) at marked) in
    let at = owner_there c.self.inside.owners.items c.in_ok-master.master of.0 c.args.wide c.index.result.now of.1 c.index.ensures in
    (of.0, to_owner c.self.inside.owners.items c.in_ok-master.master of.0 c.args.wide c.index.result.now at of.1)

pub returns : goal.returns
returns c m s =
    let owners = c.self.inside.owners.items in
    let master = c.in_ok-master.master in
    let source = c.source_of-source.result in
    let marked : slice_get c.deref.result.now c.args.wide ≡ Some (Some master) =
    (c.master_at.ensures master).0 c.in_ok-master.was in
    let of = marked_is owners c.self.inside.marks.items c.self.invariant c.args.wide master
    (rw (c.deref.ensures.value) at marked) in
    let at = owner_there owners master of.0 c.args.wide c.index.result.now of.1 c.index.ensures in
    let mine : IsWideSource owners master source c.args.wide =
    of_owner owners master source c.args.wide c.index.result.now at c.source_of-source.ensures in
    rw (← c.self.view_is) (
      λ is. let parts = some_parts master source m s is in rw (← parts.0, ← parts.1) mine,
      λ is. let one = one_owner owners c.self.invariant.lawful master source m s c.args.wide mine is in
          rw (one.0, one.1) refl,
    )

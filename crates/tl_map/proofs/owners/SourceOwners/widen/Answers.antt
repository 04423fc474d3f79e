use Rattle.std.proofs.Common.{rules, ◌≡◌, Some, slice_get}
use Rattle.tl_map.proofs.Marking.{of_owner, to_owner}
use Rattle.tl_map.proofs.owners.SourceOwners.widen.Goals as goal

pub returns : goal.returns
returns c wide =
    let owners = c.self.inside.owners.items in
    let owner = c.in_ok-owner.owner in
    let at : slice_get owners c.args.master ≡ Some owner = search rules in
    rw (← c.self.view_is) (
      λ is. of_owner owners c.args.master c.args.source wide owner at ((c.wide_of.ensures wide).0 is),
      λ is. (c.wide_of.ensures wide).1 (to_owner owners c.args.master c.args.source wide owner at is),
    )

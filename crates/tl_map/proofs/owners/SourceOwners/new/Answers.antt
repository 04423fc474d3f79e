-- The marks that were made are kept.
use Rattle.std.proofs.Common.{rules, ◌≡◌, ◌++◌, length, take, drop}
use Rattle.std.proofs.lemmas.List.{take_at}
use Rattle.tl_map.specs.Marks.{AreKept}
use Rattle.tl_map.proofs.owners.SourceOwners.new.Goals as goal

pub invariant_of-result : goal.invariant_of-result
invariant_of-result c =
    let marks = c.mark_all.new.marks in
    let items = c.in_ok-marks.marks.items in
    let owners = c.args.owners.now in
    let long : length marks ≡ c.in_ok-marks.marks.len = search rules in
    let whole : take c.in_ok-marks.marks.len (marks ++ drop (length marks) items) ≡ marks = take_at marks (drop (length marks) items) c.in_ok-marks.marks.len long in
    let same : c.in_ok-owners.owners.items ≡ owners = search rules in
    let counted : length marks ≡ length items = search rules in
    let kept : AreKept owners marks = record {
      lawful = c.in_default.ensures.lawful;
      room = rw counted c.in_ok-marks.ensures.room;
      few = rw counted c.in_ok-marks.ensures.few;
      marked = c.in_default.ensures.marked;
    } in
    rw (whole, same) kept

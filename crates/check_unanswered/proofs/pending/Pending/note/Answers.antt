-- What is kept after one row more.
use Rattle.std.proofs.Common.{◌∷◌, ◌+◌, ◌%◌, ◌^◌, None, Some, refl, sym, subst}
use Rattle.check_watch.specs.Plan.{side_of}
use Rattle.check_sides.specs.Pending.{IsChange}
use Rattle.check_rows.specs.Row.{beats_of, row_with}
use Rattle.check_unanswered.specs.Began.{began_with}
use Rattle.check_unanswered.specs.View.{Holds, PendingView, with_open}
use Rattle.check_unanswered.proofs.Kept.{holds_begins, holds_ends, holds_nothing}
use Rattle.check_unanswered.proofs.pending.Pending.note.Goals as goal

pub returns-in-Nothing : goal.returns-in-Nothing
returns-in-Nothing c plan rows lanes holds change =
    let P : PendingView → Type 0 =
    λ v. Holds plan (row_with c.args.row.now lanes ∷ rows) (record v { taken = (v.taken + 1) % 2 ^ 64 }) in
    subst P (sym c.self.view_is) (holds_nothing plan rows (row_with c.args.row.now lanes) c.args.self.now holds
    (subst (IsChange plan (beats_of rows) (row_with c.args.row.now lanes).sighting) c.in-Nothing.is change))

pub returns-in-Begins : goal.returns-in-Begins
returns-in-Begins c plan rows lanes holds change =
    let row = row_with c.args.row.now lanes in
    let origin = c.in-Begins.origin in
    let P : PendingView → Type 0 = λ v. Holds plan (row ∷ rows) (with_open (record v { taken = (v.taken + 1) % 2 ^ 64 })
    (side_of row.sighting.link) origin.wide
    (Some (record { began = began_with row v.taken; origin = origin }))) in
    subst (λ (v : PendingView). Holds plan (row ∷ rows) v) (sym c.set.ensures)
    (subst P (sym c.self.view_is) (holds_begins plan rows row c.args.self.now holds origin
    (subst (IsChange plan (beats_of rows) row.sighting) c.in-Begins.is change) _ refl))

pub returns-in-Ends : goal.returns-in-Ends
returns-in-Ends c plan rows lanes holds change =
    let row = row_with c.args.row.now lanes in
    let wide = c.in-Ends.wide in
    let P : PendingView → Type 0 = λ v. Holds plan (row ∷ rows)
    (with_open (record v { taken = (v.taken + 1) % 2 ^ 64 }) (side_of row.sighting.link) wide None) in
    subst (λ (v : PendingView). Holds plan (row ∷ rows) v) (sym c.set-in-Ends.ensures)
    (subst P (sym c.self.view_is) (holds_ends plan rows row c.args.self.now holds _ wide
    (subst (IsChange plan (beats_of rows) row.sighting) c.in-Ends.is change)))

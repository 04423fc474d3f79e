use Rattle.std.proofs.Common.{◌≡◌, ◌∙◌, ◌<◌, ◌*◌, List, [], ◌∷◌, ◌++◌, length, ℕ, Ok, Err, replicate, ap, subst, arith, rules}
use Rattle.std.specs.Prelude.{Result, OnErr}
use Rattle.check_memory.specs.Place.{fill_of}
use Rattle.check_memory.specs.Paged.{Slot, Paged, slots_of, AreFilled}
use Rattle.check_memory.proofs.Sheets.{slots_same, slots_more}
use Rattle.check_memory.proofs.slots.Slots.add.Goals as goal

-- a fact that holds anyway
on_err : {X E : Type 0} (result : Result X E) (P : Type 0) → P → OnErr result P
on_err (Ok value) P holds = tt
on_err (Err error) P holds = holds

pub returns-in_err-make_room-clause-unchanged : goal.returns-in_err-make_room-clause-unchanged
returns-in_err-make_room-clause-unchanged c =
    let shown : List Slot → Paged = λ slots. record { slots = slots; known = c.self.inside.known } in
    on_err _ _ (ap shown (slots_same c.self.inside.numbers.items c.self.inside.sheets.items c.make_room.new.sheets.items
    (λ at below. c.make_room.ensures.same at (omega (arith, below, c.len.ensures))))
    ∙ c.self.view_is)

pub returns-in_err-push-clause-unchanged : goal.returns-in_err-push-clause-unchanged
returns-in_err-push-clause-unchanged c =
    let shown : List Slot → Paged = λ slots. record { slots = slots; known = c.self.inside.known } in
    on_err _ _ (ap (λ numbers. shown (slots_of numbers c.make_room.new.sheets.items)) c.in_err-push.ensures.items
    ∙ ap shown (slots_same c.self.inside.numbers.items c.self.inside.sheets.items c.make_room.new.sheets.items
    (λ at below. c.make_room.ensures.same at (omega (arith, below, c.len.ensures))))
    ∙ c.self.view_is)

pub returns-clause-added : goal.returns-clause-added
returns-clause-added c =
    let numbers = c.self.inside.numbers.items in
    let sheets = c.make_room.new.sheets.items in
    let known = c.self.inside.known in
    let shown : List Slot → Paged = λ slots. record { slots = slots; known = known } in
    let used : c.len.result ≡ length numbers = search rules in
    let P : ℕ → Type 0 = λ n. AreFilled n sheets known in
    let room : length numbers < 8 * length sheets = omega (arith, used, c.in_ok-make_room.ensures.room) in
    ap (λ ns. shown (slots_of ns sheets)) c.in_ok-push.ensures.items
    ∙ ap shown (slots_more numbers c.self.inside.sheets.items sheets known c.args.number
    (subst P used c.make_room.ensures.filled)
    (λ at below. c.make_room.ensures.same at (omega (arith, below, used))) room)
    ∙ ap (λ (p : Paged). record {
      slots = p.slots ++ record { number = c.args.number; page = replicate 256 (fill_of p.known) } ∷ [];
      known = p.known;
    }) c.self.view_is

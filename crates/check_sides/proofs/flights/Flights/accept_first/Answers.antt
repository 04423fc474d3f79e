use Rattle.std.proofs.Common.{◌∙◌, ℕ, List, Some, ap, refl, rules}
use Rattle.std.specs.BTreeMap.{insert_entry, is_at}
use Rattle.std.specs.Map.{remove_entry, set_value}
use Rattle.std.specs.Ordering.{nat_cmp}
use Rattle.check_flight.specs.Flight.{Flight}
use Rattle.check_sides.proofs.Puts.{kept_through, kept_twice, put_through, taken_back}
use Rattle.check_sides.proofs.flights.Flights.accept_first.Goals as goal

pub returns-in-Err-clause-err : goal.returns-in-Err-clause-err
returns-in-Err-clause-err c =
    let source = c.args.beat.now.source in
    let test = is_at (nat_cmp source) in
    c.remove.ensures.entries
    ∙ ap (λ (l : List (ℕ × Flight)). remove_entry test l)
    ((c.get_mut.follows.holds c.accept.new.self).0
    ∙ ap (λ (l : List (ℕ × Flight)). set_value test l c.accept.new.self)
    (c.in_ok-insert.ensures.entries
    ∙ ap (λ (l : List (ℕ × Flight)). insert_entry nat_cmp l source c.idle.result) c.self.view_is))
    ∙ taken_back c.args.self.now source c.idle.result c.accept.new.self c.requires.first

pub returns-clause-flight : goal.returns-clause-flight
returns-clause-flight c =
    let source = c.args.beat.now.source in
    kept_twice c.args.self.now c.insert.new.self.entries (c.get_mut.follows.lender c.accept.new.self).entries source
    (Some c.idle.result) _
    (kept_through c.self.inside.kept c.insert.new.self c.args.self.now source (Some c.idle.result) c.self.view_is
    c.in_ok-insert.ensures.updates)
    (put_through c.insert.new.self (c.get_mut.follows.lender c.accept.new.self) c.insert.new.self.entries source
    c.accept.new.self _ refl (rw c.place_at.ensures at c.in_default-accept.ensures.flight)
    ((c.get_mut.follows.holds c.accept.new.self).3 (search rules)))

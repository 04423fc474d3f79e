-- One of the values changes.
use Rattle.std.proofs.Common.{◌≡◌, ◌<◌, get_or, length, rules}
use Rattle.check_samples.proofs.ValueLemmas.{change-before, change-now, change-width}
use Rattle.check_samples.proofs.values.Values.change.Goals as goal

pub returns-clause-before : goal.returns-clause-before
returns-clause-before c =
    let s = c.args.self.now in
    let old = c.index_mut.result.now in
    let is : old ≡ get_or s.slots.items c.args.slot old = search rules in
    change-before s.slots.items s.joined.items c.args.slot s.times old c.change.new.self c.change.result is c.change.ensures.before

pub returns-clause-now : goal.returns-clause-now
returns-clause-now c =
    let s = c.args.self.now in
    let old = c.index_mut.result.now in
    let is : old ≡ get_or s.slots.items c.args.slot old = search rules in
    let inside : c.args.slot < length s.slots.items = search rules in
    change-now s.slots.items c.args.slot old c.change.new.self c.args.digits.now c.change.result inside is
    c.change.ensures.now

pub returns-clause-widths : goal.returns-clause-widths
returns-clause-widths c =
    let s = c.args.self.now in
    let old = c.index_mut.result.now in
    let is : old ≡ get_or s.slots.items c.args.slot old = search rules in
    change-width s.slots.items c.args.slot old c.change.new.self is c.change.ensures.width

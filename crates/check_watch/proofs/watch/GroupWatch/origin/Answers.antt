-- Each wide source of a link has an owner.
use Rattle.check_watch.proofs.Changes.{wide_owned}
use Rattle.check_watch.proofs.watch.GroupWatch.origin.Goals as goal

pub returns-in-Some-owner-clause-some : goal.returns-in-Some-owner-clause-some
returns-in-Some-owner-clause-some c = record {
  wide = (c.wide.ensures.wide c.in-Some.wide).0 c.in-Some.is;
  own = rw (← c.sources.ensures) ((c.owner.ensures c.in-Some-owner.master c.in-Some-owner.source).0 c.in-Some-owner.is);
}

pub returns-in-None-clause-none : goal.returns-in-None-clause-none
returns-in-None-clause-none c has =
    let layout = c.args.self.now.layout in
    let owned = wide_owned layout c.args.link c.args.source c.in-Some.wide
    ((c.wide.ensures.wide c.in-Some.wide).0 c.in-Some.is) in
    let there = (c.owner.ensures owned.0 owned.1).1 (rw c.sources.ensures owned.2) in
    let none = c.in-None.is in absurd (cc)

-- The name at one more place is looked at.
use Rattle.std.proofs.Common.{map, take, IsTrue, [], arith}
use Rattle.std.proofs.lemmas.List.{length-map}
use Rattle.tl_map.proofs.Place.{place_within}
use Rattle.check_keys.specs.Known.{is_among}
use Rattle.check_description.specs.Name.{StoodBefore}
use Rattle.check_description.proofs.NameLemmas.{shown, stood, not_stood}
use borrow.Author.Count.{below_more}
use Rattle.check_description.proofs.names.first_twice.Goals as goal

pub returns-then-is_among-clause-found : goal.returns-then-is_among-clause-found
returns-then-is_among-clause-found c = record {
  here = stood c.args.names.now c.loop-place.place (record { ref_ptr = (0, 0); now = [] }) c.is_among.result
      c.loop-place-test.true c.is_among.ensures c.if-is_among.true;
  first = c.loop-place.invariant;
}

pub loop-place-preserved : goal.loop-place-preserved
loop-place-preserved c =
    below_more (λ place. StoodBefore (map shown c.args.names.now) place → ⊥) c.loop-place.place c.loop-place.invariant
    (not_stood c.args.names.now c.loop-place.place (record { ref_ptr = (0, 0); now = [] }) c.is_among.result
    c.loop-place-test.true c.is_among.ensures c.if-is_among.false)

pub returns-clause-none : goal.returns-clause-none
returns-clause-none c place before =
    let names = map shown c.args.names.now in
    let within = place_within (λ name. IsTrue (is_among (take place names) name)) names place before in
    c.loop-place.invariant place (omega (arith, within, length-map c.args.names.now shown)) before

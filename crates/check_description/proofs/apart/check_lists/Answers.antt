-- The list of one port more has no fault, or the first one.
use Rattle.std.proofs.Common.{◌∙◌, Some, ap, inl, inr, map, refl}
use Rattle.std.specs.Prelude.{not}
use borrow.Author.Count.{below_more}
use Rattle.check_description.specs.Apart.{AreApartAt, IsFirstListFault}
use Rattle.check_description.proofs.ApartLemmas.{all_at, free_for, list_at, none_at, none_free, of_list, shown, some_at, some_free}
use Rattle.check_description.proofs.apart.check_lists.Goals as goal

pub loop-port-preserved-in_default : goal.loop-port-preserved-in_default
loop-port-preserved-in_default c =
    let lists = map shown c.args.lists.now in
    below_more (AreApartAt c.args.counts.now c.args.sources.now lists) c.loop-port.port c.loop-port.invariant
    (none_at c.args.counts.now c.args.sources.now lists c.loop-port.port
    (list_at c.args.lists.now c.loop-port.port c.index-lists-port.result c.loop-port-test.true c.index-lists-port.is
    ∙ ap (λ list. Some (shown list)) c.in_default.is))

pub returns-then-is_none-clause-fault : goal.returns-then-is_none-clause-fault
returns-then-is_none-clause-fault c = λ known. record {
  placed = c.in-Some.placed.items;
  here = list_at c.args.lists.now c.loop-port.port c.index-lists-port.result c.loop-port-test.true c.index-lists-port.is
      ∙ ap (λ list. Some (shown list)) c.in-Some.is;
  is = inl (
    none_free c.args.sources.now c.first_free-free.result _ (c.is_none.ensures ∙ ap not c.if-is_none.true) (λ same. absurd cc)
        c.first_free-free.ensures.none,
    refl,
  );
  before = c.loop-port.invariant;
}

pub returns-in-Err-clause-fault : goal.returns-in-Err-clause-fault
returns-in-Err-clause-fault c =
    let lists = map shown c.args.lists.now in
    of_list (IsFirstListFault c.args.counts.now c.args.sources.now lists) c.loop-port.port c.in-Err.fault c.fault_at.result
    c.fault_at.ensures (λ known. record {
      placed = c.in-Some.placed.items;
      here = list_at c.args.lists.now c.loop-port.port c.index-lists-port.result c.loop-port-test.true c.index-lists-port.is
          ∙ ap (λ list. Some (shown list)) c.in-Some.is;
      is = inr (
        some_free c.args.sources.now c.first_free-free.result (c.is_none.ensures ∙ ap not c.if-is_none.false)
            c.first_free-free.ensures.free,
        rw c.deref.ensures.value at (c.in-Err.ensures.fault known),
      );
      before = c.loop-port.invariant;
    })

pub loop-port-preserved : goal.loop-port-preserved
loop-port-preserved c =
    let lists = map shown c.args.lists.now in
    below_more (AreApartAt c.args.counts.now c.args.sources.now lists) c.loop-port.port c.loop-port.invariant
    (some_at c.args.counts.now c.args.sources.now lists c.loop-port.port c.in-Some.placed.items
    (list_at c.args.lists.now c.loop-port.port c.index-lists-port.result c.loop-port-test.true c.index-lists-port.is
    ∙ ap (λ list. Some (shown list)) c.in-Some.is) (record {
      lawful = rw c.deref.ensures.value at c.in-Ok.ensures.apart;
      free = some_free c.args.sources.now c.first_free-free.result (c.is_none.ensures ∙ ap not c.if-is_none.false)
          c.first_free-free.ensures.free;
    }))

pub returns-clause-apart : goal.returns-clause-apart
returns-clause-apart c =
    all_at c.args.counts.now c.args.sources.now c.args.lists.now c.loop-port.port c.loop-port-test.false c.loop-port.invariant

pub returns-clause-free : goal.returns-clause-free
returns-clause-free c =
    rw c.unwrap_or.ensures
    (free_for c.args.counts.now c.args.sources.now (map shown c.args.lists.now) c.first_free-free.result
    c.first_free-free.ensures.free c.first_free-free.ensures.none
    (all_at c.args.counts.now c.args.sources.now c.args.lists.now c.loop-port.port c.loop-port-test.false c.loop-port.invariant))

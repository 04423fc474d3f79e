-- One is in flight, or it begins.
use Rattle.std.proofs.Common.{◌≡◌, ◌∙◌, List, [], ◌∷◌, ◌++◌, Bool, true, false, ap, sym, subst}
use Rattle.check_sides.specs.Plan.{Layout}
use Rattle.std.specs.Prelude.{if◌then◌else◌, map}
use Rattle.std.specs.List.{list_any}
use Rattle.std.proofs.lemmas.List.{map_push}
use Rattle.check_bins.specs.declared.bin.Bin.{Bin}
use Rattle.check_coverage.specs.Bins.{begin_bins}
use Rattle.check_coverage.specs.Flights.{begun, is_of, kept}
use Rattle.check_bins.specs.Counting.{Adds}
use Rattle.check_coverage.proofs.Adding.{any_is}
use Rattle.check_bins.proofs.Counted.{adds_none}
use Rattle.check_coverage.proofs.coverage.Coverage.begin.Goals as goal

pub returns-then-is_some-clause-flights : goal.returns-then-is_some-clause-flights
returns-then-is_some-clause-flights c = λ plan before suits is.
    let there : list_any (is_of c.args.wide) before ≡ true =
    any_is c.args.wide before c.deref.result.now (c.deref.ensures.value ∙ is) c.find_of.result c.find_of.ensures
    ∙ sym c.is_some.ensures ∙ c.if-is_some.true in
    is ∙ ap (λ (b : Bool). map kept (if b then before else before ++ begun plan c.args.wide c.args.beat.now ∷ [])) (sym there)

pub returns-then-is_some-clause-counts : goal.returns-then-is_some-clause-counts
returns-then-is_some-clause-counts c = λ plan before suits is.
    let there : list_any (is_of c.args.wide) before ≡ true =
    any_is c.args.wide before c.deref.result.now (c.deref.ensures.value ∙ is) c.find_of.result c.find_of.ensures
    ∙ sym c.is_some.ensures ∙ c.if-is_some.true in
    let some : List Bin =
    begin_bins plan.layout.rules before (begun plan c.args.wide c.args.beat.now) c.args.time c.args.answered in
    subst (λ (l : List Bin). Adds c.args.self.now.counts c.args.self.now.counts l)
    (ap (λ (b : Bool). if b then [] else some) (sym there)) (adds_none c.args.self.now.counts)

pub returns-clause-flights : goal.returns-clause-flights
returns-clause-flights c = λ plan before suits is.
    let none : list_any (is_of c.args.wide) before ≡ false =
    any_is c.args.wide before c.deref.result.now (c.deref.ensures.value ∙ is) c.find_of.result c.find_of.ensures
    ∙ sym c.is_some.ensures ∙ c.if-is_some.false in
    c.in_ok-push.ensures.items
    ∙ (λ i. is i ++ c.begun-flight.ensures plan suits i ∷ [])
    ∙ sym (map_push kept before (begun plan c.args.wide c.args.beat.now))
    ∙ ap (λ (b : Bool). map kept (if b then before else before ++ begun plan c.args.wide c.args.beat.now ∷ [])) (sym none)

pub returns-clause-counts : goal.returns-clause-counts
returns-clause-counts c = λ plan before suits is.
    let none : list_any (is_of c.args.wide) before ≡ false =
    any_is c.args.wide before c.deref.result.now (c.deref.ensures.value ∙ is) c.find_of.result c.find_of.ensures
    ∙ sym c.is_some.ensures ∙ c.if-is_some.false in
    let this = begun plan c.args.wide c.args.beat.now in
    let some : List Bin = begin_bins plan.layout.rules before this c.args.time c.args.answered in
    let rules : c.rules.result ≡ plan.layout.rules = c.rules.ensures ∙ ap (λ (l : Layout). l.rules) suits.layout in
    subst (λ (l : List Bin). Adds c.args.self.now.counts c.count_begin.new.counts l)
    (ap (λ r. begin_bins r before this c.args.time c.args.answered) rules ∙ ap (λ (b : Bool). if b then [] else some) (sym none))
    (c.in_ok-count_begin.ensures before this (c.deref-2.ensures.value ∙ is) (c.begun-flight.ensures plan suits))

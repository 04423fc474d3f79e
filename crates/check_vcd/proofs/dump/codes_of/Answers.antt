-- One signal more.
use Rattle.std.proofs.Common.{◌≡◌, [], arith, ◌∷◌, ◌+◌, drop, map, ◌∙◌}
use Rattle.std.proofs.lemmas.List.{drop_all, drop_more}
use Rattle.check_vcd.specs.Codes.{coded_from, coded_in, find_in}
use Rattle.check_vcd.specs.Header.{var_view}
use Rattle.check_vcd.proofs.CodeLemmas.{put-widest}
use Rattle.check_vcd.proofs.dump.codes_of.Goals as goal

pub loop-var-preserved : goal.loop-var-preserved
loop-var-preserved c = λ code.
    let old = c.loop-var.codes in
    let vars = c.args.vars.now in
    let i = c.loop-var.var-index in
    let var = c.var-item.result in
    let rest = map var_view (drop (i + 1) vars) in
    let so_far : coded_from (find_in old code) (var_view var ∷ rest) code ≡ coded_in (map var_view vars) code =
    rw (drop_more vars i var c.loop-var-test.true, ← c.var-item.is) at (c.loop-var.invariant code) in
    put-widest old c.put.new.self (var_view var) rest code
    (λ other. rw (c.deref-in-loop-var.ensures.value, c.as_widest-coded.ensures, c.find.ensures, c.deref.ensures.value) at
    (c.in_ok-put.ensures other))
    ∙ so_far

pub returns : goal.returns
returns c = λ code.
    let vars = c.args.vars.now in
    let none : drop c.loop-var.var-index vars ≡ [] =
    drop_all c.loop-var.var-index vars (omega (arith, c.loop-var-test.false)) in
    rw none at (c.loop-var.invariant code)

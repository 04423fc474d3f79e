use Rattle.std.proofs.Common.{rules, arith, ◌≡◌, ◌<◌, ℕ, ◌∷◌, ◌++◌, [], true, subst, sym, ap, ◌∙◌, length, length-append, List}
use Rattle.tl_rule.specs.Carried.{firsts, has, place}
use Rattle.tl_rule.proofs.Carried.{firsts_turned, top_of, has_turned, nearer}
use Rattle.tl_arena.proofs.carried.bring.Goals as goal

pub loop-first-smaller : goal.loop-first-smaller
loop-first-smaller c =
    let xs = c.pop_front.new.self.items in
    let x = c.in-Some.first in
    let items : c.loop-first.order.items ≡ x ∷ xs = c.in-Some.ensures.items in
    let there = subst (λ l. has l c.args.slot ≡ true) items c.loop-first.invariant.there in
    subst (λ l. place l c.args.slot < place c.loop-first.order.items c.args.slot)
    (sym {A = List ℕ} c.push_back_reserved.ensures.items)
    (subst (λ l. place (xs ++ x ∷ []) c.args.slot < place l c.args.slot) (sym items)
    (nearer x xs c.args.slot c.if-first-slot.false there))

pub loop-first-preserved : goal.loop-first-preserved
loop-first-preserved c =
    let xs = c.pop_front.new.self.items in
    let x = c.in-Some.first in
    let items : c.loop-first.order.items ≡ x ∷ xs = c.in-Some.ensures.items in
    let now : c.push_back_reserved.new.self.items ≡ xs ++ x ∷ [] = c.push_back_reserved.ensures.items in
    let inv = c.loop-first.invariant in
    let t = c.turn.ensures in
    let same = λ (i : ℕ). ap (λ l. has l i) now ∙ has_turned x xs i ∙ ap (λ l. has l i) (sym items) in record {
      mirror = ap (λ m. firsts m.1) t.2 ∙ firsts_turned c.loop-first.seat.me.1 x xs (inv.mirror ∙ items) ∙ sym now;
      there = same c.args.slot ∙ inv.there;
      table = t.0 ∙ inv.table;
      same = t.1 ∙ inv.same;
      view = ap (λ m. m.0) t.2 ∙ inv.view;
      members = λ i. same i ∙ inv.members i;
      many = let a = ap (λ l. length l) now in let b = length-append xs (x ∷ []) in let d = ap (λ l. length l) items in
          let e = inv.many in omega arith;
      capacity = search rules;
    }

pub returns-then-first-slot-clause-brought : goal.returns-then-first-slot-clause-brought
returns-then-first-slot-clause-brought c =
    let inv = c.loop-first.invariant in
    let xs = c.pop_front.new.self.items in
    let items : c.loop-first.order.items ≡ c.in-Some.first ∷ xs = c.in-Some.ensures.items in
    let now : c.push_front_reserved.new.self.items ≡ c.loop-first.order.items =
    c.push_front_reserved.ensures.items ∙ sym items in record {
      view = inv.view;
      mirror = inv.mirror ∙ sym now;
      top = top_of c.loop-first.seat.me c.args.slot xs
          (inv.mirror ∙ items ∙ ap (λ (k : ℕ). k ∷ xs) c.if-first-slot.true);
      members = λ i. ap (λ (l : List ℕ). has l i) now ∙ inv.members i;
      many = ap (λ (l : List ℕ). length l) now ∙ inv.many;
    }

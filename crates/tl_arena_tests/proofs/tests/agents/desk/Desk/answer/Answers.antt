use Rattle.std.proofs.Common.{◌≡◌, ℕ, List, [], ◌∷◌, refl, sym, ap, ◌∙◌, eq-eqb}
use Rattle.std.proofs.lemmas.List.{map-append}
use Rattle.tl_types.specs.Request.{Request}
use Rattle.tl_types.specs.Response.{Response}
use Rattle.tl_ops.specs.Store.{after}
use Rattle.tl_ops.specs.History.{replay, asks_of}
use Rattle.tl_ops.proofs.Histories.{replay-append}
use Rattle.tl_rule.specs.Serving.{drop_slot}
use Rattle.tl_rule.specs.Views.{reset_of}
use Rattle.tl_arena.specs.Views.{PortView, with_answered}
use Rattle.tl_arena.specs.Promises.{memory_of}
use Rattle.tl_arena_tests.proofs.tests.agents.desk.Desk.answer.Goals as goal

served_memory : (u : PortView) (f : ℕ × Request) (reply : Response)
    → memory_of (with_answered u f reply) ≡ after (memory_of u) f.1
served_memory u f reply =
    let reset = reset_of u.arena.about u.number in
    ap (λ asks. replay reset asks) (map-append (λ (e : Request × Response). e.0) u.list ((f.1, reply) ∷ []))
    ∙ replay-append reset (asks_of u.list) f.1

-- dropping the slot of the oldest leaves the others
drop_first : (f : ℕ × Request) (fs : List (ℕ × Request)) → drop_slot f.0 (f ∷ fs) ≡ fs
drop_first f fs = rw (eq-eqb f.0 f.0 refl) refl

pub invariant_of-self-2 : goal.invariant_of-self-2
invariant_of-self-2 c =
    let s = c.args.self.now in
    let f = c.in_ok-accepted.accepted in
    record {
      here = ap (λ (u : PortView). u.arena) c.answer.ensures.seat ∙ s.here;
      true_memory = c.serve-reply.ensures.after ∙ (λ k. after (s.true_memory k) (c.read_ask.ensures k))
          ∙ sym (served_memory s.seat f c.serve-reply.result) ∙ ap memory_of (sym c.answer.ensures.seat);
      serving = sym (ap (λ (u : PortView). u.serving) c.answer.ensures.seat
          ∙ ap (drop_slot f.0) (sym s.serving ∙ c.in_ok-accepted.ensures.items)
          ∙ drop_first f c.pop_front.new.self.items);
    }

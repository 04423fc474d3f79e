use Rattle.std.proofs.Common.{◌≡◌, suc, List, ◌∷◌, ◌∙◌, All, ap, subst, arith}
use Rattle.tl_arena.specs.Views.{ArenaId, MasterView, new_master}
use Rattle.tl_master.specs.Master.{MasterState}
use Rattle.tl_arena_tests.proofs.tests.agents.master.clients_of.Goals as goal

abbrev AreNew : ArenaId → List MasterView → Type 0
AreNew a vs = All (λ v. v ≡ new_master a v.number) vs

others : (a : ArenaId) (v : MasterView) (vs ws : List MasterView) → ws ≡ v ∷ vs → AreNew a ws → AreNew a vs
others a v vs ws is new = λ k d lt. (subst (AreNew a) is new) (suc k) d (omega arith)

first : (a : ArenaId) (v : MasterView) (vs ws : List MasterView) → ws ≡ v ∷ vs → AreNew a ws → v.arena ≡ a
first a v vs ws is new = ap (λ (w : MasterView). w.arena) ((subst (AreNew a) is new) 0 v (omega arith))

-- a new master is of its seat's arena
pub invariant_of-push : goal.invariant_of-push
invariant_of-push g c = record {
  here = ap (λ (m : MasterState). m.seat.arena) c.in-Ok.ensures.ok
      ∙ first c.args.arena.now c.in-Some.seat _ _ c.in-Some.ensures.steps.0 c.loop-seat.invariant;
  ports = c.requires.ports;
}

pub loop-seat-preserved : goal.loop-seat-preserved
loop-seat-preserved g c = others c.args.arena.now c.in-Some.seat _ _ c.in-Some.ensures.steps.0 c.loop-seat.invariant

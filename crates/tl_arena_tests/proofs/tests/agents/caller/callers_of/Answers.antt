use Rattle.std.proofs.Common.{◌≡◌, suc, List, ◌∷◌, All, ap, sym, subst, arith}
use Rattle.tl_arena.specs.Views.{ArenaId, MasterView, new_master}
use Rattle.tl_arena_tests.proofs.tests.agents.caller.callers_of.Goals as goal

abbrev AreNew : ArenaId → List MasterView → Type 0
AreNew a vs = All (λ v. v ≡ new_master a v.number) vs

others : (a : ArenaId) (v : MasterView) (vs ws : List MasterView) → ws ≡ v ∷ vs → AreNew a ws → AreNew a vs
others a v vs ws is new = λ k d lt. (subst (AreNew a) is new) (suc k) d (omega arith)

first : (a : ArenaId) (v : MasterView) (vs ws : List MasterView) → ws ≡ v ∷ vs → AreNew a ws → v.arena ≡ a
first a v vs ws is new = ap (λ (w : MasterView). w.arena) ((subst (AreNew a) is new) 0 v (omega arith))

pub invariant_of-seat : goal.invariant_of-seat
invariant_of-seat g c = record {
  at = first c.args.arena.now c.in-Some.seat _ _ c.in-Some.ensures.steps.0 c.loop-seat.invariant;
  blocks = sym c.requires.blocks;
}

pub loop-seat-preserved : goal.loop-seat-preserved
loop-seat-preserved g c = others c.args.arena.now c.in-Some.seat _ _ c.in-Some.ensures.steps.0 c.loop-seat.invariant

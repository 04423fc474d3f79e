-- Calls in a row, port by port.
use Rattle.std.proofs.Common.{◌≡◌, ◌∙◌, ℕ, zero, suc, ◌⊎◌, inl, inr, ◌≢◌, true, false, eqb, List, [], ◌∷◌, take, Some, slice_get, ap}
use Rattle.std.proofs.lemmas.Bool.Decides.{eqb_tells}
use Rattle.std.proofs.lemmas.Option.{slice_get_within}
use Rattle.tl_types.proofs.Lists.{slice_get-set_same, slice_get-set_other}
use Rattle.check_model.specs.Calls.{AreServed, Call, IsAnswerAfter, after_all, asks_at}
use Rattle.check_model.specs.Model.{IsServed, ModelState, served_more}
use Rattle.check_model.specs.declared.port.ModelPort.{ModelPort}

-- ---- one call

-- its port has served one more
moved_here : (old new : ModelState) (call : Call) (number : ℕ) (port : ModelPort)
    → IsServed old call.master call.ask call.answer new → call.answer.port ≡ number → slice_get old.ports number ≡ Some port
    → slice_get new.ports number ≡ Some (served_more port call.ask)
moved_here old new call number port served here at =
    let was : slice_get old.ports call.answer.port ≡ Some port = rw here at in
    let same : served.port ≡ port = cc (served.at, was) in
    let within = slice_get_within old.ports call.answer.port port was in
    let now : slice_get new.ports call.answer.port ≡ Some (served_more served.port call.ask) =
    ap (λ (m : ModelState). slice_get m.ports call.answer.port) served.is
    ∙ slice_get-set_same old.ports call.answer.port (served_more served.port call.ask) within in
    rw (← here, ← same) now

-- another stays
stays_there : (old new : ModelState) (call : Call) (number : ℕ) → IsServed old call.master call.ask call.answer new
    → (call.answer.port ≡ number → ⊥) → slice_get new.ports number ≡ slice_get old.ports number
stays_there old new call number served there =
    ap (λ (m : ModelState). slice_get m.ports number) served.is
    ∙ slice_get-set_other old.ports call.answer.port number (served_more served.port call.ask) there

-- ---- many

pub moved : (calls : List Call) (old new : ModelState) → AreServed old calls new → (number : ℕ) (port : ModelPort)
    → slice_get old.ports number ≡ Some port → slice_get new.ports number ≡ Some (after_all port (asks_at number calls))
moved [] old new same number port at = ap (λ (m : ModelState). slice_get m.ports number) same ∙ at
moved (call ∷ calls) old new (between, (first, rest)) number port at =
    step (moved calls between new rest number) (eqb_tells call.answer.port number) where
      step : ((p : ModelPort) → slice_get between.ports number ≡ Some p
          → slice_get new.ports number ≡ Some (after_all p (asks_at number calls)))
          → ((eqb call.answer.port number ≡ true) × (call.answer.port ≡ number))
          ⊎ ((eqb call.answer.port number ≡ false) × (call.answer.port ≢ number))
          → slice_get new.ports number ≡ Some (after_all port (asks_at number (call ∷ calls)))
      step more (inl here) =
          rw here.0 (more (served_more port call.ask) (moved_here old between call number port first here.1 at))
      step more (inr there) = rw there.0 (more port (stays_there old between call number first there.1 ∙ at))

-- the call at a place is answered after those before it
pub answered : (calls : List Call) (old new : ModelState) → AreServed old calls new → (k : ℕ) (call : Call)
    → slice_get calls k ≡ Some call → (port : ModelPort) → slice_get old.ports call.answer.port ≡ Some port
    → IsAnswerAfter port (asks_at call.answer.port (take k calls)) call
answered [] old new same k call is port at = absurd (cc)
answered (first ∷ calls) old new (between, (served, rest)) zero call is port at =
    let same : first ≡ call = cc in
    let there : served.port ≡ port = cc (served.at, at, same) in
    rw (← same, ← there) served.answer_is
answered (first ∷ calls) old new (between, (served, rest)) (suc k) call is port at =
    step (answered calls between new rest k call is) (eqb_tells first.answer.port call.answer.port) where
      step : ((p : ModelPort) → slice_get between.ports call.answer.port ≡ Some p
          → IsAnswerAfter p (asks_at call.answer.port (take k calls)) call)
          → ((eqb first.answer.port call.answer.port ≡ true) × (first.answer.port ≡ call.answer.port))
          ⊎ ((eqb first.answer.port call.answer.port ≡ false) × (first.answer.port ≢ call.answer.port))
          → IsAnswerAfter port (asks_at call.answer.port (take (suc k) (first ∷ calls))) call
      step more (inl here) =
          rw here.0 (more (served_more port first.ask)
          (moved_here old between first call.answer.port port served here.1 at))
      step more (inr there) =
          rw there.0 (more port (stays_there old between first call.answer.port served there.1 ∙ at))

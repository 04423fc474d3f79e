-- Calls in a row. This project's own.
use Rattle.std.specs.Prelude.{◌≡◌, ℕ, ◌==◌, List, [], ◌∷◌, map, filter}
use Rattle.tl_types.specs.Request.{Request}
use Rattle.check_flight.specs.declared.answer.Answer.{Answer}
use Rattle.check_model.specs.Model.{ModelState, IsServed, answer_of, served_more}
use Rattle.check_model.specs.declared.port.ModelPort.{ModelPort}

-- a request of a master that was served, and what it was answered
pub record Call : Type 0 where
  pub master : ℕ
  pub ask : Request
  pub answer : Answer

-- the calls took the crossbar from the one state to the other, each served after those before it
abbrev pub AreServed : ModelState → List Call → ModelState → Type 0
AreServed old [] new = new ≡ old
AreServed old (call ∷ calls) new =
    (between : ModelState) × (IsServed old call.master call.ask call.answer between × AreServed between calls new)

-- the requests of those calls that one port served
abbrev pub asks_at : ℕ → List Call → List Request
asks_at port calls = map (λ (call : Call). call.ask) (filter (λ (call : Call). call.answer.port == port) calls)

-- a port after it has served these requests in turn
abbrev pub after_all : ModelPort → List Request → ModelPort
after_all port [] = port
after_all port (ask ∷ asks) = after_all (served_more port ask) asks

-- the answer is that of a port after it has served these requests
abbrev pub IsAnswerAfter : ModelPort → List Request → Call → Type 0
IsAnswerAfter port asks call = call.answer ≡ answer_of call.answer.port (after_all port asks) call.ask

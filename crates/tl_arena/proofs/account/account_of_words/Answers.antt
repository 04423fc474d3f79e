-- A search by the clauses alone: what it does not find it gives up at once, as where a wrong body is tried.
use Rattle.std.proofs.Common.{rules}
use Rattle.tl_arena.proofs.account.account_of_words.Goals as goal

pub returns : goal.returns
returns c = search rules

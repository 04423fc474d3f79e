use Rattle.std.proofs.Common.{◌+◌, ◌∙◌, sym, subst}
use Rattle.tl_arena.specs.Views.{ArenaId}
use Rattle.tl_threads.specs.Left.{IsBookOf}
use Rattle.tl_workers.specs.Start.{AreFrom}
use Rattle.tl_workers.proofs.Arrivals.{new_in}
use Rattle.tl_threads.proofs.named.run_named.Goals as goal

pub ports_of-requires : goal.ports_of-requires
ports_of-requires g c k book at =
    new_in c.args.arena c.args.system.now (0 + k) book (c.requires.books k book at) ∙ c.requires.name

pub returns-clause-books : goal.returns-clause-books
returns-clause-books g c =
    subst (λ (a : ArenaId). AreFrom (IsBookOf a) 0 c.in_ok-books.books.items)
    (sym c.requires.name) c.in_ok-books.ensures.books

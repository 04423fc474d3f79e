-- A file that names parts is shorter than what is read at most, so the reader is at its end.
use Rattle.std.proofs.Common.{ℕ, List, arith, subst}
use Rattle.check_description.specs.Name.{NamesParts}
use Rattle.check_description.specs.File.{parts_view}
use Rattle.check_program.proofs.Files.{length-named}
use Rattle.check_program.proofs.system.read_within.Goals as goal

pub returns-clause-ok : goal.returns-clause-ok
returns-clause-ok g c =
    let file = c.in_ok-bytes.bytes.items in
    let parts = parts_view c.in_ok-parts.parts in
    let read = c.in_ok-bytes.ensures.bytes in
    let named = subst (λ (b : List ℕ). NamesParts b parts) c.deref.ensures.value c.in_ok-parts.ensures.named in
    let short = length-named file parts named.are in
    record {
      read = record { taken = read.taken; whole = read.whole (omega arith) };
      named = named;
    }

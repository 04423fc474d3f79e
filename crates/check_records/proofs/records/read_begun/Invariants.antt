-- The text that is left is within the record.
use Rattle.std.proofs.Common.{◌≡◌}
use Rattle.check_records.specs.Draft.{IsDraft, partial}
use Rattle.check_records.specs.Source.{Between, left}
use Rattle.check_records.proofs.WithinLemmas.{IsWithin}
use Rattle.check_records.proofs.records.read_begun.Given as goal

abbrev pub invariant-loop : goal.invariant-loop
invariant-loop g l = record {
  draft : IsDraft l.draft;
  within : Between (left g.R.Read.remaining l.fn.source) (left g.R.Read.remaining l.source)
      (λ from to. IsWithin from (partial l.draft) l.draft.line to);
  line : l.draft.line ≡ l.fn.source.line;
}

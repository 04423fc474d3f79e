-- Which tables of sizes a port may have: those of messages, for each operation. This project's own.
use Rattle.std.specs.Prelude.{◌≤◌, Option, IfSome}
use Rattle.tl_types.specs.declared.limits.TheConstants.{MAX_SIZE}
use Rattle.tl_ops.specs.declared.sizes.SizeSpan.{SizeSpan}
use Rattle.tl_ops.specs.declared.sizes.SizeTable.{SizeTable}

-- the least size of a span is not over its greatest, and that is the size of a message
pub record IsLawfulSpan (span : SizeSpan) : Type 0 where
  pub ordered : span.least ≤ span.greatest
  pub to : span.greatest ≤ MAX_SIZE

-- a span of the sizes of messages, if there is one
abbrev pub IsMessageSpan : Option SizeSpan → Type 0
IsMessageSpan span = IfSome span IsLawfulSpan

-- a table within the rules. Each operation, an atomic too, may have each size from 1 to 256 bytes.
pub record IsLawfulTable (table : SizeTable) : Type 0 where
  pub get : IsMessageSpan table.get
  pub put_full : IsMessageSpan table.put_full
  pub put_partial : IsMessageSpan table.put_partial
  pub arithmetic : IsMessageSpan table.arithmetic
  pub logical : IsMessageSpan table.logical
  pub intent : IsMessageSpan table.intent

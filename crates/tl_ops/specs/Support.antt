-- Which operations a slave supports, and at which sizes: the standard's transfer sizes, for each operation the least and
-- the greatest. The rows of the kinds are this project's own.
use Rattle.std.specs.Prelude.{ℕ, Bool, false, ◌&&◌, nat_le, Option, None, Some}
use Rattle.tl_types.specs.declared.operation.AskOp.{AskOp}
use Rattle.tl_types.specs.declared.operation.AskOp.TheVariants.{PutFull, PutPartial, Arithmetic, Logical, Get, Intent}
use Rattle.tl_types.specs.declared.limits.TheConstants.{MAX_SIZE}
use Rattle.tl_ops.specs.declared.kind.Kind.{Kind}
use Rattle.tl_ops.specs.declared.kind.Kind.TheVariants.{Ram, Rom, Regs, ClearRegs, NoDevice}
use Rattle.tl_ops.specs.declared.sizes.SizeSpan.{SizeSpan}
use Rattle.tl_ops.specs.declared.sizes.SizeTable.{SizeTable}

-- ---- what a table supports

-- whether a size is in a span; no size is in none
abbrev pub spans : Option SizeSpan → ℕ → Bool
spans None size = false
spans (Some span) size = nat_le span.least size && nat_le size span.greatest

-- the span of an operation
abbrev pub span_of : SizeTable → AskOp → Option SizeSpan
span_of table PutFull = table.put_full
span_of table PutPartial = table.put_partial
span_of table (Arithmetic _) = table.arithmetic
span_of table (Logical _) = table.logical
span_of table Get = table.get
span_of table (Intent _) = table.intent

-- whether a table supports an operation at a size
abbrev pub allows : SizeTable → AskOp → ℕ → Bool
allows table op size = spans (span_of table op) size

-- ---- the rows of the kinds

-- any size of a message
abbrev pub any_size : Option SizeSpan
any_size = Some (record { least = 0; greatest = MAX_SIZE })

-- four bytes and eight
abbrev pub word_size : Option SizeSpan
word_size = Some (record { least = 2; greatest = 3 })

-- the row of a kind: what a port of this kind supports if no table is given. A RAM serves everything, the atomics at 4
-- and 8 bytes. A ROM serves gets and prefetches. Registers, of either kind, serve gets and full puts of 4 or 8 bytes.
-- `NoDevice` serves nothing.
abbrev pub row_of_kind : Kind → SizeTable
row_of_kind Ram = record {
  get = any_size;
  put_full = any_size;
  put_partial = any_size;
  arithmetic = word_size;
  logical = word_size;
  intent = any_size;
}
row_of_kind Rom = record {
  get = any_size;
  put_full = None;
  put_partial = None;
  arithmetic = None;
  logical = None;
  intent = any_size;
}
row_of_kind Regs = record {
  get = word_size;
  put_full = word_size;
  put_partial = None;
  arithmetic = None;
  logical = None;
  intent = None;
}
row_of_kind ClearRegs = record {
  get = word_size;
  put_full = word_size;
  put_partial = None;
  arithmetic = None;
  logical = None;
  intent = None;
}
row_of_kind NoDevice = record {
  get = None;
  put_full = None;
  put_partial = None;
  arithmetic = None;
  logical = None;
  intent = None;
}

-- whether a slave of this kind supports an operation at a size
abbrev pub supports : Kind → AskOp → ℕ → Bool
supports kind op size = allows (row_of_kind kind) op size

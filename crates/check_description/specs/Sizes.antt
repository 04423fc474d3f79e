-- The sizes that a port supports for each operation, as a file gives them. This project's own.
use Rattle.std.specs.Prelude.{ℕ, ℤ, List, codes, Option, Result, Ok}
use Rattle.toml.specs.Data.{Data, Members, get_member}
use Rattle.tl_types.specs.declared.limits.TheConstants.{MAX_SIZE}
use Rattle.tl_ops.specs.declared.sizes.SizeSpan.{SizeSpan}
use Rattle.tl_ops.specs.declared.sizes.SizeTable.{SizeTable}
use Rattle.check_keys.specs.Key.{key_name}
use Rattle.tl_text.specs.Reading.{◌>>=◌, if_any}
use Rattle.check_keys.specs.Value.{in_range, pair_in_value, table_of as members_of}
use Rattle.check_keys.specs.declared.fault.Key.TheVariants.{Sizes}
use Rattle.check_keys.specs.declared.fault.SystemFault.{SystemFault}
use Rattle.check_description.specs.declared.sizes.Pairs.{Pairs}

-- ---- two integers for each operation, which are looked at as such before any of them is looked at as a size

-- those at the name of an operation, if it is there
unfoldable pub pair_at : List ℕ → Members → Result (Option (ℤ × ℤ)) SystemFault
pair_at name members = if_any (pair_in_value Sizes) (get_member name members)

-- the two integers of each operation, in the order in which they are looked at: gets, full puts, partial puts, arithmetic
-- and logical atomics, and Intent.
unfoldable pub pairs_in : Members → Result Pairs SystemFault
pairs_in members = do
  get ← pair_at (codes "get") members
  put_full ← pair_at (codes "putfull") members
  put_partial ← pair_at (codes "putpart") members
  arithmetic ← pair_at (codes "arithmetic") members
  logical ← pair_at (codes "logical") members
  intent ← pair_at (codes "intent") members
  Ok (record {
    get = get;
    put_full = put_full;
    put_partial = put_partial;
    arithmetic = arithmetic;
    logical = logical;
    intent = intent;
  })

-- ---- sizes

-- from the first integer to the second, which are sizes of messages and do not fall
unfoldable pub span_of : ℤ × ℤ → Result SizeSpan SystemFault
span_of pair = do
  least ← in_range Sizes 0 MAX_SIZE pair.0
  greatest ← in_range Sizes least MAX_SIZE pair.1
  Ok (record { least = least; greatest = greatest })

-- the sizes of each operation; one that is not there has none
unfoldable pub size_table_of : Pairs → Result SizeTable SystemFault
size_table_of pairs = do
  get ← if_any span_of pairs.get
  put_full ← if_any span_of pairs.put_full
  put_partial ← if_any span_of pairs.put_partial
  arithmetic ← if_any span_of pairs.arithmetic
  logical ← if_any span_of pairs.logical
  intent ← if_any span_of pairs.intent
  Ok (record {
    get = get;
    put_full = put_full;
    put_partial = put_partial;
    arithmetic = arithmetic;
    logical = logical;
    intent = intent;
  })

-- the sizes of a port, by the value at its key, which has to be a table.
unfoldable pub sizes_in : Data → Result SizeTable SystemFault
sizes_in value = do
  members ← members_of Sizes value
  pairs ← pairs_in members
  size_table_of pairs

-- the sizes of a port, which may give none
unfoldable pub sizes_at : Members → Result (Option SizeTable) SystemFault
sizes_at members = if_any sizes_in (get_member (key_name Sizes) members)

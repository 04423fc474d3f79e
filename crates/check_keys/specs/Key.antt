-- The keys of a system file. This project's own.
use Rattle.std.specs.Prelude.{ℕ, List, codes}
use Rattle.check_keys.specs.declared.fault.Key.{Key}
use Rattle.check_keys.specs.declared.fault.Key.TheVariants.{Bus, Unaligned, Corrupt, Decode, Resets, Period, Port, Name, Kind, Base, Length, Ranges, Reset, Image, Unknown, Sizes, Order, Mirror, Volatile, OnReset, Hosts, Master, Sources, Crossing, First, Stride, Reach, Fifo}

-- the key, as a file has it
abbrev pub key_name : Key → List ℕ
key_name Bus = codes "bus"
key_name Unaligned = codes "unaligned"
key_name Corrupt = codes "corrupt"
key_name Decode = codes "decode"
key_name Resets = codes "resets"
key_name Period = codes "period"
key_name Port = codes "port"
key_name Name = codes "name"
key_name Kind = codes "kind"
key_name Base = codes "base"
key_name Length = codes "length"
key_name Ranges = codes "ranges"
key_name Reset = codes "reset"
key_name Image = codes "image"
key_name Unknown = codes "unknown"
key_name Sizes = codes "sizes"
key_name Order = codes "order"
key_name Mirror = codes "mirror"
key_name Volatile = codes "volatile"
key_name OnReset = codes "on_reset"
key_name Hosts = codes "hosts"
key_name Master = codes "master"
key_name Sources = codes "sources"
key_name Crossing = codes "crossing"
key_name First = codes "first"
key_name Stride = codes "stride"
key_name Reach = codes "reach"
key_name Fifo = codes "fifo"

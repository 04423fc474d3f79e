-- A slave's memory that counts what it has served. It is this project's own.
use Rattle.std.specs.Prelude.{◌+◌, ◌%◌, ◌^◌}
use Rattle.tl_types.specs.Request.{Request}
use Rattle.tl_ops.specs.Store.{Store, after}
use Rattle.tl_ops.specs.declared.counted.CountedBank.{CountedBank}

-- a memory that has served nothing
abbrev pub fresh_bank : Store → CountedBank
fresh_bank store = record { bank = store; served = 0 }

-- the memory after a request, counted modulo 2 ^ 64
abbrev pub counted_after : CountedBank → Request → CountedBank
counted_after counted ask = record { bank = after counted.bank ask; served = (counted.served + 1) % 2 ^ 64 }

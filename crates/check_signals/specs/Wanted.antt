-- How many bits the signals of a link have, as the format of captures has its columns. This project's own.
use Rattle.std.specs.Prelude.{ℕ, ◌*◌, ◌==◌, nat_le, Bool, false, true}
use Rattle.check_samples.specs.declared.signal.Signal.{Signal}
use Rattle.check_samples.specs.declared.signal.Signal.TheVariants as signal
use Rattle.check_signals.specs.declared.wanted.Wanted.{Wanted}
use Rattle.check_signals.specs.declared.wanted.Wanted.TheVariants.{Exactly, AtMost, Optional, Extra}

-- a signal may have so many bits.
abbrev pub bits_fit : Wanted → ℕ → Bool
bits_fit (Exactly count) bits = bits == count
bits_fit (AtMost count) bits = nat_le bits count
bits_fit (Optional count) bits = nat_le bits count
bits_fit (Extra count) bits = nat_le bits count

-- how many bits a signal has to have, or may have at most.
abbrev pub count_of : Wanted → ℕ
count_of (Exactly count) = count
count_of (AtMost count) = count
count_of (Optional count) = count
count_of (Extra count) = count

-- how many bits a constant has: each of a mask and of data; a number and a flag are 0 or 1, which one bit spells
abbrev pub constant_bits : Wanted → ℕ
constant_bits (Exactly count) = count
constant_bits (AtMost count) = 1
constant_bits (Optional count) = 1
constant_bits (Extra count) = 1

-- a design may leave the signal out: a wire says so
abbrev pub may_be_absent : Wanted → Bool
may_be_absent (Exactly count) = false
may_be_absent (AtMost count) = false
may_be_absent (Optional count) = true
may_be_absent (Extra count) = true

-- and a prefix need not find it: most designs leave it out
abbrev pub may_be_unfound : Wanted → Bool
may_be_unfound (Exactly count) = false
may_be_unfound (AtMost count) = false
may_be_unfound (Optional count) = false
may_be_unfound (Extra count) = true

-- at a link whose bus has so many bytes
abbrev pub wanted_of : Signal → ℕ → Wanted
wanted_of signal.AValid bus = AtMost 1
wanted_of signal.AReady bus = AtMost 1
wanted_of signal.AOpcode bus = AtMost 8
wanted_of signal.AParam bus = AtMost 8
wanted_of signal.ASize bus = AtMost 8
wanted_of signal.ASource bus = AtMost 16
wanted_of signal.AAddress bus = AtMost 64
wanted_of signal.AMask bus = Exactly bus
wanted_of signal.AData bus = Exactly (8 * bus)
wanted_of signal.ACorrupt bus = Extra 1
wanted_of signal.DValid bus = AtMost 1
wanted_of signal.DReady bus = AtMost 1
wanted_of signal.DOpcode bus = AtMost 8
wanted_of signal.DParam bus = Extra 8
wanted_of signal.DSize bus = AtMost 8
wanted_of signal.DSource bus = AtMost 16
wanted_of signal.DData bus = Exactly (8 * bus)
wanted_of signal.DDenied bus = AtMost 1
wanted_of signal.DCorrupt bus = Optional 1

-- The keys of a script.
use Rattle.std.specs.Prelude.{ℕ, List, codes}
use Rattle.tl_script.specs.declared.fault.ScriptKey.{ScriptKey}
use Rattle.tl_script.specs.declared.fault.ScriptKey.TheVariants.{Slots, Port, Kind, Base, Length, Reset, Master, Sources, Ops}

-- the key, as a script has it
abbrev pub script_key_name : ScriptKey → List ℕ
script_key_name Slots = codes "slots"
script_key_name Port = codes "port"
script_key_name Kind = codes "kind"
script_key_name Base = codes "base"
script_key_name Length = codes "length"
script_key_name Reset = codes "reset"
script_key_name Master = codes "master"
script_key_name Sources = codes "sources"
script_key_name Ops = codes "ops"

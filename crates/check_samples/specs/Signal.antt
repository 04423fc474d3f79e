-- The signals of a link. The names are the TileLink specification's ("Signal descriptions").
use Rattle.std.specs.Prelude.{ℕ, List, codes}
use Rattle.check_samples.specs.declared.signal.Signal.{Signal}
use Rattle.check_samples.specs.declared.signal.Signal.TheVariants.{AValid, AReady, AOpcode, AParam, ASize, ASource, AAddress, AMask, AData, ACorrupt, DValid, DReady, DOpcode, DParam, DSize, DSource, DData, DDenied, DCorrupt}

-- the name of a signal in the specification.
abbrev pub signal_name : Signal → List ℕ
signal_name AValid = codes "a_valid"
signal_name AReady = codes "a_ready"
signal_name AOpcode = codes "a_opcode"
signal_name AParam = codes "a_param"
signal_name ASize = codes "a_size"
signal_name ASource = codes "a_source"
signal_name AAddress = codes "a_address"
signal_name AMask = codes "a_mask"
signal_name AData = codes "a_data"
signal_name ACorrupt = codes "a_corrupt"
signal_name DValid = codes "d_valid"
signal_name DReady = codes "d_ready"
signal_name DOpcode = codes "d_opcode"
signal_name DParam = codes "d_param"
signal_name DSize = codes "d_size"
signal_name DSource = codes "d_source"
signal_name DData = codes "d_data"
signal_name DDenied = codes "d_denied"
signal_name DCorrupt = codes "d_corrupt"

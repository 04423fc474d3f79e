use Rattle.tl_script.proofs.Printed.{data_of-data_text}
use Rattle.tl_script.proofs.laws.bytes_are_read_back.Goals as goal

pub returns : goal.returns
returns c = data_of-data_text

-- The fault is that of the header.
use Rattle.std.proofs.Common.{◌≡◌, Err}
use Rattle.std.proofs.lemmas.Result.{err_from_is_err_and}
use Rattle.check_vcd.specs.declared.fault.DumpFault.TheVariants.{At}
use Rattle.check_vcd.proofs.DumpLemmas.{no-dump}
use Rattle.check_vcd.proofs.dump.Dump.open.Goals as goal

pub returns-in_err-vars-clause-wrong : goal.returns-in_err-vars-clause-wrong
returns-in_err-vars-clause-wrong g c = λ line mistake is.
    let p = err_from_is_err_and c.from_residual-in_err-vars.result c.from_residual-in_err-vars.ensures.1 in
    let told : c.read_header.result ≡ Err (At line mistake) = cc (p.1, p.2, is, c.in_err-vars.was) in
    no-dump (g.R.Read.remaining c.args.reader) c.in_ok-words.words.left line mistake c.in_ok-words.ensures.ok
    (c.read_header.ensures.wrong line mistake told)

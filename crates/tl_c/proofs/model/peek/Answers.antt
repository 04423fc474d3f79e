-- What is shown, or the number of the fault.
use Rattle.std.proofs.Common.{◌≡◌, ◌∙◌, Err, Ok, ap, refl, sym, arith}
use Rattle.check_model.specs.Bytes.{shown_at}
use Rattle.tl_c.specs.Wire.{flag_number}
use Rattle.tl_c.proofs.Numbers.{not_nowhere, nowhere_told, number_floor}
use Rattle.tl_c.proofs.Telling.{flag_byte}
use Rattle.tl_c.proofs.model.peek.Goals as goal

pub returns-in-Ok-clause-nowhere : goal.returns-in-Ok-clause-nowhere
returns-in-Ok-clause-nowhere c =
    rw (← c.model.view_is) (not_nowhere c.peek.result c.in-Ok.seen c.in-Ok.is c.peek.ensures.nowhere)

pub returns-in-Ok-clause-shown : goal.returns-in-Ok-clause-shown
returns-in-Ok-clause-shown c = record {
  of = λ number port is.
      let own = rw (← c.model.view_is) at is in
      let shown : shown_at port.slave c.args.address ≡ Ok c.in-Ok.seen =
      sym (c.peek.ensures.seen number port own) ∙ c.in-Ok.is in
      rw (shown) (refl, c.unwrap_or.ensures, flag_byte c.is_some.result ∙ ap flag_number c.is_some.ensures);
}

pub returns-in-Err-clause-nowhere : goal.returns-in-Err-clause-nowhere
returns-in-Err-clause-nowhere c =
    rw (← c.model.view_is, c.byte_number.ensures) (nowhere_told c.peek.result c.in-Err.fault c.in-Err.is c.peek.ensures.nowhere)

pub returns-in-Err-clause-shown : goal.returns-in-Err-clause-shown
returns-in-Err-clause-shown c = record {
  of = λ number port is.
      let own = rw (← c.model.view_is) at is in
      let shown : shown_at port.slave c.args.address ≡ Err c.in-Err.fault =
      sym (c.peek.ensures.seen number port own) ∙ c.in-Err.is in
      rw (shown) c.byte_number.ensures;
}

pub returns-in-Err-clause-some : goal.returns-in-Err-clause-some
returns-in-Err-clause-some c _ = let least = number_floor c.in-Err.fault in omega (arith, c.byte_number.ensures, least)

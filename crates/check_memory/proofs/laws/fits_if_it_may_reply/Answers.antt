use Rattle.std.proofs.Common.{◌≡◌, ◌∙◌, ◌↔◌, ℕ, zero, suc, get_or, replicate, Option, Some, None, refl, sym}
use Rattle.std.proofs.lemmas.List.{length-replicate}
use Rattle.tl_types.specs.Operation.{reply_op_of, reply_byte_count}
use Rattle.tl_types.specs.Request.{Request}
use Rattle.check_memory.specs.declared.slave.Slave.{Slave}
use Rattle.check_memory.specs.declared.slave.Slave.TheVariants.{Memory, Device}
use Rattle.check_memory.specs.Pattern.{Pattern, FitsCaptured, FitsDevice, device_pattern}
use Rattle.check_memory.specs.Slave.{expected_of, MayReply}
use Rattle.check_memory.proofs.laws.fits_if_it_may_reply.Goals as goal

-- of bytes that are all unknown none is known
none_known : (n place : ℕ) → get_or (replicate {A = Option ℕ} n None) place None ≡ None
none_known zero place = refl
none_known (suc n) zero = refl
none_known (suc n) (suc place) = none_known n place

device_there : (ask : Request) (captured : Pattern) → FitsCaptured (device_pattern ask) captured → FitsDevice ask captured
device_there ask captured fits = record {
  op_is = fits.op_is;
  size_is = fits.size_is;
  source_is = fits.source_is;
  counted = fits.counted ∙ length-replicate (reply_byte_count (reply_op_of ask.op) ask.size) None;
}

device_back : (ask : Request) (captured : Pattern) → FitsDevice ask captured → FitsCaptured (device_pattern ask) captured
device_back ask captured fits = record {
  op_is = fits.op_is;
  size_is = fits.size_is;
  source_is = fits.source_is;
  denied_is = λ flag is. cc;
  counted = fits.counted ∙ sym (length-replicate (reply_byte_count (reply_op_of ask.op) ask.size) None);
  bytes_fit = λ looked. record {
    counted = fits.counted ∙ sym (length-replicate (reply_byte_count (reply_op_of ask.op) ask.size) None);
    kept = λ place byte clean is. absurd
        (lost byte (sym (none_known (reply_byte_count (reply_op_of ask.op) ask.size) place) ∙ is));
  };
}
  where
    lost : (byte : ℕ) → None ≡ Some byte → ⊥
    lost byte is = cc

fits_if : (slave : Slave) (ask : Request) (captured : Pattern)
    → FitsCaptured (expected_of slave ask) captured ↔ MayReply slave ask captured
fits_if (Memory memory) ask captured = (λ fits. fits, λ fits. fits)
fits_if Device ask captured = (device_there ask captured, device_back ask captured)

pub returns : goal.returns
returns c = fits_if

-- What stands where a slave serves, or serves nothing.
use Rattle.std.specs.Prelude.{Result, Ok, Err, OnErr, OnOk}
use Rattle.std.proofs.Common.{◌≡◌, ◌∙◌, ◌<◌, ℕ, List, length, Option, Some, None, get_or, ap, sym, refl}
use Rattle.std.proofs.lemmas.Option.{slice_get-get_or}
use Rattle.std.specs.Prelude.{slice_set, unwrap_or}
use Rattle.check_cells.specs.Sent.{Sent}
use Rattle.check_flight.specs.PortSlave.{PortSlave, answering}
use Rattle.check_flight.proofs.Served.{set_own}
use Rattle.check_watch.specs.Past.{no_slave, slave_at}
use Rattle.check_watch.specs.View.{slaves_answering}

pub slaves_answered : (slaves : List PortSlave) (port wide : ℕ) (ask : Option Sent)
    → slice_set slaves port (answering (slave_at slaves port) wide ask) ≡ slaves_answering slaves port wide ask
slaves_answered slaves port wide None = set_own no_slave slaves port
slaves_answered slaves port wide (Some ask) = refl

-- what is found at a place within a list stands there
pub slave_found : (slaves : List PortSlave) (port : ℕ) (d : PortSlave) → port < length slaves → d ≡ get_or slaves port d
    → d ≡ slave_at slaves port
slave_found slaves port d within is = is ∙ sym (ap (λ o. unwrap_or o no_slave) (slice_get-get_or slaves port d within))

-- what follows where a step is taken
pub on_both : {T E : Type 0} {P Q R : Type 0} (r : Result T E) → (P → Q → R) → OnOk r P → OnOk r Q → OnOk r R
on_both (Ok v) f p q = f p q
on_both (Err e) f p q = tt

-- and where it is refused
pub on_both_err : {T E : Type 0} {P Q R : Type 0} (r : Result T E) → (P → Q → R) → OnErr r P → OnErr r Q → OnErr r R
on_both_err (Ok v) f p q = tt
on_both_err (Err e) f p q = f p q

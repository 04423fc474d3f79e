use Rattle.check_contests.proofs.Uncontested.{uncontested_is_as_served, denied_is_as_served, device_is_as_served}
use Rattle.check_contests.proofs.laws.uncontested_is_as_served.Goals as goal

pub returns : goal.returns
returns c =
    record { uncontested = uncontested_is_as_served; denied = denied_is_as_served; device = device_is_as_served }

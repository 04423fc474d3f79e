-- From where the memories of a system's ports are seen. This project's own.
use Rattle.std.specs.Prelude.{[]}
use Rattle.check_description.specs.Port.{Port}
use Rattle.check_description.specs.Slave.{kept_at_reset}
use Rattle.check_coverage.specs.Mirrors.{MirrorsView, mirrors_of}

-- that of a port: its slave is seen so at reset, whatever its image is
abbrev pub port_mirrors : Port → MirrorsView
port_mirrors port = mirrors_of (kept_at_reset port [])

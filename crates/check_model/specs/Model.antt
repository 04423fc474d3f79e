-- The crossbar of a system file that serves one request a call: what it is before any, which requests it accepts, what each
-- is answered, and what it is after each. What a slave answers, and what stands there afterwards, is told with the judge's
-- memory (`check_memory`), and the way of a request with the judge (`check_watch`). This project's own.
use Rattle.std.specs.Prelude.{◌≡◌, ℕ, Bool, ◌+◌, ◌%◌, ◌^◌, ◌<◌, ◌≤◌, List, [], ◌∷◌, ◌++◌, length, map, set, Option, Some, slice_get, unwrap_or, IsSomeAnd, IsTrue}
use Rattle.std.specs.List.{zip}
use Rattle.tl_types.specs.Fault.{IsFirstOf}
use Rattle.tl_types.specs.Request.{Request}
use Rattle.tl_map.specs.Blocks.{counts_in}
use Rattle.check_memory.specs.Slave.{expected_of, slave_after, slave_takes_bytes}
use Rattle.check_memory.specs.declared.slave.Slave.{Slave}
use Rattle.check_flight.specs.declared.answer.Answer.{Answer}
use Rattle.check_watch.specs.Plan.{Layout, RoutesAt}
use Rattle.check_watch.specs.declared.links.Links.TheVariants.{Masters}
use Rattle.check_description.specs.Description.{Description, ranges_of}
use Rattle.check_description.specs.Port.{Port}
use Rattle.check_description.specs.Slave.{denying_slave, kept_at_reset}
use Rattle.check_start.specs.Loads.{loads_at_reset}
use Rattle.check_start.specs.Slaves.{image_at}
use Rattle.check_model.specs.declared.fault.ServeFault.{ServeFault}
use Rattle.check_model.specs.declared.fault.ServeFault.TheVariants.{NoSuchMaster, NoSuchSource, Memory}
use Rattle.check_model.specs.declared.port.ModelPort.{ModelPort}

-- the way of requests, each port, the error port last, whether there may be resets of the whole system, and what these load
-- into each port
pub record ModelState : Type 0 where
  pub layout : Layout
  pub ports : List ModelPort
  pub resets : Bool
  pub loads : List (Option Slave)

-- ---- before any request

-- a port at which this stands, and that has served nothing
abbrev pub fresh : Slave → ModelPort
fresh slave = record { slave = slave; served = 0 }

-- the ports, the first of which has this number, with these bytes of their images
abbrev pub ports_from : List (List ℕ) → ℕ → List Port → List ModelPort
ports_from images number [] = []
ports_from images number (port ∷ ports) =
    fresh (kept_at_reset port (image_at images number)) ∷ ports_from images (number + 1) ports

-- all ports, and the error port after them
abbrev pub ports_at_reset : List (List ℕ) → List Port → List ModelPort
ports_at_reset images ports = ports_from images 0 ports ++ fresh denying_slave ∷ []

-- where the requests of a system go; of links, which a model has none of, it says nothing
abbrev pub ways_of : Description → Layout
ways_of system = record {
  links = Masters;
  apart = [];
  fifos = record { masters = []; ports = [] };
  rules = system.rules;
  owners = system.owners;
  ports = ranges_of system.ports;
  paths = system.paths;
  master_buses = [];
  port_buses = [];
}

-- a system before any request, with these bytes of its ports' images
abbrev pub at_reset : Description → List (List ℕ) → ModelState
at_reset system images = record {
  layout = ways_of system;
  ports = ports_at_reset images system.ports;
  resets = system.resets;
  loads = loads_at_reset images system.ports;
}

-- ---- one request

-- the fault is one of a request of this master
abbrev pub HasServeFault : ModelState → ℕ → Request → ServeFault → Type 0
HasServeFault model master ask NoSuchMaster = length model.layout.owners ≤ master
HasServeFault model master ask NoSuchSource =
    IsSomeAnd (slice_get (counts_in model.layout.owners) master) (λ count. count ≤ ask.source)
HasServeFault model master ask Memory = ⊥

-- the place of a fault in the order in which faults are tried
abbrev pub serve_fault_rank : ServeFault → ℕ
serve_fault_rank NoSuchMaster = 1
serve_fault_rank NoSuchSource = 2
serve_fault_rank Memory = 3

-- the fault is the first one, in that order, of a request of this master
abbrev pub IsFirstServeFault : ModelState → ℕ → Request → ServeFault → Type 0
IsFirstServeFault model master ask = IsFirstOf (HasServeFault model master ask) serve_fault_rank

-- there is such a master, and it has the source
abbrev pub Accepts : ModelState → ℕ → Request → Type 0
Accepts model master ask =
    IsSomeAnd (slice_get (counts_in model.layout.owners) master) (λ count. ask.source < count)

-- what the port of this number answers: what is expected of its slave, and how many requests it had served
abbrev pub answer_of : ℕ → ModelPort → Request → Answer
answer_of number port ask = record { reply = expected_of port.slave ask; port = number; index = port.served }

-- a port after one request more
abbrev pub served_more : ModelPort → Request → ModelPort
served_more port ask = record { slave = slave_after port.slave ask; served = (port.served + 1) % 2 ^ 64 }

-- a crossbar that is the one before a request of a master, what the request is answered, and the crossbar after it: it goes to
-- the port that the system gives it, that answers and serves it, and nothing else changes
pub record IsServed (old : ModelState) (master : ℕ) (ask : Request) (answer : Answer) (new : ModelState) : Type 0 where
  pub port : ModelPort
  pub routed : RoutesAt old.layout master ask.address ask.size answer.port
  pub at : slice_get old.ports answer.port ≡ Some port
  pub answer_is : answer ≡ answer_of answer.port port ask
  pub is : new ≡ record old { ports = set old.ports answer.port (served_more port ask) }

-- the port of a master's request takes its bytes, for which it may need memory
pub record TakesBytes (model : ModelState) (master : ℕ) (ask : Request) : Type 0 where
  pub number : ℕ
  pub port : ModelPort
  pub routed : RoutesAt model.layout master ask.address ask.size number
  pub at : slice_get model.ports number ≡ Some port
  pub takes : IsTrue (slave_takes_bytes port.slave ask)

-- ---- a reset

-- a port into which a reset loads this, if it loads something; how many requests it has served goes on
abbrev pub loaded_port : ModelPort → Option Slave → ModelPort
loaded_port port loaded = record port { slave = unwrap_or loaded port.slave }

-- all ports
abbrev pub ports_loaded : List ModelPort → List (Option Slave) → List ModelPort
ports_loaded ports loads = map (λ pair. loaded_port pair.0 pair.1) (zip ports loads)

-- the crossbar after a reset of the whole system. No request is in flight between two calls, so none is cut short
abbrev pub after_reset : ModelState → ModelState
after_reset model = record model { ports = ports_loaded model.ports model.loads }

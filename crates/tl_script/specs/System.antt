-- What a script describes.
use Rattle.std.specs.Prelude.{◌≡◌, ℕ, ◌<◌, ◌≤◌, List, [], ◌∷◌, ◌++◌, map, length, All, Option, Some, None, slice_get}
use Rattle.std.specs.List.{filter_map}
use Rattle.tl_types.specs.Request.{Request}
use Rattle.tl_types.specs.declared.limits.TheConstants.{MAX_MASTERS, MAX_SLOTS}
use Rattle.tl_ops.specs.Bank.{IsLawfulBank}
use Rattle.tl_ops.specs.Store.{Store}
use Rattle.tl_ops.specs.declared.kind.Kind.TheVariants.{NoDevice}
use Rattle.tl_ops.specs.declared.bank.TheConstants.{MAX_LENGTH}
use Rattle.tl_map.specs.declared.range.Range.{Range}
use Rattle.tl_map.specs.declared.owners.Owner.{Owner}
use Rattle.tl_map.specs.Blocks.{HaveBlocks, counts_in}
use Rattle.tl_map.specs.Map.{one_each}
use Rattle.tl_script.specs.declared.map.TheConstants.{MAX_RANGES}
use Rattle.tl_script.specs.declared.operation.Job.{Job}
use Rattle.tl_script.specs.declared.operation.Job.TheVariants.{Wait, Send}
use Rattle.tl_script.specs.declared.system.Device.{Device}
use Rattle.tl_script.specs.declared.system.TheConstants.{MAX_JOBS}

-- how many slots the arena has, the slave of each port at reset, the owner of each master's sources, the ranges of each
-- port, and the operations of each master
pub record System : Type 0 where
  pub slots : ℕ
  pub stores : List Store
  pub owners : List Owner
  pub ranges : List (List Range)
  pub jobs : List (List Job)

-- the slave that a device is at reset
abbrev pub store_of : Device → Store
store_of device = record { kind = device.kind; base = device.base; bytes = device.reset.items }

-- the device's bytes make a lawful bank
abbrev pub IsLawfulDevice : Device → Type 0
IsLawfulDevice device = IsLawfulBank device.base device.reset.items

-- the system of these parts
abbrev pub described : ℕ → List Device → List Owner → List (List Range) → List (List Job) → System
described slots devices owners ranges jobs =
    record { slots = slots; stores = map store_of devices; owners = owners; ranges = ranges; jobs = jobs }

-- the slave of the error port: it holds nothing and denies everything
abbrev pub error_store : Store
error_store = record { kind = NoDevice; base = 0; bytes = [] }

-- the slave of each port at reset, the error port last
abbrev pub resets : System → List Store
resets s = s.stores ++ error_store ∷ []

-- the addresses of a slave's bytes
abbrev pub range_of : Store → Range
range_of store = record { base = store.base; length = length store.bytes }

-- what the operation sends, if anything, is from a source below this count
abbrev pub IsFrom : ℕ → Job → Type 0
IsFrom count Wait = Unit {0}
IsFrom count (Send ask) = ask.source < count

-- the request that an operation sends, if it sends one
abbrev pub sent_by : Job → Option Request
sent_by Wait = None
sent_by (Send ask) = Some ask

-- the requests that operations send, in order
abbrev pub sends : List Job → List Request
sends jobs = filter_map sent_by jobs

-- one master's operations: not too many, and all from sources that the master has
pub record AreLawfulJobs (count : ℕ) (jobs : List Job) : Type 0 where
  pub in_limit : length jobs ≤ MAX_JOBS
  pub sources : All (λ ask. ask.source < count) (sends jobs)

-- the rule of systems: slots within their limits; at least one master and not too many, each with a block of sources; a
-- slave for each port, whose one range is that of the slave's bytes, and not too many ports; and lawful operations for
-- each master
pub record IsLawfulSystem (s : System) : Type 0 where
  pub some_slots : 0 < s.slots
  pub slots : s.slots ≤ MAX_SLOTS
  pub masters : 0 < length s.owners
  pub few_masters : length s.owners ≤ MAX_MASTERS
  pub blocks : HaveBlocks s.owners
  pub ranges : one_each (map range_of s.stores) ≡ s.ranges
  pub few_ports : length s.ranges ≤ MAX_RANGES
  pub lengths : All (λ store. length store.bytes ≤ MAX_LENGTH) s.stores
  pub lists : length s.jobs ≡ length s.owners
  pub jobs : (m : ℕ) (count : ℕ) (jobs : List Job) → slice_get (counts_in s.owners) m ≡ Some count → slice_get s.jobs m ≡ Some jobs
      → AreLawfulJobs count jobs

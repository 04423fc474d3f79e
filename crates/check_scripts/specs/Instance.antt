-- What a script of tlx is as a system file. This project's own.
use Rattle.std.specs.Prelude.{◌≡◌, false, ◌<◌, ℕ, List, [], ◌∷◌, length, map, None, Ok, Option}
use Rattle.std.specs.List.{AllByRecursion}
use Rattle.toml.specs.Data.{Members, get_member}
use Rattle.tl_map.specs.Blocks.{counts_in}
use Rattle.tl_ops.specs.Store.{Store}
use Rattle.tl_script.specs.Script.{Spells}
use Rattle.tl_script.specs.System.{System, range_of}
use Rattle.check_beats.specs.declared.bus.Bus.TheVariants.{Eight}
use Rattle.check_beats.specs.declared.rules.LinkRules.{LinkRules}
use Rattle.check_keys.specs.Key.{key_name}
use Rattle.check_keys.specs.declared.fault.Key.{Key}
use Rattle.check_keys.specs.declared.fault.Key.TheVariants.{Bus, Unaligned, Corrupt, Decode, Resets, Period, Name, Ranges, Image, Unknown, Sizes, Order, Mirror, Volatile, OnReset, Hosts, Sources, Crossing, Fifo, First, Stride, Reach}
use Rattle.check_description.specs.Laws.{IsPlainMemory, store_at_reset}
use Rattle.check_description.specs.Order.{no_orders}
use Rattle.check_description.specs.declared.crossing.PortCrossing.TheVariants.{Same}
use Rattle.check_description.specs.declared.on_reset.OnReset.TheVariants.{Never}
use Rattle.check_description.specs.Port.{Port, port_tables}
use Rattle.check_description.specs.Description.{Description, Makes}
use Rattle.check_description.specs.File.{Parts, document_of, parts_of}
use Rattle.check_description.specs.Master.{Master, master_tables}
use Rattle.check_description.specs.Name.{names_of}

-- ---- files that say nothing that a script does not

-- a table does not have this key.
abbrev pub IsAbsent : Key → Members → Type 0
IsAbsent key members = get_member (key_name key) members ≡ None

-- a port's table has no key that is nothing to a script
pub record IsPlainPort (members : Members) : Type 0 where
  pub name : IsAbsent Name members
  pub ranges : IsAbsent Ranges members
  pub image : IsAbsent Image members
  pub unknown : IsAbsent Unknown members
  pub sizes : IsAbsent Sizes members
  pub order : IsAbsent Order members
  pub bus : IsAbsent Bus members
  pub mirror : IsAbsent Mirror members
  pub volatile : IsAbsent Volatile members
  pub on_reset : IsAbsent OnReset members
  pub hosts : IsAbsent Hosts members
  pub sources : IsAbsent Sources members
  pub crossing : IsAbsent Crossing members
  pub fifo : IsAbsent Fifo members

-- a master's table has no such key
pub record IsPlainMaster (members : Members) : Type 0 where
  pub name : IsAbsent Name members
  pub first : IsAbsent First members
  pub stride : IsAbsent Stride members
  pub bus : IsAbsent Bus members
  pub reach : IsAbsent Reach members
  pub fifo : IsAbsent Fifo members

-- the file says nothing of its links, nor of resets, and no table of a port or of a master has such a key
pub record SaysNothingNew (bytes : List ℕ) : Type 0 where
  pub bus : (members : Members) → document_of bytes ≡ Ok members → IsAbsent Bus members
  pub unaligned : (members : Members) → document_of bytes ≡ Ok members → IsAbsent Unaligned members
  pub corrupt : (members : Members) → document_of bytes ≡ Ok members → IsAbsent Corrupt members
  pub decode : (members : Members) → document_of bytes ≡ Ok members → IsAbsent Decode members
  pub resets : (members : Members) → document_of bytes ≡ Ok members → IsAbsent Resets members
  pub period : (members : Members) → document_of bytes ≡ Ok members → IsAbsent Period members
  pub ports : (members : Members) (tables : List Members) → document_of bytes ≡ Ok members
      → port_tables members ≡ Ok tables → AllByRecursion IsPlainPort tables
  pub masters : (members : Members) (tables : List Members) → document_of bytes ≡ Ok members
      → master_tables members ≡ Ok tables → AllByRecursion IsPlainMaster tables

-- ---- the ports and masters of such a file

-- the port is a memory of the store's kind, with the store's one range. It is wholly known at reset, where it holds what
-- the store holds, and nothing more is said of it
pub record IsPortOf (store : Store) (port : Port) : Type 0 where
  pub plain : IsPlainMemory store.kind (range_of store) port
  pub holds : store_at_reset store.kind (range_of store) port [] ≡ store
  pub name : port.name ≡ None
  pub image : port.contents.image ≡ None
  pub orders : port.orders ≡ no_orders
  pub bus : port.bus ≡ Eight
  pub on_reset : port.on_reset ≡ Never
  pub listed : port.listed ≡ None
  pub crossing : port.crossing ≡ Same
  pub fifo : port.fifo ≡ false

-- a port for each store, in order
abbrev pub ArePortsOf : List Store → List Port → Type 0
ArePortsOf [] [] = Unit {0}
ArePortsOf [] (port ∷ ports) = ⊥
ArePortsOf (store ∷ stores) [] = ⊥
ArePortsOf (store ∷ stores) (port ∷ ports) = IsPortOf store port × ArePortsOf stores ports

-- a master that says only how many sources it has
abbrev pub plain_master : ℕ → Master
plain_master count = record {
  name = None;
  sources = count;
  first = None;
  stride = 1;
  bus = Eight;
  reach = None;
  fifo = false;
}

-- requests are aligned, no data are corrupt, and decoders look at all bytes of a request. A clock is a unit of time.
abbrev pub strict_rules : LinkRules
strict_rules = record { unaligned = false; corrupt = false; by_address = false; period = 1 }

-- nothing is said of each of these
abbrev pub nothing_said : {A B : Type 0} → List A → List (Option B)
nothing_said xs = map (λ x. None) xs

-- ---- what is said of them

-- the file names these parts: a port for each slave of the script, and a master for each count of sources, of which there
-- is one; no port lists masters, and each master has a path to each port
pub record NamesSame (script : System) (bytes : List ℕ) : Type 0 where
  pub parts : Parts
  pub named : parts_of bytes ≡ Ok parts
  pub rules : parts.rules ≡ strict_rules
  pub resets : parts.resets ≡ false
  pub slaves : ArePortsOf script.stores parts.ports
  pub masters : parts.masters ≡ map plain_master (counts_in script.owners)
  pub lists : parts.lists ≡ nothing_said parts.ports
  pub paths : parts.paths ≡ nothing_said parts.masters
  pub names : names_of parts ≡ []
  pub some : 0 < length script.owners

-- if a file is a script of tlx and says nothing that a script does not, it names these parts.
abbrev pub NamesTheSame : Type 0
NamesTheSame = (bytes : List ℕ) (script : System) → Spells bytes script → SaysNothingNew bytes → NamesSame script bytes

-- the system has the script's slaves, and its masters have the script's owners
pub record IsSameSystem (script : System) (system : Description) : Type 0 where
  pub rules : system.rules ≡ strict_rules
  pub resets : system.resets ≡ false
  pub slaves : ArePortsOf script.stores system.ports
  pub masters : system.masters ≡ map plain_master (counts_in script.owners)
  pub owners : system.owners ≡ script.owners
  pub lists : system.lists ≡ nothing_said system.ports
  pub paths : system.paths ≡ nothing_said system.masters

-- if a file is a script of tlx and says nothing that a script does not, the system that it describes is the script's.
abbrev pub DescribesTheSame : Type 0
DescribesTheSame =
    (bytes : List ℕ) (script : System) (parts : Parts) (system : Description) → Spells bytes script
    → SaysNothingNew bytes → parts_of bytes ≡ Ok parts → Makes parts system → IsSameSystem script system

-- The masters of a system file. This project's own.
use Rattle.std.specs.Prelude.{◌≡◌, ℕ, Bool, true, false, List, [], ◌∷◌, map, Option, None, Some, MatchOption, is_some, option_and_then, option_map, unwrap_or, string_bytes, Result, Ok}
use Rattle.std.specs.List.{list_any}
use Rattle.toml.specs.Data.{Members, get_member}
use Rattle.check_beats.specs.declared.bus.Bus.{Bus}
use Rattle.check_keys.specs.Bus.{bus_in_table}
use Rattle.check_keys.specs.Key.{key_name}
use Rattle.check_keys.specs.Name.{name_at}
use Rattle.tl_text.specs.Reading.{◌>>=◌, each}
use Rattle.check_keys.specs.Value.{flag_at, value_at, number_at, number_if_any, tables_of, one_up_to}
use Rattle.check_keys.specs.declared.fault.Key.TheVariants.{Fifo, Master as MasterKey, Sources, First, Stride}
use Rattle.check_keys.specs.declared.fault.SystemFault.{SystemFault}
use Rattle.tl_map.specs.Blocks.{AreBlocks, AreFew}
use Rattle.tl_map.specs.Owners.{IsFirstSourceOwnerFault}
use Rattle.tl_map.specs.declared.owners.Owner.{Owner}
use Rattle.tl_map.specs.declared.owners.SourceOwnerFault.{SourceOwnerFault}
use Rattle.tl_map.specs.declared.owners.SourceOwnerFault.TheVariants.{TooMany}
use Rattle.tl_map.specs.declared.limits.TheConstants.{MAX_JUDGED_MASTERS, MAX_JUDGED_SOURCES, MAX_WIDE}
use Rattle.check_description.specs.Reach.{reach_at}
use Rattle.check_description.specs.declared.masters.Master as code_master

-- a master: its name, how many sources it has, the wide source of its source 0 where the file says it, how far apart the
-- wide sources of its next sources are, the data bus of its link, for each port whether it has a path to it, where the file
-- says it, and whether replies at its link come in order
pub record Master : Type 0 where
  pub name : Option (List ℕ)
  pub sources : ℕ
  pub first : Option ℕ
  pub stride : ℕ
  pub bus : Bus
  pub reach : Option (List Bool)
  pub fifo : Bool

-- the table says where the master's wide sources begin
abbrev pub has_first : Members → Bool
has_first members = is_some (get_member (key_name First) members)

-- the first wide source, which has to be there if some master of the file has one
unfoldable pub first_at : Bool → Members → Result (Option ℕ) SystemFault
first_at true members = number_at First 0 MAX_WIDE members >>= (λ first. Ok (Some first))
first_at false _ = Ok None

-- how far apart the wide sources of a master are, from 1 to 65,535; 1 if the table says nothing.
unfoldable pub stride_at : Members → Result ℕ SystemFault
stride_at members = number_if_any Stride 1 MAX_WIDE members >>= (λ stride. Ok (unwrap_or stride 1))

-- the master that a table describes, by its keys in the order in which they are looked at; without a bus of its own it
-- has that of the system. The ports have these names
unfoldable pub master_of : Bus → List (Option (List ℕ)) → Bool → Members → Result Master SystemFault
master_of bus ports placed members = do
  name ← name_at members
  sources ← number_at Sources 1 MAX_JUDGED_SOURCES members
  first ← first_at placed members
  stride ← stride_at members
  own ← bus_in_table bus members
  reach ← reach_at ports members
  fifo ← flag_at Fifo members
  Ok (record {
    name = name;
    sources = sources;
    first = first;
    stride = stride;
    bus = own;
    reach = reach;
    fifo = fifo;
  })

-- the tables of the masters, of which there is at least one. There are at most 64.
unfoldable pub master_tables : Members → Result (List Members) SystemFault
master_tables members = do
  value ← value_at MasterKey members
  tables ← tables_of MasterKey value
  one_up_to MasterKey MAX_JUDGED_MASTERS tables

-- the masters of a file: its tables, and then what each describes. If some table says a first wide source, each has to.
unfoldable pub masters_of : Bus → List (Option (List ℕ)) → Members → Result (List Master) SystemFault
masters_of bus ports members =
    master_tables members >>= (λ tables. each (master_of bus ports (list_any has_first tables)) tables)

-- of each master, whether replies at its link come in order
abbrev pub master_fifos : List Master → List Bool
master_fifos masters = map (λ (master : Master). master.fifo) masters

-- ---- the wide sources of masters

-- how many sources each master has
abbrev pub counts_of : List Master → List ℕ
counts_of masters = map (λ (master : Master). master.sources) masters

-- the wide sources that a master says, if it says where they begin
abbrev pub owner_of : Master → Option Owner
owner_of master = option_map
    (λ first. record { first = first; count = master.sources; stride = master.stride }) master.first

-- the wide sources of all masters, if each says them
abbrev pub said_owners : List Master → Option (List Owner)
said_owners [] = Some []
said_owners (master ∷ masters) =
    option_and_then (λ owner. option_map (λ owners. owner ∷ owners) (said_owners masters)) (owner_of master)

-- these are the blocks of so many sources
pub record IsInBlocks (counts : List ℕ) (owners : List Owner) : Type 0 where
  pub few : AreFew counts
  pub blocks : AreBlocks counts owners

-- these are the masters' wide sources: those that they say, or else blocks
abbrev pub HasOwners : List Master → List Owner → Type 0
HasOwners masters owners =
    MatchOption (said_owners masters) (IsInBlocks (counts_of masters) owners) (λ said. owners ≡ said)

-- blocks can't be had of so many sources
abbrev pub IsBlockFault : List ℕ → SourceOwnerFault → Type 0
IsBlockFault counts fault = (fault ≡ TooMany) × (AreFew counts → ⊥)

-- the fault is the first of the masters' wide sources
abbrev pub IsFirstOwnerFault : List Master → SourceOwnerFault → Type 0
IsFirstOwnerFault masters fault =
    MatchOption (said_owners masters) (IsBlockFault (counts_of masters) fault) (λ said. IsFirstSourceOwnerFault said fault)

-- what contracts see of a master
abbrev pub master_view : code_master.Master → Master
master_view master = record {
  name = option_map string_bytes master.name;
  sources = master.sources;
  first = master.first;
  stride = master.stride;
  bus = master.bus;
  reach = option_map (λ flags. flags.items) master.reach;
  fifo = master.fifo;
}

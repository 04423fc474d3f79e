-- The masters that a port lists, and where their sources are at its link, as a file says them. The standard leaves sources to
-- the system. This project's own.
use Rattle.std.specs.Prelude.{ℕ, ◌+◌, ℤ, nat_le, Bool, List, [], ◌∷◌, length, map, Option, None, Some, is_some, unwrap_or, string_bytes, Result, Ok, if◌then◌else◌, ok_or}
use Rattle.toml.specs.Data.{Data, Members, get_member}
use Rattle.tl_map.specs.declared.limits.TheConstants.{MAX_JUDGED_MASTERS, MAX_WIDE}
use Rattle.tl_text.specs.Reading.{◌>>=◌, each, if_any, unless}
use Rattle.check_keys.specs.Key.{key_name}
use Rattle.check_keys.specs.Value.{IntegerOrText, array_of, in_range, integer_of, integer_or_text_of, integer_or_text_view, one_up_to, tables_of}
use Rattle.check_keys.specs.Value.IntegerOrText.{Number, Text}
use Rattle.check_keys.specs.declared.fault.Key.{Key}
use Rattle.check_keys.specs.declared.fault.Key.TheVariants.{Hosts, Master, Sources, First, Stride}
use Rattle.check_keys.specs.declared.fault.SystemFault.{SystemFault}
use Rattle.check_keys.specs.declared.fault.SystemFault.TheVariants.{OutOfRange, WrongType}
use Rattle.check_description.specs.declared.listed.MasterWord as code_word
use Rattle.check_description.specs.declared.listed.MasterWord.TheVariants as code_words
use Rattle.check_description.specs.declared.listed.ListedMaster as code_listed
use Rattle.check_description.specs.declared.listed.ListedMasters as code_list
use Rattle.check_description.specs.declared.listed.SaidMaster as code_said

-- a master that a port lists, by its number or its name; the source at the port's link that is its source 0, and how far apart
-- those of its next sources are
pub record ListedMaster : Type 0 where
  pub master : IntegerOrText
  pub first : ℕ
  pub stride : ℕ

-- the masters that a port lists, and the key that lists them
pub record ListedMasters : Type 0 where
  pub key : Key
  pub masters : List ListedMaster

-- ---- hosts: the low bits of a source at the port's link are the number of the host

-- how far apart the sources of one of so many hosts are: the least power of two that is at least as many, for at most 64
abbrev pub host_stride : ℕ → ℕ
host_stride count =
    if nat_le count 1 then 1
    else if nat_le count 2 then 2
    else if nat_le count 4 then 4
    else if nat_le count 8 then 8
    else if nat_le count 16 then 16
    else if nat_le count 32 then 32
    else 64

-- hosts as masters of a list, of which the first has this number
abbrev pub hosts_from : ℕ → ℕ → List IntegerOrText → List ListedMaster
hosts_from stride number [] = []
hosts_from stride number (host ∷ hosts) =
    record { master = host; first = number; stride = stride } ∷ hosts_from stride (number + 1) hosts

-- the hosts that a value lists: all elements are integers or texts, and there are some and not too many. There are 1 to
-- 64 hosts, and the first source of each is its place in the list.
unfoldable pub hosts_in : Data → Result ListedMasters SystemFault
hosts_in value = do
  values ← array_of Hosts value
  elements ← each (integer_or_text_of Hosts) values
  hosts ← one_up_to Hosts MAX_JUDGED_MASTERS elements
  Ok (record { key = Hosts; masters = hosts_from (host_stride (length hosts)) 0 hosts })

-- ---- sources: the place of each master's

-- what a table says of a master, before its numbers are looked at
pub record SaidMaster : Type 0 where
  pub master : IntegerOrText
  pub first : ℤ
  pub stride : Option ℤ

-- a member of a table; one that has to be there is of the wrong type if it is not
unfoldable pub member_of_list : Key → Members → Result Data SystemFault
member_of_list key members = ok_or (get_member (key_name key) members) (WrongType Sources)

-- what a table of the list says of a master: the types of its members are looked at, and not yet whether its numbers are
-- in range.
unfoldable pub said_in_table : Members → Result SaidMaster SystemFault
said_in_table members = do
  master ← member_of_list Master members >>= integer_or_text_of Sources
  first ← member_of_list First members >>= integer_of Sources
  stride ← if_any (integer_of Sources) (get_member (key_name Stride) members)
  Ok (record { master = master; first = first; stride = stride })

-- how far apart the sources are: the number that a table says, from 1 to 65,535, or 1 if it says none.
unfoldable pub stride_of_said : Option ℤ → Result ℕ SystemFault
stride_of_said said = if_any (in_range Sources 1 MAX_WIDE) said >>= (λ stride. Ok (unwrap_or stride 1))

-- the master that a table says, once its numbers are looked at: the first source, from 0 to 65,535, and then the stride.
unfoldable pub listed_of_said : SaidMaster → Result ListedMaster SystemFault
listed_of_said said = do
  first ← in_range Sources 0 MAX_WIDE said.first
  stride ← stride_of_said said.stride
  Ok (record { master = said.master; first = first; stride = stride })

-- the masters that a value lists: the types of all tables are looked at first. There may be none beside hosts. A value
-- lists 1 to 64 masters.
unfoldable pub sources_in : Bool → Data → Result ListedMasters SystemFault
sources_in has_hosts value = do
  tables ← tables_of Sources value
  said ← each said_in_table tables
  alone ← unless has_hosts (OutOfRange Sources) said
  some ← one_up_to Sources MAX_JUDGED_MASTERS alone
  masters ← each listed_of_said some
  Ok (record { key = Sources; masters = masters })

-- ---- the list of a port

-- the one list that there may be
abbrev pub one_list : Option ListedMasters → Option ListedMasters → Option ListedMasters
one_list None sources = sources
one_list (Some hosts) sources = Some hosts

-- that of a port's table; a table that says nothing gives none
unfoldable pub listed_at : Members → Result (Option ListedMasters) SystemFault
listed_at members = do
  hosts ← if_any hosts_in (get_member (key_name Hosts) members)
  sources ← if_any (sources_in (is_some hosts)) (get_member (key_name Sources) members)
  Ok (one_list hosts sources)

-- ---- what contracts see

-- what contracts see of the number or the name of a master.
abbrev pub word_view : code_word.MasterWord → IntegerOrText
word_view (code_words.Number n) = Number n
word_view (code_words.Name name) = Text (string_bytes name)

-- what contracts see of a master that a port lists.
abbrev pub listed_view : code_listed.ListedMaster → ListedMaster
listed_view listed = record { master = word_view listed.master; first = listed.first; stride = listed.stride }

-- what contracts see of the masters that a port lists.
abbrev pub list_view : code_list.ListedMasters → ListedMasters
list_view list = record { key = list.key; masters = map listed_view list.masters.items }

-- what contracts see of what a table says of a master.
abbrev pub said_view : code_said.SaidMaster → SaidMaster
said_view said = record {
  master = integer_or_text_view said.master;
  first = said.first;
  stride = said.stride;
}

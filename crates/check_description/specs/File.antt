-- The parts that a file names, and the first fault on the way to them. This project's own.
use Rattle.std.specs.Prelude.{ℕ, Bool, ◌+◌, nat_lt, List, [], ◌∷◌, length, map, Option, None, Some, Result, Ok, Err, if◌then◌else◌, ok_or}
use Rattle.std.specs.Str.{is_utf8}
use Rattle.toml.specs.Data.{Members}
use Rattle.toml.specs.Parse.{parse_document}
use Rattle.check_beats.specs.declared.bus.Bus.TheVariants.{Eight}
use Rattle.check_beats.specs.declared.rules.LinkRules.{LinkRules}
use Rattle.check_keys.specs.Bus.{bus_in_table}
use Rattle.tl_text.specs.Reading.{◌>>=◌}
use Rattle.check_keys.specs.declared.fault.SystemFault.{SystemFault}
use Rattle.check_keys.specs.declared.fault.SystemFault.TheVariants.{TooLong, NotToml}
use Rattle.check_description.specs.Rules.{rules_in}
use Rattle.check_description.specs.Port.{Port, names_of_ports, port_view, ports_of}
use Rattle.check_description.specs.Master.{Master, master_view, masters_of}
use Rattle.check_description.specs.Placed.{lists_view, names_of_masters, paths_from, paths_view, placed_of}
use Rattle.check_description.specs.declared.placed.PlacedMaster.{PlacedMaster}
use Rattle.check_description.specs.declared.parts.Image as code_image
use Rattle.check_description.specs.declared.parts.Parts as code_parts
use Rattle.check_description.specs.declared.read.TheConstants.{MAX_SYSTEM}

-- the rules of the links, whether there may be resets of the whole system, the ports and the masters, the masters that each port
-- lists, if it lists any, and for each master to which ports it has a path, if not to all
pub record Parts : Type 0 where
  pub rules : LinkRules
  pub resets : Bool
  pub ports : List Port
  pub masters : List Master
  pub lists : List (Option (List PlacedMaster))
  pub paths : List (Option (List Bool))

-- the table of a file, which is a TOML document of at most so many bytes of UTF-8
unfoldable pub document_of : List ℕ → Result Members SystemFault
document_of bytes =
    if nat_lt MAX_SYSTEM (length bytes) then Err TooLong
    else if is_utf8 bytes then ok_or (parse_document bytes) NotToml
    else Err NotToml

-- the parts that a document's table names; members with other keys are nothing to it. Links whose bus nobody says have
-- eight bytes
unfoldable pub parts_in : Members → Result Parts SystemFault
parts_in members = do
  bus ← bus_in_table Eight members
  rules ← rules_in members
  ports ← ports_of bus rules.resets members
  masters ← masters_of bus (names_of_ports ports) members
  lists ← placed_of (names_of_masters masters) ports
  paths ← paths_from lists 0 masters
  Ok (record {
    rules = rules.links;
    resets = rules.resets;
    ports = ports;
    masters = masters;
    lists = lists;
    paths = paths;
  })

-- the parts that a file names, or the first fault on the way to them
abbrev pub parts_of : List ℕ → Result Parts SystemFault
parts_of bytes = document_of bytes >>= parts_in

-- what contracts see of the parts that were read
abbrev pub parts_view : code_parts.Parts → Parts
parts_view parts = record {
  rules = parts.rules;
  resets = parts.resets;
  ports = map port_view parts.ports.items;
  masters = map master_view parts.masters.items;
  lists = lists_view parts.lists;
  paths = paths_view parts.paths;
}

-- ---- the files of images

-- the file of a port's image, and the port
abbrev pub Image : Type 0
Image = ℕ × List ℕ

-- that of a port with this number, if it names one, and those after it
abbrev pub image_before : ℕ → Option (List ℕ) → List Image → List Image
image_before port None images = images
image_before port (Some file) images = (port, file) ∷ images

-- those of ports that are numbered from this number on
abbrev pub images_from : ℕ → List Port → List Image
images_from number [] = []
images_from number (port ∷ ports) = image_before number port.contents.image (images_from (number + 1) ports)

-- the files of the ports' images, in the order of the ports
abbrev pub images_of : Parts → List Image
images_of parts = images_from 0 parts.ports

-- what contracts see of an image
abbrev pub image_view : code_image.Image → Image
image_view image = (image.port, image.file.now)

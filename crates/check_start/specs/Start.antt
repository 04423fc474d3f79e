-- How the judge of a system begins. This project's own.
use Rattle.std.specs.Prelude.{◌≡◌, ℕ, List, map, Ok, IsTrue}
use Rattle.check_description.specs.Buses.{master_buses, port_buses}
use Rattle.check_description.specs.Port.{Port, apart_of, port_fifos}
use Rattle.check_description.specs.Description.{Description, ranges_of}
use Rattle.check_description.specs.Master.{Master, master_fifos}
use Rattle.check_turns.specs.View.{are_apart}
use Rattle.check_watch.specs.Plan.{IsPlan, Layout}
use Rattle.check_lines.specs.Names.{NamesView}
use Rattle.check_start.specs.Loads.{SystemPlan, loads_of}
use Rattle.check_start.specs.Slaves.{own_slaves, shared_slaves}
use Rattle.check_start.specs.declared.start.Terms.{Terms}

-- what a judge knows of the system ahead
abbrev pub layout_of : Terms → Description → Layout
layout_of terms system = record {
  links = terms.links;
  apart = apart_of system.ports;
  fifos = record { masters = master_fifos system.masters; ports = port_fifos system.ports };
  rules = system.rules;
  owners = system.owners;
  ports = ranges_of system.ports;
  paths = system.paths;
  master_buses = master_buses system.masters;
  port_buses = port_buses system.ports;
}

-- the plan is one of the system, by these terms, with these bytes of its images
pub record IsPlanOf (terms : Terms) (system : Description) (images : List (List ℕ)) (plan : SystemPlan) : Type 0 where
  pub is : IsPlan plan.begins
  pub layout : plan.begins.layout ≡ layout_of terms system
  pub resets : shared_slaves system.rules.corrupt terms images system.ports ≡ Ok plan.begins.resets
  pub own : IsTrue (are_apart (layout_of terms system)) → own_slaves system.rules.corrupt terms images system.ports ≡ Ok plan.begins.own
  pub loads : plan.loads ≡ loads_of system.ports
  pub within : plan.within ≡ terms.within

-- something holds by each plan of the system; and there is one
pub record ByThePlan (terms : Terms) (system : Description) (images : List (List ℕ)) (Holds : SystemPlan → Type 0)
    : Type 0 where
  pub some : (plan : SystemPlan) × IsPlanOf terms system images plan
  pub each : (plan : SystemPlan) → IsPlanOf terms system images plan → Holds plan

-- the names of a system's masters and ports
abbrev pub system_names : Description → NamesView
system_names system = record {
  masters = map (λ (master : Master). master.name) system.masters;
  ports = map (λ (port : Port). port.name) system.ports;
}

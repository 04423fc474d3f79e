-- The rows that are left to come of a dump, and what they end with. This project's own.
use Rattle.std.specs.Prelude.{◌≡◌, ℕ, List, [], ◌∷◌, ◌++◌, Option, None, Some, option_map, Result, Ok, Err, if◌then◌else◌}
use Rattle.check_vcd.specs.Body.{Happens, At, Sets, Resumes, Wrong}
use Rattle.check_vcd.specs.Dump.{Dumping, happens_in}
use Rattle.check_vcd.specs.declared.fault.Mistake.{Mistake}
use Rattle.check_vcd.specs.declared.fault.Mistake.TheVariants.{Gap}
use Rattle.check_samples.specs.EdgeFault.{EdgeFault, edge_fault, edge_fault_view, some_crossed}
use Rattle.check_samples.specs.Rows.{Rows}
use Rattle.check_samples.specs.Sampling.{Sampling, at_time, rows_from, watched_now, with_value}
use Rattle.check_samples.specs.declared.channel.UnknownBit.{UnknownBit}
use Rattle.check_samples.specs.declared.rows.Progress.{Progress}
use Rattle.check_samples.specs.declared.rows.Progress.TheVariants.{More, Over}
use Rattle.check_samples.specs.declared.rows.RowsFault.{RowsFault}
use Rattle.check_samples.specs.declared.rows.RowsFault.TheVariants as fault

-- how rows end: with the dump; with the dump, whose edges are none to take beats at; before a beat that is no row; or
-- before a line that is wrong
pub data End : Type 0 where
  Whole : End
  WithoutEdges : EdgeFault → End
  BeforeBeat : UnknownBit → End
  BeforeLine : ℕ → Mistake → End

-- how a whole dump ends, of whose edges this is said
abbrev pub end_of_edges : Option EdgeFault → End
end_of_edges None = Whole
end_of_edges (Some why) = WithoutEdges why

-- how a dump ends in which this happens
unfoldable pub end_in : List Happens → Sampling → End
end_in [] s = end_of_edges (edge_fault (watched_now s))
end_in (At time ∷ happens) s = end_in happens (at_time s time)
end_in (Sets slot digits ∷ happens) s = end_in happens (with_value s slot digits)
end_in (Resumes line ∷ happens) s = if some_crossed s.watched then BeforeLine line Gap else end_in happens s
end_in (Wrong line mistake ∷ happens) s = BeforeLine line mistake

-- a beat that is no row ends them before that
abbrev pub end_by : Option UnknownBit → End → End
end_by None end = end
end_by (Some unknown) end = BeforeBeat unknown

-- rows, and how they end
pub record RowsLeft : Type 0 where
  pub text : List ℕ
  pub end : End

-- these rows, which end so, or before the beat that ends them.
abbrev pub left_by : Rows → End → RowsLeft
left_by rows end = record { text = rows.text; end = end_by rows.fault end }

-- those of what is left to happen
abbrev pub left_of : List Happens → Sampling → RowsLeft
left_of happens s = left_by (rows_from happens s) (end_in happens s)

-- the rows that are left to come of a dump, and how they end; none if the dump is not known.
abbrev pub left_in : Dumping → Sampling → Option RowsLeft
left_in dump s = option_map (λ happens. left_of happens s) (happens_in dump)

-- ---- what calls answer

-- the rows that were to come are those that were appended and those that are left to come, which end so too; or all were
-- appended, and they end with the dump
abbrev pub RowsGoOn : Progress → List ℕ → List ℕ → RowsLeft → RowsLeft → Type 0
RowsGoOn More old new from to = (new ++ to.text ≡ old ++ from.text) × (to.end ≡ from.end)
RowsGoOn Over old new from to = (new ≡ old ++ from.text) × (from.end ≡ Whole)

-- all rows were appended, and this is what they end before, or with; or a read failed, and none was; unless memory ran out
abbrev pub Stops : RowsFault → List ℕ → List ℕ → RowsLeft → Type 0
Stops (fault.Unknown unknown) old new from = (new ≡ old ++ from.text) × (from.end ≡ BeforeBeat unknown)
Stops (fault.Dump line mistake) old new from = (new ≡ old ++ from.text) × (from.end ≡ BeforeLine line mistake)
Stops (fault.Edges why) old new from = (new ≡ old ++ from.text) × (from.end ≡ WithoutEdges (edge_fault_view why))
Stops fault.Read old new from = new ≡ old
Stops fault.Memory old new from = Unit {0}

-- all of a dump was read, and this is said of its edges; unless memory ran out
abbrev pub IsOver : Result Progress RowsFault → Option EdgeFault → Type 0
IsOver (Ok More) why = ⊥
IsOver (Ok Over) why = why ≡ None
IsOver (Err (fault.Edges one)) why = why ≡ Some (edge_fault_view one)
IsOver (Err (fault.Unknown unknown)) why = ⊥
IsOver (Err (fault.Dump line mistake)) why = ⊥
IsOver (Err fault.Read) why = ⊥
IsOver (Err fault.Memory) why = Unit {0}

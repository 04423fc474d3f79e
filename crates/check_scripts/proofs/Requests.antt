-- Beats on a bus of eight bytes spell the requests that they spell in `tl_beats`.
use Rattle.std.proofs.Common.{◌∙◌, ℕ, List, length, Option, Some, None, sym, refl}
use Rattle.std.specs.Prelude.{◌↔◌}
use Rattle.std.proofs.lemmas.List.{length-map}
use Rattle.tl_types.specs.Request.{Request}
use Rattle.tl_beats.specs.Beats as narrow
use Rattle.tl_beats.specs.declared.beat.ABeat.{ABeat}
use Rattle.check_cells.specs.Sent.{unspoiled_ask}
use Rattle.check_beats.specs.Bus.{lane_on_bus}
use Rattle.check_beats.specs.Spelling.{StandsAt, IsBeatOf}
use Rattle.check_scripts.specs.Beats.{ask_beat_of, AskSpelledAlike, BusIsThatOfEight, MaskIsThatOfEight}
use Rattle.check_scripts.proofs.Mapped.{from_map, in_map, none_marked}

pub bus_alike : BusIsThatOfEight
bus_alike = record { lane = λ address size j. refl; beats = λ carries size. refl; active = λ address size. refl }

pub mask_alike : MaskIsThatOfEight
mask_alike op size address mask = (
  (λ m. record { whole = m.whole; part = m.part }),
  (λ m. record { whole = m.whole; part = m.part }),
)

stands_alike : (mask : ℕ) (lanes : List ℕ) (lane : ℕ) (given : Option ℕ) → StandsAt mask lanes lane given ↔ narrow.StandsAt mask lanes lane given
stands_alike mask lanes lane None = ((λ s. s), (λ s. s))
stands_alike mask lanes lane (Some byte) = ((λ s. s), (λ s. s))

beat_alike : (ask : Request) (b : ℕ) (beat : ABeat)
    → IsBeatOf 8 (unspoiled_ask ask) b (ask_beat_of beat) ↔ narrow.IsBeatOf ask b beat
beat_alike ask b beat = (
  (λ s. record {
    fields = record { opcode = s.fields.opcode; param = s.fields.param; size = s.fields.size; source = s.fields.source; address = s.fields.address };
    mask = (mask_alike ask.op ask.size ask.address beat.mask).0 s.mask;
    bytes = λ j given at row. (stands_alike beat.mask beat.lanes (lane_on_bus 8 ask.address ask.size j) given).0 (s.bytes j given at row);
  }),
  (λ s. record {
    fields = record { opcode = s.fields.opcode; param = s.fields.param; size = s.fields.size; source = s.fields.source; address = s.fields.address };
    mask = (mask_alike ask.op ask.size ask.address beat.mask).1 s.mask;
    flag = λ bare. refl;
    marks = λ j mark at row. none_marked (length ask.bytes) j mark at;
    bytes = λ j given at row. (stands_alike beat.mask beat.lanes (lane_on_bus 8 ask.address ask.size j) given).1 (s.bytes j given at row);
  }),
)

pub ask_spelled_alike : AskSpelledAlike
ask_spelled_alike ask beats = (
  (λ s. record {
    count = sym (length-map beats ask_beat_of) ∙ s.count;
    each = λ b beat at. (beat_alike ask b beat).0 (s.each b (ask_beat_of beat) (in_map ask_beat_of beats b beat at));
  }),
  (λ s. record {
    count = length-map beats ask_beat_of ∙ s.count;
    each = λ b beat at. from_map ask_beat_of (λ x. IsBeatOf 8 (unspoiled_ask ask) b x) beats b (λ x is. (beat_alike ask b x).1 (s.each b x is)) beat at;
  }),
)

-- What a lawful beat ends.
use Rattle.std.proofs.Common.{◌≡◌, ◌∙◌, ℕ, Bool, true, false, if◌then◌else◌, List, ◌∷◌, Option, Some, None, refl, ap, sym}
use Rattle.std.specs.Prelude.{IsSomeAnd, IsTrue}
use Rattle.tl_types.specs.Request.{Request}
use Rattle.check_cells.specs.Pattern.{Pattern}
use Rattle.check_cells.specs.Sent.{Sent}
use Rattle.check_beats.specs.State.{Under, ask_of, ends_ask, ends_reply}
use Rattle.check_beats.specs.declared.beat.AskHead.{AskHead}
use Rattle.check_beats.specs.declared.beat.ReplyHead.{ReplyHead}
use Rattle.check_flight.specs.Crossing.{Crossing, given}
use Rattle.check_flight.specs.Flight.{Turn}
use Rattle.check_flight.specs.Flight.Turn.{Idle, Asking, Asked}
use Rattle.check_flight.specs.declared.answer.Answer.{Answer}
use Rattle.check_watch.specs.declared.beat.Beat.TheVariants.{A, D}
use Rattle.check_watch.specs.declared.beat.Link.{Link}
use Rattle.check_watch.specs.declared.seen.Ended.TheVariants as ends
use Rattle.check_watch.specs.Allowed.{IsMust, OfAsked}
use Rattle.check_watch.specs.Lawful.{IsLawfulGroup, seen_in_group}
use Rattle.check_watch.specs.Past.{scene_in_group, state}
use Rattle.check_watch.specs.Plan.{Plan, Sighting, link_number, seen_at, side_of}
use Rattle.check_watch.specs.Scene.{captured, ended_by, is_given, must_by, seen_ask, seen_reply}
use Rattle.check_watch.specs.declared.seen.Seen.TheVariants.{Part, WholeAsk}
use Rattle.check_watch.specs.View.{KeepsGroup, GroupView, under_in}

ask_whole : (b : Bool) (sent : Sent) → seen_ask (if b then Some sent else None) ≡ (if b then WholeAsk else Part)
ask_whole true sent = refl
ask_whole false sent = refl

ask_told : (b : Bool) (sent : Sent)
    → ended_by (seen_ask (if b then Some sent else None)) ≡ (if b then ends.Ask else ends.Part)
ask_told true sent = refl
ask_told false sent = refl

reply_told : (number : ℕ) (turn : Turn) (P : Request → Type 0) (reply : Pattern) (due : Option Answer)
    (Q : Answer → Type 0) → OfAsked number turn P → IsSomeAnd due Q → ended_by (seen_reply turn reply due) ≡ ends.Reply
reply_told number Idle P reply due Q of some = absurd of
reply_told number (Asking at) P reply due Q of some = absurd of
reply_told number (Asked at ask) P reply None Q of some = absurd some
reply_told number (Asked at ask) P reply (Some answer) Q of some = refl

must_told : (number : ℕ) (turn : Turn) (P : Request → Type 0) (reply : Pattern) (across : Bool) (wider : ℕ)
    (crossing : Crossing) (due : Option Answer) → OfAsked number turn P → IsMust across wider crossing due reply
    → ended_by (seen_reply turn reply (must_by across crossing due)) ≡ ends.Reply
must_told number turn P reply true wider crossing due of must = reply_told number turn P reply (given crossing) _ of must
must_told number turn P reply false wider crossing due of must = reply_told number turn P reply due _ of must

told_if : (b : Bool) (turn : Turn) (reply : Pattern) (due : Option Answer)
    → (IsTrue b → ended_by (seen_reply turn reply due) ≡ ends.Reply)
    → ended_by (if b then seen_reply turn reply due else Part) ≡ (if b then ends.Reply else ends.Part)
told_if true turn reply due told = told refl
told_if false turn reply due told = refl

module _ (plan : Plan) (past : List Sighting) (view : GroupView) (link : Link) (known : ℕ) (lanes : List ℕ)
    (keeps : KeepsGroup plan past view) (is_end : Bool) where
  -- a beat of a request is seen as a whole one, if it ends it
  pub ask_seen : (beat : AskHead) → is_end ≡ ends_ask (under_in view link).bus (under_in view link).asking beat
      → (if is_end then WholeAsk else Part) ≡ seen_in_group plan past (seen_at link (A beat) known lanes)
  ask_seen beat is =
      let under = (state plan past).links (side_of link) (link_number link) in
      let same : is_end ≡ ends_ask under.bus under.asking beat =
      is ∙ ap (λ (u : Under). ends_ask u.bus u.asking beat) (keeps.state.links (side_of link) (link_number link)) in
      ap (λ (b : Bool). if b then WholeAsk else Part) same
      ∙ sym (ask_whole (ends_ask under.bus under.asking beat) (ask_of under.bus under.asking beat lanes))

  -- a beat of a request ends it, or no more than a part of it
  pub ask_ended : (beat : AskHead) → is_end ≡ ends_ask (under_in view link).bus (under_in view link).asking beat
      → (if is_end then ends.Ask else ends.Part) ≡ ended_by (seen_in_group plan past (seen_at link (A beat) known lanes))
  ask_ended beat is =
      let under = (state plan past).links (side_of link) (link_number link) in
      let same : is_end ≡ ends_ask under.bus under.asking beat =
      is ∙ ap (λ (u : Under). ends_ask u.bus u.asking beat) (keeps.state.links (side_of link) (link_number link)) in
      ap (λ (b : Bool). if b then ends.Ask else ends.Part) same
      ∙ sym (ask_told (ends_ask under.bus under.asking beat) (ask_of under.bus under.asking beat lanes))

  -- a beat of a lawful reply
  pub reply_ended : (beat : ReplyHead) → IsLawfulGroup plan (seen_at link (D beat) known lanes ∷ past)
      → is_end ≡ ends_reply (under_in view link).bus (under_in view link).replying beat
      → (if is_end then ends.Reply else ends.Part) ≡ ended_by (seen_in_group plan past (seen_at link (D beat) known lanes))
  reply_ended beat lawful is =
      let here = scene_in_group plan past (seen_at link (D beat) known lanes) in
      let under = (state plan past).links (side_of link) (link_number link) in
      let same : is_end ≡ ends_reply under.bus under.replying beat =
      is ∙ ap (λ (u : Under). ends_reply u.bus u.replying beat) (keeps.state.links (side_of link) (link_number link)) in
      ap (λ (b : Bool). if b then ends.Reply else ends.Part) same
      ∙ sym (told_if (ends_reply under.bus under.replying beat) here.flight.turn
      (captured here.under here.flight.turn beat known lanes)
      (must_by (is_given plan.layout link here.port) here.crossing here.flight.due)
      (λ done. must_told (link_number link) here.flight.turn _ _ _ _ _ _ lawful.1.answers (lawful.1.ends done)))

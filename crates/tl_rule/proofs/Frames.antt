-- What a step leaves of the slots that it does not touch.
use Rattle.std.proofs.Common.{◌≡◌, ℕ, ◌<◌, ◌≤◌, length, get_or, sym, subst, ◌∙◌, arith, inl, inr, ⊎_elim, Some, slice_get}
use mathlib.Core.Option.{none}
use Rattle.tl_types.specs.Request.{Request}
use Rattle.tl_types.specs.Response.{Response}
use Rattle.tl_types.specs.declared.trace.Entry.{Entry}
use Rattle.tl_slots.specs.declared.phase.Phase.{Phase}
use Rattle.tl_slots.specs.declared.phase.Phase.TheVariants.{Free, Filling, Posted, Serving, Answered, Taking}
use Rattle.tl_rule.specs.declared.view.About.{About}
use Rattle.tl_rule.specs.Views.{hands, desk, held, served, Above}
use Rattle.tl_rule.specs.Rule.{Parts, Asked, HomeAsk, InPhase, InSlot, InGot, Places, phase}

-- c and d agree on the slot j, and lists only grew
pub record Same (c d : Parts) (j : ℕ) : Type 0 where
  pub held_same : (n : ℕ) → held d.masters n j ≡ held c.masters n j
  pub home_same : get_or d.homes j none ≡ get_or c.homes j none
  pub served_same : (p : ℕ) → served d.ports p j ≡ served c.ports p j
  pub lists : (p k : ℕ) (x : Request × Response) → slice_get (desk c.ports p).list k ≡ Some x
      → slice_get (desk d.ports p).list k ≡ Some x
  pub longer : (n : ℕ) → length (hands c.masters n).got ≤ length (hands d.masters n).got
  pub gots : (n k : ℕ) → k < length (hands c.masters n).got
      → slice_get (hands d.masters n).got k ≡ slice_get (hands c.masters n).got k

module _ (a : About) (c d : Parts) (j : ℕ) (s : Same c d j) where
  abbrev still_asked : (m p : ℕ) → Asked c.masters m j p → Asked d.masters m j p
  still_asked m p t = let l = s.longer m in let f = t.few in
      record { ask = t.ask; known = t.known; sent = s.held_same m ∙ t.sent; few = omega arith }

  abbrev still_home : (ask : Request) → HomeAsk c.homes j ask → HomeAsk d.homes j ask
  still_home ask h = record { letter = h.letter; at = s.home_same ∙ h.at; spells = h.spells }

  still_above : (m n p k : ℕ) → n ≤ length (hands c.masters m).got → Above (hands c.masters m).got n p k
      → Above (hands d.masters m).got n p k
  still_above m n p k few h i e lt at there = h i e lt (sym (s.gots m i (omega arith)) ∙ at) there

  pub stays : (f : Phase) → InPhase a c j f → InPhase a d j f
  stays Free h = (h.0, s.home_same ∙ h.1)
  stays (Filling m) h = s.held_same m ∙ h
  stays (Posted m p) h = record { asked = still_asked m p h.asked; home = still_home h.asked.ask h.home; port = h.port }
  stays (Serving m p) h = record { asked = still_asked m p h.asked; serves = s.served_same p ∙ h.serves }
  stays (Answered m p) h = record {
    asked = still_asked m p h.asked;
    home = still_home h.asked.ask h.home;
    answer = h.answer;
    spells = h.spells;
    listed = s.lists p h.home.letter.index (h.asked.ask, h.answer) h.listed;
    above = still_above m h.asked.known p h.home.letter.index h.asked.few h.above;
  }
  stays (Taking m p) h = record { taken = s.held_same m ∙ h.taken; port = h.port }

-- no answered slot, no list and no collected reply is changed
pub record Quiet (c d : Parts) : Type 0 where
  pub same_lists : (p : ℕ) → (desk d.ports p).list ≡ (desk c.ports p).list
  pub same_gots : (n : ℕ) → (hands d.masters n).got ≡ (hands c.masters n).got
  pub forth : (j m p : ℕ) → phase c j ≡ Answered m p → (phase d j ≡ Answered m p)
      × (get_or d.homes j none ≡ get_or c.homes j none)
  pub back : (j m p : ℕ) → phase d j ≡ Answered m p → (phase c j ≡ Answered m p)
      × (get_or d.homes j none ≡ get_or c.homes j none)

pub quiet : (a : About) (c d : Parts) → Quiet c d → Places a c → Places a d
quiet a c d q P = let list_at =
    λ (p k : ℕ) (x : Request × Response) (e : slice_get (desk d.ports p).list k ≡ Some x). subst
    (λ l. slice_get l k ≡ Some x) (q.same_lists p) e in
    let got_at = λ (n j : ℕ) (x : Entry) (e : slice_get (hands d.masters n).got j ≡ Some x). subst
    (λ l. slice_get l j ≡ Some x) (q.same_gots n) e in record {
      placed = λ p k x e. let t = P.placed p k x (list_at p k x e) in record {
        master = t.master;
        owns = t.owns;
        place = ⊎_elim
            (λ (s : InSlot a c t.master p k). inl (let f = q.forth s.slot t.master p s.phased in
            record { slot = s.slot; letter = s.letter; phased = f.0; at = f.1 ∙ s.at; index = s.index }))
            (λ (g : InGot a c t.master p k). inr (record {
              place = g.place;
              entry = g.entry;
              at = subst (λ l. slice_get l g.place ≡ Some g.entry) (sym (q.same_gots t.master)) g.at;
              port = g.port;
              index = g.index;
            })) t.place;
      };
      got = λ m j e at. let t =
          P.got m j e (got_at m j e at) in (
            subst (λ l. slice_get l e.index ≡ Some (e.ask, e.reply))
                (sym (q.same_lists e.port)) t.0,
            t.1,
          );
      got_once = λ m j k e u at there. P.got_once m j k e u (got_at m j e at) (got_at m k u there);
      apart = λ m p i j r e f home at. let b = q.back i m p f in
          P.apart m p i j r e b.0 (sym b.1 ∙ home) (got_at m j e at);
    }

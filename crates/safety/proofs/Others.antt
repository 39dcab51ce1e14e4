-- An event of a client, a sequencer or a controller: the state is the same, and so is what comes to it.
use Rattle.std.proofs.Common.{◌≡◌, ℕ, zero, suc, Bool, true, false, List, [], ◌∷◌, ◌++◌, length, Option, Some, None}
use Rattle.std.proofs.Common.{refl, sym, ap, subst, ◌∙◌, inl, inr}
use Rattle.std.specs.Prelude.{Result, Ok, Err, ◌⊎◌, ◌||◌, not, filter, slice_get}
use Rattle.std.specs.List.{list_any}
use Rattle.std.specs.Str.{bytes_eq}
use Rattle.std.proofs.lemmas.Cmp.{nat_list_eq_equiv}
use Rattle.std.proofs.lemmas.List.Elements.{filter-append}
use Rattle.lemmas.proofs.Members.{Has-filter}
use Rattle.nop_types.specs.Given.{Given, Packet, Ticked, Submit, Read}
use Rattle.nop_types.specs.declared.datagram.Answer.{Answer}
use Rattle.nop_types.specs.Lines.{Line}
use Rattle.nop_types.specs.Lists.{Has}
use Rattle.nop_types.specs.Meaning.{Meaning}
use Rattle.nop_types.specs.declared.datagram.Datagram.{Datagram}
use Rattle.nop_types.specs.declared.datagram.Datagram.TheVariants as datagrams
use Rattle.nop_types.specs.declared.datagram.Fragment.{Fragment}
use Rattle.nop_types.specs.declared.input.Tick.{Tick}
use Rattle.nop_types.specs.declared.input.Tick.TheVariants as ticks
use Rattle.nop_types.specs.declared.output.Actor.{Actor}
use Rattle.nop_types.specs.declared.output.Actor.TheVariants as actors
use Rattle.nop_types.specs.declared.output.Out.{Out}
use Rattle.oum_codec.specs.declared.bad.Bad.{Bad}
use Rattle.oum_codec.specs.Reading.{reading}
use Rattle.schedule_text.specs.Ticks.{takes_tick}
use Rattle.schedule_text.specs.declared.event.Event.{Event}
use Rattle.schedule_text.specs.declared.event.Event.TheVariants as events
use Rattle.std.specs.Prelude.{nat_lt}
use Rattle.network.specs.Network.{Sent, Did, Outputs, sends_of, sends_by, lines_by}
use Rattle.world.specs.Others.{Kind, State, next, Others, seats, with_seat, Who, AReplica, Another, who, actor_at}
use Rattle.world.specs.Seats.{Seated, Stimulus, Takes, Crashes, seated, moved_if, seat_step}
use Rattle.world.specs.WorldSteps.{WorldState, Happened, Refusal, actor_of, tick_if, read_if, datagram_at, junk_of, stimulus_of, then_at}
use Rattle.world.specs.WorldSteps.{step_at, step_of, step, at_other}
use Rattle.safety.specs.Following.{brought, sent_to, datagram_to, is_spoken, is_apart, other_datagrams}
use Rattle.safety.proofs.Beside.{Alike, is_another}
use Rattle.whole_world.specs.Whole as whole
use Rattle.whole_world.specs.Whole.{WholeWorld, Brings, was_sent, given_if, junk_if, heard_if, input_of, is_crash, at_seat, seat_of, lines_of}
use Rattle.whole_world.specs.Whole.{step_other, whole_step}
use Rattle.safety.proofs.Sends.{AreOther, others_kept, lines_spoken, other_sends, other_ignores}

-- ---- what was sent in the real world, neither a fragment nor an answer, was sent in the whole one

finds : (bytes : List ℕ) (sent : List Sent) (s : Sent) → bytes_eq s.bytes bytes ≡ true → (i : ℕ) → slice_get sent i ≡ Some s
    → list_any (λ (x : Sent). bytes_eq x.bytes bytes) sent ≡ true
finds bytes [] s same i at = absurd cc
finds bytes (x ∷ xs) s same zero at =
    let is : x ≡ s = cc in
    ap (λ (b : Bool). b || list_any (λ (y : Sent). bytes_eq y.bytes bytes) xs) (ap (λ (y : Sent). bytes_eq y.bytes bytes) is ∙ same)
finds bytes (x ∷ xs) s same (suc i) at = later (bytes_eq x.bytes bytes) (finds bytes xs s same i at)
  where
    later : (b : Bool) → list_any (λ (y : Sent). bytes_eq y.bytes bytes) xs ≡ true
        → (b || list_any (λ (y : Sent). bytes_eq y.bytes bytes) xs) ≡ true
    later true h = refl
    later false h = h

pub other_was_sent : (real sent : List Sent) (i : ℕ) (s : Sent) → other_datagrams real ≡ sent → slice_get real i ≡ Some s
    → is_apart (reading s.bytes) ≡ false → was_sent sent s.bytes ≡ true
other_was_sent real sent i s same at other =
    let kept : Has (filter (λ (x : Sent). not (is_apart (reading x.bytes))) real) s =
    Has-filter (λ (x : Sent). not (is_apart (reading x.bytes))) s real (i, at) (ap not other) in
    let found : Has sent s = subst (λ (xs : List Sent). Has xs s) same kept in
    finds s.bytes sent s (nat_list_eq_equiv.refl s.bytes) found.0 found.1

-- ---- what comes to a seat in both worlds

module _ {A : Type 0} (next : A → Given → A × List Out) where
  -- a crash in both; or an input in both; or one that changes nothing, and none
  abbrev pub Comes : Stimulus → Bool → Option Given → Type 0
  Comes Crashes crash i = crash ≡ true
  Comes (Takes g) crash i = (crash ≡ false) × ((i ≡ Some g) ⊎ ((i ≡ None) × ((s : A) → next s g ≡ (s, []))))

  record SameSeat (from : Actor) (x : Seated A × Did) (y : Seated A × List Out) : Type 0 where
    pub seat : x.0 ≡ y.0
    pub sent : other_datagrams (sends_by from x.1) ≡ sends_of from y.1
    pub lines : (n : ℕ) → filter is_spoken (lines_by from n x.1) ≡ lines_of y.1

  abbrev Unheard : Type 0
  Unheard = (bytes : List ℕ) (f : Fragment) → reading bytes ≡ Ok (datagrams.Fragment f) → (s : A) → next s (Packet bytes) ≡ (s, [])

  module _ (sends : (s : A) (g : Given) → AreOther (next s g).1) (from : Actor) where
    acted_alike : (p : Seated A) (g : Given) (i : Option Given) → p.crashed ≡ false
        → (i ≡ Some g) ⊎ ((i ≡ None) × ((s : A) → next s g ≡ (s, []))) → SameSeat from (moved_if next false p (Takes g)) (at_seat next p false false i)
    acted_alike p g (Some k) c (inl e) =
        let same : k ≡ g = cc in
        subst (λ (j : Given). SameSeat from (moved_if next false p (Takes g)) (at_seat next p false false (Some j))) (sym same)
        (record {
          seat = refl;
          sent = others_kept from (next p.state g).1 (sends p.state g);
          lines = λ n. lines_spoken from n (next p.state g).1;
        })
    acted_alike p g (Some k) c (inr (e, quiet)) = absurd cc
    acted_alike p g None c (inl e) = absurd cc
    acted_alike p g None c (inr (e, quiet)) = record {
      seat = ap (λ (x : A × List Out). seated x.0) (quiet p.state)
          ∙ ap (λ (b : Bool). (let q : Seated A = record { state = p.state; crashed = b } in q)) (sym c);
      sent = ap (λ (x : A × List Out). other_datagrams (sends_of from x.1)) (quiet p.state);
      lines = λ n. ap (λ (x : A × List Out). filter is_spoken (lines_by from n (Outputs x.1))) (quiet p.state);
    }

    alike_if : (p : Seated A) (b : Bool) → p.crashed ≡ b → (what : Stimulus) (crash : Bool) (i : Option Given) → Comes what crash i
        → SameSeat from (moved_if next b p what) (at_seat next p b crash i)
    alike_if p true c what crash i h = record { seat = refl; sent = refl; lines = λ n. refl }
    alike_if p false c Crashes true i h = record { seat = refl; sent = refl; lines = λ n. refl }
    alike_if p false c Crashes false i h = absurd cc
    alike_if p false c (Takes g) true i h = absurd (let absent : true ≡ false = h.0 in cc)
    alike_if p false c (Takes g) false i h = acted_alike p g i c h.1

    alike : (p : Seated A) (what : Stimulus) (b : Brings) (i : Option Given) → Comes what (is_crash b) i
        → SameSeat from (seat_step next p what) (seat_of next p b i)
    alike p what b i h = alike_if p p.crashed refl what (is_crash b) i h

  -- ---- by the event

  module _ (unheard : Unheard) (w : WorldState) (sent : List Sent) (same : other_datagrams w.sent ≡ sent) where
    abbrev Meets : Stimulus → Brings → Type 0
    Meets what b = Comes what (is_crash b) (input_of sent b)

    takes : (g : Given) (what : Stimulus) (b : Brings) → Takes g ≡ what → is_crash b ≡ false → input_of sent b ≡ Some g → Meets what b
    takes g what b e c i = subst (λ (x : Stimulus). Meets x b) e (c, inl i)

    equal_meets : (i : ℕ) (s : Sent) → slice_get w.sent i ≡ Some s → is_apart (reading s.bytes) ≡ false → (what : Stimulus)
        → Takes (Packet s.bytes) ≡ what → Meets what (whole.Equal s.bytes)
    equal_meets i s at other what e =
        takes (Packet s.bytes) what (whole.Equal s.bytes) e refl
        (ap (λ (b : Bool). given_if b s.bytes) (other_was_sent w.sent sent i s same at other))

    unheard_meets : (s : Sent) (f : Fragment) → reading s.bytes ≡ Ok (datagrams.Fragment f) → (what : Stimulus)
        → Takes (Packet s.bytes) ≡ what → Meets what whole.Nothing
    unheard_meets s f r what e =
        subst (λ (x : Stimulus). Meets x whole.Nothing) e (refl, inr (refl, unheard s.bytes f r))

    heard_meets : (s : Sent) (x : Answer) → reading s.bytes ≡ Ok (datagrams.Answer x) → (what : Stimulus)
        → Takes (Packet s.bytes) ≡ what → Meets what (whole.Heard s.bytes)
    heard_meets s x r what e =
        takes (Packet s.bytes) what (whole.Heard s.bytes) e refl (ap (λ (y : Result Datagram Bad). heard_if y s.bytes) r)

    packet_meets : (a : Actor) → is_another (who a) ≡ true → (i : ℕ) (s : Sent) → slice_get w.sent i ≡ Some s
        → (r : Result Datagram Bad) → reading s.bytes ≡ r → (what : Stimulus) → Takes (Packet s.bytes) ≡ what
        → Meets what (datagram_to w a s.bytes r)
    packet_meets (actors.Replica k) other i s at r is what e = absurd cc
    packet_meets _ other i s at (Ok (datagrams.Fragment f)) is what e = unheard_meets s f is what e
    packet_meets _ other i s at (Ok (datagrams.Answer x)) is what e = heard_meets s x is what e
    packet_meets a other i s at _ is what e = equal_meets i s at (ap is_apart is) what e

    sent_meets : (a : Actor) → is_another (who a) ≡ true → (i : ℕ) (o : Option Sent) → slice_get w.sent i ≡ o → (what : Stimulus)
        → datagram_at i (length w.sent) o ≡ Ok what → Meets what (sent_to w a o)
    sent_meets a other i None at what e = absurd cc
    sent_meets a other i (Some s) at what e =
        let is : Takes (Packet s.bytes) ≡ what = cc in packet_meets a other i s at (reading s.bytes) refl what is

    tick_meets : (b : Bool) (tick : Tick) (what : Stimulus) → tick_if b tick ≡ Ok what → Meets what (whole.Timer tick)
    tick_meets false tick what e = absurd cc
    tick_meets true tick what e = let is : Takes (Ticked tick) ≡ what = cc in takes (Ticked tick) what (whole.Timer tick) is refl refl

    read_meets : (b : Bool) (observer : ℕ) (key : List ℕ) (what : Stimulus) → read_if b observer key ≡ Ok what
        → Meets what (whole.Ask observer key)
    read_meets false observer key what e = absurd cc
    read_meets true observer key what e =
        let is : Takes (Read observer key) ≡ what = cc in takes (Read observer key) what (whole.Ask observer key) is refl refl

    junk_meets : (bytes : List ℕ) (r : Result Datagram Bad) → reading bytes ≡ r → (what : Stimulus) → junk_of bytes r ≡ Ok what
        → Meets what (whole.Junk bytes)
    junk_meets bytes (Ok d) is what e = absurd cc
    junk_meets bytes (Err bad) is what e =
        let got : Takes (Packet bytes) ≡ what = cc in
        takes (Packet bytes) what (whole.Junk bytes) got refl (ap (λ (x : Result Datagram Bad). junk_if x bytes) is)

    event_meets : (e : Event) → is_another (who (actor_of e)) ≡ true → (what : Stimulus) → stimulus_of w.config w.sent e ≡ Ok what
        → Meets what (brought w e)
    unfolding stimulus_of
    event_meets (events.Submit number op) other what is =
        let got : Takes (Submit op) ≡ what = cc in takes (Submit op) what (whole.Op op) got refl refl
    event_meets (events.Deliver index actor) other what is = sent_meets actor other index (slice_get w.sent index) refl what is
    event_meets (events.Tick actor tick) other what is = tick_meets (takes_tick actor tick) tick what is
    event_meets (events.Install k j) other what is = tick_meets (nat_lt j w.config.sequencers) (ticks.Install j) what is
    event_meets (events.Read client observer key) other what is = read_meets (nat_lt observer w.config.observers) observer key what is
    event_meets (events.Crash actor) other what is = let got : Crashes ≡ what = cc in
        subst (λ (x : Stimulus). Meets x whole.Crash) got refl
    event_meets (events.Junk actor bytes) other what is = junk_meets bytes (reading bytes) refl what is

-- ---- the worlds afterwards

module _ {S : Type 0} (m : Meaning S) (t : WorldState) (ls : List Line) (w : WholeWorld) (f : Alike m t ls w) where
  pub lines_go_on : (more : List Line) (said : List Line) → filter is_spoken more ≡ said → filter is_spoken (ls ++ more) ≡ w.lines ++ said
  lines_go_on more said e = filter-append is_spoken ls more
      ∙ ap (λ (x : List Line). x ++ filter is_spoken more) f.lines ∙ ap (λ (x : List Line). w.lines ++ x) e

  pub sends_go_on : (more : List Sent) (sent : List Sent) → other_datagrams more ≡ sent → other_datagrams (t.sent ++ more) ≡ w.sent ++ sent
  sends_go_on more sent e = filter-append (λ (s : Sent). not (is_apart (reading s.bytes))) t.sent more
      ∙ ap (λ (x : List Sent). x ++ other_datagrams more) f.sent ∙ ap (λ (x : List Sent). w.sent ++ x) e

  abbrev After : Happened → WholeWorld → Type 0
  After h v = Alike m h.world (ls ++ h.lines) v

  other_after : (k : Kind) (i : ℕ) (x : Seated (State k) × Did) (y : Seated (State k) × List Out)
      → SameSeat (next k) (actor_at (Another k i)) x y
      → After (at_other k t i x) (whole.gave w (actor_at (Another k i)) y.1 (record w { others = with_seat k w.others i y.0 }))
  other_after k i x y a = record {
    lines = lines_go_on (lines_by (actor_at (Another k i)) (length t.sent) x.1) (lines_of y.1) (a.lines (length t.sent));
    sent = sends_go_on (sends_by (actor_at (Another k i)) x.1) (sends_of (actor_at (Another k i)) y.1) a.sent;
    config = f.config;
    replicas = f.replicas;
    others = ap (λ (o : Others). with_seat k o i x.0) f.others ∙ ap (λ (p : Seated (State k)). with_seat k w.others i p) a.seat;
  }

  -- ---- the step

  other_step : (k : Kind) (i : ℕ) (o : Option (Seated (State k))) (r : Result Stimulus Refusal) (g : Brings) (h : Happened)
      → ((what : Stimulus) → r ≡ Ok what → Comes (next k) what (is_crash g) (input_of w.sent g))
      → then_at (at_other k t i) (step_at (next k) o r) ≡ Ok h → After h (step_other k w i o g)
  other_step k i None r g h meets e = absurd cc
  other_step k i (Some p) (Err refusal) g h meets e = absurd cc
  other_step k i (Some p) (Ok what) g h meets e =
      let is : at_other k t i (seat_step (next k) p what) ≡ h = cc in
      subst (λ (x : Happened). After x (step_other k w i (Some p) g)) is
      (other_after k i (seat_step (next k) p what) (seat_of (next k) p g (input_of w.sent g))
      (alike (next k) (other_sends k) (actor_at (Another k i)) p what g (input_of w.sent g) (meets what refl)))

  by_actor : (e : Event) (x : Who) → who (actor_of e) ≡ x → is_another x ≡ true → (h : Happened)
      → step_of m t x (stimulus_of t.config t.sent e) ≡ Ok h → After h (whole.step_of m w x (brought t e))
  by_actor e (AReplica i) is other h at = absurd cc
  by_actor e (Another k i) is other h at =
      subst (λ (o : Others). After h (step_other k w i (slice_get (seats k o) i) (brought t e))) f.others
      (other_step k i (slice_get (seats k t.others) i) (stimulus_of t.config t.sent e) (brought t e) h
      (event_meets (next k) (other_ignores k) t w.sent f.sent e (ap is_another is)) at)
  by_actor e _ is other h at = absurd cc

-- what comes to a sequencer, a client or a controller
pub others_follow : {S : Type 0} (m : Meaning S) (t : WorldState) (ls : List Line) (w : WholeWorld) (e : Event) (h : Happened)
    → Alike m t ls w → is_another (who (actor_of e)) ≡ true → step m t e ≡ Ok h
    → Alike m h.world (ls ++ h.lines) (whole_step m w (actor_of e) (brought t e))
unfolding step
others_follow m t ls w e h f other at = by_actor m t ls w f e (who (actor_of e)) refl other h at

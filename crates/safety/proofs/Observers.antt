-- An event of an observer: the whole world has none, and stays as it is; what it answers goes into the network.
use Rattle.std.proofs.Common.{◌≡◌, ℕ, Bool, true, false, List, [], ◌++◌, length, refl, sym, ap, subst, ◌∙◌}
use Rattle.std.specs.Prelude.{⊤, filter, slice_get, slice_set, Ok}
use Rattle.std.proofs.lemmas.List.{append-nil}
use Rattle.lemmas.proofs.Members.{Has-none}
use Rattle.nop_types.specs.Checkpoints.{KeepsTo}
use Rattle.nop_types.specs.Lines.{Line}
use Rattle.nop_types.specs.Lists.{Has}
use Rattle.nop_types.specs.Meaning.{Meaning}
use Rattle.nop_types.specs.declared.output.Actor.{Actor}
use Rattle.nop_types.specs.declared.output.Actor.TheVariants as actors
use Rattle.oum_codec.specs.Reading.{reading}
use Rattle.observer.specs.ObserverSteps as observer
use Rattle.observer.specs.ObserverSteps.{Observer}
use Rattle.schedule_text.specs.declared.event.Event.{Event}
use Rattle.network.specs.Network.{Sent, Did, Nothing, Outputs, sends_by, lines_by}
use Rattle.network_laws.specs.Network.{IsDatagram}
use Rattle.world.specs.Others.{who}
use Rattle.world.specs.Seats.{Seated, Stimulus, Takes, Crashes, moved_if, seat_step}
use Rattle.world.specs.WorldSteps.{WorldState, Happened, actor_of, at_observer, stimulus_of, then_at, step_at, step_of, step}
use Rattle.whole_world.specs.Whole.{WholeWorld}
use Rattle.whole_world.proofs.Seats.{seats_hold}
use Rattle.safety.specs.Following.{is_spoken, is_fragment, other_datagrams, bytes_of}
use Rattle.safety.proofs.Beside.{Alike, Travels, Listens, AllListen, Beside, real_letters}
use Rattle.safety.proofs.Coming.{AllMayCome, event_comes}
use Rattle.safety.proofs.Listening.{AreAnswers, more_listen, next_listens, next_answers, answers_gone, answers_silent}
use Rattle.safety.proofs.Listening.{answers_are_no_fragments, answers_are_datagrams}
use Rattle.safety.proofs.Others.{lines_go_on, sends_go_on}
use Rattle.safety.proofs.Sends.{lines_spoken}
use Rattle.safety.proofs.Taking.{Took, took}
use Rattle.safety.proofs.Travels.{travels_others}

-- ---- what one did

abbrev DidAnswer : Did → Type 0
DidAnswer Nothing = ⊤
DidAnswer (Outputs os) = AreAnswers os

module _ (from : Actor) where
  gone : (did : Did) → DidAnswer did → other_datagrams (sends_by from did) ≡ []
  gone Nothing h = refl
  gone (Outputs os) h = answers_gone from os h

  silent : (n : ℕ) (did : Did) → DidAnswer did → filter is_spoken (lines_by from n did) ≡ []
  silent n Nothing h = refl
  silent n (Outputs os) h = lines_spoken from n os ∙ answers_silent os h

  no_fragments : (did : Did) → DidAnswer did → (s : Sent) → Has (sends_by from did) s → is_fragment (reading s.bytes) ≡ false
  no_fragments Nothing h s i = absurd (Has-none s i)
  no_fragments (Outputs os) h s i = answers_are_no_fragments from os h s i

  are_datagrams : (did : Did) → DidAnswer did → (b : List ℕ) → Has (bytes_of (sends_by from did)) b → IsDatagram b
  are_datagrams Nothing h b i = absurd (Has-none b i)
  are_datagrams (Outputs os) h b i = answers_are_datagrams from os h b i

-- ---- the worlds afterwards

module _ {S : Type 0} (m : Meaning S) (IsSound : S → Type 0) (keeps : KeepsTo m IsSound) (t : WorldState) (ls : List Line) (w : WholeWorld)
    (beside : Beside m t ls w) where
  -- the whole world is beside the real one still
  pub record Stays (h : Happened) : Type 0 where
    pub alike : Alike m h.world (ls ++ h.lines) w
    pub travels : Travels h.world.sent h.world.replicas (real_letters m w)
    pub archive : h.world.archive ≡ t.archive
    pub observers : AllListen (bytes_of h.world.sent) h.world.observers

  record Spoke (x : Seated Observer × Did) : Type 0 where
    listens : Listens (bytes_of t.sent) x.0.state
    answers : DidAnswer x.1

  moved_spoke : (p : Seated Observer) (crashed : Bool) (what : Stimulus) → AllMayCome (bytes_of t.sent) what
      → Listens (bytes_of t.sent) p.state → Spoke (moved_if (observer.next m) crashed p what)
  moved_spoke p true what may h = record { listens = h; answers = tt }
  moved_spoke p false (Takes g) may h = record {
    listens = next_listens m t.sent t.replicas (real_letters m w) beside.travels p.state g may h;
    answers = next_answers m IsSound keeps (bytes_of t.sent) beside.travels.posts.network.datagrams p.state g may h;
  }
  moved_spoke p false Crashes may h = record { listens = h; answers = tt }

  stays : (i : ℕ) (x : Seated Observer × Did) → Spoke x → Stays (at_observer t i x)
  stays i x h =
      let from : Actor = actors.Observer i in
      let more : List Sent = sends_by from x.1 in
      record {
        alike = record {
          lines = lines_go_on m t ls w beside.alike (lines_by from (length t.sent) x.1) [] (silent from (length t.sent) x.1 h.answers)
              ∙ append-nil w.lines;
          sent = sends_go_on m t ls w beside.alike more [] (gone from x.1 h.answers) ∙ append-nil w.sent;
          config = beside.alike.config;
          replicas = beside.alike.replicas;
          others = beside.alike.others;
        };
        travels = travels_others t.sent more t.replicas (real_letters m w) (no_fragments from x.1 h.answers)
            (are_datagrams from x.1 h.answers) beside.travels;
        archive = refl;
        observers = more_listen t.sent more (slice_set t.observers i x.0)
            (seats_hold (Listens (bytes_of t.sent)) t.observers i x.0 h.listens beside.observers);
      }

  pub observer_stays : (e : Event) (h : Happened) (i : ℕ) → actor_of e ≡ actors.Observer i → step m t e ≡ Ok h → Stays h
  unfolding step
  observer_stays e h i at is =
      let real : then_at (at_observer t i) (step_at (observer.next m) (slice_get t.observers i) (stimulus_of t.config t.sent e)) ≡ Ok h =
      ap (λ (a : Actor). step_of m t (who a) (stimulus_of t.config t.sent e)) (sym at) ∙ is in
      let k : Took (at_observer t i) (observer.next m) (slice_get t.observers i) (stimulus_of t.config t.sent e) h =
      took (at_observer t i) (observer.next m) (slice_get t.observers i) (stimulus_of t.config t.sent e) h real in
      subst Stays k.gives
      (stays i (seat_step (observer.next m) k.seat k.what)
      (moved_spoke k.seat k.seat.crashed k.what (event_comes t.sent t.config e k.what k.brought) (beside.observers i k.seat k.there)))

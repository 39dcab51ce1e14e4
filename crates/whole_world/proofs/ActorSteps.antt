-- Steps of clients, sequencers and controllers.
use Rattle.std.proofs.Common.{◌≡◌, ℕ, ◌<◌, Some, refl, sym, ap, subst, ◌∙◌, arith, inl, inr, Bool, true, false, cond, List, []}
use Rattle.std.proofs.Common.{◌∷◌, ◌++◌, length}
use Rattle.std.specs.Prelude.{◌==◌, slice_get, slice_set}
use Rattle.std.proofs.lemmas.List.{length-set}
use Rattle.std.proofs.lemmas.Option.{slice_get_within}
use Rattle.nop_types.specs.Configuration.{Configuration}
use Rattle.nop_types.specs.Given.{Given}
use Rattle.nop_types.specs.Lines.{Line}
use Rattle.nop_types.specs.Lists.{Has}
use Rattle.nop_types.specs.Meaning.{Meaning}
use Rattle.nop_types.specs.Sessions.{home}
use Rattle.nop_types.specs.declared.datagram.Datagram.{Datagram}
use Rattle.nop_types.specs.declared.datagram.Datagram.TheVariants as datagrams
use Rattle.nop_types.specs.declared.output.Actor.{Actor}
use Rattle.nop_types.specs.declared.output.Out.{Out}
use Rattle.lemmas.proofs.Members.{Has-none, Has-cases, Has-append_cases}
use Rattle.client_reads.specs.declared.state.Reads.{Reads}
use Rattle.client_reads.specs.ReadSteps as reads
use Rattle.client_reads.proofs.Ranges.{stays_within}
use Rattle.client_quorum.specs.declared.state.ClientState.{ClientState}
use Rattle.client_quorum.specs.ClientSteps as requests
use Rattle.client_quorum.specs.Core as client
use Rattle.client_quorum.specs.Core.{Client}
use Rattle.sequencer.specs.declared.state.SequencerState.{SequencerState}
use Rattle.sequencer.specs.SequencerSteps as sequencer
use Rattle.sequencer.specs.Runs.{stamp_in}
use Rattle.session_control.specs.declared.state.ControllerState.{ControllerState}
use Rattle.session_control.specs.ControllerSteps as controller
use Rattle.session_control.proofs.Rising.{goes_on}
use Rattle.protocol.specs.Conf.{Conf, Install}
use Rattle.protocol.specs.Evolves.{Keeps}
use Rattle.protocol.specs.Invariant.{Inv}
use Rattle.protocol.specs.LocalState.{LocalState}
use Rattle.protocol.proofs.Runs.{moves_keep}
use Rattle.network.specs.Network.{Sent, sends_of}
use Rattle.world.specs.Others.{Kind, Sequencers, Clients, Controllers, State, next, seats, with_seat, count, Another, actor_at}
use Rattle.world.specs.Seats.{Seated, seated}
use Rattle.world.proofs.Others.{others_become}
use Rattle.refinement.specs.Clients.{with_client, ClientReaches}
use Rattle.refinement.specs.Controllers.{given_out, with_controller, control_of, ControllerReaches}
use Rattle.refinement.specs.Datagrams.{AllCarry, OnlySends}
use Rattle.refinement.specs.Lines.{lines_in}
use Rattle.refinement.specs.Ranges.{AllFit, ClientFits}
use Rattle.refinement.specs.Sequencers.{SessionsFit, with_sequencer, SequencerReaches}
use Rattle.refinement.specs.Steps.{LeadsTo}
use Rattle.refinement.proofs.ClientRanges.{clients_stay_in_ranges}
use Rattle.refinement.proofs.Clients.{clients_reach}
use Rattle.refinement.proofs.ControllerRanges.{controllers_stay_in_ranges}
use Rattle.refinement.proofs.Controllers.{controllers_reach}
use Rattle.refinement.proofs.SequencerRanges.{sequencers_stay_in_ranges}
use Rattle.refinement.proofs.Sequencers.{sequencers_reach}
use Rattle.whole_world.specs.Passed.{Passed, noted}
use Rattle.whole_world.specs.Whole.{WholeReplica, WholeWorld, gave, lines_of}
use Rattle.whole_world.specs.Shows.{Carries, MessagesSay, IsShown, ShowsActors, peers_of}
use Rattle.whole_world.proofs.At.{OtherFits, Stands, At, Goes}
use Rattle.whole_world.proofs.Coming.{Comes}
use Rattle.whole_world.proofs.Fitting.{carries_after, there_after, spelled_after}
use Rattle.whole_world.proofs.Outputs.{lines_are_added}
use Rattle.whole_world.proofs.Quiet.{idle_past}
use Rattle.whole_world.proofs.ReadOutputs.{leads_with, reads_carry, reads_say_none}
use Rattle.whole_world.proofs.Seats.{seats_become, seats_shown, seats_hold}

-- ---- the network

-- what was sent and is in the network is in its ranges
pub carried_fit : (sent : List Sent) (c : Conf) → Carries sent c → AllFit c
carried_fit sent c h = record {
  requests = λ r i. (h.requests r i).spells.fits;
  stamps = λ p i. (h.stamps p i).spells.fits;
  replies = λ y i. (h.replies y i).spells.fits;
  installs = λ x i. (h.installs x i).spells.fits;
}

pub carries_on : (c d : Conf) (sent : List Sent) (from : Actor) (xs : List Out) → Keeps c d → AllFit d → AllCarry d xs
    → OnlySends c d xs → Carries sent c → Carries (sent ++ sends_of from xs) d
carries_on c d sent from xs keeps all carry only old = record {
  spelled = spelled_after d sent from xs all carry old.spelled;
  only = carries_after c d sent from xs keeps all carry old.only;
  requests = λ r i. there_after c sent from xs (datagrams.Request r) (all.requests r i) (old.requests r) (only (datagrams.Request r) i);
  stamps = λ p i. there_after c sent from xs (datagrams.Stamped p) (all.stamps p i) (old.stamps p) (only (datagrams.Stamped p) i);
  replies = λ y i. there_after c sent from xs (datagrams.Reply y) (all.replies y i) (old.replies y) (only (datagrams.Reply y) i);
  installs = λ x i. (let y : Datagram = datagrams.Install (home x.session) x.sequencer x.session in
      there_after c sent from xs y (all.installs x i) (λ h. old.installs x h.given) (only y (record { given = i; own = refl })));
}

-- what is given out is the new session
given_session : (s t : ControllerState) (x : Install) → Has (given_out s t) x → x.session ≡ t.session
given_session s t x h = by (t.session == s.session) h
  where
    by : (same : Bool) → Has (cond same [] (record { sequencer = t.current; session = t.session } ∷ [])) x → x.session ≡ t.session
    by true h = absurd (Has-none x h)
    by false h = elim (Has-cases x (record { sequencer = t.current; session = t.session }) [] h) [
      | inl e ↦ ap (λ (y : Install). y.session) e
      | inr i ↦ absurd (Has-none x i)
    ]

-- ---- one step

module _ {S : Type 0} (m : Meaning S) (f : ℕ) (config : Configuration) (p : Passed) (c : Conf) (inv : Inv m f c)
    (at : At m f config p c) where
  abbrev w : WholeWorld
  w = p.world

  abbrev shown : ShowsActors f w c
  shown = at.stands.actors

  all_fit : AllFit c
  all_fit = carried_fit w.sent c at.stands.carries

  sessions_fit : SessionsFit c
  sessions_fit x h = (all_fit.installs x h).fits

  keeps_by : (d : Conf) (xs : List Out) → LeadsTo m f c d xs → Keeps c d
  keeps_by d xs by = subst (Keeps c) by.ends (moves_keep m f c by.moves inv by.may).1.sent

  carries_by : (d : Conf) (from : Actor) (xs : List Out) → LeadsTo m f c d xs → AllFit d → Carries (w.sent ++ sends_of from xs) d
  carries_by d from xs by fit = carries_on c d w.sent from xs (keeps_by d xs by) fit by.sends by.only at.stands.carries

  -- the lines are those of the outputs, and the replicas stay
  goes_by : (new : WholeWorld) (d : Conf) (from : Actor) (xs : List Out) → LeadsTo m f c d xs → new.lines ≡ w.lines ++ lines_of xs
      → new.replicas ≡ w.replicas → d.past ≡ c.past → Stands f config new d → Goes m f config p c new
  goes_by new d from xs by lines same past stands =
      let tells = lines_are_added xs by.first in
      record {
        moves = by.moves;
        may = by.may;
        stands = subst (Stands f config new) (sym by.ends) stands;
        said = lines_in xs;
        others = tells.others;
        lines = ap (λ (e : Conf). e.lines) by.ends ∙ by.lines;
        are = lines ∙ ap (λ (t : List Line). w.lines ++ t) tells.are;
        tells = tells.may;
        past = ap (λ (t : List (Seated WholeReplica)). noted f p.past 0 w.replicas t) same ∙ idle_past m f config p c inv at
            ∙ sym (ap (λ (e : Conf). e.past) by.ends ∙ past);
      }

  -- ---- any of them

  -- moves lead to where the changed actor, and all others, are shown
  module _ (k : Kind) (i : ℕ) (x : State k × List Out) (d : Conf) (by : LeadsTo m f c d x.1) (fit : AllFit d)
      (fits : OtherFits k x.0) (givers : (y : Install) → Has d.installs y → home y.session < w.config.controllers) where
    abbrev after : WholeWorld
    after = gave w (actor_at (Another k i)) x.1 (record w { others = with_seat k w.others i (seated x.0) })

    other_goes_by : d.replicas ≡ c.replicas → d.said ≡ c.said → d.past ≡ c.past
        → ((j : Kind) (n : ℕ) (q : Seated (State j)) → slice_get (seats j after.others) n ≡ Some q → IsShown j d n q.state)
        → Goes m f config p c after
    other_goes_by replicas said past others = goes_by after d (actor_at (Another k i)) x.1 by refl refl past (record {
      same = at.stands.same;
      actors = record {
        is_configuration = shown.is_configuration;
        config = shown.config;
        replica_count = shown.replica_count;
        other_count = others_become (λ j qs. length qs ≡ count j w.config) w.others k (slice_set (seats k w.others) i (seated x.0))
            (length-set (seats k w.others) i (seated x.0) ∙ shown.other_count k) shown.other_count;
        replicas = λ r q e. ap (λ (g : ℕ → LocalState). g r) replicas ∙ shown.replicas r q e;
        points = shown.points;
        others = others;
        givers = givers;
      };
      carries = carries_by d (actor_at (Another k i)) x.1 by fit;
      tells = subst (MessagesSay (peers_of w.letters)) (sym said) at.stands.tells;
      ranges = record {
        replicas = at.stands.ranges.replicas;
        others = others_become (λ j qs. (n : ℕ) (q : Seated (State j)) → slice_get qs n ≡ Some q → OtherFits j q.state) w.others k
            (slice_set (seats k w.others) i (seated x.0))
            (seats_hold (OtherFits k) (seats k w.others) i (seated x.0) fits (at.stands.ranges.others k)) at.stands.ranges.others;
      };
    })

  -- what a step leads to
  abbrev StepGoes : (k : Kind) → ℕ → Seated (State k) → Given → Type 0
  StepGoes k i old g =
      Goes m f config p c (gave w (actor_at (Another k i)) (next k old.state g).1
      (record w { others = with_seat k w.others i (seated (next k old.state g).0) }))

  -- ---- clients

  module _ (k : ℕ) (old : Seated Client) (there : slice_get w.others.clients k ≡ Some old) (i : Given)
      (comes : Comes c i) where
    abbrev core_step : Client × List Out
    core_step = client.next old.state i

    -- the step of its requests
    abbrev client_step : ClientState × List Out
    client_step = requests.next old.state.requests i

    -- and of its reads
    abbrev reads_step : Reads × List Out
    reads_step = reads.next old.state.reads i

    abbrev client_after : Conf
    client_after = with_client c k client_step

    client_reaches : ClientReaches m f c k client_step
    client_reaches = subst (λ (s : ClientState). ClientReaches m f c k (requests.next s i)) (shown.others Clients k old there)
        (clients_reach m f c k i inv comes.may)

    client_in_ranges : AllFit client_after × ClientFits client_step.0
    client_in_ranges =
        let same : c.clients k ≡ old.state.requests = shown.others Clients k old there in
        let fits : ClientFits (c.clients k) = subst ClientFits (sym same) (at.stands.ranges.others Clients k old there).0 in
        subst (λ (s : ClientState). AllFit (with_client c k (requests.next s i)) × ClientFits (requests.next s i).0) same
        (clients_stay_in_ranges c k i all_fit fits comes.fits)

    reads_within : reads.IsWithin old.state.reads
    reads_within = (at.stands.ranges.others Clients k old there).1

    both_reach : LeadsTo m f c client_after core_step.1
    both_reach =
        leads_with m f c client_after client_step.1 reads_step.1 client_reaches (reads_say_none old.state.reads i)
        (reads_carry client_after old.state.reads i reads_within comes.key)

    both_in_ranges : ClientFits client_step.0 × reads.IsWithin reads_step.0
    both_in_ranges = (client_in_ranges.1, stays_within old.state.reads i reads_within comes.key)

    client_shown : (j : Kind) (n : ℕ) (q : Seated (State j))
        → slice_get (seats j (with_seat Clients w.others k (seated core_step.0))) n ≡ Some q → IsShown j client_after n q.state
    client_shown Clients =
        seats_shown (λ (s : Client). s.requests) w.others.clients c.clients k (seated core_step.0) (shown.others Clients)
    client_shown j = shown.others j

    client_goes : StepGoes Clients k old i
    client_goes =
        other_goes_by Clients k core_step client_after both_reach client_in_ranges.0 both_in_ranges shown.givers
        refl refl refl client_shown

  -- ---- sequencers

  module _ (j : ℕ) (old : Seated SequencerState) (there : slice_get w.others.sequencers j ≡ Some old) (i : Given)
      (comes : Comes c i) where
    abbrev sequencer_step : SequencerState × List Out
    sequencer_step = sequencer.next old.state i

    abbrev sequencer_after : Conf
    sequencer_after = with_sequencer c j sequencer_step.0 (stamp_in old.state i)

    sequencer_reaches : SequencerReaches m f c j (stamp_in old.state i) sequencer_step
    sequencer_reaches = subst (λ (s : SequencerState). SequencerReaches m f c j (stamp_in s i) (sequencer.next s i))
        (shown.others Sequencers j old there) (sequencers_reach m f c j i inv sessions_fit comes.may)

    sequencer_all_fit : AllFit sequencer_after
    sequencer_all_fit =
        subst (λ (s : SequencerState). AllFit (with_sequencer c j (sequencer.next s i).0 (stamp_in s i)))
        (shown.others Sequencers j old there)
        (sequencers_stay_in_ranges m f c j i inv all_fit comes.may)

    sequencer_shown : (k : Kind) (n : ℕ) (q : Seated (State k))
        → slice_get (seats k (with_seat Sequencers w.others j (seated sequencer_step.0))) n ≡ Some q
        → IsShown k sequencer_after n q.state
    sequencer_shown Sequencers =
        seats_shown (λ s. s) w.others.sequencers c.sequencers j (seated sequencer_step.0) (shown.others Sequencers)
    sequencer_shown k = shown.others k

    sequencer_goes : StepGoes Sequencers j old i
    sequencer_goes =
        other_goes_by Sequencers j sequencer_step sequencer_after sequencer_reaches sequencer_all_fit tt shown.givers refl refl refl
        sequencer_shown

  -- ---- controllers

  module _ (k : ℕ) (old : Seated ControllerState) (there : slice_get w.others.controllers k ≡ Some old) (i : Given)
      (comes : Comes c i) where
    abbrev controller_step : ControllerState × List Out
    controller_step = controller.next old.state i

    abbrev controller_after : Conf
    controller_after = with_controller c k controller_step.0 (given_out old.state controller_step.0)

    number : old.state.number ≡ k
    number = (shown.others Controllers k old there).1

    within : controller.IsWithin old.state
    within = at.stands.ranges.others Controllers k old there

    controller_reaches : ControllerReaches m f c k old.state controller_step
    controller_reaches = subst (λ (j : ℕ). ControllerReaches m f c j old.state controller_step) number
        (controllers_reach m f c old.state i inv (ap c.controllers number ∙ (shown.others Controllers k old there).0) within
        comes.may)

    controller_in_ranges : AllFit controller_after × controller.IsWithin controller_step.0
    controller_in_ranges = controllers_stay_in_ranges c k old.state i all_fit within comes.may

    number_is : controller_step.0.number ≡ k
    number_is = (goes_on old.state i).number ∙ number

    giver_is_there : (x : Install) → Has (given_out old.state controller_step.0) x → home x.session < w.config.controllers
    giver_is_there x h =
        let own : home x.session ≡ k = ap home (given_session old.state controller_step.0 x h) ∙ controller_in_ranges.1.own ∙ number_is in
        let inside = slice_get_within w.others.controllers k old there in
        let all = shown.other_count Controllers in
        omega (arith, own, inside, all)

    givers : (x : Install) → Has controller_after.installs x → home x.session < w.config.controllers
    givers x h = elim (Has-append_cases (given_out old.state controller_step.0) c.installs x h) [
      | inl i ↦ giver_is_there x i
      | inr i ↦ shown.givers x i
    ]

    controller_shown : (j : Kind) (n : ℕ) (q : Seated (State j))
        → slice_get (seats j (with_seat Controllers w.others k (seated controller_step.0))) n ≡ Some q
        → IsShown j controller_after n q.state
    controller_shown Controllers n q e = (
      seats_shown control_of w.others.controllers c.controllers k (seated controller_step.0)
          (λ r t g. (shown.others Controllers r t g).0) n q e,
      seats_become (λ r s. s.number ≡ r) (λ r s. s.number ≡ r) w.others.controllers k (seated controller_step.0) number_is
          (λ r s other h. h) (λ r t g. (shown.others Controllers r t g).1) n q e,
    )
    controller_shown j n q e = shown.others j n q e

    controller_goes : StepGoes Controllers k old i
    controller_goes =
        other_goes_by Controllers k controller_step controller_after controller_reaches controller_in_ranges.0
        controller_in_ranges.1 givers refl refl refl controller_shown

  pub other_goes : (k : Kind) (i : ℕ) (old : Seated (State k)) → slice_get (seats k w.others) i ≡ Some old → (g : Given) → Comes c g
      → StepGoes k i old g
  other_goes Sequencers = sequencer_goes
  other_goes Clients = client_goes
  other_goes Controllers = controller_goes

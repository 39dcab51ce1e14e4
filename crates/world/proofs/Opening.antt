-- Actors that are made one after the other.
use Rattle.std.proofs.Common.{◌≡◌, ℕ, ◌+◌, List, [], ◌∷◌, ◌++◌, sym, ap, ◌∙◌, add-one}
use Rattle.std.specs.Prelude.{map}
use Rattle.std.proofs.lemmas.List.{map-append}
use Rattle.nop_types.specs.Configuration.{Configuration}
use Rattle.nop_types.specs.declared.request.Entry.{Entry}
use Rattle.client_quorum.specs.Core.{Client}
use Rattle.replica_core.specs.ReplicaSteps as replica
use Rattle.replica_core.specs.ReplicaSteps.{Replica}
use Rattle.sequencer.specs.SequencerSteps as sequencer
use Rattle.sequencer.specs.declared.state.SequencerState.{SequencerState}
use Rattle.session_control.specs.ControllerSteps as controller
use Rattle.session_control.specs.declared.state.ControllerState.{ControllerState}
use Rattle.observer.specs.ObserverSteps as observer
use Rattle.observer.specs.ObserverSteps.{Observer}
use Rattle.world.specs.declared.seat.Seat.{Seat}
use Rattle.network.specs.Network.{Sent}
use Rattle.world.specs.Seats.{Seated, seated}
use Rattle.world.specs.SeatOutcomes.{seated_of}
use Rattle.world.specs.WorldSteps.{WorldState, numbered_seats, opening, opening_client}

-- one more actor
pub counted_more : {C S : Type 0} (state : C → S) (make : ℕ → S) (n : ℕ) (old new : List (Seat C)) (made : Seat C)
    → map (seated_of state) old ≡ numbered_seats make n → new ≡ old ++ made ∷ [] → seated_of state made ≡ seated (make n)
    → map (seated_of state) new ≡ numbered_seats make (n + 1)
counted_more {C} {S} state make n old new made so_far pushed opens =
    ap (map (seated_of state)) pushed ∙ map-append (seated_of state) old (made ∷ [])
    ∙ ap (λ (ps : List (Seated S)). ps ++ seated_of state made ∷ []) so_far
    ∙ ap (λ (p : Seated S). numbered_seats make n ++ p ∷ []) opens ∙ sym (ap (numbered_seats make) (add-one n))

-- all actors in their opening states, and nothing sent or archived
pub world_opens : (config : Configuration) (rs : List (Seated Replica)) (ss : List (Seated SequencerState)) (cs : List (Seated Client))
    (ks : List (Seated ControllerState)) (os : List (Seated Observer)) (sent : List Sent) (archive : List Entry)
    → rs ≡ numbered_seats (replica.opening config) config.replicas → ss ≡ numbered_seats sequencer.opening config.sequencers
    → cs ≡ numbered_seats (opening_client config) config.clients
    → ks ≡ numbered_seats (controller.opening config) config.controllers
    → os ≡ numbered_seats (observer.opening config) config.observers → sent ≡ [] → archive ≡ []
    → (let w : WorldState = record {
      config = config;
      replicas = rs;
      others = record { sequencers = ss; clients = cs; controllers = ks };
      observers = os;
      sent = sent;
      archive = archive;
    } in w) ≡ opening config
world_opens config rs ss cs ks os sent archive a b c d e f g = cc

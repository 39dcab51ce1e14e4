-- What is sent to the replicas are the stamped packets.
use Rattle.std.proofs.Common.{◌≡◌, ℕ, List, [], ◌∷◌, ◌++◌, map, refl, ap, sym, ◌∙◌, Option, Some, None, Bool, true, false, Result, Ok}
use Rattle.std.proofs.lemmas.List.{map-append}
use Rattle.nop_types.specs.Given.{Given, Packet}
use Rattle.nop_types.specs.declared.output.Out.{Out}
use Rattle.nop_types.specs.declared.output.Out.TheVariants as outs
use Rattle.nop_types.specs.declared.output.Dest.TheVariants.{Replicas}
use Rattle.nop_types.specs.declared.datagram.Stamped.{Stamped}
use Rattle.nop_types.specs.declared.datagram.Datagram.{Datagram}
use Rattle.nop_types.specs.declared.datagram.Datagram.TheVariants as datagrams
use Rattle.oum_codec.specs.declared.bad.Bad.{Bad}
use Rattle.oum_codec.specs.Reading.{reading}
use Rattle.sequencer.specs.declared.state.SequencerState.{SequencerState}
use Rattle.sequencer.specs.SequencerSteps.{stamped_by, send_packet, install_if, ping_if, on_datagram, next}
use Rattle.sequencer.specs.Runs.{run, one_or_none, stamp_at, stamp_in, Step, stamps, spelled, to_replicas}

to_replicas_append : (xs ys : List Out) → to_replicas (xs ++ ys) ≡ to_replicas xs ++ to_replicas ys
to_replicas_append [] ys = refl
to_replicas_append (outs.Send Replicas bytes ∷ xs) ys = ap (λ l. bytes ∷ l) (to_replicas_append xs ys)
to_replicas_append (_ ∷ xs) ys = to_replicas_append xs ys

packet_sent : (p : Option Stamped) → to_replicas (send_packet p) ≡ map spelled (one_or_none p)
packet_sent None = refl
packet_sent (Some p) = refl

install_sends_none : (b : Bool) (s : SequencerState) (k session : ℕ) → to_replicas (install_if b s k session).1 ≡ []
install_sends_none true s k session = refl
install_sends_none false s k session = refl

ping_sends_none : (b : Bool) (s : SequencerState) (k round : ℕ) → to_replicas (ping_if b s k round).1 ≡ []
ping_sends_none true s k round = refl
ping_sends_none false s k round = refl

sent_at : (s : SequencerState) (d : Result Datagram Bad) → to_replicas (on_datagram s d).1 ≡ map spelled (stamp_at s d)
sent_at s (Ok (datagrams.Request r)) = packet_sent (stamped_by s r)
sent_at s (Ok (datagrams.Install controller sequencer session)) = install_sends_none _ s controller session
sent_at s (Ok (datagrams.Ping controller sequencer round)) = ping_sends_none _ s controller round
sent_at s _ = refl

sent_in : (s : SequencerState) (i : Given) → to_replicas (next s i).1 ≡ map spelled (stamp_in s i)
unfolding next
sent_in s (Packet bytes) = sent_at s (reading bytes)
sent_in s _ = refl

pub outputs_are_stamps : (s : SequencerState) (inputs : List Given)
    → to_replicas (run s inputs).1 ≡ map spelled (stamps s (map Step inputs))
outputs_are_stamps s [] = refl
outputs_are_stamps s (i ∷ is) =
    to_replicas_append (next s i).1 (run (next s i).0 is).1
    ∙ ap (λ l. l ++ to_replicas (run (next s i).0 is).1) (sent_in s i)
    ∙ ap (λ l. map spelled (stamp_in s i) ++ l) (outputs_are_stamps (next s i).0 is)
    ∙ sym (map-append spelled (stamp_in s i) (stamps (next s i).0 (map Step is)))

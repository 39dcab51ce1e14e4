-- What sequencers stamp is in its ranges.
use Rattle.std.proofs.Common.{◌≡◌, ℕ, Bool, true, false, Some, None, refl, sym, subst, inl, inr}
use Rattle.std.specs.Prelude.{Result, Ok, cond, nat_lt}
use Rattle.std.proofs.lemmas.Bool.{and_parts, ltb-true}
use Rattle.nop_types.specs.declared.limits.TheConstants.{NUMBER_END}
use Rattle.nop_types.specs.Given.{Given, Packet}
use Rattle.nop_types.specs.Lists.{Has}
use Rattle.nop_types.specs.Meaning.{Meaning}
use Rattle.nop_types.specs.Ranges.{RequestFits, StampedFits}
use Rattle.nop_types.specs.declared.request.Request.{Request}
use Rattle.nop_types.specs.declared.datagram.Stamped.{Stamped}
use Rattle.nop_types.specs.declared.datagram.Datagram.{Datagram}
use Rattle.nop_types.specs.declared.datagram.Datagram.TheVariants as datagrams
use Rattle.lemmas.proofs.Members.{Has-append_cases, Has-one, Has-none}
use Rattle.oum_codec.specs.declared.bad.Bad.{Bad}
use Rattle.oum_codec.specs.Reading.{reading}
use Rattle.sequencer.specs.declared.state.SequencerState.{SequencerState}
use Rattle.sequencer.specs.Runs.{one_or_none, stamp_at, stamp_in}
use Rattle.sequencer.specs.SequencerSteps.{can_stamp, stamped}
use Rattle.protocol.specs.Conf.{Conf}
use Rattle.protocol.specs.Invariant.{Inv}
use Rattle.refinement.specs.Datagrams.{Arrived, MayCome}
use Rattle.refinement.specs.Ranges.{AllFit, SequencersStayInRanges}
use Rattle.refinement.proofs.Sequencers.{session_fits}

module _ {S : Type 0} (m : Meaning S) (f : ℕ) (c : Conf) (j : ℕ) (inv : Inv m f c) (all : AllFit c) where
  abbrev s : SequencerState
  s = c.sequencers j

  stamped_fits : (r : Request) → RequestFits r → can_stamp s ≡ true → StampedFits (stamped s r)
  stamped_fits r fits can =
      let parts = and_parts (nat_lt 0 s.session) (nat_lt s.next NUMBER_END) can in
      record {
        session = session_fits m f c j inv (λ x h. (all.installs x h).fits) (ltb-true 0 s.session parts.0);
        number_low = (inv.sequencers j).low;
        number = ltb-true s.next NUMBER_END parts.1;
        request = fits;
      }

  stamp_fits : (r : Request) (b : Bool) → RequestFits r → can_stamp s ≡ b → (p : Stamped)
      → Has (one_or_none (cond b (Some (stamped s r)) None)) p → StampedFits p
  stamp_fits r true fits can p h = subst StampedFits (sym (Has-one p (stamped s r) h)) (stamped_fits r fits can)
  stamp_fits r false fits can p h = absurd (Has-none p h)

  datagram_fits : (x : Result Datagram Bad) → ((d : Datagram) → x ≡ Ok d → Arrived c d) → (p : Stamped) → Has (stamp_at s x) p
      → StampedFits p
  datagram_fits (Ok (datagrams.Request r)) came p h = stamp_fits r (can_stamp s) (came (datagrams.Request r) refl).fits refl p h
  datagram_fits _ came p h = absurd (Has-none p h)

  stamps_fit : (i : Given) → MayCome c i → (p : Stamped) → Has (stamp_in s i) p → StampedFits p
  stamps_fit (Packet bytes) came p h = datagram_fits (reading bytes) came p h
  stamps_fit _ came p h = absurd (Has-none p h)

pub sequencers_stay_in_ranges : {S : Type 0} (m : Meaning S) → SequencersStayInRanges m
sequencers_stay_in_ranges m f c j i inv all came = record {
  requests = all.requests;
  stamps = λ p h. elim (Has-append_cases (stamp_in (c.sequencers j) i) c.stamps p h) [
    | inl new ↦ stamps_fit m f c j inv all i came p new
    | inr old ↦ all.stamps p old
  ];
  replies = all.replies;
  installs = all.installs;
}

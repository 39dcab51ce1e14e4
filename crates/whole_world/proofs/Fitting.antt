-- What is read of the network was sent, and what was sent is there.
use Rattle.std.proofs.Common.{◌≡◌, ℕ, refl, sym, ap, subst, ◌∙◌, inl, inr, List, ◌++◌}
use Rattle.std.specs.Prelude.{◌⊎◌, Ok}
use Rattle.nop_types.specs.Lists.{Has}
use Rattle.nop_types.specs.Ranges.{DatagramFits}
use Rattle.nop_types.specs.declared.datagram.Datagram.{Datagram}
use Rattle.nop_types.specs.declared.datagram.Datagram.TheVariants as datagrams
use Rattle.nop_types.specs.declared.output.Actor.{Actor}
use Rattle.nop_types.specs.declared.output.Out.{Out}
use Rattle.lemmas.proofs.Members.{Has-append_left, Has-append_right, Has-append_cases}
use Rattle.oum_codec.specs.Reading.{reading}
use Rattle.oum_codec.specs.Spelling.{spelling, Spells}
use Rattle.oum_codec.proofs.Datagrams.{reads_again}
use Rattle.protocol.specs.Conf.{Conf}
use Rattle.protocol.specs.Evolves.{Keeps}
use Rattle.network.specs.Network.{Sent, sends_of}
use Rattle.network_laws.specs.Network.{IsDatagram}
use Rattle.refinement.specs.Datagrams.{WasSent, Arrived, Carries, AllCarry, Sends}
use Rattle.refinement.specs.Ranges.{AllFit}
use Rattle.refinement.proofs.SentRanges.{datagrams_fit}
use Rattle.whole_world.specs.Shows.{IsThere}
use Rattle.whole_world.proofs.Outputs.{sends_there, sends_are_outputs}

-- ---- what is read

-- bytes that are a datagram read as that alone
pub read_as : (bytes : List ℕ) (d e : Datagram) → Spells d bytes → reading bytes ≡ Ok e → d ≡ e
read_as bytes d e s h =
    let same : Ok d ≡ Ok e = sym (reads_again d s.fits) ∙ sym (ap reading s.spelled) ∙ h in cc

-- what is read of the bytes of the network was sent, in its ranges
pub arrived : (c : Conf) (bytes : List ℕ) → IsDatagram bytes → ((d : Datagram) → reading bytes ≡ Ok d → WasSent c d)
    → (d : Datagram) → reading bytes ≡ Ok d → Arrived c d
arrived c bytes is carries d e = record {
  sent = carries d e;
  fits = subst DatagramFits (read_as bytes is.datagram d is.spells e) is.spells.fits;
}

-- ---- what was sent stays

pub sent_lasts : (c d : Conf) → Keeps c d → (x : Datagram) → WasSent c x → WasSent d x
sent_lasts c d keeps (datagrams.Request r) h = keeps.requests r h
sent_lasts c d keeps (datagrams.Stamped p) h = keeps.stamps p h
sent_lasts c d keeps (datagrams.Reply y) h = keeps.replies y h
sent_lasts c d keeps (datagrams.Install k j s) h =
    record { given = keeps.installs (record { sequencer = j; session = s }) h.given; own = h.own }
sent_lasts c d keeps _ h = h

-- ---- what an actor sends that is no replica

pub carried_spells : (c : Conf) → AllFit c → (bytes : List ℕ) → (h : Carries c bytes) → Spells h.datagram bytes
carried_spells c all bytes h = record { fits = datagrams_fit c h.datagram all h.whole h.sent; spelled = h.spelled }

-- whatever is read of the network afterwards was sent
pub carries_after : (c d : Conf) (sent : List Sent) (from : Actor) (xs : List Out) → Keeps c d → AllFit d → AllCarry d xs
    → ((s : Sent) (x : Datagram) → Has sent s → reading s.bytes ≡ Ok x → WasSent c x)
    → (s : Sent) (x : Datagram) → Has (sent ++ sends_of from xs) s → reading s.bytes ≡ Ok x → WasSent d x
carries_after c d sent from xs keeps all carry old s x h e = elim (Has-append_cases sent (sends_of from xs) s h) [
  | inl i ↦ sent_lasts c d keeps x (old s x i e)
  | inr i ↦ (
      let o = sends_are_outputs from xs s i in
      let t = carry o.dest s.bytes o.has in
      subst (WasSent d) (read_as s.bytes t.datagram x (carried_spells d all s.bytes t) e) t.sent)
]

-- what is there stays there
pub there_still : (sent more : List Sent) (x : Datagram) → IsThere sent x → IsThere (sent ++ more) x
there_still sent more x h = record { datagram = h.datagram; has = Has-append_left sent more h.datagram h.has; spells = h.spells }

-- and what was sent is there
pub there_after : (c : Conf) (sent : List Sent) (from : Actor) (xs : List Out) (x : Datagram) → DatagramFits x
    → (WasSent c x → IsThere sent x) → WasSent c x ⊎ Sends xs x → IsThere (sent ++ sends_of from xs) x
there_after c sent from xs x fits old h = elim h [
  | inl g ↦ there_still sent (sends_of from xs) x (old g)
  | inr g ↦ record {
    datagram = record { from = from; dest = g.0; bytes = spelling x };
    has = Has-append_right sent (sends_of from xs) _ (sends_there from xs g.0 (spelling x) g.1);
    spells = record { fits = fits; spelled = refl };
  }
]

-- and each datagram is in its ranges afterwards
pub spelled_after : (c : Conf) (sent : List Sent) (from : Actor) (xs : List Out) → AllFit c → AllCarry c xs
    → ((s : Sent) → Has sent s → IsDatagram s.bytes) → (s : Sent) → Has (sent ++ sends_of from xs) s → IsDatagram s.bytes
spelled_after c sent from xs all carry old s h = elim (Has-append_cases sent (sends_of from xs) s h) [
  | inl i ↦ old s i
  | inr i ↦ (
      let o = sends_are_outputs from xs s i in
      let t = carry o.dest s.bytes o.has in record { datagram = t.datagram; spells = carried_spells c all s.bytes t })
]

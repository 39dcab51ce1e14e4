-- What outputs send and say.
use Rattle.std.proofs.Common.{◌≡◌, ℕ, sym, ap, subst, ◌∙◌, inl, inr, List, [], ◌∷◌, ◌++◌}
use Rattle.std.proofs.lemmas.List.{append-nil}
use Rattle.std.specs.Prelude.{◌⊎◌}
use Rattle.nop_types.specs.Lines.{Line}
use Rattle.nop_types.specs.Lists.{Has}
use Rattle.nop_types.specs.Meaning.{Meaning}
use Rattle.nop_types.specs.Sessions.{home}
use Rattle.nop_types.specs.declared.request.Request.{Request}
use Rattle.nop_types.specs.declared.datagram.Stamped.{Stamped}
use Rattle.nop_types.specs.declared.datagram.Reply.{Reply}
use Rattle.nop_types.specs.declared.datagram.Datagram.{Datagram}
use Rattle.nop_types.specs.declared.datagram.Datagram.TheVariants as datagrams
use Rattle.nop_types.specs.declared.output.Dest.{Dest}
use Rattle.nop_types.specs.declared.output.Out.{Out}
use Rattle.nop_types.specs.declared.output.Out.TheVariants.{Send, Submitted, Accepted}
use Rattle.lemmas.proofs.Members.{Has-none, Has-one}
use Rattle.oum_codec.specs.Spelling.{spelling}
use Rattle.protocol.specs.Conf.{Conf, Install}
use Rattle.refinement.specs.Datagrams.{IsWhole, WasSent, AllCarry, Sends, OnlySends}
use Rattle.refinement.specs.Lines.{lines_in, SaysFirst}
use Rattle.refinement.specs.Steps.{LeadsTo}

pub none_carry : (c : Conf) → AllCarry c []
none_carry c dest bytes h = absurd (Has-none (Send dest bytes) h)

-- the only output sends the datagram
pub one_carries : (c : Conf) (to : Dest) (d : Datagram) → IsWhole d → WasSent c d → AllCarry c (Send to (spelling d) ∷ [])
one_carries c to d whole sent dest bytes h = record {
  datagram = d;
  whole = whole;
  sent = sent;
  spelled = (let same = Has-one (Send dest bytes) (Send to (spelling d)) h in cc);
}

-- what was added of requests, of stamps and of sessions that were given out, these outputs send
pub only_new : (c d : Conf) (outs : List Out) → ((r : Request) → Has d.requests r → Has c.requests r ⊎ Sends outs (datagrams.Request r))
    → ((p : Stamped) → Has d.stamps p → Has c.stamps p ⊎ Sends outs (datagrams.Stamped p)) → d.replies ≡ c.replies
    → ((x : Install) → Has d.installs x → Has c.installs x ⊎ Sends outs (datagrams.Install (home x.session) x.sequencer x.session))
    → OnlySends c d outs
only_new c d outs requests stamps replies installs (datagrams.Request r) h = requests r h
only_new c d outs requests stamps replies installs (datagrams.Stamped p) h = stamps p h
only_new c d outs requests stamps replies installs (datagrams.Reply p) h = inl (subst (λ (t : List Reply). Has t p) replies h)
only_new c d outs requests stamps replies installs (datagrams.Install controller sequencer session) h =
    elim (installs (record { sequencer = sequencer; session = session }) h.given) [
      | inl old ↦ inl (record { given = old; own = h.own })
      | inr new ↦ inr (subst (λ (n : ℕ). Sends outs (datagrams.Install n sequencer session)) h.own new)
    ]
only_new c d outs requests stamps replies installs _ h = inl h

-- ---- lines

pub says_none_first : (outs : List Out) → lines_in outs ≡ [] → SaysFirst outs
says_none_first [] e = tt
says_none_first (Submitted r ∷ outs) e = absurd cc
says_none_first (Accepted client id result ∷ outs) e = absurd cc
says_none_first (_ ∷ outs) e = e

pub says_none : (lines : List Line) (outs : List Out) → lines_in outs ≡ [] → lines ≡ lines ++ lines_in outs
says_none lines outs e = sym (ap (λ (more : List Line). lines ++ more) e ∙ append-nil lines)

-- ---- steps of which no move is made

pub no_moves : {S : Type 0} (m : Meaning S) (f : ℕ) (c d : Conf) (outs : List Out) → d ≡ c → lines_in outs ≡ [] → AllCarry c outs
    → LeadsTo m f c d outs
no_moves m f c d outs same none carry = record {
  moves = [];
  may = tt;
  ends = sym same;
  sends = subst (λ (x : Conf). AllCarry x outs) (sym same) carry;
  only = λ x h. inl (subst (λ (y : Conf). WasSent y x) same h);
  lines = ap (λ (x : Conf). x.lines) same ∙ says_none c.lines outs none;
  first = says_none_first outs none;
}

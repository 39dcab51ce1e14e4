-- What a client's reads give says no line of the protocol and promises nothing, so that moves for the step of its requests do for both.
use Rattle.std.proofs.Common.{◌≡◌, ℕ, refl, sym, ap, ◌∙◌, inl, inr, List, [], ◌∷◌, ◌++◌}
use Rattle.nop_types.specs.Given.{Given}
use Rattle.nop_types.specs.Lines.{Line, Submit, Accept}
use Rattle.nop_types.specs.Meaning.{Meaning}
use Rattle.nop_types.specs.declared.datagram.Datagram.TheVariants as datagrams
use Rattle.nop_types.specs.declared.output.Out.{Out}
use Rattle.nop_types.specs.declared.output.Out.TheVariants.{Send, Submitted, Accepted}
use Rattle.lemmas.proofs.Members.{Has-append_cases, Has-append_left}
use Rattle.client_reads.specs.declared.state.Reads.{Reads}
use Rattle.client_reads.specs.ReadSteps.{IsWithin, next}
use Rattle.client_reads.specs.Rows.{Row, Rests}
use Rattle.client_reads.specs.Runs.{KeyFits}
use Rattle.client_reads.proofs.Ranges.{step_sends}
use Rattle.client_reads.proofs.RowLemmas.{row_of}
use Rattle.protocol.specs.Conf.{Conf}
use Rattle.refinement.specs.Datagrams.{AllCarry}
use Rattle.refinement.specs.Lines.{lines_in, SaysFirst}
use Rattle.refinement.specs.Steps.{LeadsTo}
use Rattle.refinement.proofs.Outputs.{says_none_first}

row_says_none : (s : Reads) (x : Given) (y : Reads × List Out) → Row s x y → lines_in y.1 ≡ []
row_says_none s x y (Rests nothing) = refl
row_says_none s x y _ = refl

pub reads_say_none : (s : Reads) (x : Given) → lines_in (next s x).1 ≡ []
reads_say_none s x = row_says_none s x (next s x) (row_of s x)

pub reads_carry : (c : Conf) (s : Reads) (x : Given) → IsWithin s → KeyFits x → AllCarry c (next s x).1
reads_carry c s x within fits dest bytes h =
    let read = step_sends s x within fits dest bytes h in
    record {
      datagram = datagrams.Read (record { client = s.number; id = read.id; key = read.key });
      whole = tt;
      sent = read.spells.fits;
      spelled = read.spells.spelled;
    }

-- ---- outputs that are appended

same_lines : (xs more : List Out) → lines_in more ≡ [] → lines_in (xs ++ more) ≡ lines_in xs
same_lines [] more none = none
same_lines (Submitted r ∷ xs) more none = ap (λ (ls : List Line). Submit r ∷ ls) (same_lines xs more none)
same_lines (Accepted client id result ∷ xs) more none =
    ap (λ (ls : List Line). Accept client id result ∷ ls) (same_lines xs more none)
same_lines (_ ∷ xs) more none = same_lines xs more none

says_first : (xs more : List Out) → lines_in more ≡ [] → SaysFirst xs → SaysFirst (xs ++ more)
says_first [] more none first = says_none_first more none
says_first (Submitted r ∷ xs) more none first = says_first xs more none first
says_first (Accepted client id result ∷ xs) more none first = says_first xs more none first
says_first (_ ∷ xs) more none first = same_lines xs more none ∙ first

-- they say no line of the protocol, and carry
pub leads_with : {S : Type 0} (m : Meaning S) (f : ℕ) (c d : Conf) (xs more : List Out) → LeadsTo m f c d xs → lines_in more ≡ []
    → AllCarry d more → LeadsTo m f c d (xs ++ more)
leads_with m f c d xs more by none carry = record {
  moves = by.moves;
  may = by.may;
  ends = by.ends;
  sends = λ dest bytes h. elim (Has-append_cases xs more (Send dest bytes) h) [
    | inl first ↦ by.sends dest bytes first
    | inr later ↦ carry dest bytes later
  ];
  only = λ x sent. elim (by.only x sent) [
    | inl old ↦ inl old
    | inr new ↦ inr (new.0, Has-append_left xs more _ new.1)
  ];
  lines = by.lines ∙ ap (λ (ls : List Line). c.lines ++ ls) (sym (same_lines xs more none));
  first = says_first xs more none by.first;
}

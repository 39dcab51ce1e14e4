-- The datagrams and the lines of what an actor sends.
use Rattle.std.proofs.Common.{◌≡◌, ℕ, refl, sym, ap, subst, inl, inr, List, [], ◌∷◌, ◌++◌}
use Rattle.nop_types.specs.declared.output.Actor.{Actor}
use Rattle.nop_types.specs.declared.output.Dest.{Dest}
use Rattle.nop_types.specs.declared.output.Out.{Out}
use Rattle.nop_types.specs.declared.output.Out.TheVariants as outs
use Rattle.nop_types.specs.Lines.{Line, Submit, Accept, Busy}
use Rattle.nop_types.specs.Lists.{Has}
use Rattle.lemmas.proofs.Members.{Has-none, Has-first, Has-rest, Has-cases}
use Rattle.execution_laws.specs.Legality.{IsOtherLine}
use Rattle.protocol.specs.Moves.{MayAddLines}
use Rattle.network.specs.Network.{Sent, sends_of}
use Rattle.refinement.specs.Lines.{lines_in, SaysFirst}
use Rattle.whole_world.specs.Whole.{lines_of}

-- ---- datagrams

-- a datagram among the outputs goes into the network
pub sends_there : (from : Actor) (xs : List Out) (dest : Dest) (bytes : List ℕ) → Has xs (outs.Send dest bytes)
    → Has (sends_of from xs) (record { from = from; dest = dest; bytes = bytes })
sends_there from [] dest bytes h = absurd (Has-none _ h)
sends_there from (outs.Send e text ∷ xs) dest bytes h = elim (Has-cases (outs.Send dest bytes) (outs.Send e text) xs h) [
  | inl g ↦ (let same_dest : e ≡ dest = cc in let same_bytes : text ≡ bytes = cc in
      Has-first _ _ (sends_of from xs) (λ i. record { from = from; dest = sym same_dest i; bytes = sym same_bytes i }))
  | inr t ↦ Has-rest _ _ (sends_of from xs) (sends_there from xs dest bytes t)
]
sends_there from (x ∷ xs) dest bytes h =
    elim (Has-cases (outs.Send dest bytes) x xs h) [ inl g ↦ absurd cc | inr t ↦ sends_there from xs dest bytes t ]

-- and each that goes there is among them
pub record IsOutput (xs : List Out) (s : Sent) : Type 0 where
  pub dest : Dest
  pub has : Has xs (outs.Send dest s.bytes)

output_later : (x : Out) (xs : List Out) (s : Sent) → IsOutput xs s → IsOutput (x ∷ xs) s
output_later x xs s h = record { dest = h.dest; has = Has-rest _ x xs h.has }

pub sends_are_outputs : (from : Actor) (xs : List Out) (s : Sent) → Has (sends_of from xs) s → IsOutput xs s
sends_are_outputs from [] s h = absurd (Has-none s h)
sends_are_outputs from (outs.Send dest bytes ∷ xs) s h =
    elim (Has-cases s (record { from = from; dest = dest; bytes = bytes }) (sends_of from xs) h) [
      | inl e ↦ record {
        dest = dest;
        has = Has-first _ _ xs (ap (λ (t : Sent). outs.Send dest t.bytes) e);
      }
      | inr j ↦ output_later (outs.Send dest bytes) xs s (sends_are_outputs from xs s j)
    ]
sends_are_outputs from (x ∷ xs) s h = output_later x xs s (sends_are_outputs from xs s h)

-- ---- lines

-- no line is said
pub no_line : MayAddLines []
no_line line h = absurd (Has-none line h)

one_more : (x : Line) (xs : List Line) → IsOtherLine x → MayAddLines xs → MayAddLines (x ∷ xs)
one_more x xs other may line h = elim (Has-cases line x xs h) [ inl e ↦ subst IsOtherLine (sym e) other | inr j ↦ may line j ]

-- where the outputs neither submit nor accept, nor do their lines
pub quiet_lines : (xs : List Out) → lines_in xs ≡ [] → MayAddLines (lines_of xs)
quiet_lines [] e = no_line
quiet_lines (outs.Submitted r ∷ xs) e = absurd cc
quiet_lines (outs.Accepted client id result ∷ xs) e = absurd cc
quiet_lines (outs.Busy client ∷ xs) e = one_more (Busy client) (lines_of xs) tt (quiet_lines xs e)
quiet_lines (_ ∷ xs) e = quiet_lines xs e

-- the lines of some outputs: what they submit and accept, and then others
pub record Speaks (xs : List Out) : Type 0 where
  pub others : List Line
  pub are : lines_of xs ≡ lines_in xs ++ others
  pub may : MayAddLines others

speaks_others : (xs : List Out) → lines_in xs ≡ [] → Speaks xs
speaks_others xs e = record { others = lines_of xs; are = ap (λ (t : List Line). t ++ lines_of xs) (sym e); may = quiet_lines xs e }

pub lines_are_added : (xs : List Out) → SaysFirst xs → Speaks xs
lines_are_added [] first = record { others = []; are = refl; may = no_line }
lines_are_added (outs.Submitted r ∷ xs) first =
    let t = lines_are_added xs first in record { others = t.others; are = ap (λ (ls : List Line). Submit r ∷ ls) t.are; may = t.may }
lines_are_added (outs.Accepted client id result ∷ xs) first =
    let t = lines_are_added xs first in
    record { others = t.others; are = ap (λ (ls : List Line). Accept client id result ∷ ls) t.are; may = t.may }
lines_are_added (x ∷ xs) first = speaks_others (x ∷ xs) first

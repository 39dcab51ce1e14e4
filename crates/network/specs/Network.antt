-- The network: all datagrams that were ever sent, in order.
use Rattle.std.specs.Prelude.{◌≡◌, ℕ, ◌+◌, List, [], ◌∷◌, ◌++◌, Option, Some, None}
use Rattle.nop_types.specs.Lines.{Line, Dead, Submit, Accept, Busy, Read, Answer, Send}
use Rattle.nop_types.specs.declared.output.Actor.{Actor}
use Rattle.nop_types.specs.declared.output.Dest.{Dest}
use Rattle.nop_types.specs.declared.output.Out.{Out}
use Rattle.nop_types.specs.declared.output.Out.TheVariants as outs

pub record Sent : Type 0 where
  pub from : Actor
  pub dest : Dest
  pub bytes : List ℕ

-- the datagrams among the outputs of an actor
abbrev pub sends_of : Actor → List Out → List Sent
sends_of from [] = []
sends_of from (outs.Send dest bytes ∷ rest) = record { from = from; dest = dest; bytes = bytes } ∷ sends_of from rest
sends_of from (_ ∷ rest) = sends_of from rest

-- a line for each output but entries that moved out of a log, where `count` datagrams were sent before
abbrev pub lines_from : Actor → ℕ → List Out → List Line
lines_from from count [] = []
lines_from from count (outs.Send dest bytes ∷ rest) = Send count from dest bytes ∷ lines_from from (count + 1) rest
lines_from from count (outs.Submitted r ∷ rest) = Submit r ∷ lines_from from count rest
lines_from from count (outs.Accepted client id result ∷ rest) = Accept client id result ∷ lines_from from count rest
lines_from from count (outs.Busy client ∷ rest) = Busy client ∷ lines_from from count rest
lines_from from count (outs.Reading client id observer key ∷ rest) = Read client id observer key ∷ lines_from from count rest
lines_from from count (outs.Answered client id observer position result ∷ rest) =
    Answer client id observer position result ∷ lines_from from count rest
lines_from from count (outs.Trimmed first entries ∷ rest) = lines_from from count rest

-- what an actor did, or that it crashed before
pub data Did : Type 0 where
  Nothing : Did
  Outputs : List Out → Did

abbrev pub did_of : Option (List Out) → Did
did_of None = Nothing
did_of (Some outs) = Outputs outs

-- a front of these datagrams stands behind what was sent before
pub record SendsPrefix (old new sends : List Sent) : Type 0 where
  pub prefix : List Sent
  pub rest : List Sent
  pub parts : sends ≡ prefix ++ rest
  pub sent : new ≡ old ++ prefix

-- what an actor sent, and its lines
abbrev pub sends_by : Actor → Did → List Sent
sends_by from Nothing = []
sends_by from (Outputs outs) = sends_of from outs

abbrev pub lines_by : Actor → ℕ → Did → List Line
lines_by from count Nothing = Dead from ∷ []
lines_by from count (Outputs outs) = lines_from from count outs

-- A gap agreement as plain data.
use Rattle.std.specs.Prelude.{ℕ, List, []}
use Rattle.slot_votes.specs.Votes.{with_vote}

-- the slot, how many votes settle the agreement, and the replicas that voted
pub record Agreement : Type 0 where
  pub slot : ℕ
  pub f : ℕ
  pub votes : List ℕ

abbrev pub begun : ℕ → ℕ → Agreement
begun slot f = record { slot = slot; f = f; votes = [] }

-- after a vote of the replica q
abbrev pub gap_vote_counted : Agreement → ℕ → Agreement
gap_vote_counted g q = record g { votes = with_vote g.votes q }

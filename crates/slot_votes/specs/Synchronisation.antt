-- What moves the sync point of a replica, as plain data, and what each call does to it.
use Rattle.std.specs.Prelude.{ℕ, Bool, max, cond, ◌==◌, nat_le, nat_lt, List, [], Option, Some, None}
use Rattle.nop_types.specs.declared.replica_state.Vote.{Vote}
use Rattle.nop_types.specs.declared.replica_state.Vote.TheVariants.{Settled, Waiting}
use Rattle.slot_votes.specs.Votes.{with_vote, vote_of}

-- a leader waits for votes: the length of the log that it sent, and the replicas that voted for it
pub record Round : Type 0 where
  pub len : ℕ
  pub votes : List ℕ

pub record Synchronisation : Type 0 where
  -- how many votes settle a round
  pub f : ℕ
  -- the slots up to this one are synchronised
  pub sync_point : ℕ
  -- the length of the longest log that was taken from the leader of this view
  pub prepared : ℕ
  -- a leader's round, if one is under way
  pub syncing : Option Round

abbrev pub opening : ℕ → Synchronisation
opening f = record { f = f; sync_point = 0; prepared = 0; syncing = None }

-- in another view
abbrev pub cleared : Synchronisation → Synchronisation
cleared s = record s { prepared = 0; syncing = None }

-- a round without votes; where nobody else has to vote, the sync point is the length at once
abbrev pub begun : Bool → Synchronisation → ℕ → Synchronisation
begun alone s len =
    cond alone (record s { sync_point = len; syncing = None }) (record s { syncing = Some (record { len = len; votes = [] }) })

-- a leader sends a log of this length: a round begins where that is longer than the sync point
abbrev pub with_round : Synchronisation → ℕ → Synchronisation
with_round s len = cond (nat_lt s.sync_point len) (begun (s.f == 0) s len) s

-- a log was taken whose sync point is this one
abbrev pub raised : Synchronisation → ℕ → Synchronisation
raised s point = record s { sync_point = max s.sync_point point }

-- a follower took a log of this length from its leader
abbrev pub taken : Synchronisation → ℕ → Synchronisation
taken s len = record s { prepared = max s.prepared len }

-- a round with the vote of the replica q, where that is for its length
abbrev pub with_vote_for : Round → ℕ → ℕ → Round
with_vote_for x q len = cond (x.len == len) (record x { votes = with_vote x.votes q }) x

-- a vote for another length settles nothing
abbrev pub round_vote : ℕ → Round → ℕ → ℕ → Vote
round_vote f x q len = cond (x.len == len) (vote_of f (with_vote x.votes q)) Waiting

-- a settled round makes its length the sync point, which never falls
abbrev pub closed : Synchronisation → Round → Vote → Synchronisation
closed s x Settled = record s { sync_point = max s.sync_point x.len; syncing = None }
closed s x Waiting = record s { syncing = Some x }

abbrev pub counted_in : Synchronisation → Option Round → ℕ → ℕ → Synchronisation
counted_in s None q len = s
counted_in s (Some x) q len = closed s (with_vote_for x q len) (round_vote s.f x q len)

-- a leader counts the vote of the replica q for a length
abbrev pub sync_vote_counted : Synchronisation → ℕ → ℕ → Synchronisation
sync_vote_counted s q len = counted_in s s.syncing q len

abbrev pub vote_in : ℕ → Option Round → ℕ → ℕ → Vote
vote_in f None q len = Waiting
vote_in f (Some x) q len = round_vote f x q len

-- whether that vote settles the round
abbrev pub vote_for : Synchronisation → ℕ → ℕ → Vote
vote_for s q len = vote_in s.f s.syncing q len

-- a follower whose leader says that a length is settled obeys where it took a log of at least that length
abbrev pub committed : Synchronisation → ℕ → Synchronisation
committed s len = cond (nat_le len s.prepared) (record s { sync_point = max s.sync_point len }) s

-- the sync point then
abbrev pub commit_of : Synchronisation → ℕ → Option ℕ
commit_of s len = cond (nat_le len s.prepared) (Some (max s.sync_point len)) None

-- A replica as the proof sees it: its state without what keeps no promise to others.
use Rattle.std.specs.Prelude.{ℕ, ◌/◌, ◌==◌, [], Bool, List, Option, None}
use Rattle.nop_types.specs.declared.view.View.{View}
use Rattle.nop_types.specs.declared.replica_state.Phase.{Phase}
use Rattle.nop_types.specs.declared.replica_state.Phase.TheVariants.{Normal}
use Rattle.nop_types.specs.declared.request.Entry.{Entry}
use Rattle.nop_types.specs.Views.{first_view, leader_of}
use Rattle.slot_votes.specs.Agreement.{Agreement}
use Rattle.oum_receiver.specs.Receiving as receiving
use Rattle.oum_receiver.specs.Receiving.{Receiving}
use Rattle.started_views.specs.Past.{Standing}
use Rattle.slot_votes.specs.Synchronisation as synchronisation
use Rattle.slot_votes.specs.Synchronisation.{Synchronisation}
use Rattle.nop_types.specs.PlainChanges as plain
use Rattle.view_change.specs.Gathering.{Gathering}

-- what the leader of a new view gathers, of plain changes
abbrev pub PlainGathering : Type 0
PlainGathering = Gathering plain.Change

pub record LocalState : Type 0 where
  pub number : ℕ
  -- how many replicas there are
  pub replicas : ℕ
  pub view : View
  pub status : Phase
  pub last_normal : View
  pub log : List Entry
  -- the number that belongs to the next slot
  pub next : ℕ
  -- the length of the log that was adopted in the last normal view
  pub base : ℕ
  pub receiver : Receiving
  -- the gap agreement that waits for votes
  pub gap : Option Agreement
  pub sync : Synchronisation
  -- the changes that the leader of a new view gathers
  pub changes : Option PlainGathering

-- at the opening, of so many replicas
abbrev pub fresh : (replicas number : ℕ) → LocalState
fresh replicas number =
    record {
      number = number;
      replicas = replicas;
      view = first_view;
      status = Normal;
      last_normal = first_view;
      log = [];
      next = 1;
      base = 0;
      receiver = receiving.opened 1 1;
      gap = None;
      sync = synchronisation.opening (replicas / 2);
      changes = None;
    }

-- how many others make a quorum with a replica
abbrev pub max_faults : LocalState → ℕ
max_faults p = p.replicas / 2

-- the replica that leads the view
abbrev pub leader : LocalState → ℕ
leader p = leader_of p.view p.replicas

abbrev pub leads : LocalState → Bool
leads p = leader p == p.number

-- what is noted of a replica
abbrev pub standing : LocalState → Standing
standing p = record {
  view = p.view;
  last_normal = p.last_normal;
  next = p.next;
  base = p.base;
  sync_point = p.sync.sync_point;
  log = p.log;
}

-- Safety of the whole world: whatever comes to its actors, in whatever order.
use Rattle.std.specs.Prelude.{◌≡◌, ◌≤◌, ◌++◌, ◌/◌, ℕ, ⊤, List, [], ◌∷◌, length, true, Some, Ok, slice_get}
use Rattle.nop_types.specs.declared.limits.TheConstants.{MAX_OP_BYTES, MAX_KEY_BYTES}
use Rattle.nop_types.specs.Configuration.{Configuration, is_configuration}
use Rattle.nop_types.specs.Legality.{Legal}
use Rattle.nop_types.specs.Meaning.{Meaning}
use Rattle.nop_types.specs.Ranges.{AnswerFits}
use Rattle.nop_types.specs.declared.datagram.Answer.{Answer}
use Rattle.nop_types.specs.declared.datagram.Datagram.TheVariants as datagrams
use Rattle.nop_types.specs.declared.output.Actor.{Actor}
use Rattle.nop_types.specs.declared.output.Actor.TheVariants as actors
use Rattle.oum_codec.specs.Reading.{reading}
use Rattle.replica_rows.specs.Within.{ResultsShort}
use Rattle.client_quorum.specs.Core.{Client}
use Rattle.world.specs.Seats.{Seated}
use Rattle.protocol.specs.Conf.{Conf}
use Rattle.protocol.specs.Conf as protocol
use Rattle.protocol.specs.Invariant.{Inv}
use Rattle.protocol.specs.Runs.{Move, run, MayAll}
use Rattle.protocol_sync.specs.Laws.{AcceptedStand, OpenIsNotStaleIn}
use Rattle.protocol_sync.specs.Sound.{Sound, GoesOn}
use Rattle.protocol_sync.specs.Synced.{Sync}
use Rattle.whole_world.specs.Whole.{WholeReplica, WholeWorld, Brings, Op, Ask, Heard, Agreed, history, main_log}
use Rattle.whole_world.specs.Whole.{whole_step}
use Rattle.whole_world.specs.Passed.{passed}
use Rattle.whole_world.specs.Shows.{Shows}

-- an op that is submitted and a key that is asked for have at most the greatest length, a key at least a byte; an answer is in its ranges
abbrev pub BringsFits : Brings → Type 0
BringsFits (Op op) = length op ≤ MAX_OP_BYTES
BringsFits (Ask observer key) = (1 ≤ length key) × (length key ≤ MAX_KEY_BYTES)
BringsFits (Heard bytes) = (a : Answer) → reading bytes ≡ Ok (datagrams.Answer a) → AnswerFits a
BringsFits _ = ⊤

abbrev pub AllFit : List (Actor × Brings) → Type 0
AllFit [] = ⊤
AllFit (e ∷ es) = BringsFits e.1 × AllFit es

-- moves of the protocol lead from one configuration to another
pub record Leads {S : Type 0} (m : Meaning S) (f : ℕ) (c d : Conf) : Type 0 where
  pub moves : List Move
  pub may : MayAll m f c moves
  pub ends : run m f c moves ≡ d

-- no open request of a client is stale in the log of any replica, of a crashed one too
abbrev pub OpenIsNotStale : WholeWorld → Type 0
OpenIsNotStale w = (i k : ℕ) (a : Seated WholeReplica) (p : Seated Client) → slice_get w.replicas i ≡ Some a
    → slice_get w.others.clients k ≡ Some p → OpenIsNotStaleIn a.state.state.log.entries k p.state.requests

-- a configuration to which moves lead from the opening, and so with the invariants, shows what the events passed: all that was stamped,
-- said, logged, replied and accepted is sound, replicas agree as far as they are synchronised, the lines are legal of the one history,
-- what a client keeps as accepted stands in the main log from its slot on, and what it has open is stale in no replica's log
pub record IsSafe {S : Type 0} (m : Meaning S) (config : Configuration) (es : List (Actor × Brings)) : Type 0 where
  pub conf : Conf
  pub ran : Leads m (config.replicas / 2) (protocol.opening config) conf
  pub inv : Inv m (config.replicas / 2) conf
  pub sync : Sync (config.replicas / 2) conf
  pub shows : Shows (config.replicas / 2) (passed m config es) conf
  pub sound : Sound m (config.replicas / 2) conf
  pub agreed : Agreed (passed m config es).world
  pub legal : Legal m (passed m config es).world.lines (history (passed m config es).world)
  pub accepted : AcceptedStand m conf (main_log (passed m config es).world)
  pub not_stale : OpenIsNotStale (passed m config es).world

-- so it was after the first of the events; moves lead on from there, and nothing of that was taken back
pub record WasSafe {S : Type 0} (m : Meaning S) (config : Configuration) (prefix : List (Actor × Brings)) (last : Conf) : Type 0 where
  pub then : IsSafe m config prefix
  pub leads : Leads m (config.replicas / 2) then.conf last
  pub goes_on : GoesOn (config.replicas / 2) then.conf last

-- so it is after the events, and after any first of them
pub record IsSafeThroughout {S : Type 0} (m : Meaning S) (config : Configuration) (es : List (Actor × Brings)) : Type 0 where
  pub at_last : IsSafe m config es
  pub before : (prefix rest : List (Actor × Brings)) → es ≡ prefix ++ rest → WasSafe m config prefix at_last.conf

-- over each host with short results, and for every list of events in their ranges
abbrev pub WholeRunsAreSafe : {S : Type 0} → Meaning S → Type 0
WholeRunsAreSafe m = ResultsShort m → (config : Configuration) (es : List (Actor × Brings)) → is_configuration config ≡ true → AllFit es
    → IsSafeThroughout m config es

-- what comes to a crashed replica changes nothing
abbrev pub CrashedStay : {S : Type 0} → Meaning S → Type 0
CrashedStay m = (w : WholeWorld) (i : ℕ) (p : Seated WholeReplica) (b : Brings) → slice_get w.replicas i ≡ Some p → p.crashed ≡ true
    → whole_step m w (actors.Replica i) b ≡ w
